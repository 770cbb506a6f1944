-- What a command, a message of data or a request does to the connections of a pair makes no request go out, and queues neither
-- RST nor RRP.
use Rattle.net_sim.proofs.Common.{◌≡◌, ℕ, Bool, false, not, ◌||◌, ◌&&◌, ◌==◌, if◌then◌else◌, List, [], ◌∷◌, ◌++◌, map, filter, find, drop, length, Option, Some, None, refl, ap, sym, subst, ◌∙◌, zero, suc, arith, eq-eqb, octets_of, Host, Command, DataHeader, header_of, spelling, error, desk_taken, data_taken, changed_first, is_at, free_link, receiving_end, sending_end, DeskState, command_queued, settled, Entry, Listener, Notice, list_any, has_asked, has_control, names_control, on_control, ArePlain, IsQueued}
use Rattle.std.proofs.Common.{true, replicate, is_some, nat_le}
use Rattle.std.proofs.lemmas.List.{length-append, length-take-le}
use Rattle.std.proofs.lemmas.List.Folds.{list_any-append}
use Rattle.interface.proofs.lemmas.{or_false as either_false}
use Rattle.ncp_control.specs.declared.command.Command.TheVariants as command
use Rattle.ncp_control.specs.Command.{detail_of}
use Rattle.host_pairs.specs.Commands as commands
use Rattle.host_pairs.specs.Control.{ERRONEOUS, NO_SOCKET, NOT_CONNECTED}
use Rattle.host_pairs.specs.Commands.{changed, matched_once, rts_heard, rts_taken_by, rts_taken, str_linked, str_heard, str_taken_by, closed_once, cls_taken_by, Found, Unconnected, Ending, Open, at_end, sender_on, receiver_on, all_taken, gvb_taken, ret_taken, interrupted, asked_on_link, asked_with_size}
use Rattle.host_pairs.specs.Data.{data_found, arrived_if, is_acceptable}
use Rattle.host_pairs.specs.Entries.{closed_when, connection_links, must_close, cls_of, is_over, entry_at, receives_on, refused_end, sends_on}
use Rattle.host_pairs.specs.Desk.{desk_told, swept, listener_on}
use Rattle.net_sim.specs.Projection.{misquotes}

-- ---- commands that wait

plain_append : (xs ys : List Command) → ArePlain xs → ArePlain ys → ArePlain (xs ++ ys)
plain_append [] ys h k = k
plain_append (x ∷ xs) ys h k = (h.0, plain_append xs ys h.1 k)

pub plain_one : (c : Command) (xs : List Command) → IsQueued c → ArePlain xs → ArePlain (xs ++ c ∷ [])
plain_one c xs q h = plain_append xs (c ∷ []) h (q, tt)

pub plain_drop : (n : ℕ) (xs : List Command) → ArePlain xs → ArePlain (drop n xs)
plain_drop zero xs h = h
plain_drop (suc n) [] h = tt
plain_drop (suc n) (x ∷ xs) h = plain_drop n xs h.1

plain_cls : (xs : List Entry) → ArePlain (map cls_of xs)
plain_cls [] = tt
plain_cls (x ∷ xs) = ((refl, refl, refl, refl), plain_cls xs)

-- an ERR quotes ten octets
ten : (octets : List ℕ) → length (detail_of octets) ≡ 10
ten octets =
    let zeros : List ℕ = replicate 10 0 in
    length-take-le 10 (octets ++ zeros) (omega (arith, length-append octets zeros))

plain_error : (code : ℕ) (octets : List ℕ) → IsQueued (error code octets)
plain_error code octets = let quoted : misquotes (error code octets) ≡ false = ap not (eq-eqb (length (detail_of octets)) 10 (ten octets)) in (refl, refl, refl, quoted)

-- ---- ends with some property

or_both : (a b c d : Bool) → (c ≡ true → a ≡ true) → (d ≡ true → b ≡ true) → (c || d) ≡ true → (a || b) ≡ true
or_both true b c d f g h = refl
or_both false b true d f g h = absurd (let w : false ≡ true = f refl in cc)
or_both false b false d f g h = g h

or_false : (a : Bool) → (a || false) ≡ true → a ≡ true
or_false true h = refl
or_false false h = h

-- a change by which no end gets the property
abbrev pub Keeps : (Entry → Bool) → (Entry → Entry) → Type 0
Keeps T change = (x : Entry) → T (change x) ≡ true → T x ≡ true

module _ (T : Entry → Bool) where
  any_step : (test : Entry → Bool) (change : Entry → Entry) (x : Entry) (xs : List Entry) → Keeps T change
      → (list_any T (changed_first test change xs) ≡ true → list_any T xs ≡ true) → (b : Bool) → test x ≡ b
      → list_any T (changed_first test change (x ∷ xs)) ≡ true → list_any T (x ∷ xs) ≡ true
  any_step test change x xs k rest true e h =
      let g : (T (change x) || list_any T xs) ≡ true = rw e at h in or_both (T x) (list_any T xs) (T (change x)) (list_any T xs) (k x) (λ y. y) g
  any_step test change x xs k rest false e h =
      let g : (T x || list_any T (changed_first test change xs)) ≡ true = rw e at h in
      or_both (T x) (list_any T xs) (T x) (list_any T (changed_first test change xs)) (λ y. y) rest g

  pub any_changed : (test : Entry → Bool) (change : Entry → Entry) → Keeps T change → (xs : List Entry) → list_any T (changed_first test change xs) ≡ true → list_any T xs ≡ true
  any_changed test change k [] h = h
  any_changed test change k (x ∷ xs) h = any_step test change x xs k (any_changed test change k xs) (test x) refl h

  any_mapped : (change : Entry → Entry) → Keeps T change → (xs : List Entry) → list_any T (map change xs) ≡ true → list_any T xs ≡ true
  any_mapped change k [] h = h
  any_mapped change k (x ∷ xs) h = or_both (T x) (list_any T xs) (T (change x)) (list_any T (map change xs)) (k x) (any_mapped change k xs) h

  over_step : (x : Entry) (xs : List Entry) → (list_any T (filter (λ e. not (is_over e)) xs) ≡ true → list_any T xs ≡ true) → (b : Bool) → not (is_over x) ≡ b
      → list_any T (filter (λ e. not (is_over e)) (x ∷ xs)) ≡ true → list_any T (x ∷ xs) ≡ true
  over_step x xs rest true e h =
      let g : (T x || list_any T (filter (λ e. not (is_over e)) xs)) ≡ true = rw e at h in
      or_both (T x) (list_any T xs) (T x) (list_any T (filter (λ e. not (is_over e)) xs)) (λ y. y) rest g
  over_step x xs rest false e h =
      let g : list_any T (filter (λ e. not (is_over e)) xs) ≡ true = rw e at h in
      or_both (T x) (list_any T xs) false (list_any T xs) (λ y. absurd (cc)) (λ y. y) (rest g)

  pub over_less : (xs : List Entry) → list_any T (filter (λ e. not (is_over e)) xs) ≡ true → list_any T xs ≡ true
  over_less [] h = h
  over_less (x ∷ xs) h = over_step x xs (over_less xs) (not (is_over x)) refl h

  pub any_more : (xs : List Entry) (e : Entry) → T e ≡ false → list_any T (xs ++ e ∷ []) ≡ true → list_any T xs ≡ true
  any_more xs e none h =
      let g : (list_any T xs || (T e || false)) ≡ true = sym (list_any-append T xs (e ∷ [])) ∙ h in
      let k : (list_any T xs || (false || false)) ≡ true = ap (λ (b : Bool). list_any T xs || (b || false)) (sym none) ∙ g in
      or_false (list_any T xs) k

-- an end whose request went out, and one whose data are sent on the control link
abbrev pub asks : Entry → Bool
asks e = is_some e.asked

abbrev pub strays : Entry → Bool
strays e = on_control e.link

abbrev pub AreKept : (Entry → Entry) → Type 0
AreKept change = Keeps asks change × Keeps strays change

abbrev number_or : ℕ → Option ℕ → ℕ
number_or d None = d
number_or d (Some n) = n

found_by : (test : ℕ → Bool) (x : ℕ) (xs : List ℕ) (link : ℕ) → (x == 0) ≡ false → (find test xs ≡ Some link → (link == 0) ≡ false) → (b : Bool) → test x ≡ b → find test (x ∷ xs) ≡ Some link → (link == 0) ≡ false
found_by test x xs link first rest true e is = let same : x ≡ link = ap (number_or x) (rw e at is) in subst (λ (n : ℕ). (n == 0) ≡ false) same first
found_by test x xs link first rest false e is = rest (rw e at is)

found_away : (test : ℕ → Bool) (xs : List ℕ) (link : ℕ) → list_any (λ l. l == 0) xs ≡ false → find test xs ≡ Some link → (link == 0) ≡ false
found_away test [] link none is = absurd (cc)
found_away test (x ∷ xs) link none is =
    let parts : ((x == 0) ≡ false) × (list_any (λ l. l == 0) xs ≡ false) = either_false (x == 0) (list_any (λ l. l == 0) xs) none in
    found_by test x xs link parts.0 (λ e. found_away test xs link parts.1 e) (test x) refl is

-- the lowest free link is a connection's
pub free_away : (entries : List Entry) (link : ℕ) → free_link entries ≡ Some link → (link == 0) ≡ false
free_away entries link is = found_away (λ l. not (list_any (receives_on l) entries)) connection_links link refl is

-- ---- desks

pub record Kept (d e : DeskState) : Type 0 where
  pub asked : has_asked e.entries ≡ true → has_asked d.entries ≡ true
  pub plain : ArePlain d.queue → ArePlain e.queue
  pub linked : has_control e.entries ≡ true → has_control d.entries ≡ true

pub kept : (d : DeskState) → Kept d d
kept d = record { asked = λ h. h; plain = λ h. h; linked = λ h. h }

then_kept : (d e f : DeskState) → Kept d e → Kept e f → Kept d f
then_kept d e f j k = record { asked = λ h. j.asked (k.asked h); plain = λ h. k.plain (j.plain h); linked = λ h. j.linked (k.linked h) }

kept_if : (b : Bool) (d e f : DeskState) → Kept d e → Kept d f → Kept d (if b then e else f)
kept_if true d e f j k = j
kept_if false d e f j k = k

kept_queued : (c : Command) (d : DeskState) → IsQueued c → Kept d (command_queued c d)
kept_queued c d q = record { asked = λ h. h; plain = plain_one c d.queue q; linked = λ h. h }

pub kept_error : (code : ℕ) (octets : List ℕ) (d : DeskState) → Kept d (command_queued (error code octets) d)
kept_error code octets d = kept_queued (error code octets) d (plain_error code octets)

kept_told : (notices : List Notice) (d : DeskState) → Kept d (desk_told notices d)
kept_told notices d = record { asked = λ h. h; plain = λ h. h; linked = λ h. h }

kept_changed : (test : Entry → Bool) (change : Entry → Entry) (d : DeskState) → AreKept change → Kept d (changed test change d)
kept_changed test change d k = record { asked = any_changed asks test change k.0 d.entries; plain = λ h. h; linked = any_changed strays test change k.1 d.entries }

pub kept_settled : (busy : List ℕ) (d : DeskState) → Kept d (settled busy d)
kept_settled busy d = record {
  asked = any_mapped asks (λ e. closed_when (must_close busy e) e) (λ x h. h) d.entries;
  plain = λ h. plain_append d.queue _ h (plain_cls (filter (must_close busy) d.entries));
  linked = any_mapped strays (λ e. closed_when (must_close busy e) e) (λ x h. h) d.entries;
}

kept_swept : (peer : Host) (d : DeskState) → Kept d (swept peer d)
kept_swept peer d = record { asked = over_less asks d.entries; plain = λ h. h; linked = over_less strays d.entries }

-- ---- requests of the peer

kept_refused : (own foreign stamp : ℕ) (d : DeskState) → Kept d (commands.refused own foreign stamp d)
kept_refused own foreign stamp d = record {
  asked = any_more asks d.entries (refused_end own foreign stamp) refl;
  plain = plain_one (cls_of (refused_end own foreign stamp)) d.queue (refl, refl, refl, refl);
  linked = any_more strays d.entries (refused_end own foreign stamp) refl;
}

kept_matched : (peer : Host) (own foreign : ℕ) (c : Command) (e : Entry) (change : Entry → Entry) (d : DeskState) → AreKept change → Kept d (matched_once peer own foreign c e change d)
kept_matched peer own foreign c e change d k =
    kept_if (is_some e.partner) d _ _ (kept_error ERRONEOUS (spelling c) d) (record { asked = any_changed asks (is_at own foreign) change k.0 d.entries; plain = λ h. h; linked = any_changed strays (is_at own foreign) change k.1 d.entries })

kept_rts_heard : (own foreign link stamp : ℕ) (l : Option Listener) (d : DeskState) → (link == 0) ≡ false → Kept d (rts_heard own foreign link stamp l d)
kept_rts_heard own foreign link stamp None d away = kept_refused own foreign stamp d
kept_rts_heard own foreign link stamp (Some l) d away = record {
  asked = any_more asks d.entries (asked_on_link stamp link (sending_end own foreign l.size)) refl;
  plain = plain_one (command.Str own foreign l.size) d.queue (refl, refl, refl, refl);
  linked = any_more strays d.entries (asked_on_link stamp link (sending_end own foreign l.size)) away;
}

kept_rts_by : (peer : Host) (own foreign link stamp : ℕ) (e : Option Entry) (d : DeskState) → (link == 0) ≡ false → Kept d (rts_taken_by peer own foreign link stamp e d)
kept_rts_by peer own foreign link stamp None d away = kept_rts_heard own foreign link stamp (listener_on own d.listening) d away
kept_rts_by peer own foreign link stamp (Some e) d away =
    kept_matched peer own foreign (command.Rts foreign own link) e (asked_on_link stamp link) d ((λ x h. h), (λ x h. absurd (let both : true ≡ false = sym h ∙ away in cc)))

kept_rts : (peer : Host) (own foreign link stamp : ℕ) (d : DeskState) → (link == 0) ≡ false → Kept d (rts_taken peer own foreign link stamp d)
kept_rts peer own foreign link stamp d away =
    kept_if (list_any (sends_on link) d.entries) d _ _ (kept_error ERRONEOUS (spelling (command.Rts foreign own link)) d) (kept_rts_by peer own foreign link stamp (entry_at own foreign d.entries) d away)

kept_str_linked : (own foreign size stamp : ℕ) (l : Option ℕ) (d : DeskState) → ((link : ℕ) → l ≡ Some link → (link == 0) ≡ false) → Kept d (str_linked own foreign size stamp l d)
kept_str_linked own foreign size stamp None d away = kept_refused own foreign stamp d
kept_str_linked own foreign size stamp (Some link) d away = record {
  asked = any_more asks d.entries (asked_with_size stamp size (receiving_end own foreign link)) refl;
  plain = plain_one (command.Rts own foreign link) d.queue (refl, refl, away link refl, refl);
  linked = any_more strays d.entries (asked_with_size stamp size (receiving_end own foreign link)) (away link refl);
}

kept_str_heard : (own foreign size stamp : ℕ) (l : Option Listener) (d : DeskState) → Kept d (str_heard own foreign size stamp l d)
kept_str_heard own foreign size stamp None d = kept_refused own foreign stamp d
kept_str_heard own foreign size stamp (Some l) d = kept_str_linked own foreign size stamp (free_link d.entries) d (λ link is. free_away d.entries link is)

kept_str_by : (peer : Host) (own foreign size stamp : ℕ) (e : Option Entry) (d : DeskState) → Kept d (str_taken_by peer own foreign size stamp e d)
kept_str_by peer own foreign size stamp None d = kept_str_heard own foreign size stamp (listener_on own d.listening) d
kept_str_by peer own foreign size stamp (Some e) d = kept_matched peer own foreign (command.Str foreign own size) e (asked_with_size stamp size) d ((λ x h. h), (λ x h. h))

-- ---- closing, allocation and interrupts

kept_cls_once : (peer : Host) (busy : List ℕ) (own foreign : ℕ) (e : Entry) (d : DeskState) → Kept d (closed_once peer busy own foreign e d)
kept_cls_once peer busy own foreign e d =
    kept_if e.partner_closed d _ _ (kept d) (then_kept d _ _ (then_kept d _ _ (kept_changed _ _ d ((λ x h. h), (λ x h. h))) (kept_settled busy _)) (kept_swept peer _))

kept_cls_by : (peer : Host) (busy : List ℕ) (own foreign : ℕ) (e : Option Entry) (d : DeskState) → Kept d (cls_taken_by peer busy own foreign e d)
kept_cls_by peer busy own foreign None d = kept_error NO_SOCKET (spelling (command.Cls foreign own)) d
kept_cls_by peer busy own foreign (Some e) d = kept_cls_once peer busy own foreign e d

kept_at : (c : Command) (change : Entry → DeskState → DeskState) (f : Found) (d : DeskState) → ((e : Entry) → Kept d (change e d)) → Kept d (at_end c change f d)
kept_at c change Unconnected d k = kept_error NOT_CONNECTED (spelling c) d
kept_at c change Ending d k = kept d
kept_at c change (Open e) d k = k e

kept_all : (link messages bits : ℕ) (e : Entry) (d : DeskState) → Kept d (all_taken link messages bits e d)
kept_all link messages bits e d = kept_changed _ _ d ((λ x h. h), (λ x h. h))

kept_gvb : (link messages bits : ℕ) (e : Entry) (d : DeskState) → Kept d (gvb_taken link messages bits e d)
kept_gvb link messages bits e d = record { asked = any_changed asks _ _ (λ x h. h) d.entries; plain = plain_one _ d.queue (refl, refl, refl, refl); linked = any_changed strays _ _ (λ x h. h) d.entries }

kept_ret : (link messages bits : ℕ) (e : Entry) (d : DeskState) → Kept d (ret_taken link messages bits e d)
kept_ret link messages bits e d =
    kept_if (nat_le messages e.allocation.messages && nat_le bits e.allocation.bits) d _ _ (record { asked = any_changed asks _ _ (λ x h. h) d.entries; plain = λ h. h; linked = any_changed strays _ _ (λ x h. h) d.entries }) (kept_error ERRONEOUS (spelling (command.Ret link messages bits)) d)

-- ---- all commands, and data

pub kept_taken : (peer : Host) (busy : List ℕ) (stamp : ℕ) (c : Command) → names_control c ≡ false → (d : DeskState) → Kept d (desk_taken peer busy stamp c d)
kept_taken peer busy stamp (command.Rts receive send link) away d = kept_rts peer send receive link stamp d away
kept_taken peer busy stamp (command.Str send receive size) away d = kept_str_by peer receive send size stamp (entry_at receive send d.entries) d
kept_taken peer busy stamp (command.Cls own foreign) away d = kept_cls_by peer busy foreign own (entry_at foreign own d.entries) d
kept_taken peer busy stamp (command.All link messages bits) away d = kept_at (command.All link messages bits) (all_taken link messages bits) (sender_on link d) d (λ e. kept_all link messages bits e d)
kept_taken peer busy stamp (command.Gvb link messages bits) away d = kept_at (command.Gvb link messages bits) (gvb_taken link messages bits) (sender_on link d) d (λ e. kept_gvb link messages bits e d)
kept_taken peer busy stamp (command.Ret link messages bits) away d = kept_at (command.Ret link messages bits) (ret_taken link messages bits) (receiver_on link d) d (λ e. kept_ret link messages bits e d)
kept_taken peer busy stamp (command.Inr link) away d = kept_at (command.Inr link) interrupted (sender_on link d) d (λ e. kept_told _ d)
kept_taken peer busy stamp (command.Ins link) away d = kept_at (command.Ins link) interrupted (receiver_on link d) d (λ e. kept_told _ d)
kept_taken peer busy stamp (command.Eco octet) away d = kept_queued _ d (refl, refl, refl, refl)
kept_taken peer busy stamp (command.Erp octet) away d = kept_told _ d
kept_taken peer busy stamp (command.Err code detail) away d = kept_told _ d
kept_taken peer busy stamp c away d = kept d

kept_arrived : (link : ℕ) (e : Entry) (text : List Bool) (h : Option DataHeader) (d : DeskState) → Kept d (arrived_if link e text h d)
kept_arrived link e text None d = kept_error ERRONEOUS (octets_of text) d
kept_arrived link e text (Some h) d = kept_if (is_acceptable e h) d _ _ (record { asked = any_changed asks _ _ (λ x k. k) d.entries; plain = λ k. k; linked = any_changed strays _ _ (λ x k. k) d.entries }) (kept_error ERRONEOUS (octets_of text) d)

kept_found : (link : ℕ) (text : List Bool) (f : Found) (d : DeskState) → Kept d (data_found link text f d)
kept_found link text Unconnected d = kept_error NOT_CONNECTED (octets_of text) d
kept_found link text Ending d = kept d
kept_found link text (Open e) d = kept_arrived link e text (header_of text) d

pub kept_data : (link : ℕ) (text : List Bool) (d : DeskState) → Kept d (data_taken link text d)
kept_data link text d = kept_found link text (receiver_on link d) d
