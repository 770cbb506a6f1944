-- By what no end of two sockets goes, and no pair is reset: what comes in and goes out where none of these ends passes a test that all pass that go.
use Rattle.world_keeps_streams.proofs.Common.{◌≡◌, ◌⊎◌, inl, inr, ℕ, ◌&&◌, not, Bool, true, false, if◌then◌else◌, List, [], ◌∷◌, ◌++◌, filter, Option, Some, None, is_some, refl, ap, sym, subst, ◌∙◌, flat_map, list_any, Host, data_bits, header_of, is_ready, Command, DataHeader, ERRONEOUS, Legal, Order, Wrong, error, arrived, arrived_if, data_found, data_of, data_taken, is_acceptable, spent, text_faulted, asked_at, cls_sent, command_gone, commands_gone, TurnState, command_taken, if_ready, orders_taken, with_desk, Closing, Entry, Listener, Notice, both, AreJoint, IsJoint}
use Rattle.host_pairs.specs.Commands.{Ending, Open, Unconnected, asked_on_link, asked_with_size, at_end, changed, cls_taken_by, desk_taken, gvb_taken, interrupted, receiver_on, ret_taken, rts_heard, rts_taken_by, sender_on, str_heard, str_linked, str_taken_by, entry_joined, Found, all_taken}
use Rattle.host_pairs.specs.Desk.{DeskState, command_queued, desk_of, listener_on, settled, swept, desk_told}
use Rattle.host_pairs.specs.Entries.{changed_at, closed_by_partner, closed_when, ending, entry_at, free_link, is_at, is_called_off, is_due, is_ending, is_sent, must_close, opening_by, opening_notices, receives_on, receiving_end, refused_end, sending_end, sends_on, is_drained, is_over}
use Rattle.ncp_control.specs.declared.command.Command.TheVariants as command
use Rattle.host_pairs.specs.Commands as commands
use Rattle.host_pairs.specs.declared.entry.Closing.TheVariants as closing
use Rattle.host_pairs.specs.declared.notice.Notice.TheVariants as notice
use Rattle.world_keeps_streams.proofs.Deeds.Effects.{Among, Changed, among_changed, among_either, among_filter, among_map, found_among}
use Rattle.world_keeps_streams.proofs.Facts.{clash}

-- ---- notices of no such end

module _ (Lax : Type 0) (own foreign : ℕ) where
  abbrev pub IsKept : Notice → Type 0
  IsKept (notice.Ended s q f) = s ≡ own → f ≡ foreign → Lax
  IsKept (notice.PairReset q) = ⊥
  IsKept n = Unit {0}

  abbrev pub AllKept : List Notice → Type 0
  AllKept [] = Unit {0}
  AllKept (n ∷ ns) = IsKept n × AllKept ns

  kept_both : (ns ms : List Notice) → AllKept ns → AllKept ms → AllKept (ns ++ ms)
  kept_both [] ms a b = b
  kept_both (n ∷ ns) ms a b = (a.0, kept_both ns ms a.1 b)

-- a test of ends that only what closes them changes. One that doesn't pass doesn't go; or it may, and only resets are excluded
pub record IsTest (Lax : Type 0) (test : Entry → Bool) : Type 0 where
  pub passes : (e : Entry) → is_over e ≡ true → test e ≡ false → Lax
  pub same : (e f : Entry) → f.mine ≡ e.mine → f.closing ≡ e.closing → f.partner_closed ≡ e.partner_closed
      → test e ≡ false → test f ≡ false
  pub fresh : (e : Entry) → is_sent e.closing ≡ false → e.partner_closed ≡ false → (e.mine ≡ false)
      ⊎ (is_called_off e.closing ≡ false) → test e ≡ false
  pub queued : (e : Entry) → is_due e.closing ≡ true → test e ≡ false → test
      (record e { closing = closing.Queued }) ≡ false

-- the own CLS has gone out; the partner's was taken; both

pub test_any : IsTest (Unit {0}) (λ e. false)
test_any =
    record { passes = λ e over off. tt; same = λ e f m is off t. refl; fresh = λ e unsent untaken calm. refl; queued = λ e due t. refl }

pub test_over : IsTest ⊥ is_over
test_over = record {
  passes = λ e over off. clash (is_over e) over off;
  same =
      λ e f m is off t. ap (λ (v : Bool). is_sent f.closing && v) off ∙ ap
      (λ (c : Closing). is_sent c && e.partner_closed) is ∙ t;
  fresh = λ e unsent untaken calm. ap (λ (v : Bool). v && e.partner_closed) unsent;
  queued = λ e due t. refl;
}

pub test_sent : IsTest ⊥ (λ e. is_sent e.closing)
test_sent = record {
  passes = λ e over off. clash (is_sent e.closing) (both (is_sent e.closing) e.partner_closed over).0 off;
  same = λ e f m is off t. ap is_sent is ∙ t;
  fresh = λ e unsent untaken calm. unsent;
  queued = λ e due t. refl;
}

pub test_taken : IsTest ⊥ (λ e. e.partner_closed)
test_taken = record {
  passes = λ e over off. clash e.partner_closed (both (is_sent e.closing) e.partner_closed over).1 off;
  same = λ e f m is off t. off ∙ t;
  fresh = λ e unsent untaken calm. untaken;
  queued = λ e due t. t;
}

module _ (Lax : Type 0) (g : Host) (own foreign stamp : ℕ) (test : Entry → Bool) (t : IsTest Lax test) where
  abbrev pub IsOff : Entry → Type 0
  IsOff e = e.own ≡ own → e.foreign ≡ foreign → test e ≡ false

  abbrev pub AreOff : List Entry → Type 0
  AreOff es = (e : Entry) → Among e es → IsOff e

  pub record Keeps (d : DeskState) : Type 0 where
    pub ends : AreOff d.entries
    pub told : AllKept Lax own foreign d.notices

  abbrev Same : Entry → Entry → Type 0
  Same e f =
      (f.own ≡ e.own) × (f.foreign ≡ e.foreign) × (f.mine ≡ e.mine) × (f.closing ≡ e.closing)
      × (f.partner_closed ≡ e.partner_closed)

  same_off : (e f : Entry) → Same e f → IsOff e → IsOff f
  same_off e f s off is there = t.same e f s.2 s.3 s.4 (off (sym s.0 ∙ is) (sym s.1 ∙ there))

  gone_one : (e : Entry) → IsOff e → is_over e ≡ true → AllKept Lax own foreign (ending g e)
  gone_one e off over = by e.mine where
    none : e.own ≡ own → e.foreign ≡ foreign → Lax
    none is there = t.passes e over (off is there)

    by : (v : Bool) → AllKept Lax own foreign (if v then notice.Ended e.own g e.foreign ∷ [] else [])
    by true = (none, tt)
    by false = tt

  gone_all : (es : List Entry) → ((e : Entry) → Among e es → IsOff e × (is_over e ≡ true)) → AllKept Lax own foreign (flat_map (ending g) es)
  gone_all [] h = tt
  gone_all (e ∷ es) h = kept_both Lax own foreign (ending g e) (flat_map (ending g) es) (gone_one e (h e (inl refl)).0 (h e (inl refl)).1) (gone_all es (λ f i. h f (inr i)))

  keeps_told : (ns : List Notice) (d : DeskState) → AllKept Lax own foreign ns → Keeps d → Keeps (desk_told ns d)
  keeps_told ns d k h = record { ends = h.ends; told = kept_both Lax own foreign d.notices ns h.told k }

  keeps_queued : (c : Command) (d : DeskState) → Keeps d → Keeps (command_queued c d)
  keeps_queued c d h = record { ends = h.ends; told = h.told }

  keeps_if : (v : Bool) (d e : DeskState) → Keeps d → Keeps e → Keeps (if v then d else e)
  keeps_if true d e h k = h
  keeps_if false d e h k = k

  pub keeps_changed : (which : Entry → Bool) (change : Entry → Entry) (d : DeskState)
      → ((e : Entry) → which e ≡ true → IsOff e → IsOff (change e)) → Keeps d → Keeps (changed which change d)
  keeps_changed which change d k h = record { ends = λ e i. by e (among_changed which change d.entries e i); told = h.told } where
    by : (e : Entry) → Among e d.entries ⊎ Changed which change d.entries e → IsOff e
    by e (inl there) = h.ends e there
    by e (inr c) = subst (λ (x : Entry). IsOff x) c.is (k c.end (found_among which d.entries c.end c.found).1 (h.ends c.end c.there))

  -- a change that closes nothing
  pub keeps_quiet : (which : Entry → Bool) (change : Entry → Entry) (d : DeskState) → ((e : Entry) → Same e (change e))
      → Keeps d → Keeps (changed which change d)
  keeps_quiet which change d q h = keeps_changed which change d (λ e w off. same_off e (change e) (q e) off) h

  keeps_swept : (d : DeskState) → Keeps d → Keeps (swept g d)
  keeps_swept d h = record {
    ends = λ e i. h.ends e (among_filter (λ x. not (is_over x)) d.entries e i).0;
    told = kept_both Lax own foreign d.notices (flat_map (ending g) (filter is_over d.entries)) h.told
        (gone_all (filter is_over d.entries) (λ e i. (let f : Among e d.entries × (is_over e ≡ true) = among_filter is_over d.entries e i in (h.ends e f.0, f.1))));
  }

  opening_kept : (o : Option Entry) → AllKept Lax own foreign (opening_notices g o)
  opening_kept None = tt
  opening_kept (Some e) = by e.asked e.partner where
    when : (v : Bool) (a b : ℕ) → AllKept Lax own foreign (if v then [] else notice.Opened e.own g e.foreign a b ∷ [])
    when true a b = tt
    when false a b = (tt, tt)

    by : (x y : Option ℕ) → AllKept Lax own foreign (opening_by g e x y)
    by None y = tt
    by (Some a) None = tt
    by (Some a) (Some b) = when (is_ending e) a b

  keeps_asked : (o f : ℕ) (change : Entry → Entry) (d : DeskState) → ((e : Entry) → Same e (change e)) → Keeps d
      → Keeps (desk_told (opening_notices g (entry_at o f (changed_at o f change d.entries))) (changed (is_at o f) change d))
  keeps_asked o f change d q h =
      keeps_told (opening_notices g (entry_at o f (changed_at o f change d.entries))) (changed (is_at o f) change d) (opening_kept (entry_at o f (changed_at o f change d.entries))) (keeps_quiet (is_at o f) change d q h)

  pub keeps_joined : (e : Entry) (d : DeskState) → is_sent e.closing ≡ false → e.partner_closed ≡ false
      → (e.mine ≡ false) ⊎ (is_called_off e.closing ≡ false) → Keeps d → Keeps (entry_joined e d)
  keeps_joined e d unsent untaken calm h =
      record { ends = λ x i. by x (among_either d.entries (e ∷ []) x i); told = h.told } where
        by : (x : Entry) → Among x d.entries ⊎ Among x (e ∷ []) → IsOff x
        by x (inl there) = h.ends x there
        by x (inr (inl is)) = subst (λ (y : Entry). IsOff y) is (λ o f. t.fresh e unsent untaken calm)
        by x (inr (inr none)) = absurd none

  pub keeps_settled : (busy : List ℕ) (d : DeskState) → Keeps d → Keeps (settled busy d)
  keeps_settled busy d h = record { ends = λ x i. of x (among_map (λ e. closed_when (must_close busy e) e) d.entries x i); told = h.told } where
    when : (v : Bool) (e : Entry) → must_close busy e ≡ v → test e ≡ false → test (closed_when v e) ≡ false
    when true e now off = t.queued e (both (is_due e.closing) (is_drained busy e) now).0 off
    when false e now off = t.same e (closed_when false e) refl refl refl off

    of : (x : Entry) → (e : Entry) × Among e d.entries × (closed_when (must_close busy e) e ≡ x) → IsOff x
    of x m =
        subst (λ (y : Entry). IsOff y) m.2 (λ is there. when (must_close busy m.0) m.0 refl (h.ends m.0 m.1 is there))

  -- ---- what comes in

  -- a CLS that is taken leaves these ends as they are
  abbrev pub Spares : Order → Type 0
  Spares (Legal (command.Cls mine yours)) = (e : Entry) → is_at yours mine e ≡ true → IsOff e → IsOff (closed_by_partner e)
  Spares o = Unit {0}

  abbrev pub AllSpare : List Order → Type 0
  AllSpare [] = Unit {0}
  AllSpare (o ∷ os) = Spares o × AllSpare os

  keeps_refused : (o f : ℕ) (d : DeskState) → Keeps d → Keeps (commands.refused o f stamp d)
  keeps_refused o f d h =
      keeps_queued _ (entry_joined (refused_end o f stamp) d) (keeps_joined (refused_end o f stamp) d refl refl
      (inl refl) h)

  keeps_matched : (o f : ℕ) (c : Command) (e : Entry) (change : Entry → Entry) (d : DeskState)
      → ((x : Entry) → Same x (change x)) → Keeps d
      → Keeps (commands.matched_once g o f c e change d)
  keeps_matched o f c e change d q h = keeps_if (is_some e.partner) (commands.faulted ERRONEOUS c d) (commands.matched g o f change d) (keeps_queued _ d h) (keeps_asked o f change d q h)

  keeps_rts_heard : (o f link : ℕ) (l : Option Listener) (d : DeskState) → Keeps d → Keeps (rts_heard o f link stamp l d)
  keeps_rts_heard o f link None d h = keeps_refused o f d h
  keeps_rts_heard o f link (Some l) d h = record { ends = k.ends; told = k.told } where
    k : Keeps (entry_joined (asked_on_link stamp link (sending_end o f l.size)) d)
    k = keeps_joined (asked_on_link stamp link (sending_end o f l.size)) d refl refl (inr refl) h

  keeps_rts : (o f link : ℕ) (x : Option Entry) (d : DeskState) → Keeps d → Keeps (rts_taken_by g o f link stamp x d)
  keeps_rts o f link None d h = keeps_rts_heard o f link (listener_on o d.listening) d h
  keeps_rts o f link (Some e) d h =
      keeps_matched o f (command.Rts f o link) e (asked_on_link stamp link) d (λ x. (refl, refl, refl, refl, refl)) h

  keeps_str_linked : (o f size : ℕ) (l : Option ℕ) (d : DeskState) → Keeps d → Keeps (str_linked o f size stamp l d)
  keeps_str_linked o f size None d h = keeps_refused o f d h
  keeps_str_linked o f size (Some link) d h = record { ends = k.ends; told = k.told } where
    k : Keeps (entry_joined (asked_with_size stamp size (receiving_end o f link)) d)
    k = keeps_joined (asked_with_size stamp size (receiving_end o f link)) d refl refl (inr refl) h

  keeps_str_heard : (o f size : ℕ) (l : Option Listener) (d : DeskState) → Keeps d → Keeps (str_heard o f size stamp l d)
  keeps_str_heard o f size None d h = keeps_refused o f d h
  keeps_str_heard o f size (Some l) d h = keeps_str_linked o f size (free_link d.entries) d h

  keeps_str : (o f size : ℕ) (x : Option Entry) (d : DeskState) → Keeps d → Keeps (str_taken_by g o f size stamp x d)
  keeps_str o f size None d h = keeps_str_heard o f size (listener_on o d.listening) d h
  keeps_str o f size (Some e) d h =
      keeps_matched o f (command.Str f o size) e (asked_with_size stamp size) d (λ x. (refl, refl, refl, refl, refl)) h

  keeps_cls : (busy : List ℕ) (mine yours : ℕ) (x : Option Entry) (d : DeskState) → Spares (Legal (command.Cls mine yours)) → Keeps d → Keeps (cls_taken_by g busy yours mine x d)
  keeps_cls busy mine yours None d s h = keeps_queued _ d h
  keeps_cls busy mine yours (Some e) d s h =
      keeps_if e.partner_closed d (swept g (settled busy (changed (is_at yours mine) closed_by_partner d))) h
      (keeps_swept (settled busy (changed (is_at yours mine) closed_by_partner d)) (keeps_settled busy (changed (is_at yours mine) closed_by_partner d) (keeps_changed (is_at yours mine) closed_by_partner d s h)))

  keeps_at : (c : Command) (change : Entry → DeskState → DeskState) (f : Found) (d : DeskState) → ((e : Entry) → Keeps (change e d)) → Keeps d → Keeps (at_end c change f d)
  keeps_at c change Unconnected d k h = keeps_queued _ d h
  keeps_at c change Ending d k h = h
  keeps_at c change (Open e) d k h = k e

  keeps_ret : (link messages bits : ℕ) (e : Entry) (d : DeskState) → Keeps d → Keeps (ret_taken link messages bits e d)
  keeps_ret link messages bits e d h =
      keeps_if _ _ _ (keeps_told (notice.Returned e.own messages bits ∷ [])
      (changed (receives_on link) (commands.returned messages bits) d) (tt, tt)
      (keeps_quiet (receives_on link) (commands.returned messages bits) d (λ x. (refl, refl, refl, refl, refl)) h))
      (keeps_queued _ d h)

  pub keeps_taken : (busy : List ℕ) (c : Command) (d : DeskState) → Spares (Legal c) → Keeps d
      → Keeps (desk_taken g busy stamp c d)
  keeps_taken busy (command.Rts receive send link) d s h =
      keeps_if (list_any (sends_on link) d.entries) (commands.faulted ERRONEOUS (command.Rts receive send link) d) (rts_taken_by g send receive link stamp (entry_at send receive d.entries) d) (keeps_queued _ d h)
      (keeps_rts send receive link (entry_at send receive d.entries) d h)
  keeps_taken busy (command.Str send receive size) d s h = keeps_str receive send size (entry_at receive send d.entries) d h
  keeps_taken busy (command.Cls mine yours) d s h = keeps_cls busy mine yours (entry_at yours mine d.entries) d s h
  keeps_taken busy (command.All link messages bits) d s h =
      keeps_at (command.All link messages bits) (all_taken link messages bits) (sender_on link d) d
      (λ e. keeps_quiet (sends_on link) (commands.granted messages bits) d (λ x. (refl, refl, refl, refl, refl)) h) h
  keeps_taken busy (command.Gvb link messages bits) d s h =
      keeps_at (command.Gvb link messages bits) (gvb_taken link messages bits) (sender_on link d) d
      (λ e. keeps_queued _ (changed (sends_on link) (commands.given_back messages bits) d)
      (keeps_quiet (sends_on link) (commands.given_back messages bits) d (λ x. (refl, refl, refl, refl, refl)) h)) h
  keeps_taken busy (command.Ret link messages bits) d s h = keeps_at (command.Ret link messages bits) (ret_taken link messages bits) (receiver_on link d) d (λ e. keeps_ret link messages bits e d h) h
  keeps_taken busy (command.Inr link) d s h = keeps_at (command.Inr link) interrupted (sender_on link d) d (λ e. keeps_told (notice.Interrupt e.own ∷ []) d (tt, tt) h) h
  keeps_taken busy (command.Ins link) d s h = keeps_at (command.Ins link) interrupted (receiver_on link d) d (λ e. keeps_told (notice.Interrupt e.own ∷ []) d (tt, tt) h) h
  keeps_taken busy (command.Eco octet) d s h = keeps_queued (command.Erp octet) d h
  keeps_taken busy (command.Erp octet) d s h = keeps_told (notice.Echoed g octet ∷ []) d (tt, tt) h
  keeps_taken busy (command.Err code detail) d s h = keeps_told (notice.RemoteError g code detail ∷ []) d (tt, tt) h
  keeps_taken busy c d s h = h

  pub record KeepsTurn (u : TurnState) : Type 0 where
    pub ends : AreOff u.pair.entries
    pub told : AllKept Lax own foreign u.notices

  turn_ready : (work : DeskState → DeskState) (u : TurnState) → (Keeps (desk_of u.pair u.listening) → Keeps (work (desk_of u.pair u.listening))) → KeepsTurn u → KeepsTurn (if_ready work u)
  turn_ready work u k h = by (is_ready u.pair.phase) where
    now : Keeps (work (desk_of u.pair u.listening))
    now = k (record { ends = h.ends; told = tt })

    by : (v : Bool) → KeepsTurn (if v then with_desk u (work (desk_of u.pair u.listening)) else u)
    by true = record { ends = now.ends; told = kept_both Lax own foreign u.notices (work (desk_of u.pair u.listening)).notices h.told now.told }
    by false = h

  turn_command : (c : Command) (u : TurnState) → IsJoint (Legal c) → Spares (Legal c) → KeepsTurn u → KeepsTurn (command_taken g stamp c u)
  turn_command command.Rst u j s h = absurd (let no : true ≡ false = j in cc)
  turn_command command.Rrp u j s h = absurd (let no : true ≡ false = j in cc)
  turn_command c u j s h = turn_ready (desk_taken g u.pair.busy stamp c) u (λ k. keeps_taken u.pair.busy c (desk_of u.pair u.listening) s k) h

  pub turn_orders : (os : List Order) (u : TurnState) → AreJoint os → AllSpare os → KeepsTurn u → KeepsTurn (orders_taken g stamp os u)
  turn_orders [] u j s h = h
  turn_orders (Legal c ∷ os) u j s h = turn_orders os (command_taken g stamp c u) j.1 s.1 (turn_command c u j.0 s.0 h)
  turn_orders (Wrong code octets ∷ os) u j s h =
      turn_orders os (if_ready (command_queued (error code octets)) u) j.1 s.1 (turn_ready (command_queued (error code octets)) u (λ k. keeps_queued (error code octets) (desk_of u.pair u.listening) k) h)

  -- data
  keeps_arrived : (link : ℕ) (e : Entry) (text : List Bool) (o : Option DataHeader) (d : DeskState) → Keeps d → Keeps (arrived_if link e text o d)
  keeps_arrived link e text None d h = keeps_queued _ d h
  keeps_arrived link e text (Some header) d h =
      keeps_if (is_acceptable e header) (arrived link e (data_bits header) text d) (text_faulted ERRONEOUS text d)
      (keeps_told (notice.Arrived e.own (data_of (data_bits header) text) ∷ [])
      (changed (receives_on link) (spent (data_bits header)) d) (tt, tt)
      (keeps_quiet (receives_on link) (spent (data_bits header)) d (λ x. (refl, refl, refl, refl, refl)) h))
      (keeps_queued _ d h)

  pub keeps_found : (link : ℕ) (text : List Bool) (f : Found) (d : DeskState) → Keeps d
      → Keeps (data_found link text f d)
  keeps_found link text Unconnected d h = keeps_queued _ d h
  keeps_found link text Ending d h = h
  keeps_found link text (Open e) d h = keeps_arrived link e text (header_of text) d h

  pub turn_data : (link : ℕ) (text : List Bool) (u : TurnState) → KeepsTurn u → KeepsTurn (if_ready (data_taken link text) u)
  turn_data link text u h = turn_ready (data_taken link text) u (λ k. keeps_found link text (receiver_on link (desk_of u.pair u.listening)) (desk_of u.pair u.listening) k) h

  -- ---- what goes out

  -- a CLS that goes out leaves these ends as they are
  abbrev pub Passes : Command → Type 0
  Passes (command.Cls o f) = (e : Entry) → is_at o f e ≡ true → IsOff e → IsOff (cls_sent e)
  Passes c = Unit {0}

  abbrev pub AllPass : List Command → Type 0
  AllPass [] = Unit {0}
  AllPass (c ∷ cs) = Passes c × AllPass cs

  pub keeps_gone : (c : Command) (d : DeskState) → Passes c → Keeps d → Keeps (command_gone g stamp c d)
  keeps_gone (command.Rts receive send link) d s h =
      keeps_asked receive send (asked_at stamp) d (λ x. (refl, refl, refl, refl, refl)) h
  keeps_gone (command.Str send receive size) d s h =
      keeps_asked send receive (asked_at stamp) d (λ x. (refl, refl, refl, refl, refl)) h
  keeps_gone (command.Cls o f) d s h = keeps_swept (changed (is_at o f) cls_sent d) (keeps_changed (is_at o f) cls_sent d s h)
  keeps_gone c d s h = h

  pub all_keep : (cs : List Command) (d : DeskState) → AllPass cs → Keeps d → Keeps (commands_gone g stamp cs d)
  all_keep [] d s h = h
  all_keep (c ∷ cs) d s h = all_keep cs (command_gone g stamp c d) s.1 (keeps_gone c d s.0 h)
