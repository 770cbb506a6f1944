-- Nothing that was granted is lost while both hosts stay: an end that opens by its own request does so before the other's is open.
use Rattle.pair_keeps_streams.proofs.Common.{◌≡◌, inl, inr, ℕ, suc, ◌==◌, ◌&&◌, not, Bool, true, false, if◌then◌else◌, List, [], ◌∷◌, ◌++◌, filter, Option, Some, None, is_some, refl, ap, sym, subst, ◌∙◌, eq-eqb, Host, is_receive_socket, Command, Word, Rts, All, Cls, Receiver, Sender, Stream, Receives, happens, Exact, Inv, kept, some_is, changed_at, changed_first, closed_by_partner, entry_at, is_at, is_link, is_receiving, must_close, receives_on, sends_on, PairState, Entry, Listener, both, MayAllReceive, MayAllSend, sent_open, AreReceiver, has_opened, Says, IsTelling, ends_by, gone_by, asked_sent, closes, hears_rts, of_end, rts_sent, sent_out, AreApart, named, numbers, Holds, apart_changed, find_passes, first_is, name_of, own_name, own_parity, stays, unlike}
use Rattle.std.proofs.lemmas.Option.{same_Some}
use Rattle.ncp_control.specs.declared.command.Command.TheVariants as command
use Rattle.stream_law.specs.Receivers as receivers
use Rattle.stream_law.specs.Senders as senders
use Rattle.stream_law.specs.Streams.{Sends}
use Rattle.stream_law.proofs.lemmas.{Claims, IsKept, claims_ungranted, exact_kept}
use Rattle.host_pairs.specs.Parcels.{cls_sent}
use Rattle.host_keeps_streams.specs.Moves as moves
use Rattle.host_keeps_streams.proofs.lemmas.{known_found}
use Rattle.host_keeps_streams.proofs.lemmas.Senders as own_senders
use Rattle.pair_keeps_streams.proofs.Joint.{receives, sends}
use Rattle.pair_keeps_streams.proofs.Queues.{AreSeparate, Stays, at_changed, kept_if, none_at, separate, sweep_found}
use Rattle.pair_keeps_streams.proofs.Streams.{AllMayReceive, AllMaySend}

-- ---- moves one after another

pub exact_receives : (ms : List receivers.Move) (x : Stream) → MayAllReceive ms x.receiver → AllMayReceive ms x → Inv x → Exact true x → Exact true (receives ms x)
exact_receives [] x a b i e = e
exact_receives (m ∷ ms) x a b i e = exact_receives ms (happens (Receives m) x) a.1 b.1 (kept (Receives m) x (a.0, b.0) i) (exact_kept true (Receives m) x (a.0, b.0) tt i e)

abbrev pub AreKept : List senders.Move → Stream → Type 0
AreKept [] y = Unit {0}
AreKept (m ∷ ms) y = IsKept true (Sends m) y × AreKept ms (happens (Sends m) y)

pub exact_sends : (ms : List senders.Move) (y : Stream) → MayAllSend ms y.sender → AllMaySend ms y → AreKept ms y → Inv y → Exact true y → Exact true (sends ms y)
exact_sends [] y a b k i e = e
exact_sends (m ∷ ms) y a b k i e = exact_sends ms (happens (Sends m) y) a.1 b.1 k.1 (kept (Sends m) y (a.0, b.0) i) (exact_kept true (Sends m) y (a.0, b.0) k.0 i e)

-- ---- no end opens

abbrev pub NoOpens : List senders.Move → Type 0
NoOpens [] = Unit {0}
NoOpens (senders.Open c ∷ ms) = ⊥
NoOpens (m ∷ ms) = NoOpens ms

hear_kept : (w : Word) (y : Stream) → IsKept true (Sends (senders.Hear w)) y
hear_kept (All c m n) y = λ e. absurd (cc)
hear_kept w y = tt

pub none_kept : (ms : List senders.Move) (y : Stream) → NoOpens ms → AreKept ms y
none_kept [] y n = tt
none_kept (senders.Ask c z ∷ ms) y n = (tt, none_kept ms (happens (Sends (senders.Ask c z)) y) n)
none_kept (senders.Open c ∷ ms) y n = absurd n
none_kept (senders.Send c z bits ∷ ms) y n = (tt, none_kept ms (happens (Sends (senders.Send c z bits)) y) n)
none_kept (senders.Close c ∷ ms) y n = (tt, none_kept ms (happens (Sends (senders.Close c)) y) n)
none_kept (senders.Hear w ∷ ms) y n = (hear_kept w y, none_kept ms (happens (Sends (senders.Hear w)) y) n)
none_kept (senders.Told ∷ ms) y n = (tt, none_kept ms (happens (Sends senders.Told) y) n)

pub closes_none : (name : ℕ → ℕ → ℕ) (busy : List ℕ) (es : List Entry) → NoOpens (closes name busy es)
closes_none name busy [] = tt
closes_none name busy (e ∷ es) = by (closes_none name busy es) (must_close busy e && not (is_receiving e)) where
  by : NoOpens (closes name busy es) → (v : Bool) → NoOpens (if v then senders.Close (named name e) ∷ closes name busy es else closes name busy es)
  by after true = after
  by after false = after

pub if_none : (v : Bool) (ms : List senders.Move) → NoOpens ms → NoOpens (if v then ms else [])
if_none true ms n = n
if_none false ms n = tt

none_more : (c : ℕ) (o : Option ℕ) (ms : List senders.Move) → NoOpens ms → NoOpens (of_end c o (senders.Hear (Cls c) ∷ []) ++ ms)
none_more c None ms n = n
none_more c (Some own) ms n = by (own == c) where
  by : (v : Bool) → NoOpens ((if v then senders.Hear (Cls c) ∷ [] else []) ++ ms)
  by true = n
  by false = n

pub cls_none : (name : ℕ → ℕ → ℕ) (busy : List ℕ) (own foreign : ℕ) (es : List Entry) (s : Sender) (o : Option Entry) → NoOpens (moves.cls_sent name busy own foreign es s o)
cls_none name busy own foreign es s None = tt
cls_none name busy own foreign es s (Some e) = by e.partner_closed (is_receiving e) where
  after : NoOpens (closes name busy (changed_at own foreign closed_by_partner es))
  after = closes_none name busy (changed_at own foreign closed_by_partner es)

  by : (v w : Bool) → NoOpens (if v then [] else (if w then [] else of_end (named name e) s.end (senders.Hear (Cls (named name e)) ∷ [])) ++ closes name busy (changed_at own foreign closed_by_partner es))
  by true w = tt
  by false true = after
  by false false = none_more _ s.end _ after

-- a request that is heard
rts_none : (here : Bool) (c : ℕ) (ms : List senders.Move) → NoOpens ms → NoOpens (hears_rts here c ++ ms)
rts_none true c ms n = n
rts_none false c ms n = n

heard_none : (here : Bool) (c : ℕ) → NoOpens (hears_rts here c)
heard_none true c = tt
heard_none false c = tt

-- where an end opens by it, nothing was lost before
pub heard_kept : (here : Bool) (c : ℕ) (listener : Option Listener) (o : Option Entry) (y : Stream) → (here ≡ true → Claims c (happens (Sends (senders.Hear (Rts c))) y)) → AreKept (rts_sent here c listener o) y
heard_kept here c None None y claims = none_kept _ y (rts_none here c _ tt)
heard_kept here c (Some l) None y claims = none_kept (senders.Ask c l.size ∷ hears_rts here c) y (heard_none here c)
heard_kept here c listener (Some e) y claims = by (is_some e.partner) here (is_some e.asked) claims where
  by : (p h a : Bool) → (h ≡ true → Claims c (happens (Sends (senders.Hear (Rts c))) y)) → AreKept (if p then [] else hears_rts h c ++ sent_open (h && a) c) y
  by true h a claims = tt
  by false true true claims = (tt, ((λ l u. claims refl), tt))
  by false true false claims = (tt, tt)
  by false false a claims = tt

-- ---- an end that opens by its own request

-- where the request of a sending end hasn't gone out the other's end isn't open
abbrev pub IsUnasked : (ℕ → ℕ → ℕ) → List Entry → Receiver → Type 0
IsUnasked name es r = (own foreign : ℕ) (e : Entry) → is_receive_socket own ≡ false → entry_at own foreign es ≡ Some e → e.asked ≡ None → r.end ≡ Some (name own foreign) → r.opened ≡ false

no_some : (o : Option ℕ) → is_some o ≡ false → o ≡ None
no_some None e = refl
no_some (Some n) e = absurd (let no : true ≡ false = e in cc)

asked_none : (u v : Bool) → (u && v) ≡ false → v ≡ true → u ≡ false
asked_none false v e f = refl
asked_none true v e f = absurd (unlike v f e)

sends_half : (u v : Bool) → (not u && v) ≡ true → u ≡ false
sends_half false v e = refl
sends_half true v e = absurd (let no : false ≡ true = e in cc)

module _ (number : ℕ → ℕ → ℕ → ℕ) (tells : IsTelling number) (link : ℕ) (gone : ℕ → ℕ → ℕ) (es : List Entry) (x : Receiver) (y : Stream) (h : Holds number tells link gone es x y.sender) (inv : Inv y) (unasked : IsUnasked (name_of number gone) es y.receiver) where
  module _ (own foreign : ℕ) (e : Entry) (found : entry_at own foreign es ≡ Some e) (on : sends_on link e ≡ true) where
    sending : is_receiving e ≡ false
    sending = sends_half _ _ on

    name_is : named (name_of number gone) e ≡ name_of number gone own foreign
    name_is = own_name (name_of number gone) link own foreign e es found

    claims : is_some e.partner ≡ true → y.sender.opened ≡ false → Claims (named (name_of number gone) e) y
    claims partner unopened = elim (own_senders.own_sender (name_of number gone) link (is_at own foreign) (λ z. z) e es y.sender found on on h.sent.here).0 [
      | inl is ↦
          (let closed : has_opened e ≡ false = sym is.opened ∙ unopened in
          let asked : e.asked ≡ None = no_some _ (asked_none _ _ closed partner) in
          claims_ungranted y _ inv
          (λ end. unasked own foreign e (sym (own_parity (name_of number gone) link own foreign e es found) ∙ sending) found asked (end ∙ ap (λ (n : ℕ). Some n) name_is)))
      | inr n ↦ λ u o. absurd (unlike (y.sender.closed (named (name_of number gone) e)) ((known_found (name_of number gone) _ e es _ sending h.sent.known found).closed ∙ n.closed) o.sender)
    ]

    opens : (v : Bool) → is_some e.partner ≡ v → AreKept (sent_open v (named (name_of number gone) e)) y
    opens true p = (λ l u. claims p u, tt)
    opens false p = tt

    opens_at : (o : Option ℕ) → AreKept (of_end (named (name_of number gone) e) o (sent_open (is_some e.partner) (named (name_of number gone) e))) y
    opens_at None = tt
    opens_at (Some own) = by (own == named (name_of number gone) e) where
      by : (v : Bool) → AreKept (if v then sent_open (is_some e.partner) (named (name_of number gone) e) else []) y
      by true = opens (is_some e.partner) refl
      by false = tt

  asked_kept : (own foreign : ℕ) (o : Option Entry) → entry_at own foreign es ≡ o → AreKept (asked_sent (name_of number gone) link y.sender o) y
  asked_kept own foreign None found = tt
  asked_kept own foreign (Some e) found = by (sends_on link e) refl where
    by : (v : Bool) → sends_on link e ≡ v → AreKept (if v then of_end (named (name_of number gone) e) y.sender.end (sent_open (is_some e.partner) (named (name_of number gone) e)) else []) y
    by true on = opens_at own foreign e found on y.sender.end
    by false on = tt

-- by what goes out
abbrev pub IsRequest : Command → Type 0
IsRequest (command.Rts receive send l) = Unit {0}
IsRequest (command.Str send receive z) = Unit {0}
IsRequest c = ⊥

module _ (number : ℕ → ℕ → ℕ → ℕ) (tells : IsTelling number) (link : ℕ) (gone : ℕ → ℕ → ℕ) (es : List Entry) (x : Receiver) (y : Stream) (h : Holds number tells link gone es x y.sender) (inv : Inv y) where
  pub out_kept : (c : Command) → (IsRequest c → IsUnasked (name_of number gone) es y.receiver) → AreKept (sent_out (name_of number gone) link c es y.sender) y
  out_kept (command.Rts receive send l) u = asked_kept number tells link gone es x y h inv (u tt) receive send _ refl
  out_kept (command.Str send receive z) u = asked_kept number tells link gone es x y h inv (u tt) send receive _ refl
  out_kept c u = tt

-- ---- more that goes out in the same message

-- an end that is there afterwards, and whose request hasn't gone out, was there before
abbrev pub WasThere : List Entry → List Entry → Type 0
WasThere es after = (own foreign : ℕ) (f : Entry) → entry_at own foreign after ≡ Some f → f.asked ≡ None → (e : Entry) × (entry_at own foreign es ≡ Some e) × (e.asked ≡ None)

changed_was : (test : Entry → Bool) (change : Entry → Entry) → Stays change → ((e : Entry) → (change e).asked ≡ None → e.asked ≡ None) → (es : List Entry) → WasThere es (changed_first test change es)
changed_was test change s back [] own foreign f found none = (f, found, none)
changed_was test change s back (z ∷ zs) own foreign f found none = by (test z) (is_at own foreign z) refl refl (changed_was test change s back zs own foreign f) where
  by : (t v : Bool) → test z ≡ t → is_at own foreign z ≡ v → (entry_at own foreign (changed_first test change zs) ≡ Some f → f.asked ≡ None → (e : Entry) × (entry_at own foreign zs ≡ Some e) × (e.asked ≡ None))
      → (e : Entry) × (entry_at own foreign (z ∷ zs) ≡ Some e) × (e.asked ≡ None)
  by true true t a rest =
      let after : is_at own foreign (change z) ≡ true = at_changed change s own foreign z ∙ a in
      let is : Some (change z) ≡ Some f = (rw (t, after) at found) in
      (z, rw a refl, back z (ap (λ (e : Entry). e.asked) (same_Some (change z) f is) ∙ none))
  by true false t a rest =
      let after : is_at own foreign (change z) ≡ false = at_changed change s own foreign z ∙ a in
      let later : entry_at own foreign zs ≡ Some f = (rw (t, after) at found) in
      (f, rw a later, none)
  by false true t a rest =
      let is : Some z ≡ Some f = (rw (t, a) at found) in
      (z, rw a refl, ap (λ (e : Entry). e.asked) (same_Some z f is) ∙ none)
  by false false t a rest =
      let r : (e : Entry) × (entry_at own foreign zs ≡ Some e) × (e.asked ≡ None) = rest (rw (t, a) at found) none in
      (r.0, rw a r.1, r.2)

kept_some : (o : Option Entry) (f : Entry) → kept_if o ≡ Some f → o ≡ Some f
kept_some None f e = absurd (cc)
kept_some (Some z) f e = by (stays z) refl where
  by : (v : Bool) → stays z ≡ v → Some z ≡ Some f
  by true s = (rw s at e)
  by false s = absurd (let none : None ≡ Some f = (rw s at e) in cc)

filter_was : (es after : List Entry) → AreSeparate after → WasThere es after → WasThere es (filter stays after)
filter_was es after a was own foreign f found none = was own foreign f (kept_some _ f (sym (sweep_found after a own foreign) ∙ found)) none

same_was : (es : List Entry) → WasThere es es
same_was es own foreign f found none = (f, found, none)

gone_was : (name : ℕ → ℕ → ℕ) (peer : Host) (stamp : ℕ) (q : PairState) (listening : List Listener) → AreApart (numbers name q.entries) → (c : Command) → WasThere q.entries (ends_by peer (Says stamp c) q listening)
gone_was name peer stamp q listening apart (command.Rts receive send l) = changed_was _ _ (record { own = λ x. refl; foreign = λ x. refl }) (λ e n. absurd (let no : Some stamp ≡ None = n in cc)) _
gone_was name peer stamp q listening apart (command.Str send receive z) = changed_was _ _ (record { own = λ x. refl; foreign = λ x. refl }) (λ e n. absurd (let no : Some stamp ≡ None = n in cc)) _
gone_was name peer stamp q listening apart (command.Cls own foreign) =
    filter_was _ _ (separate name _ (apart_changed name _ cls_sent _ (λ x. refl) apart))
    (changed_was _ cls_sent (record { own = λ x. refl; foreign = λ x. refl }) (λ e n. n) _)
gone_was name peer stamp q listening apart c = same_was _

gone_still : (u : Bool) (o : Option Entry) (f : Entry) (g : ℕ) → o ≡ Some f → (if u && not (is_some o) then suc g else g) ≡ g
gone_still true o f g e = rw e refl
gone_still false o f g e = refl

-- where the request of a sending end hasn't gone out, the other's end hasn't taken it
abbrev pub NotTaken : (ℕ → ℕ → ℕ) → (ℕ → ℕ → ℕ) → List Entry → List Entry → Type 0
NotTaken name other es fs =
    (own foreign : ℕ) (e f : Entry) → is_receive_socket own ≡ false → is_receive_socket foreign ≡ true → entry_at own foreign es ≡ Some e → e.asked ≡ None → entry_at foreign own fs ≡ Some f → other foreign own ≡ name own foreign → f.partner ≡ None

pub taken_gone : (number : ℕ → ℕ → ℕ → ℕ) (other : ℕ → ℕ → ℕ) (gone : ℕ → ℕ → ℕ) (peer : Host) (stamp : ℕ) (q : PairState) (listening : List Listener) (fs : List Entry) → AreApart (numbers (name_of number gone) q.entries) → (c : Command) → NotTaken (name_of number gone) other q.entries fs
    → NotTaken (name_of number (gone_by q.entries (ends_by peer (Says stamp c) q listening) gone)) other (ends_by peer (Says stamp c) q listening) fs
taken_gone number other gone peer stamp q listening fs apart c u own foreign e f odd even found none there same =
    let w : (d : Entry) × (entry_at own foreign q.entries ≡ Some d) × (d.asked ≡ None) = gone_was (name_of number gone) peer stamp q listening apart c own foreign e found none in
    u own foreign w.0 f odd even w.1 w.2 there
    (same ∙ ap (λ (g : ℕ). number own foreign g) (gone_still _ _ e _ found))

-- ---- so it isn't open

-- an end that a test finds, and no other, is found by its sockets
found_alone : (test : Entry → Bool) (f : Entry) (es : List Entry) → AreSeparate es → filter test es ≡ f ∷ [] → entry_at f.own f.foreign es ≡ Some f
found_alone test f [] a e = absurd (let none : [] ≡ f ∷ [] = e in cc)
found_alone test f (z ∷ zs) a e = by (test z) refl (found_alone test f zs a.1) where
  here : (x : Entry) → x ≡ f → is_at x.own x.foreign x ≡ true
  here x same = rw (eq-eqb x.own x.own refl, eq-eqb x.foreign x.foreign refl) refl

  later : entry_at f.own f.foreign zs ≡ Some f → (v : Bool) → is_at f.own f.foreign z ≡ v → entry_at f.own f.foreign (z ∷ zs) ≡ Some f
  later rest true t = absurd (let none : entry_at f.own f.foreign zs ≡ None = none_at f.own _ z zs t a.0 in let no : None ≡ Some f = sym none ∙ rest in cc)
  later rest false t = rw t rest

  by : (v : Bool) → test z ≡ v → (filter test zs ≡ f ∷ [] → entry_at f.own f.foreign zs ≡ Some f) → entry_at f.own f.foreign (z ∷ zs) ≡ Some f
  by true t rest =
      let parts : z ∷ filter test zs ≡ f ∷ [] = (rw t at e) in
      let same : z ≡ f = cc in
      subst (λ (x : Entry). entry_at x.own x.foreign (z ∷ zs) ≡ Some x) same (let t : is_at z.own z.foreign z ≡ true = here z same in rw t refl)
  by false t rest = later (rest (rw t at e)) _ refl

module _ (number other : ℕ → ℕ → ℕ → ℕ) (tells : IsTelling number) (others : IsTelling other) (same : (own foreign g : ℕ) → other own foreign g ≡ number foreign own g) (link : ℕ) (gone gone_there : ℕ → ℕ → ℕ) (es fs : List Entry) (r : Receiver) (s : Sender)
    (h : Holds other others link gone_there fs r s) (none : NotTaken (name_of number gone) (name_of other gone_there) es fs) where
  pub not_open : IsUnasked (name_of number gone) es r
  not_open own foreign e odd found asked end = by (filter (receives_on link) fs) refl h.received where
    by : (xs : List Entry) → filter (receives_on link) fs ≡ xs → AreReceiver (name_of other gone_there) xs r → r.opened ≡ false
    by [] is has = absurd (let no : None ≡ Some (name_of number gone own foreign) = sym has ∙ end in cc)
    by (f ∷ []) is has =
        let named_same : number f.foreign f.own (gone_there f.own f.foreign) ≡ number own foreign (gone own foreign) = sym (same f.own _ _) ∙ same_end (sym has.end ∙ end) in
        let mine : f.foreign ≡ own = tells.own f.foreign f.own (gone_there f.own _) own foreign (gone own foreign) named_same in
        let theirs : f.own ≡ foreign = tells.foreign f.foreign f.own (gone_there f.own _) own foreign (gone own foreign) named_same in
        let there : entry_at f.own f.foreign fs ≡ Some f = found_alone _ f fs (separate _ fs h.sound.apart) is in
        let at_it : entry_at foreign own fs ≡ Some f = subst (λ (n : ℕ). entry_at n own fs ≡ Some f) theirs (subst (λ (n : ℕ). entry_at f.own n fs ≡ Some f) mine there) in
        let name : name_of other gone_there foreign own ≡ name_of number gone own foreign =
        subst (λ (n : ℕ). name_of other gone_there n own ≡ name_of number gone own foreign) theirs (subst (λ (n : ℕ). name_of other gone_there f.own n ≡ name_of number gone own foreign) mine (same_end (sym has.end ∙ end))) in
        let even : is_receive_socket foreign ≡ true = subst (λ (n : ℕ). is_receive_socket n ≡ true) theirs (both (is_receiving f) (is_link link f.link) (find_passes _ f fs (first_is (receives_on link) f [] fs is))).0 in
        let partner : f.partner ≡ None = none own foreign e f odd even found asked at_it name in
        has.opened ∙ ap (λ (o : Option ℕ). is_some f.asked && is_some o) partner ∙ and_false _
      where
        same_end : {m n : ℕ} → Some m ≡ Some n → m ≡ n
        same_end {m} {n} e = some_is m n e

        and_false : (v : Bool) → (v && false) ≡ false
        and_false true = refl
        and_false false = refl
    by (f ∷ g ∷ more) is has = absurd has
