-- All that a host's program does in a stay is, on each link, a run of the law's receiver and of its sender.
use Rattle.host_keeps_streams.proofs.Common.{◌≡◌, ℕ, ◌+◌, ◌*◌, ◌≤◌, Bool, false, ◌==◌, List, [], ◌∷◌, None, is_some, refl, ap, sym, subst, ◌∙◌, inl, inr, arith, eqb-true, Host, Receiver, Sender, entry_at, is_at, PairState, Entry, Listener, all_received, all_sent, HasReceiver, AreSound, Call, Moment, ends_by, received_at, sent_at, IsAllowed, receiver_now, KeepBox, is_out, named, numbers, is_among, IsSending}
use Rattle.std.proofs.Common.{zero, suc, true, eq-eqb}
use Rattle.std.proofs.lemmas.Bool.{or_cases}
use Rattle.stream_law.specs.Senders as senders
use Rattle.stream_law.specs.Receivers as receivers
use Rattle.host_keeps_streams.specs.Histories.{ends_now, IsHistory, gone_by, gone_now, IsTelling, sender_now, AreAllowed, MayReceiveAll, MaySendAll, KeepBoxAll, paired, numbered}
use Rattle.host_keeps_streams.proofs.EachCall.{AllNewReceived, AllNewSent, call_received, call_sent, call_sound}
use Rattle.host_keeps_streams.proofs.CallBoxes.{call_box}
use Rattle.host_keeps_streams.proofs.Concerns.{IsUnknown, IsUnsaid, still_unknown, still_unsaid}
use Rattle.host_keeps_streams.proofs.Known.{Sent}
use Rattle.host_keeps_streams.proofs.Lists.{unlike}
use Rattle.host_keeps_streams.proofs.Meets.{Meets, call_meets, call_met}
use Rattle.host_keeps_streams.proofs.Names.{received_renamed, sent_renamed, sound_renamed}
use Rattle.host_keeps_streams.proofs.ReceiverHears.{Received}

-- ---- numbers by sockets and how many of theirs are gone

abbrev pub name_of : (ℕ → ℕ → ℕ → ℕ) → (ℕ → ℕ → ℕ) → ℕ → ℕ → ℕ
name_of number gone own foreign = number own foreign (gone own foreign)

-- there is an end of these sockets
abbrev pub is_there : ℕ → ℕ → List Entry → Bool
is_there own foreign es = is_some (entry_at own foreign es)

-- a number that none of these ends has, nor had one that is gone
pub record IsAhead (gone : ℕ → ℕ → ℕ) (es : List Entry) (own foreign g : ℕ) : Type 0 where
  pub none : is_there own foreign es ≡ false → gone own foreign ≤ g
  pub one : is_there own foreign es ≡ true → suc (gone own foreign) ≤ g

there_more : (own foreign : ℕ) (y : Entry) (ys : List Entry) → is_there own foreign ys ≡ true → is_there own foreign (y ∷ ys) ≡ true
there_more own foreign y ys t = by (is_at own foreign y) refl where
  by : (v : Bool) → is_at own foreign y ≡ v → is_there own foreign (y ∷ ys) ≡ true
  by true e = rw e refl
  by false e = rw e t

there_first : (own foreign : ℕ) (y : Entry) (ys : List Entry) → y.own ≡ own → y.foreign ≡ foreign → is_there own foreign (y ∷ ys) ≡ true
there_first own foreign y ys a b =
    let e : (y.own == own) ≡ true = eq-eqb y.own own a in
    let f : (y.foreign == foreign) ≡ true = eq-eqb y.foreign foreign b in
    rw (e, f) refl

module _ (number : ℕ → ℕ → ℕ → ℕ) (tells : IsTelling number) where
  -- a number among those of ends is that of the sockets of one
  among_is : (gone : ℕ → ℕ → ℕ) (own foreign g : ℕ) (es : List Entry) → is_among (number own foreign g) (numbers (name_of number gone) es) ≡ true → (is_there own foreign es ≡ true) × (gone own foreign ≡ g)
  among_is gone own foreign g [] t = absurd (cc)
  among_is gone own foreign g (y ∷ ys) t = elim (or_cases (named (name_of number gone) y == number own foreign g) (is_among (number own foreign g) (numbers (name_of number gone) ys)) t) [
    | inl e ↦ first e
    | inr e ↦ (let rest : (is_there own foreign ys ≡ true) × (gone own foreign ≡ g) = among_is gone own foreign g ys e in (there_more own foreign y ys rest.0, rest.1))
  ] where
    first : (named (name_of number gone) y == number own foreign g) ≡ true → (is_there own foreign (y ∷ ys) ≡ true) × (gone own foreign ≡ g)
    first e =
        let same : number y.own y.foreign _ ≡ number own foreign g = eqb-true (named (name_of number gone) y) (number own foreign g) e in
        let a : y.own ≡ own = tells.own y.own y.foreign (gone y.own y.foreign) own foreign g same in
        let b : y.foreign ≡ foreign = tells.foreign y.own y.foreign (gone y.own y.foreign) own foreign g same in
        let c : gone y.own y.foreign ≡ g = tells.gone y.own y.foreign (gone y.own y.foreign) own foreign g same in
        (there_first own foreign y ys a b, ap (λ (n : ℕ). gone n foreign) (sym a) ∙ ap (λ (n : ℕ). gone y.own n) (sym b) ∙ c)

  -- ---- from one moment to the next

  module _ (gone : ℕ → ℕ → ℕ) (es after : List Entry) where
    gone_none : (own foreign : ℕ) → is_there own foreign es ≡ false → gone_by es after gone own foreign ≡ gone own foreign
    gone_none own foreign e = rw e refl

    gone_leaves : (own foreign : ℕ) → is_there own foreign es ≡ true → is_there own foreign after ≡ false → gone_by es after gone own foreign ≡ suc (gone own foreign)
    gone_leaves own foreign e t = rw (e, t) refl

    -- ends that are there keep their numbers
    same_gone : (own foreign : ℕ) → is_there own foreign after ≡ true → gone_by es after gone own foreign ≡ gone own foreign
    same_gone own foreign there = by (is_there own foreign es) refl where
      by : (v : Bool) → is_there own foreign es ≡ v → gone_by es after gone own foreign ≡ gone own foreign
      by true e = rw (e, there) refl
      by false e = rw e refl

    ahead_before : (own foreign g : ℕ) → IsAhead (gone_by es after gone) after own foreign g → IsAhead gone es own foreign g
    ahead_before own foreign g a = record { none = λ e. by_none e (is_there own foreign after) refl; one = λ e. by_one e (is_there own foreign after) refl } where
      by_none : is_there own foreign es ≡ false → (v : Bool) → is_there own foreign after ≡ v → gone own foreign ≤ g
      by_none e true t = let below : suc (gone own foreign) ≤ g = subst (λ (n : ℕ). suc n ≤ g) (gone_none own foreign e) (a.one t) in omega (arith, below)
      by_none e false t = subst (λ (n : ℕ). n ≤ g) (gone_none own foreign e) (a.none t)

      by_one : is_there own foreign es ≡ true → (v : Bool) → is_there own foreign after ≡ v → suc (gone own foreign) ≤ g
      by_one e true t = subst (λ (n : ℕ). suc n ≤ g) (same_gone own foreign t) (a.one t)
      by_one e false t = subst (λ (n : ℕ). n ≤ g) (gone_leaves own foreign e t) (a.none t)

    too_big : (m n : ℕ) → m ≡ n → suc m ≤ n → ⊥
    too_big m n e l = absurd (omega (arith, e, l))

    -- it isn't one of those that the call concerns
    ahead_out : (own foreign g : ℕ) → IsAhead (gone_by es after gone) after own foreign g → Meets (name_of number gone) es after (number own foreign g) → ⊥
    ahead_out own foreign g a (inl t) =
        let k : (is_there own foreign es ≡ true) × (gone own foreign ≡ g) = among_is gone own foreign g es t in
        too_big _ g k.1 ((ahead_before own foreign g a).one k.0)
    ahead_out own foreign g a (inr t) =
        let k : (is_there own foreign after ≡ true) × (gone own foreign ≡ g) = among_is gone own foreign g after t in
        too_big _ g k.1 (subst (λ (n : ℕ). suc n ≤ g) (same_gone own foreign k.0) (a.one k.0))

    abbrev AreThere : List Entry → List Entry → Type 0
    AreThere all [] = Unit {0}
    AreThere all (y ∷ ys) = (is_there y.own y.foreign all ≡ true) × AreThere all ys

    there_weaken : (y : Entry) (all ys : List Entry) → AreThere all ys → AreThere (y ∷ all) ys
    there_weaken y all [] a = tt
    there_weaken y all (z ∷ zs) a = (there_more z.own z.foreign y all a.0, there_weaken y all zs a.1)

    all_there : (ys : List Entry) → AreThere ys ys
    all_there [] = tt
    all_there (y ∷ ys) = (there_first y.own y.foreign y ys refl refl, there_weaken y ys ys (all_there ys))

    same_by : (ys : List Entry) → AreThere after ys → numbers (name_of number (gone_by es after gone)) ys ≡ numbers (name_of number gone) ys
    same_by [] a = refl
    same_by (y ∷ ys) a =
        ap (λ (n : ℕ). n ∷ numbers (name_of number (gone_by es after gone)) ys) (ap (λ (n : ℕ). number y.own y.foreign n) (same_gone y.own y.foreign a.0))
        ∙ ap (λ (ns : List ℕ). named (name_of number gone) y ∷ ns) (same_by ys a.1)

    pub same_numbers : numbers (name_of number (gone_by es after gone)) after ≡ numbers (name_of number gone) after
    same_numbers = same_by after (all_there after)

  -- ---- new numbers are new

  abbrev pub UnknownAhead : (ℕ → ℕ → ℕ) → List Entry → Receiver → Type 0
  UnknownAhead gone es r = (own foreign g : ℕ) → IsAhead gone es own foreign g → IsUnknown (number own foreign g) r

  abbrev pub UnsaidAhead : (ℕ → ℕ → ℕ) → List Entry → Sender → Type 0
  UnsaidAhead gone es s = (own foreign g : ℕ) → IsAhead gone es own foreign g → IsUnsaid (number own foreign g) s

  none_there : (own foreign : ℕ) (es : List Entry) → entry_at own foreign es ≡ None → is_there own foreign es ≡ false
  none_there own foreign es e = ap is_some e

  next_ahead : (gone : ℕ → ℕ → ℕ) (own foreign : ℕ) (es : List Entry) → entry_at own foreign es ≡ None → IsAhead gone es own foreign (gone own foreign)
  next_ahead gone own foreign es e = record {
    none = λ t. omega arith;
    one = λ t. absurd (unlike (is_there own foreign es) t (none_there own foreign es e));
  }

  free_number : (gone : ℕ → ℕ → ℕ) (own foreign : ℕ) (es : List Entry) → entry_at own foreign es ≡ None → is_among (name_of number gone own foreign) (numbers (name_of number gone) es) ≡ false
  free_number gone own foreign es e = by (is_among (name_of number gone own foreign) (numbers (name_of number gone) es)) refl where
    by : (v : Bool) → is_among (name_of number gone own foreign) (numbers (name_of number gone) es) ≡ v → is_among (name_of number gone own foreign) (numbers (name_of number gone) es) ≡ false
    by true t = absurd (unlike (is_there own foreign es) (among_is gone own foreign _ es t).0 (none_there own foreign es e))
    by false t = t

  all_new_received : (gone : ℕ → ℕ → ℕ) (es : List Entry) (r : Receiver) → UnknownAhead gone es r → AllNewReceived (name_of number gone) es r
  all_new_received gone es r u own foreign e =
      let k : IsUnknown (number own foreign _) r = u own foreign (gone own foreign) (next_ahead gone own foreign es e) in
      record { free = free_number gone own foreign es e; unasked = k.unasked; untold = k.untold; unheard = k.unheard }

  all_new_sent : (gone : ℕ → ℕ → ℕ) (es : List Entry) (s : Sender) → UnsaidAhead gone es s → AllNewSent (name_of number gone) es s
  all_new_sent gone es s u own foreign e =
      let k : IsUnsaid (number own foreign _) s = u own foreign (gone own foreign) (next_ahead gone own foreign es e) in
      record { free = free_number gone own foreign es e; untold = k.untold; unclosed = k.unclosed; unheard = k.unheard }

  -- ---- all that holds at a moment

  pub record Holds (link : ℕ) (gone : ℕ → ℕ → ℕ) (es : List Entry) (r : Receiver) (s : Sender) : Type 0 where
    pub sound : AreSound (name_of number gone) es
    pub received : HasReceiver (name_of number gone) link es r
    pub sent : IsSending (name_of number gone) link es s
    pub unknown : UnknownAhead gone es r
    pub unsaid : UnsaidAhead gone es s

  begins : (link : ℕ) → Holds link (λ own foreign. 0) [] receivers.opening_receiver senders.opening_sender
  begins link = record {
    sound = record { formed = tt; apart = tt };
    received = refl;
    sent = record { here = λ k f o. absurd (cc); known = tt };
    unknown = λ own foreign g a. record { unasked = refl; untold = refl; unheard = refl };
    unsaid = λ own foreign g a. record { untold = refl; unclosed = refl; unheard = λ e. absurd (cc) };
  }

  module _ (peer : Host) (link : ℕ) (gone : ℕ → ℕ → ℕ) (c : Call) (q : PairState) (listening : List Listener) (r : Receiver) (s : Sender) (allowed : IsAllowed link c q s) (h : Holds link gone q.entries r s) where
    pub step_received : Received (name_of number gone) link (received_at (name_of number gone) link c q listening) (ends_by peer c q listening) r
    step_received = call_received (name_of number gone) link peer q listening h.sound r h.received (all_new_received gone q.entries r h.unknown) s c allowed

    pub step_sent : Sent (name_of number gone) link (sent_at (name_of number gone) link c q listening s) (ends_by peer c q listening) s
    step_sent = call_sent (name_of number gone) link peer q listening h.sound s h.sent.here h.sent.known (all_new_sent gone q.entries s h.unsaid) c allowed

    pub step_box : KeepBox (is_out link c q) (sent_at (name_of number gone) link c q listening s) s
    step_box = call_box (name_of number gone) link peer q listening h.sound s h.sent.here h.sent.known (all_new_sent gone q.entries s h.unsaid) c allowed

    pub step_holds : Holds link (gone_by q.entries (ends_by peer c q listening) gone) (ends_by peer c q listening) (all_received (received_at (name_of number gone) link c q listening) r) (all_sent (sent_at (name_of number gone) link c q listening s) s)
    step_holds =
        let same : numbers (name_of number _) (ends_by peer c q listening) ≡ numbers (name_of number gone) (ends_by peer c q listening)
        = same_numbers gone q.entries (ends_by peer c q listening) in
        record {
          sound = sound_renamed (name_of number gone) (name_of number _) _ same
              (call_sound (name_of number gone) link peer q listening h.sound (λ own foreign e. free_number gone own foreign q.entries e) s c allowed);
          received = received_renamed (name_of number gone) (name_of number _) link _ _ same step_received.1;
          sent = sent_renamed (name_of number gone) (name_of number _) link _ _ same
              (record { here = step_sent.has; known = step_sent.known });
          unknown = λ own foreign g a. still_unknown (Meets (name_of number gone) q.entries (ends_by peer c q listening)) (number own foreign g) (ahead_out gone q.entries _ own foreign g a)
              (received_at (name_of number gone) link c q listening) r (call_meets (name_of number gone) link peer q listening c) (h.unknown own foreign g (ahead_before gone q.entries (ends_by peer c q listening) own foreign g a));
          unsaid = λ own foreign g a. still_unsaid (Meets (name_of number gone) q.entries (ends_by peer c q listening)) (number own foreign g) (ahead_out gone q.entries _ own foreign g a)
              (sent_at (name_of number gone) link c q listening s) s (call_met (name_of number gone) link s peer q listening c) (h.unsaid own foreign g (ahead_before gone q.entries (ends_by peer c q listening) own foreign g a));
        }

  -- ---- all moments

  pub holds_now : (peer : Host) (link : ℕ) (ms : List Moment) → IsHistory peer ms → AreAllowed number peer link ms → Holds link (gone_now peer ms) (ends_now peer ms) (receiver_now number peer link ms) (sender_now number peer link ms)
  holds_now peer link [] i a = begins link
  holds_now peer link (m ∷ ms) i a =
      let before : Holds link (gone_now peer ms) m.pair.entries (receiver_now number peer link ms) (sender_now number peer link ms)
      = subst (λ (es : List Entry). Holds link (gone_now peer ms) es (receiver_now number peer link ms) (sender_now number peer link ms)) (sym i.0) (holds_now peer link ms i.1 a.1) in
      step_holds peer link (gone_now peer ms) m.call m.pair m.listening (receiver_now number peer link ms) (sender_now number peer link ms) a.0 before

  pub all_may_receive : (peer : Host) (link : ℕ) (ms : List Moment) → IsHistory peer ms → AreAllowed number peer link ms → MayReceiveAll number peer link ms
  all_may_receive peer link [] i a = tt
  all_may_receive peer link (m ∷ ms) i a =
      let before : Holds link (gone_now peer ms) m.pair.entries (receiver_now number peer link ms) (sender_now number peer link ms)
      = subst (λ (es : List Entry). Holds link (gone_now peer ms) es (receiver_now number peer link ms) (sender_now number peer link ms)) (sym i.0) (holds_now peer link ms i.1 a.1) in
      ((step_received peer link (gone_now peer ms) m.call m.pair m.listening (receiver_now number peer link ms) (sender_now number peer link ms) a.0 before).0, all_may_receive peer link ms i.1 a.1)

  pub all_may_send : (peer : Host) (link : ℕ) (ms : List Moment) → IsHistory peer ms → AreAllowed number peer link ms → MaySendAll number peer link ms
  all_may_send peer link [] i a = tt
  all_may_send peer link (m ∷ ms) i a =
      let before : Holds link (gone_now peer ms) m.pair.entries (receiver_now number peer link ms) (sender_now number peer link ms)
      = subst (λ (es : List Entry). Holds link (gone_now peer ms) es (receiver_now number peer link ms) (sender_now number peer link ms)) (sym i.0) (holds_now peer link ms i.1 a.1) in
      ((step_sent peer link (gone_now peer ms) m.call m.pair m.listening (receiver_now number peer link ms) (sender_now number peer link ms) a.0 before).may, all_may_send peer link ms i.1 a.1)

  pub all_keep_box : (peer : Host) (link : ℕ) (ms : List Moment) → IsHistory peer ms → AreAllowed number peer link ms → KeepBoxAll number peer link ms
  all_keep_box peer link [] i a = tt
  all_keep_box peer link (m ∷ ms) i a =
      let before : Holds link (gone_now peer ms) m.pair.entries (receiver_now number peer link ms) (sender_now number peer link ms)
      = subst (λ (es : List Entry). Holds link (gone_now peer ms) es (receiver_now number peer link ms) (sender_now number peer link ms)) (sym i.0) (holds_now peer link ms i.1 a.1) in
      (step_box peer link (gone_now peer ms) m.call m.pair m.listening (receiver_now number peer link ms) (sender_now number peer link ms) a.0 before, all_keep_box peer link ms i.1 a.1)

-- ---- such a number

pair_zero : (a b d : ℕ) → paired 0 b ≡ paired (suc a) d → ⊥
pair_zero a b d e = absurd (omega (arith, odd b _ e)) where
  odd : (b x : ℕ) → 2 * b + 1 ≡ 2 * x → 1 ≤ 0
  odd b x e = omega (arith, e)

paired_parts : (a b c d : ℕ) → paired a b ≡ paired c d → (a ≡ c) × (b ≡ d)
paired_parts zero b zero d e = (refl, omega (arith, e))
paired_parts zero b (suc c) d e = absurd (pair_zero c b d e)
paired_parts (suc a) b zero d e = absurd (pair_zero a d b (sym e))
paired_parts (suc a) b (suc c) d e =
    let half : paired a b ≡ paired c d = halves _ _ e in
    let rest : (a ≡ c) × (b ≡ d) = paired_parts a b c d half in
    (ap suc rest.0, rest.1) where
      halves : (x y : ℕ) → 2 * x ≡ 2 * y → x ≡ y
      halves x y e = omega (arith, e)

pub numbered_tells : IsTelling numbered
numbered_tells = record {
  own = λ a b g c d h e. (paired_parts a _ c _ e).0;
  foreign = λ a b g c d h e. (paired_parts b g d h (paired_parts a _ c _ e).1).0;
  gone = λ a b g c d h e. (paired_parts b g d h (paired_parts a _ c _ e).1).1;
}
