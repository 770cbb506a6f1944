-- One message at a time goes out on a link, and none is outstanding where an end closes.
use Rattle.host_keeps_streams.proofs.Common.{◌≡◌, ℕ, Bool, true, false, not, ◌&&◌, ◌==◌, List, [], ◌∷◌, ◌++◌, length, filter, Option, Some, None, refl, ap, sym, subst, ◌∙◌, inl, inr, eqb-true, ne_eqb, or_parts, Sender, has_cls, is_answered, is_busy, is_drained, is_due, is_link, is_receiving, must_close, sends_on, Entry, both, not_is, all_sent, AreSender, HasSender, NoneOpen, KeepBox, closes, named, numbers, is_among, AreApart, AreKnown}
use Rattle.std.proofs.Common.{eq-eqb}
use Rattle.std.proofs.lemmas.Bool.{or_from}
use Rattle.stream_law.specs.Senders as senders
use Rattle.stream_law.proofs.lemmas.{some_is}
use Rattle.host_keeps_streams.proofs.Known.{goes_some}
use Rattle.host_keeps_streams.proofs.Leaving.{due_open}
use Rattle.host_keeps_streams.proofs.Lists.{unlike}
use Rattle.host_keeps_streams.proofs.Names.{among_filter, not_like, or_right}

pub keep_both : (out : Bool) (xs ys : List senders.Move) (s : Sender) → KeepBox out xs s → KeepBox out ys (all_sent xs s) → KeepBox out (xs ++ ys) s
keep_both out [] ys s a b = b
keep_both out (x ∷ xs) ys s a b = (a.0, keep_both out xs ys (senders.moved x s) a.1 b)

module _ (name : ℕ → ℕ → ℕ) (busy : List ℕ) where
  -- each end that closes may do so
  abbrev AllSafe : Bool → List Entry → Sender → Type 0
  AllSafe out [] t = Unit {0}
  AllSafe out (y ∷ ys) t = ((must_close busy y && not (is_receiving y)) ≡ true → t.end ≡ Some (named name y) → t.opened ≡ true → out ≡ false) × AllSafe out ys t

  safe_closed : (out : Bool) (c : ℕ) (ys : List Entry) (t : Sender) → AllSafe out ys t → AllSafe out ys (senders.moved (senders.Close c) t)
  safe_closed out c [] t a = tt
  safe_closed out c (y ∷ ys) t a = ((λ m e o. a.0 m (goes_some c t.shut t.end _ e) o), safe_closed out c ys t a.1)

  keep_step : (out : Bool) (y : Entry) (ys : List Entry) (t : Sender) → AllSafe out (y ∷ ys) t → ((u : Sender) → AllSafe out ys u → KeepBox out (closes name busy ys) u) → (b : Bool) → (must_close busy y && not (is_receiving y)) ≡ b
      → KeepBox out (closes name busy (y ∷ ys)) t
  keep_step out y ys t a rest true m = rw m ((λ e o. a.0 m e o), rest (senders.moved (senders.Close (named name y)) t) (safe_closed out _ ys t a.1))
  keep_step out y ys t a rest false m = rw m (rest t a.1)

  keep_closes : (out : Bool) (ys : List Entry) (t : Sender) → AllSafe out ys t → KeepBox out (closes name busy ys) t
  keep_closes out [] t a = tt
  keep_closes out (y ∷ ys) t a = keep_step out y ys t a (keep_closes out ys) _ refl

  module _ (link : ℕ) where
    -- each of them is among all, and has another number than those on the link if it isn't on it
    abbrev AllOff : List Entry → List Entry → Type 0
    AllOff all [] = Unit {0}
    AllOff all (y ∷ ys) = (is_among (named name y) (numbers name all) ≡ true) × (sends_on link y ≡ false → is_among (named name y) (numbers name (filter (sends_on link) all)) ≡ false) × AllOff all ys

    off_one : (z y : Entry) (all : List Entry) → is_among (named name z) (numbers name all) ≡ false → is_among (named name y) (numbers name all) ≡ true → is_among (named name y) (numbers name (filter (sends_on link) all)) ≡ false → (b : Bool)
        → sends_on link z ≡ b → is_among (named name y) (numbers name (filter (sends_on link) (z ∷ all))) ≡ false
    off_one z y all n t off true o =
        let other : (named name z == named name y) ≡ false
        = ne_eqb (named name z) (named name y) (λ same. unlike (is_among (named name y) (numbers name all)) t (ap (λ (c : ℕ). is_among c (numbers name all)) (sym same) ∙ n)) in
        rw o (or_from (named name z == named name y) (is_among (named name y) (numbers name (filter (sends_on link) all))) other off)
    off_one z y all n t off false o = rw o off

    off_more : (z : Entry) (all ys : List Entry) → is_among (named name z) (numbers name all) ≡ false → AllOff all ys → AllOff (z ∷ all) ys
    off_more z all [] n a = tt
    off_more z all (y ∷ ys) n a =
        (or_right (named name z == named name y) (is_among (named name y) (numbers name all)) a.0, (λ o. off_one z y all n a.0 (a.1 o) (sends_on link z) refl), off_more z all ys n a.2)

    all_off : (es : List Entry) → AreApart (numbers name es) → AllOff es es
    all_off [] p = tt
    all_off (y ∷ ys) p =
        let same : (named name y == named name y) ≡ true = eq-eqb (named name y) (named name y) refl in
        (rw same refl, (λ o. rw o (among_filter name _ _ ys p.0)), off_more y ys ys p.0 (all_off ys p.1))

    -- one that closes and is the law's end is on the link, and has its answer
    answered_link : (y : Entry) → is_link link y.link ≡ true → is_answered busy y.link ≡ true → is_busy busy link ≡ false
    answered_link y on answered = by y.link on answered where
      by : (o : Option ℕ) → is_link link o ≡ true → is_answered busy o ≡ true → is_busy busy link ≡ false
      by None e f = absurd (cc)
      by (Some l) e f = let same : l ≡ link = eqb-true l link e in not_is _ (subst (λ (n : ℕ). not (is_busy busy n) ≡ true) same f)

    drained_answered : (y : Entry) → is_receiving y ≡ false → is_drained busy y ≡ true → is_answered busy y.link ≡ true
    drained_answered y i t = let r : (length y.bits == 0 && is_answered busy y.link) ≡ true = rw i at t in (both (length y.bits == 0) (is_answered busy y.link) r).1

    safe_one : (es : List Entry) (s : Sender) (y : Entry) → HasSender name link es s → (is_receiving y ≡ false → s.closed (named name y) ≡ has_cls y.closing)
        → (sends_on link y ≡ false → is_among (named name y) (numbers name (filter (sends_on link) es)) ≡ false)
        → (must_close busy y && not (is_receiving y)) ≡ true → s.end ≡ Some (named name y) → s.opened ≡ true → is_busy busy link ≡ false
    safe_one es s y h k off m e o = by (filter (sends_on link) es) refl where
      parts : (must_close busy y ≡ true) × (not (is_receiving y) ≡ true)
      parts = both (must_close busy y) (not (is_receiving y)) m

      sends : is_receiving y ≡ false
      sends = not_is (is_receiving y) parts.1

      due : (is_due y.closing ≡ true) × (is_drained busy y ≡ true)
      due = both (is_due y.closing) (is_drained busy y) parts.0

      none : NoneOpen s → is_busy busy link ≡ false
      none n = absurd (unlike (s.closed (named name y)) (n (named name y) e o) (k sends ∙ due_open y.closing due.0))

      here : (v : Bool) → sends_on link y ≡ v → (x : Entry) → filter (sends_on link) es ≡ x ∷ [] → s.end ≡ Some (named name x) → is_busy busy link ≡ false
      here true on x one end = answered_link y (both (not (is_receiving y)) (is_link link y.link) on).1 (drained_answered y sends due.1)
      here false away x one end =
          let apart : is_among (named name y) (numbers name (x ∷ [])) ≡ false = subst (λ (xs : List Entry). is_among (named name y) (numbers name xs) ≡ false) one (off away) in
          let same : named name x ≡ named name y = some_is (named name x) (named name y) (sym end ∙ e) in
          absurd (not_like _ _ (or_parts (named name x == named name y) false apart).0 same)

      by : (xs : List Entry) → filter (sends_on link) es ≡ xs → is_busy busy link ≡ false
      by [] one = none (subst (λ (xs : List Entry). AreSender name xs s) one h)
      by (x ∷ []) one =
          let a : AreSender name (x ∷ []) s = subst (λ (xs : List Entry). AreSender name xs s) one h in
          elim a [
            | inl i ↦ here _ refl x one i.end
            | inr n ↦ none n.none
          ]
      by (x ∷ z ∷ zs) one = absurd (subst (λ (xs : List Entry). AreSender name xs s) one h)

    safe_all : (es : List Entry) (s : Sender) → HasSender name link es s → (ys : List Entry) → AreKnown name ys s → AllOff es ys → AllSafe (is_busy busy link) ys s
    safe_all es s h [] k a = tt
    safe_all es s h (y ∷ ys) k a = ((λ m e o. safe_one es s y h (λ i. (k.0 i).closed) a.1 m e o), safe_all es s h ys k.1 a.2)

    -- whatever closes may
    pub settled_box : (es : List Entry) (s : Sender) → HasSender name link es s → AreKnown name es s → AreApart (numbers name es) → KeepBox (is_busy busy link) (closes name busy es) s
    settled_box es s h k p = keep_closes _ es s (safe_all es s h es k (all_off es p))
