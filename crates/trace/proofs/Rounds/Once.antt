-- Where a carrier's calls leave a replay no choice, an event has one trace, and what is traced where memory runs out is
-- the first part of it.
use Rattle.trace.proofs.Common.{◌≡◌, ◌⊎◌, inl, inr, ℕ, List, [], ◌∷◌, ◌++◌, refl, sym, ap, ap₂, ◌∙◌, subst, Calls, Shown, AreSettled, Element, Spot, trace_line, EndsEvent, EndsRound, Inside, IsStill, StopsElement, TellsElement, TellsEvent, TellsMoving, TellsRound, TellsRounds, change_text}
use Rattle.std.proofs.lemmas.List.{append_assoc, append-nil}
use Rattle.replay.proofs.lemmas.{OneReplay, ends_front, in_turn_once, replays_once}
use Rattle.replay.specs.InTurn.{HappensOnce, InTurn, ShowsFront}
use Rattle.trace.proofs.Rounds.Whole.{Opened, none_told, opened_rounds}

-- ---- an elementary event

pub element_once : {C : Type 0} (calls : Calls C) (inside : Inside C) → AreSettled calls → (spot : Spot)
    → HappensOnce (TellsElement calls inside spot)
element_once {C} calls inside settled spot old x new other lines more (shown, h, is) (others, k, are) =
    let one : OneReplay new other shown others = replays_once calls settled old (x.event ∷ []) new other shown others
    (new, shown, [], h, (refl, refl), sym (append-nil shown))
    (other, others, [], k, (refl, refl), sym (append-nil others)) in (
      one.carriers,
      is ∙ ap₂ (λ (c : C) (s : List Shown). trace_line spot x (inside.fate old x.event) s
          (change_text inside old c) ∷ []) one.carriers one.lines ∙ sym are,
    )

-- the one in which memory ran out has no line
stops_front : {C : Type 0} (calls : Calls C) (inside : Inside C) (spot : Spot)
    → ShowsFront (StopsElement calls) (TellsElement calls inside spot)
stops_front calls inside spot old x new other part whole (inl h) k = (whole, sym (ap (λ xs. xs ++ whole) h.1))
stops_front calls inside spot old x new other part whole (inr h) k = (whole, sym (ap (λ xs. xs ++ whole) h.1))

-- ---- rounds

module _ {C : Type 0} (calls : Calls C) (inside : Inside C) (settled : AreSettled calls) (spot : Spot) where
  round_once : HappensOnce (TellsRound calls inside spot)
  round_once old round new other lines more h k =
      in_turn_once _
      (element_once calls inside settled spot) old round new other lines more h k

  rounds_once : (rounds : List (List Element)) (old new other : C) (lines more : List (List ℕ))
      → TellsRounds calls inside spot old rounds new lines → TellsRounds calls inside spot old rounds other more
      → (new ≡ other) × (lines ≡ more)
  rounds_once [] old new other lines more h k =
      let one = none_told calls inside spot old new lines h in
      let two = none_told calls inside spot old other more k in
      (one.0 ∙ sym two.0, one.1 ∙ sym two.1)
  rounds_once (round ∷ rounds) old new other lines more h k =
      by (λ from ls ms one two. rounds_once rounds from new other ls ms one two)
      (opened_rounds calls inside spot old round rounds new lines h)
      (opened_rounds calls inside spot old round rounds other more k) where
        by : ((from : C) (ls ms : List (List ℕ)) → TellsRounds calls inside spot from rounds new ls
            → TellsRounds calls inside spot from rounds other ms → (new ≡ other) × (ls ≡ ms))
            → Opened calls inside spot old round rounds new lines → Opened calls inside spot old round rounds other more
            → (new ≡ other) × (lines ≡ more)
        by onward o p = after o.after p.after where
          both : (o.mid ≡ p.mid) × (o.first ≡ p.first)
          both = round_once old round o.mid p.mid o.first p.first o.told p.told

          all : o.rest ≡ p.rest → lines ≡ more
          all same = o.all ∙ ap₂ (λ (xs ys : List (List ℕ)). xs ++ ys) both.1 same ∙ sym p.all

          after : (IsStill calls inside old o.mid × (new ≡ o.mid) × (o.rest ≡ []))
              ⊎ ((IsStill calls inside old o.mid → ⊥) × TellsRounds calls inside spot o.mid rounds new o.rest)
              → (IsStill calls inside old p.mid × (other ≡ p.mid) × (p.rest ≡ []))
              ⊎ ((IsStill calls inside old p.mid → ⊥) × TellsRounds calls inside spot p.mid rounds other p.rest)
              → (new ≡ other) × (lines ≡ more)
          after (inl (still, last, none)) (inl (quiet, end, nothing)) =
              (last ∙ both.0 ∙ sym end, all (none ∙ sym nothing))
          after (inl (still, last, none)) (inr (moved, later)) =
              absurd (moved (subst (λ (c : C). IsStill calls inside old c) both.0 still))
          after (inr (moved, later)) (inl (still, last, none)) =
              absurd (moved (subst (λ (c : C). IsStill calls inside old c) (sym both.0) still))
          after (inr (moved, later)) (inr (apart, others)) =
              let one = onward p.mid o.rest p.rest
              (subst (λ (c : C). TellsRounds calls inside spot c rounds new o.rest) both.0 later) others in
              (one.0, all one.1)

  -- the round in which memory ran out shows the first part of what it would show
  round_front : ShowsFront (EndsRound calls inside (StopsElement calls) spot) (TellsRound calls inside spot)
  round_front old round new other part whole h k =
      ends_front _ _ (element_once calls inside settled spot)
      (stops_front calls inside spot) old round new other part whole h k

  rounds_front : (done : List (List Element)) (last : List Element) (left : List (List Element)) (old mid new other : C)
      (front own whole : List (List ℕ)) → InTurn (TellsMoving calls inside spot) old done mid front
      → EndsRound calls inside (StopsElement calls) spot mid last new own
      → TellsRounds calls inside spot old (done ++ last ∷ left) other whole → (rest : List (List ℕ))
      × (whole ≡ (front ++ own) ++ rest)
  rounds_front [] last left old mid new other front own whole before goes k =
      by (opened_rounds calls inside spot old last left other whole k) where
        by : Opened calls inside spot old last left other whole → (rest : List (List ℕ))
            × (whole ≡ (front ++ own) ++ rest)
        by o =
            let (more, is) = round_front old last new o.mid own o.first
            (subst (λ (c : C). EndsRound calls inside (StopsElement calls) spot c last new own) before.0 goes)
            o.told in (
              more ++ o.rest,
              o.all ∙ ap (λ ls. ls ++ o.rest) is ∙ append_assoc own more o.rest
                  ∙ ap (λ ls. (ls ++ own) ++ (more ++ o.rest)) (sym before.1),
            )
  rounds_front (d ∷ done) last left old mid new other front own whole
      (next, first, rest, (told, moved), later, all) goes k =
      by (λ others. rounds_front done last left next mid new other rest own others.0 later goes others.1)
      (opened_rounds calls inside spot old d _ other whole k)
    where
      by : ((others : (shown : List (List ℕ)) × TellsRounds calls inside spot next (done ++ last ∷ left) other shown)
          → (more : List (List ℕ)) × (others.0 ≡ (rest ++ own) ++ more))
          → Opened calls inside spot old d (done ++ last ∷ left) other whole
          → (more : List (List ℕ)) × (whole ≡ (front ++ own) ++ more)
      by onward o = after o.after where
        both : (next ≡ o.mid) × (first ≡ o.first)
        both = round_once old d next o.mid first o.first told o.told

        after : (IsStill calls inside old o.mid × (other ≡ o.mid) × (o.rest ≡ []))
            ⊎ ((IsStill calls inside old o.mid → ⊥)
            × TellsRounds calls inside spot o.mid (done ++ last ∷ left) other o.rest) → (more : List (List ℕ))
            × (whole ≡ (front ++ own) ++ more)
        after (inl (still, end, none)) = absurd
            (moved (subst (λ (c : C). IsStill calls inside old c) (sym both.0) still))
        after (inr (apart, others)) =
            let (more, is) = onward (
              o.rest,
              subst
                  (λ (c : C). TellsRounds calls inside spot c (done ++ last ∷ left) other o.rest) (sym both.0) others,
            ) in (
              more,
              o.all ∙ ap₂ (λ (xs ys : List (List ℕ)). xs ++ ys) (sym both.1) is
                  ∙ sym (append_assoc first (rest ++ own) more)
                  ∙ ap (λ ls. ls ++ more) (sym (append_assoc first rest own))
                  ∙ ap (λ ls. (ls ++ own) ++ more) (sym all),
            )

-- ---- an event

pub event_once : {C : Type 0} (calls : Calls C) (inside : Inside C) → AreSettled calls
    → HappensOnce (TellsEvent calls inside)
event_once calls inside settled old e new other lines more h k =
    rounds_once calls inside settled e.0 _ old new other lines more h k

pub event_front : {C : Type 0} (calls : Calls C) (inside : Inside C) → AreSettled calls
    → ShowsFront (EndsEvent calls inside (StopsElement calls)) (TellsEvent calls inside)
event_front calls inside settled old e new other part whole h k =
    let (rest, is) = rounds_front calls inside settled e.0 h.done h.last h.left old h.mid new other _ h.own whole
    h.before h.goes
    (subst (λ (rounds : List (List Element)). TellsRounds calls inside e.0 old rounds other whole) h.parts k) in
    (rest, is ∙ ap (λ ls. ls ++ rest) (sym h.lines))
