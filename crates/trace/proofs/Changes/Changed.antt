-- Which members are among those that have changed.
use Rattle.trace.proofs.Common.{◌≡◌, ◌⊎◌, inl, inr, ℕ, suc, ◌<◌, Bool, true, false, nat_eq, List, [], ◌∷◌, ◌++◌, length, arith, refl, sym, ap, subst, ◌∙◌, bytes_decides, pointwise, changed}
use Rattle.std.proofs.lemmas.List.Elements.{Contains-append_cases, Contains-append_left, Contains-append_right}
use Rattle.std.specs.List.{Contains}
use Rattle.trace.proofs.Changes.Changing.{first, unless}

-- one more at the beginning of each list
abbrev IsKept : List (List ℕ) → List (List ℕ) → List ℕ → Type 0
IsKept news olds x = Contains news x ⊎ Contains olds x

later_kept : (news olds front back : List (List ℕ)) (x : List ℕ) → IsKept news olds x → IsKept (front ++ news) (back ++ olds) x
later_kept news olds front back x (inl h) = inl (Contains-append_right front news x h)
later_kept news olds front back x (inr h) = inr (Contains-append_right back olds x h)

-- the first is among those that have changed unless it is as it was
first_kept : (same : Bool) (was now x : List ℕ) (before news : List (List ℕ)) → pointwise nat_eq was now ≡ same → Contains (now ∷ []) x → IsKept (unless same now ++ news) (was ∷ before) x
first_kept true was now x before news e h =
    let is : now ≡ was = sym ((bytes_decides was now).0 e) in
    inr (Contains-append_left (was ∷ []) before x (subst (λ (t : List ℕ). Contains (t ∷ []) x) is h))
first_kept false was now x before news e h = inl (Contains-append_left (now ∷ []) news x h)

pub kept : (before now : List (List ℕ)) (x : List ℕ) → Contains now x → Contains (changed before now) x ⊎ Contains before x
kept before [] x h = absurd (let past : h.0 < 0 = h.1 in omega (arith, past))
kept [] (n ∷ later) x h = elim (Contains-append_cases (n ∷ []) later x h) [
  | inl here ↦ inl (Contains-append_left (n ∷ []) (changed [] later) x here)
  | inr there ↦ later_kept _ [] (n ∷ []) [] x (kept [] later x there)
]
kept (w ∷ before) (n ∷ later) x h =
    let same : Bool = pointwise nat_eq w n in
    let news : List (List ℕ) = changed before later in
    subst (λ (xs : List (List ℕ)). IsKept xs (w ∷ before) x) (sym (first w n before later))
    (elim (Contains-append_cases (n ∷ []) later x h) [
      | inl here ↦ first_kept same w n x before news refl here
      | inr there ↦ later_kept news before _ (w ∷ []) x (kept before later x there)
    ])

unless_it : (same : Bool) (now x : List ℕ) → Contains (unless same now) x → Contains (now ∷ []) x
unless_it true now x h = absurd (let past : h.0 < 0 = h.1 in omega (arith, past))
unless_it false now x h = h

pub only : (before now : List (List ℕ)) (x : List ℕ) → Contains (changed before now) x → Contains now x
only before [] x h = h
only [] (n ∷ later) x h = elim (Contains-append_cases (n ∷ []) (changed [] later) x h) [
  | inl here ↦ Contains-append_left (n ∷ []) later x here
  | inr there ↦ Contains-append_right (n ∷ []) later x (only [] later x there)
]
only (w ∷ before) (n ∷ later) x h =
    let same : Bool = pointwise nat_eq w n in
    elim (Contains-append_cases (unless same n) (changed before later) x (subst (λ (xs : List (List ℕ)). Contains xs x) (first w n before later) h)) [
      | inl here ↦ Contains-append_left (n ∷ []) later x (unless_it same n x here)
      | inr there ↦ Contains-append_right (n ∷ []) later x (only before later x there)
    ]

-- ---- none

none_more : (w n : List ℕ) (before later : List (List ℕ)) (same : Bool) → pointwise nat_eq w n ≡ same → (changed before later ≡ [] → later ≡ before) → unless same n ++ changed before later ≡ [] → n ∷ later ≡ w ∷ before
none_more w n before later true e more none = ap (λ (x : List ℕ). x ∷ later) (sym ((bytes_decides w n).0 e)) ∙ ap (λ (xs : List (List ℕ)). w ∷ xs) (more none)
none_more w n before later false e more none = absurd (let long : suc (length (changed before later)) ≡ 0 = ap length none in omega (arith, long))

pub none : (before now : List (List ℕ)) → length before ≡ length now → changed before now ≡ [] → now ≡ before
none [] [] long is = refl
none [] (n ∷ later) long is = absurd (omega (arith, long))
none (w ∷ before) [] long is = absurd (omega (arith, long))
none (w ∷ before) (n ∷ later) long is =
    let less : length before ≡ length later = omega (arith, long) in
    none_more w n before later _ refl (none before later less) (sym (first w n before later) ∙ is)

pub none_changed : (now : List (List ℕ)) → changed now now ≡ []
none_changed [] = refl
none_changed (n ∷ later) = first n n later later ∙ ap (λ (t : Bool). unless t n ++ changed later later) ((bytes_decides n n).1 refl) ∙ none_changed later
