-- Cutting words apart.
use Rattle.script.proofs.Common.{false≢true, nat_tests, All, Lacks}
use Rattle.std.proofs.Common.{◌≡◌, ◌≢◌, ℕ, ◌==◌, true, false, List, [], ◌∷◌, ◌++◌, refl, sym, ap, ap₂, ◌∙◌, arith, subst}
use Rattle.std.proofs.lemmas.List.Elements.{All-head, All-tail, All-weaker}
use Rattle.script.proofs.Lines.{same_first}

self_mark : (mark : ℕ) → (mark == mark) ≡ true
self_mark mark = grind (arith, nat_tests)

-- the first octet, and those after it
unmarked_first : (mark x : ℕ) (xs : List ℕ) → Lacks mark (x ∷ xs) → (x == mark) ≡ false
unmarked_first mark x xs h = All-head (λ z. (z == mark) ≡ false) x xs h

unmarked_rest : (mark x : ℕ) (xs : List ℕ) → Lacks mark (x ∷ xs) → Lacks mark xs
unmarked_rest mark x xs h = All-tail (λ z. (z == mark) ≡ false) x xs h

-- what has no mark is not cut by one
pub uncut : (mark : ℕ) (front back : List ℕ) → Lacks mark (front ++ mark ∷ back) → ⊥
uncut mark [] back h = false≢true (sym (unmarked_first mark mark back h) ∙ self_mark mark)
uncut mark (x ∷ front) back h = uncut mark front back (unmarked_rest mark x (front ++ mark ∷ back) h)

-- a list is cut at its first mark in one way
pub record SameCut {X : Type 0} (a b c d : List X) : Type 0 where
  pub front : a ≡ c
  pub back : b ≡ d

rest_same : {X : Type 0} {x y : X} {xs ys : List X} → x ∷ xs ≡ y ∷ ys → xs ≡ ys
rest_same e = cc

pub same_parts : {X : Type 0} (mark : X) (a b c d : List X) → All (λ x. x ≢ mark) a → All (λ x. x ≢ mark) c → a ++ mark ∷ b ≡ c ++ mark ∷ d → SameCut a b c d
same_parts {X} mark [] b [] d ha hc e = record { front = refl; back = rest_same e }
same_parts {X} mark [] b (y ∷ c) d ha hc e = absurd (All-head (λ x. x ≢ mark) y c hc (sym (same_first e)))
same_parts {X} mark (x ∷ a) b [] d ha hc e = absurd (All-head (λ x. x ≢ mark) x a ha (same_first e))
same_parts {X} mark (x ∷ a) b (y ∷ c) d ha hc e =
    let rest : SameCut a b c d = same_parts mark a b c d (All-tail (λ z. z ≢ mark) x a ha) (All-tail (λ z. z ≢ mark) y c hc) (rest_same e) in
    record { front = ap₂ (λ z zs. z ∷ zs) (same_first e) rest.front; back = rest.back }

all_differ : (mark : ℕ) (xs : List ℕ) → Lacks mark xs → All (λ x. x ≢ mark) xs
all_differ mark xs h = All-weaker (λ x. (x == mark) ≡ false) (λ x. x ≢ mark) (λ x differs is. false≢true (sym differs ∙ ap (λ z. z == mark) is ∙ self_mark mark)) xs h

-- the same of words
pub same_cut : (mark : ℕ) (a b c d : List ℕ) → Lacks mark a → Lacks mark c → a ++ mark ∷ b ≡ c ++ mark ∷ d → SameCut a b c d
same_cut mark a b c d ha hc e = same_parts mark a b c d (all_differ mark a ha) (all_differ mark c hc) e

-- a word that spells something in two parts is cut into these parts
pub not_cut : {X : Type 0} (mark : ℕ) (word : List ℕ) (front back : X → List ℕ) (IsMeant : X → Type 0) → Lacks mark word → (x : X) → IsMeant x → word ≢ front x ++ mark ∷ back x
not_cut {X} mark word front back IsMeant h = λ x meant e. uncut mark (front x) (back x) (subst (Lacks mark) e h)

pub not_front : {X : Type 0} (mark : ℕ) (word a b : List ℕ) (front back : X → List ℕ) (IsMeant : X → Type 0) → word ≡ a ++ mark ∷ b → Lacks mark a → ((x : X) → IsMeant x → Lacks mark (front x)) → ((x : X) → IsMeant x → a ≢ front x) → (x : X) → IsMeant x → word ≢ front x ++ mark ∷ back x
not_front {X} mark word a b front back IsMeant is ha hfront differs = λ x meant e.
    let same : SameCut a b (front x) (back x) = same_cut mark a b (front x) (back x) ha (hfront x meant) (sym is ∙ e) in
    differs x meant same.front

pub not_back : {X : Type 0} (mark : ℕ) (word a b : List ℕ) (front back : X → List ℕ) (IsMeant : X → Type 0) → word ≡ a ++ mark ∷ b → Lacks mark a → ((x : X) → IsMeant x → Lacks mark (front x)) → ((x : X) → IsMeant x → b ≢ back x) → (x : X) → IsMeant x → word ≢ front x ++ mark ∷ back x
not_back {X} mark word a b front back IsMeant is ha hfront differs = λ x meant e.
    let same : SameCut a b (front x) (back x) = same_cut mark a b (front x) (back x) ha (hfront x meant) (sym is ∙ e) in
    differs x meant same.back

-- three words, with a mark between each two
pub record SameThree (a b c d e f : List ℕ) : Type 0 where
  pub first : a ≡ d
  pub second : b ≡ e
  pub third : c ≡ f

pub same_three : (mark : ℕ) (a b c d e f : List ℕ) → Lacks mark a → Lacks mark b → Lacks mark d → Lacks mark e → a ++ mark ∷ (b ++ mark ∷ c) ≡ d ++ mark ∷ (e ++ mark ∷ f) → SameThree a b c d e f
same_three mark a b c d e f ha hb hd he is =
    let outer : SameCut a (b ++ mark ∷ c) d (e ++ mark ∷ f) = same_cut mark a (b ++ mark ∷ c) d (e ++ mark ∷ f) ha hd is in
    let inner : SameCut b c e f = same_cut mark b c e f hb he outer.back in
    record { first = outer.front; second = inner.front; third = inner.back }

-- where a mark is wanting, there are no three words
pub no_mark : (mark : ℕ) (word : List ℕ) → Lacks mark word → (a b c : List ℕ) → word ≢ a ++ mark ∷ (b ++ mark ∷ c)
no_mark mark word h a b c e = uncut mark a (b ++ mark ∷ c) (subst (Lacks mark) e h)

twice_unmarked : (mark : ℕ) (x y a b c : List ℕ) → Lacks mark x → Lacks mark y → x ++ mark ∷ y ≡ a ++ mark ∷ (b ++ mark ∷ c) → ⊥
twice_unmarked mark [] y [] b c hx hy e = uncut mark b c (subst (Lacks mark) (rest_same e) hy)
twice_unmarked mark [] y (z ∷ a) b c hx hy e = uncut mark a (b ++ mark ∷ c) (subst (Lacks mark) (rest_same e) hy)
twice_unmarked mark (z ∷ x) y [] b c hx hy e =
    let first : z ≡ mark = same_first e in
    absurd (false≢true (sym (unmarked_first mark z x hx) ∙ ap (λ v. v == mark) first ∙ self_mark mark))
twice_unmarked mark (z ∷ x) y (v ∷ a) b c hx hy e = twice_unmarked mark x y a b c (unmarked_rest mark z x hx) hy (rest_same e)

pub no_second_mark : (mark : ℕ) (word x y : List ℕ) → word ≡ x ++ mark ∷ y → Lacks mark x → Lacks mark y → (a b c : List ℕ) → word ≢ a ++ mark ∷ (b ++ mark ∷ c)
no_second_mark mark word x y is hx hy a b c e = twice_unmarked mark x y a b c hx hy (sym is ∙ e)
