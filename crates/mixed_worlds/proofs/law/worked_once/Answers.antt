use Rattle.mixed_worlds.proofs.Common.{◌≡◌, List, [], ◌∷◌, ◌++◌, refl, ap, sym, ◌∙◌, arith, Life, second, third}
use Rattle.net_sim.specs.Book.{new_life}
use Rattle.mixed_worlds.specs.Worked.{sending_life, receiving_life}
use Rattle.promise.specs.Safe.{AreTwo, Name}
use Rattle.mixed_worlds.proofs.law.worked_once.Goals as goal

pub returns-clause-own : goal.returns-clause-own
returns-clause-own c once = once.own sending_life (new_life second 33 third 16 8 9) ([], [], [], refl) refl

pub returns-clause-partner : goal.returns-clause-partner
returns-clause-partner c once = once.partner sending_life (new_life second 33 third 16 9 7) ([], [], [], refl) refl

-- the two lives of a list of two
abbrev later : List Life → List Life
later [] = []
later (x ∷ xs) = xs

none_more : (y : Life) (front rest : List Life) → [] ≡ front ++ y ∷ rest → ⊥
none_more y [] rest is = absurd (let clash : [] ≡ y ∷ rest = is in cc)
none_more y (x ∷ front) rest is = absurd (let clash : [] ≡ x ∷ front ++ y ∷ rest = is in cc)

record AreThese (x y : Life) : Type 0 where
  first : sending_life ≡ x
  other : receiving_life ≡ y

head_is : (x y : Life) (xs ys : List Life) → x ∷ xs ≡ y ∷ ys → x ≡ y
head_is x y xs ys is = cc

these : (x y : Life) → AreTwo (sending_life ∷ receiving_life ∷ []) x y → AreThese x y
these x y ([], [], rest, is) = record {
  first = head_is sending_life x (receiving_life ∷ []) (y ∷ rest) is;
  other = head_is receiving_life y [] rest (ap later is);
}
these x y ([], z ∷ between, rest, is) = absurd (none_more y between rest (ap (λ (l : List Life). later (later l)) is))
these x y (f ∷ [], between, rest, is) = absurd (none_more y between rest (ap (λ (l : List Life). later (later l)) is))
these x y (f ∷ g ∷ front, between, rest, is) = absurd
    (none_more y (front ++ x ∷ between) rest (ap (λ (l : List Life). later (later l)) is))

pub returns-clause-together : goal.returns-clause-together
returns-clause-together c = record {
  own = λ x y two same.
      (let t : AreThese x y = these x y two in
      let clash : 33 ≡ 16 = ap (λ (z : Life). z.socket) t.first ∙ ap (λ (n : Name). n.own) same
      ∙ sym (ap (λ (z : Life). z.socket) t.other) in absurd (omega (arith, clash)));
  partner = λ x y two same.
      (let t : AreThese x y = these x y two in
      let clash : 33 ≡ 16 = ap (λ (z : Life). z.socket) t.first ∙ ap (λ (n : Name). n.foreign) same
      ∙ sym (ap (λ (z : Life). z.socket) t.other) in absurd (omega (arith, clash)));
}
