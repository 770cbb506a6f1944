-- Functions by link that are changed at one link.
use Rattle.std.proofs.Common.{◌≡◌, ◌≢◌, ◌⊎◌, ℕ, Bool, true, false, Option, None, refl, ap, sym, ◌∙◌, inl, inr, ◌==◌, if◌then◌else◌, eq-eqb}
use Rattle.std.proofs.lemmas.Bool.{eqb-true}
use Rattle.reset_law.specs.Boxes.{Box, Empty, Waiting, Taken, fetched, at_link}
use Rattle.reset_law.specs.Pairs.{Kind}
use Rattle.reset_law.specs.Invariant.{kind_in, is_signal}

-- at the link itself it has the new value, and elsewhere the old one
pub at : {A : Type 0} (f : ℕ → A) (l : ℕ) (x : A) (k : ℕ) → ((k ≡ l) × (at_link f l x k ≡ x)) ⊎ ((k ≢ l) × (at_link f l x k ≡ f k))
at {A} f l x k = by (k == l) refl where
  by : (b : Bool) → (k == l) ≡ b → ((k ≡ l) × (at_link f l x k ≡ x)) ⊎ ((k ≢ l) × (at_link f l x k ≡ f k))
  by true e = inl (eqb-true k l e, rw e refl)
  by false e = inr ((λ same. let both : true ≡ false = sym (eq-eqb k l same) ∙ e in absurd (cc)), rw e refl)

-- what is outstanding, by boxes that are changed at one link
kinds : (b : Bool) (x y : Box) → (if b then kind_in x else kind_in y) ≡ kind_in (if b then x else y)
kinds true x y = refl
kinds false x y = refl

pub boxed_at : (out : ℕ → Option Kind) (boxes : ℕ → Box) (l : ℕ) (x : Box) → ((k : ℕ) → out k ≡ kind_in (boxes k)) → (k : ℕ) → at_link out l (kind_in x) k ≡ kind_in (at_link boxes l x k)
boxed_at out boxes l x h k = ap (λ (o : Option Kind). if k == l then kind_in x else o) (h k) ∙ kinds _ x _

-- a message that is taken is still outstanding
pub fetched_kind : (x : Box) → kind_in (fetched x) ≡ kind_in x
fetched_kind Empty = refl
fetched_kind (Waiting p m) = refl
fetched_kind (Taken p m) = refl

pub boxed_fetched : (out : ℕ → Option Kind) (boxes : ℕ → Box) (l : ℕ) → ((k : ℕ) → out k ≡ kind_in (boxes k)) → (k : ℕ) → out k ≡ kind_in (at_link boxes l (fetched (boxes l)) k)
boxed_fetched out boxes l h k = elim (at boxes l (fetched (boxes l)) k) [
  | inl t ↦ (h k ∙ ap (λ (j : ℕ). kind_in (boxes j)) t.0 ∙ sym (fetched_kind (boxes l)) ∙ ap kind_in (sym t.1))
  | inr t ↦ (h k ∙ ap kind_in (sym t.1))
]

-- nothing is a signal where nothing is outstanding
pub no_signal : (o : Option Kind) → o ≡ None → is_signal o ≡ true → ⊥
no_signal o none signal = let both : true ≡ false = sym signal ∙ ap is_signal none in absurd (cc)
