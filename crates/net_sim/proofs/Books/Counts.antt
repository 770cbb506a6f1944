-- The counts of lives stay within what the changes that were written allow.
use Rattle.net_sim.proofs.Common.{◌≡◌, ℕ, ◌≤◌, zero, suc, List, [], ◌∷◌, ◌++◌, length, take, slice_set, ap, sym, subst, ◌∙◌, arith, All-cons, All-head, All-tail, All-weaker, take-append_seam, Life, AreWithin, IsWithin, LivesState, AreKept, changed_here, Undo, all_undone, life_back, reopened, undone}
use Rattle.std.proofs.lemmas.List.Elements.{All-set, All-take}
use Rattle.net_sim.specs.Inside.Undo.{Mark}
use Rattle.net_sim.specs.declared.undo.Undo.TheVariants as undo
use Rattle.net_sim.proofs.Books.Marks.{kept_long}

-- more changes allow more
pub counts_later : (n m : ℕ) (x : Life) → n ≤ m → IsWithin n x → IsWithin m x
counts_later n m x le h = record {
  messages = omega arith;
  granted_messages = omega arith;
  granted_bits = omega arith;
  returned_messages = omega arith;
  returned_bits = omega arith;
}

-- a life changed at a place
pub counts_set : (n m : ℕ) (xs : List Life) (at : ℕ) (y : Life) → n ≤ m → AreWithin n xs → IsWithin m y → AreWithin m (slice_set xs at y)
counts_set n m xs at y le h is = All-set (IsWithin m) xs at y is (All-weaker (IsWithin n) (IsWithin m) (λ x one. counts_later n m x le one) xs h)

-- what a loop made of the lives is in their place
pub counts_put : (n : ℕ) (xs ys zs : List Life) (k : ℕ) → k ≡ length xs → AreKept xs ys → AreWithin n ys → AreWithin n (take k (ys ++ zs))
counts_put n xs ys zs k long kept h =
    subst (λ (all : List Life). AreWithin n all) (sym (ap (λ (j : ℕ). take j (ys ++ zs)) (long ∙ sym (kept_long xs ys kept)) ∙ take-append_seam ys zs)) h

-- ---- what was done is taken back

back_within : (n : ℕ) (m : Mark) (x : Life) → IsWithin n x → IsWithin n (life_back m x)
back_within n m x h = record {
  messages = omega arith;
  granted_messages = omega arith;
  granted_bits = omega arith;
  returned_messages = omega arith;
  returned_bits = omega arith;
}

reopened_within : (n : ℕ) (x : Life) → IsWithin n x → IsWithin n (reopened x)
reopened_within n x h = record {
  messages = h.messages;
  granted_messages = h.granted_messages;
  granted_bits = h.granted_bits;
  returned_messages = h.returned_messages;
  returned_bits = h.returned_bits;
}

here_within : (f : Life → Life) (n : ℕ) → ((x : Life) → IsWithin n x → IsWithin n (f x)) → (at : ℕ) (xs : List Life) → AreWithin n xs → AreWithin n (changed_here f at xs)
here_within f n keeps at [] h = h
here_within f n keeps zero (x ∷ xs) h = All-cons (IsWithin n) (f x) xs (keeps x (All-head (IsWithin n) x xs h)) (All-tail (IsWithin n) x xs h)
here_within f n keeps (suc at) (x ∷ xs) h =
    All-cons (IsWithin n) x (changed_here f at xs) (All-head (IsWithin n) x xs h) (here_within f n keeps at xs (All-tail (IsWithin n) x xs h))

one_within : (n : ℕ) (u : Undo) (s : LivesState) → AreWithin n s.lives → AreWithin n (undone u s).lives
one_within n (undo.Begun lives handed fates) s h = All-take (IsWithin n) lives s.lives h
one_within n (undo.Ended at) s h = here_within reopened n (λ x is. reopened_within n x is) at s.lives h
one_within n (undo.Changed at was) s h = here_within (life_back was) n (λ x is. back_within n was x is) at s.lives h
one_within n (undo.Handed at bits) s h = h
one_within n (undo.Turned at was) s h = h

pub counts_undone : (n : ℕ) (us : List Undo) (s : LivesState) → AreWithin n s.lives → AreWithin n (all_undone us s).lives
counts_undone n [] s h = h
counts_undone n (u ∷ us) s h = one_within n u (all_undone us s) (counts_undone n us s h)
