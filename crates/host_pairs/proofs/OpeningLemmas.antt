-- A pair in its initial state.
pub use Rattle.interface.proofs.lemmas.{not_true as not_is}
pub use Rattle.std.proofs.lemmas.Bool.{and_parts as both}
use Rattle.std.proofs.Common.{◌≡◌, ℕ, Bool, true, false, ◌&&◌, ◌||◌, ◌==◌, not, List, [], ◌∷◌, length, refl, ap, ◌∙◌, arith}
use Rattle.std.proofs.lemmas.Bool.{eqb-true}
use Rattle.ncp_control.specs.declared.command.Command.{Command}
use Rattle.host_pairs.specs.Pair.{PairState, opening_pair, is_opening}
use Rattle.ncp_control.specs.Phases.{is_closed}
use Rattle.host_pairs.specs.declared.entry.Entry.{Entry}
use Rattle.ncp_control.specs.declared.phase.Phase.{Phase}
use Rattle.ncp_control.specs.declared.phase.Phase.TheVariants as phase

-- ---- a pair in its initial state

pub none_of : {A : Type 0} (xs : List A) → (length xs == 0) ≡ true → xs ≡ []
none_of [] e = refl
none_of (x ∷ xs) e = absurd (let z : length (x ∷ xs) ≡ 0 = eqb-true (length (x ∷ xs)) 0 e in omega (arith, z))

closed_is : (p : Phase) → is_closed p ≡ true → p ≡ phase.Closed
closed_is phase.Closed e = refl
closed_is phase.Want e = absurd (cc)
closed_is (phase.Gone early) e = absurd (cc)
closed_is phase.Heard e = absurd (cc)
closed_is phase.Ready e = absurd (cc)

abbrev pair_of : Phase → Bool → List ℕ → List Entry → List Command → PairState
pair_of p o b e q = record { phase = p; owed = o; busy = b; entries = e; queue = q }

pub opening_is : (q : PairState) → is_opening q ≡ true → q ≡ opening_pair
opening_is q e =
    let a : ((is_closed q.phase && not q.owed && length q.busy == 0 && length q.entries == 0) ≡ true) × ((length q.queue == 0) ≡ true) = both _ _ e in
    let b : ((is_closed q.phase && not q.owed && length q.busy == 0) ≡ true) × ((length q.entries == 0) ≡ true) = both _ _ a.0 in
    let c : ((is_closed q.phase && not q.owed) ≡ true) × ((length q.busy == 0) ≡ true) = both _ _ b.0 in
    let d : (is_closed q.phase ≡ true) × (not q.owed ≡ true) = both _ _ c.0 in
    ap (λ p. pair_of p q.owed q.busy q.entries q.queue) (closed_is q.phase d.0)
    ∙ ap (λ o. pair_of phase.Closed o q.busy q.entries q.queue) (not_is q.owed d.1)
    ∙ ap (λ x. pair_of phase.Closed false x q.entries q.queue) (none_of q.busy c.1)
    ∙ ap (λ x. pair_of phase.Closed false [] x q.queue) (none_of q.entries b.1)
    ∙ ap (λ x. pair_of phase.Closed false [] [] x) (none_of q.queue a.1)
