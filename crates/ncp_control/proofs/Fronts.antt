-- The longest prefix of whole commands.
use Rattle.std.proofs.Common.{◌≡◌, ℕ, zero, suc, ◌+◌, ◌-◌, ◌<◌, ◌≤◌, nat_le, true, false, List, [], ◌∷◌, length, take, refl, sym, ◌∙◌, arith, add-one, inl, inr, subst}
use Rattle.std.proofs.lemmas.List.{length-append}
use Rattle.std.proofs.lemmas.Bool.Decides.{nat_tests}
use Rattle.std.proofs.lemmas.Bool.{cases_lt}
use Rattle.ncp_control.specs.declared.command.Command.{Command}
use Rattle.ncp_control.specs.declared.packing.TheConstants.{MAX_CONTROL_OCTETS}
use Rattle.ncp_control.specs.Command.{spelling}
use Rattle.ncp_control.specs.Packing.{spellings, count_within, packed_count, IsLongestFront}

-- the longest prefix within any room
pub record IsLongestIn (room : ℕ) (commands : List Command) (count : ℕ) : Type 0 where
  pub there : count ≤ length commands
  pub fits : length (spellings (take count commands)) ≤ room
  pub longest : (more : ℕ) → count < more → more ≤ length commands → room < length (spellings (take more commands))

-- a longer prefix of the others is a longer prefix with the first command
above_cons : (room : ℕ) (c : Command) (cs : List Command) (n : ℕ) → length (spelling c) ≤ room → IsLongestIn (room - length (spelling c)) cs n
    → (more : ℕ) → suc n < more → more ≤ length (c ∷ cs) → room < length (spellings (take more (c ∷ cs)))
above_cons room c cs n fits rest zero above there = absurd (omega (arith, above))
above_cons room c cs n fits rest (suc m) above there =
    let over : room - length (spelling c) < length (spellings (take m cs)) = rest.longest m (omega (arith, above)) (omega (arith, there)) in
    omega (arith, over, fits, length-append (spelling c) (spellings (take m cs)))

-- a first command without room is in no prefix but the empty one
above_none : (room : ℕ) (c : Command) (cs : List Command) → room < length (spelling c) → (more : ℕ) → 0 < more → more ≤ length (c ∷ cs) → room < length (spellings (take more (c ∷ cs)))
above_none room c cs over zero above there = absurd (omega (arith, above))
above_none room c cs over (suc m) above there = omega (arith, over, length-append (spelling c) (spellings (take m cs)))

longest_cons : (room : ℕ) (c : Command) (cs : List Command) (n : ℕ) → length (spelling c) ≤ room → IsLongestIn (room - length (spelling c)) cs n → IsLongestIn room (c ∷ cs) (suc n)
longest_cons room c cs n fits rest = record {
  there = omega (arith, rest.there);
  fits = omega (arith, rest.fits, fits, length-append (spelling c) (spellings (take n cs)));
  longest = above_cons room c cs n fits rest;
}

longest_none : (room : ℕ) (c : Command) (cs : List Command) → room < length (spelling c) → IsLongestIn room (c ∷ cs) 0
longest_none room c cs over = record {
  there = omega arith;
  fits = omega arith;
  longest = above_none room c cs over;
}

count_within-cons : (room : ℕ) (c : Command) (cs : List Command) → length (spelling c) ≤ room → count_within room (c ∷ cs) ≡ count_within (room - length (spelling c)) cs + 1
count_within-cons room c cs fits = (let yes : nat_le (length (spelling c)) room ≡ true = grind (arith, nat_tests, fits) in rw yes refl)

count_within-none : (room : ℕ) (c : Command) (cs : List Command) → room < length (spelling c) → count_within room (c ∷ cs) ≡ 0
count_within-none room c cs over = (let no : nat_le (length (spelling c)) room ≡ false = grind (arith, nat_tests, over) in rw no refl)

longest_in : (room : ℕ) (commands : List Command) → IsLongestIn room commands (count_within room commands)
longest_in room [] = record { there = omega arith; fits = omega arith; longest = λ more above there. absurd (omega (arith, above, there)) }
longest_in room (c ∷ cs) = elim (cases_lt room (length (spelling c))) [
  | inl over ↦ subst (λ (n : ℕ). IsLongestIn room (c ∷ cs) n) (sym (count_within-none room c cs over)) (longest_none room c cs over)
  | inr fits ↦
      let n : ℕ = count_within (room - length (spelling c)) cs in
      subst (λ (n : ℕ). IsLongestIn room (c ∷ cs) n) (sym (count_within-cons room c cs fits ∙ add-one n)) (longest_cons room c cs n fits (longest_in (room - length (spelling c)) cs))
]

pub longest_front : (commands : List Command) → IsLongestFront commands (packed_count commands)
unfolding packed_count
longest_front commands =
    let front : IsLongestIn MAX_CONTROL_OCTETS commands (count_within MAX_CONTROL_OCTETS commands) = longest_in MAX_CONTROL_OCTETS commands in
    record { there = front.there; fits = front.fits; longest = front.longest }

-- of two longest prefixs neither is the longer
pub longest_is_one : (commands : List Command) (a b : ℕ) → IsLongestFront commands a → IsLongestFront commands b → a ≤ b
longest_is_one commands a b first second = elim (cases_lt b a) [
  | inl lt ↦ absurd (let over : MAX_CONTROL_OCTETS < length (spellings (take a commands)) = second.longest a lt first.there in omega (arith, over, first.fits))
  | inr le ↦ le
]
