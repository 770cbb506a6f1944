-- Whole octets and what is left of them.
use Rattle.std.proofs.lemmas.Bool.Decides.{nat_tests}
use Rattle.std.proofs.Common.{◌≡◌, ◌==◌, ℕ, ◌<◌, Bool, true, false, List, [], ◌∷◌, ◌++◌, length, take, drop, refl, ap, ◌∙◌, arith, replicate}
use Rattle.std.proofs.lemmas.List.{take-append-drop, length-drop, length-take-le, append-nil}
use Rattle.bit_messages.specs.Octets.{octets_of, bits_of, spare_bits}
use Rattle.bit_messages.proofs.lemmas.{bits_again}
use Rattle.terminal.specs.Machines.{TerminalState, terminal_heard}
use Rattle.terminal.specs.Octets.{in_octets, whole, part}

pub part_few : (bits : List Bool) → length (part bits) < 8
part_few bits = omega (arith, length-drop (in_octets (length bits)) bits)

pub whole_and_part : (bits : List Bool) → whole bits ++ part bits ≡ bits
whole_and_part bits = take-append-drop (in_octets (length bits)) bits

length-whole : (bits : List Bool) → length (whole bits) ≡ in_octets (length bits)
length-whole bits = length-take-le (in_octets (length bits)) bits (omega arith)

none_whole : (count : ℕ) → count < 8 → in_octets count ≡ 0
none_whole count few = omega arith

whole_few : (bits : List Bool) → length bits < 8 → whole bits ≡ []
whole_few bits few = ap (λ (n : ℕ). take n bits) (none_whole (length bits) few)

pub part_whole : (bits : List Bool) → length bits < 8 → part bits ≡ bits
part_whole bits few = ap (λ (n : ℕ). drop n bits) (none_whole (length bits) few)

-- whole octets are the bits of octets
pub whole_octets : (bits : List Bool) → bits_of (octets_of (whole bits)) ≡ whole bits
whole_octets bits =
    let none : spare_bits (length (whole bits)) ≡ 0 = omega (arith, length-whole bits) in
    bits_again (whole bits) ∙ ap (λ (n : ℕ). whole bits ++ replicate n false) none ∙ append-nil (whole bits)

-- where no bits come, nothing changes
pub heard_nothing : (s : TerminalState) (bits : List Bool) → length s.part < 8 → (length bits == 0) ≡ true → terminal_heard s bits ≡ (s, [])
unfolding terminal_heard octets_of
heard_nothing s [] few none = rw (append-nil s.part, whole_few s.part few, part_whole s.part few) refl
heard_nothing s (b ∷ bs) few none = absurd (grind (arith, nat_tests))
