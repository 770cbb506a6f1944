-- The text of a message and its body, as lists of bits (BBN Report 1822, padding of host messages).
use Rattle.std.specs.Prelude.{◌≡◌, ℕ, ◌+◌, ◌-◌, ◌%◌, ◌≤◌, Bool, true, false, not, List, ◌∷◌, ◌++◌, length, replicate, Option, Some, None, nat_lt, ◌||◌, ◌==◌, if◌then◌else◌}
use Rattle.std.specs.List.{list_any, before_last}
use Rattle.bit_messages.specs.declared.fault.BitFault.{BitFault}
use Rattle.bit_messages.specs.declared.fault.BitFault.TheVariants as fault

-- the most bits that a text has
abbrev pub most_text_bits : ℕ
most_text_bits = 8063

-- how many zeros follow the mark of a text of this many bits: the fewest that fill the last unit of sixteen bits
abbrev pub filling : ℕ → ℕ
filling bits = (16 - (bits + 1) % 16) % 16

-- the body of a text: the text, a 1 as the mark of its end, and the fewest zeros that make the length a multiple of sixteen
abbrev pub body : List Bool → List Bool
body text = text ++ true ∷ replicate (filling (length text)) false

-- a list of bits is this text, its mark, and any number of zeros; the text is short enough, and the list fills its last unit
pub record IsBodyOf (text bits : List Bool) : Type 0 where
  pub zeros : ℕ
  pub padded : bits ≡ text ++ true ∷ replicate zeros false
  pub short : length text ≤ 8063
  pub units : length bits % 16 ≡ 0

abbrev pub is_one : Bool → Bool
is_one bit = bit

-- whether any bit is a 1
abbrev pub has_mark : List Bool → Bool
has_mark bits = list_any is_one bits

-- what precedes the last 1
abbrev pub text_of : List Bool → List Bool
text_of bits = before_last is_one bits

-- why a list of bits is no body, the first that applies: no bit is a 1, the text is too long, the last unit isn't full
abbrev pub strip_fault : List Bool → Option BitFault
strip_fault bits =
    if not (has_mark bits)
    then Some fault.NoMark
    else (if nat_lt 8063 (length (text_of bits))
    then Some fault.TooLong
    else (if length bits % 16 == 0 then None else Some fault.Range))

-- why a text has no body
abbrev pub pad_fault : List Bool → Option BitFault
pad_fault text = if nat_lt 8063 (length text) then Some fault.TooLong else None

-- why a list of bits has no part from one place to another
abbrev pub slice_fault : ℕ → ℕ → List Bool → Option BitFault
slice_fault from to bits = if nat_lt to from || nat_lt (length bits) to then Some fault.Range else None
