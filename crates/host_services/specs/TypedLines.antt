-- Lines that are typed.
use Rattle.std.specs.Prelude.{◌≡◌, true, ℕ, Bool, List}
use Rattle.std.specs.List.{list_all}
use Rattle.bit_messages.specs.Octets.{bits_of}
use Rattle.terminal.specs.Lines.{is_printable, spelled}

-- the bits in which a line is sent: its text and its end
abbrev pub line_bits : List ℕ → List Bool
line_bits text = bits_of (spelled text)

-- a text that may be typed, and the bits in which it is sent
pub record IsTyped (text : List ℕ) (bits : List Bool) : Type 0 where
  pub printable : list_all is_printable text ≡ true
  pub sent : bits ≡ line_bits text
