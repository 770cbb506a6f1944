-- Lines as octets. A line ends in 13 and 10, carriage return and line feed (Telnet's network virtual terminal).
use Rattle.std.specs.Prelude.{◌≡◌, ℕ, ◌-◌, Bool, false, ◌==◌, ◌&&◌, ◌||◌, if◌then◌else◌, nat_le, List, [], ◌∷◌, ◌++◌, length, take, slice_index_or, Option, Some, None, Result, Ok, Err}
use Rattle.std.specs.List.{flat_map, fold, list_all, list_any}
use Rattle.terminal.specs.declared.fault.TerminalFault.{TerminalFault}
use Rattle.terminal.specs.declared.fault.TerminalFault.TheVariants as fault

-- ---- a line goes out

-- the octets of a line: its text, and its end
abbrev pub spelled : List ℕ → List ℕ
spelled text = text ++ 13 ∷ 10 ∷ []

-- an octet that a line may have: from the space, 32, to the tilde, 126
abbrev pub is_printable : ℕ → Bool
is_printable octet = nat_le 32 octet && nat_le octet 126

-- why a text can't be typed
abbrev pub line_fault : List ℕ → Option TerminalFault
line_fault text = if list_all is_printable text then None else Some fault.NotPrintable

-- a call that is refused for `refusal`, and else gives a value with this property: running out of memory comes last
abbrev pub Decided : {T : Type 0} → Option TerminalFault → (T → Type 0) → Result T TerminalFault → Type 0
Decided refusal Gives (Ok x) = (refusal ≡ None) × Gives x
Decided refusal Gives (Err fault.OutOfMemory) = refusal ≡ None
Decided refusal Gives (Err fault.NotPrintable) = refusal ≡ Some fault.NotPrintable

-- ---- octets come in

-- whether this octet ends a line, where these came since the last end
abbrev pub ends_line : List ℕ → ℕ → Bool
ends_line rest octet = (octet == 10) && (slice_index_or rest (length rest - 1) 0 == 13)

-- the lines that have ended, and the octets that came since
abbrev pub Heard : Type 0
Heard = List (List ℕ) × List ℕ

-- what is kept and reported after one more octet
abbrev pub hear : Heard → ℕ → Heard
hear (lines, rest) octet =
    if ends_line rest octet then (lines ++ take (length rest - 1) rest ∷ [], []) else (lines, rest ++ octet ∷ [])

-- these octets come, where `rest` came since the last end
abbrev pub lines_heard : List ℕ → List ℕ → Heard
lines_heard rest octets = fold hear ([], rest) octets

-- ---- what that means

-- whether a line's end is anywhere in these octets
abbrev pub has_end : List ℕ → Bool
has_end [] = false
has_end (x ∷ []) = false
has_end (x ∷ y ∷ ys) = ((x == 13) && (y == 10)) || has_end (y ∷ ys)

-- these octets are these lines, each with its end, and `rest`; there is no end within a line or in the rest
pub record AreLines (octets : List ℕ) (lines : List (List ℕ)) (rest : List ℕ) : Type 0 where
  pub all : octets ≡ flat_map spelled lines ++ rest
  pub lines_whole : list_any has_end lines ≡ false
  pub rest_open : has_end rest ≡ false
