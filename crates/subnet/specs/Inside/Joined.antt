-- What the ends of lines determine, as tables: the lines at each IMP's ports, and the ports of each line.
use Rattle.std.specs.Prelude.{◌≡◌, ℕ, ◌+◌, ◌<◌, List, [], ◌∷◌, length, slice_index_or, if◌then◌else◌}
use Rattle.subnet.specs.declared.lines.EndPorts.{EndPorts}
use Rattle.subnet.specs.Net.{Wire, ends_at, port_of}

-- an octet is one of this many numbers
abbrev pub numbers : ℕ
numbers = 256

-- the lines at the ports of an IMP, counted from `l`
abbrev pub lines_from : ℕ → List Wire → ℕ → List ℕ
lines_from l [] i = []
lines_from l (w ∷ ws) i = if ends_at i w then l ∷ lines_from (l + 1) ws i else lines_from (l + 1) ws i

-- the ports that are the ends of a line, the one of this place among all
abbrev pub ports_at : List Wire → ℕ → Wire → EndPorts
ports_at lines l w = record { a = port_of lines w.a l; b = port_of lines w.b l }

-- of each line from `l` on
abbrev pub ports_from : ℕ → List Wire → List Wire → List EndPorts
ports_from l lines [] = []
ports_from l lines (w ∷ ws) = ports_at lines l w ∷ ports_from (l + 1) lines ws

pub record AreJoined (lines : List Wire) (by_imp : List (List ℕ)) (ports : List EndPorts) : Type 0 where
  pub few : length lines < 256
  pub count : length by_imp ≡ numbers
  pub leads : (i : ℕ) → i < length by_imp → slice_index_or by_imp i [] ≡ lines_from 0 lines i
  pub places : length ports ≡ length lines
  pub ends : ports ≡ ports_from 0 lines lines
