-- Tables that exchange vectors in rounds.
use Rattle.std.specs.Prelude.{◌≡◌, false, ℕ, zero, suc, ◌-◌, ◌<◌, ◌≤◌, ◌==◌, map, if◌then◌else◌, List, [], length, All, slice_index_or, Option, Some, None}
use Rattle.std.specs.List.{filter_map}
use Rattle.interface.specs.Host.{most_imps}
use Rattle.routing.specs.Vector.{infinite}
use Rattle.routing.specs.RouteTable.{Table, vector_of, distance_to, next_of}
use Rattle.routing.specs.Walks.{IsDistance}

-- the other end of a line that has the IMP at one of its ends
abbrev pub other_end : ℕ → ℕ × ℕ → Option ℕ
other_end imp line = if line.0 == imp then Some line.1 else (if line.1 == imp then Some line.0 else None)

-- the IMPs at the other ends of an IMP's lines, port by port: its ports are its lines in the order of the graph
abbrev pub neighbours : List (ℕ × ℕ) → ℕ → List ℕ
neighbours graph imp = filter_map (other_end imp) graph

-- the table of an IMP that isn't there
abbrev pub no_table : Table
no_table = record { own = 0; heard = []; claims = false }

-- the table of an IMP: that of IMP 1 is the first
abbrev pub table_of : List Table → ℕ → Table
table_of tables imp = slice_index_or tables (imp - 1) no_table

-- a table after a round: each port has heard the distances that the IMP at the line's other end had
abbrev pub after_round : List (ℕ × ℕ) → List (List ℕ) → Table → Table
after_round graph told t = record t { heard = map (λ imp. Some (slice_index_or told (imp - 1) [])) (neighbours graph t.own) }

-- one round: every IMP hears what its neighbours had when the round began
abbrev pub one_round : List (ℕ × ℕ) → List Table → List Table
one_round graph tables = map (after_round graph (map vector_of tables)) tables

-- the tables after this many rounds
unfoldable pub settled : List (ℕ × ℕ) → List Table → ℕ → List Table
settled graph tables zero = tables
settled graph tables (suc rounds) = one_round graph (settled graph tables rounds)

-- an IMP of a network with this many
abbrev pub IsImp : ℕ → ℕ → Type 0
IsImp count imp = (0 < imp) × (imp ≤ count)

-- the tables of IMP 1, 2 and so on, each with as many ports as its IMP has lines in the graph, which names only these IMPs
pub record AreTablesOf (graph : List (ℕ × ℕ)) (tables : List Table) : Type 0 where
  pub count : length tables ≤ most_imps
  pub named : All (λ line. IsImp (length tables) line.0 × IsImp (length tables) line.1) graph
  pub numbered : (imp : ℕ) → IsImp (length tables) imp → (table_of tables imp).own ≡ imp
  pub ports : All (λ t. length t.heard ≡ length (neighbours graph t.own)) tables
  -- and each announces its distances
  pub true_vectors : (imp : ℕ) → IsImp (length tables) imp → (table_of tables imp).claims ≡ false

-- the port leads to an IMP that is one line nearer
abbrev pub IsNearer : List (ℕ × ℕ) → ℕ → ℕ → ℕ → ℕ → Type 0
IsNearer graph from to distance port =
    (port < length (neighbours graph from)) × IsDistance graph (slice_index_or (neighbours graph from) port 0) to (distance - 1)

-- what an IMP's table says is right: each distance is the length of a shortest walk, or infinite where there is no walk;
-- the next line towards an IMP at a distance in between leads nearer; and there is no next line to any other IMP
pub record IsRight (graph : List (ℕ × ℕ)) (t : Table) : Type 0 where
  pub distances : (to : ℕ) → IsImp most_imps to → IsDistance graph t.own to (distance_to t to)
  pub next : (to : ℕ) → IsImp most_imps to → 0 < distance_to t to → distance_to t to < infinite
      → (port : ℕ) × (next_of t to ≡ Some port) × IsNearer graph t.own to (distance_to t to) port
  pub itself : (to : ℕ) → distance_to t to ≡ 0 → next_of t to ≡ None
  pub nowhere : (to : ℕ) → distance_to t to ≡ infinite → next_of t to ≡ None
