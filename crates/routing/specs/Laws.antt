-- The laws of src/ that are longer than a line: each is a record, and its fields are the clauses.
use Rattle.std.specs.Prelude.{List, [], length, map, replicate, ℕ, ◌∷◌, ◌≡◌, ◌≤◌}
use Rattle.routing.specs.RouteTable.{Table, opening_table, vector_of}
use Rattle.routing.specs.Settle.{AreTablesOf, IsImp, IsRight, settled, table_of}
use Rattle.routing.specs.Vector.{infinite}

-- Tables that exchange true vectors in rounds, while the lines stay as they are. After as many rounds as the infinite
-- distance, from whatever the tables had heard before, each table is right: its distances are those of shortest walks
-- over the live lines, and its next lines lead nearer.
pub record Settling : Type 0 where
  pub kept :
      (graph : List (ℕ × ℕ)) (tables : List Table) (rounds : ℕ) → AreTablesOf graph tables →
      AreTablesOf graph (settled graph tables rounds)
  pub right :
      (graph : List (ℕ × ℕ)) (tables : List Table) (rounds : ℕ) → AreTablesOf graph tables → infinite ≤ rounds →
      (imp : ℕ) → IsImp (length tables) imp → IsRight graph (table_of (settled graph tables rounds) imp)

-- What one round is: three IMPs in a row that have heard nothing.
pub record WorkedRounds : Type 0 where
  -- each hears what its neighbours knew when the round began: IMP 2 of both, and IMPs 1 and 3 nothing of each other yet
  pub one :
      map vector_of (settled ((1, 2) ∷ (2, 3) ∷ []) (opening_table 1 1 ∷ opening_table 2 2 ∷ opening_table 3 1 ∷ []) 1)
      ≡ (0 ∷ 1 ∷ replicate 61 infinite) ∷ (1 ∷ 0 ∷ 1 ∷ replicate 60 infinite) ∷
      (infinite ∷ 1 ∷ 0 ∷ replicate 60 infinite) ∷ []
  -- after the second round they have
  pub two :
      map vector_of (settled ((1, 2) ∷ (2, 3) ∷ []) (opening_table 1 1 ∷ opening_table 2 2 ∷ opening_table 3 1 ∷ []) 2)
      ≡ (0 ∷ 1 ∷ 2 ∷ replicate 60 infinite) ∷ (1 ∷ 0 ∷ 1 ∷ replicate 60 infinite) ∷
      (2 ∷ 1 ∷ 0 ∷ replicate 60 infinite) ∷ []
