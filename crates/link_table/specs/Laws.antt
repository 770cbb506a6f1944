-- The laws of src/ that are longer than a line: each is a record, and its fields are the clauses.
use Rattle.std.specs.Prelude.{◌≡◌}
use Rattle.link_table.specs.Flows.{ended_in}
use Rattle.link_table.specs.declared.destination.Fate.TheVariants as fate

-- The fate that is kept with a number.
pub record WorkedFates : Type 0 where
  -- it changes for the number that is kept only: what becomes of an older message is passed over
  pub ended : ended_in 5 fate.Dead (record { number = 5; fate = fate.Waits }) ≡ record { number = 5; fate = fate.Dead }
  pub other :
      (ended_in 4 fate.Dead (record { number = 5; fate = fate.Waits }) ≡ record { number = 5; fate = fate.Waits }) ×
      (ended_in 6 fate.Taken (record { number = 5; fate = fate.Waits }) ≡ record { number = 5; fate = fate.Waits })
