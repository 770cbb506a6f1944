-- A frame that an IMP passes on at once.
use Rattle.std.specs.Prelude.{ℕ, Bool, false, Option, Some, None}
use Rattle.imp_channel.specs.declared.frame.Frame.{Frame}
use Rattle.imp_node.specs.Resting.{passes}
use Rattle.imp_node.specs.State.{State}

-- whether the IMP of a place is up and passes on what a frame at a port brings
abbrev pub passes_at : ℕ → Frame → Option State → Bool
passes_at k f None = false
passes_at k f (Some s) = passes s k f
