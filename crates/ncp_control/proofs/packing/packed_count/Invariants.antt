use Rattle.std.proofs.Common.{◌≡◌, ◌+◌, drop}
use Rattle.ncp_control.specs.Packing.{count_within}
use Rattle.ncp_control.specs.declared.packing.TheConstants.{MAX_CONTROL_OCTETS}
use Rattle.ncp_control.proofs.packing.packed_count.Given as goal

-- the commands so far, and those of the rest that have room after them
abbrev pub invariant-loop-place : goal.invariant-loop-place
invariant-loop-place l = l.place + count_within l.room (drop l.place l.commands) ≡ count_within MAX_CONTROL_OCTETS l.commands
