use Rattle.world_trace.proofs.Common.{◌<◌, take, All}
use Rattle.world_trace.proofs.lasting.octets.Given as goal

abbrev pub invariant-loop-byte : goal.invariant-loop-byte
invariant-loop-byte l = All (λ b. b < 256) (take l.byte-index l.bytes)
