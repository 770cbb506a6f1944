use Rattle.std.proofs.Common.{◌≡◌, ◌-◌, ◌≤◌, false, length, vec_len}
use Rattle.std.specs.Io.KnownBytes.{Consumes}
use Rattle.command_line.proofs.input.read_octets.Given as goal

-- what was read so far
abbrev pub invariant-loop-buffer : goal.invariant-loop-buffer
invariant-loop-buffer g l =
    Consumes (g.R.Source.remaining l.fn.reader) (g.R.Source.remaining l.reader) l.octets.items × (g.R.Source.failed l.reader ≡ false) × (g.R.Source.ended l.reader ≡ false) × (length l.octets.items ≤ 268435457)

abbrev pub decreases-loop-buffer : goal.decreases-loop-buffer
decreases-loop-buffer g l = 268435457 - vec_len l.octets
