use Rattle.std.specs.Io.KnownBytes.{Keeps}
use Rattle.command_line.proofs.source.read_again.Given as goal

-- no octet was taken yet
abbrev pub invariant-loop : goal.invariant-loop
invariant-loop g l = Keeps (g.R.Read.remaining l.fn.reader) (g.R.Read.remaining l.reader)
