use Rattle.std.proofs.Common.{◌≡◌, take}
use Rattle.command_line.specs.Carriers.{ends_of}
use Rattle.command_line.proofs.carriers.ends_of.Given as goal

abbrev pub invariant-loop-line : goal.invariant-loop-line
invariant-loop-line l = l.ends.items ≡ ends_of (take l.line-index l.lines)
