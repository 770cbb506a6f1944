use Rattle.std.proofs.Common.{◌≡◌, drop}
use Rattle.std.specs.List.{fold}
use Rattle.terminal.specs.Lines as lines
use Rattle.terminal.proofs.line.hear.Given as goal

-- what came so far was heard
abbrev pub invariant-loop-octet : goal.invariant-loop-octet
invariant-loop-octet l = fold lines.hear (l.told.items, l.rest.items) (drop l.octet-index l.octets) ≡ lines.lines_heard l.fn.rest.items l.fn.octets
