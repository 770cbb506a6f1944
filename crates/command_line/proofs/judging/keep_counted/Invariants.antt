use Rattle.std.proofs.Common.{◌≡◌, ◌++◌}
use Rattle.command_line.specs.Audits.{kept_by}
use Rattle.command_line.proofs.judging.keep_counted.Given as goal

-- those that are kept, and those that will be
abbrev pub invariant-loop-item : goal.invariant-loop-item
invariant-loop-item g l =
    l.kept.items ++ kept_by l.left l.item-iterator.rest.items ≡ kept_by l.fn.counted l.fn.all.items
