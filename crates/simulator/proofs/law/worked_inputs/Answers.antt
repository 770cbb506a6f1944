use Rattle.std.proofs.Common.{◌≡◌, None, Some, refl}
use Rattle.command_line.specs.declared.options.Task.TheVariants as task
use Rattle.simulator.proofs.law.worked_inputs.Goals as goal

pub returns-clause-unread : goal.returns-clause-unread
returns-clause-unread c = λ input before after failed flushed r h. (h.refused refl refl).0

pub returns-clause-unwritten : goal.returns-clause-unwritten
returns-clause-unwritten c = λ input before after failed flushed h. (h.refused refl refl).1

pub returns-clause-untouched : goal.returns-clause-untouched
returns-clause-untouched c = λ input before after failed flushed h. h.untouched (λ e. let bad : None ≡ Some task.Live = e in cc) (λ e. cc)
