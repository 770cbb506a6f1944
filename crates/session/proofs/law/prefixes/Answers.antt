use Rattle.session.specs.Turns.{Prints}
use Rattle.session.proofs.Laws.{first_printed}
use Rattle.session.proofs.law.prefixes.Goals as goal

pub returns : goal.returns
returns g c = λ strangers opening turns once h. first_printed (Prints g.E.ScriptEvent.spelled (g.E.ScriptEvent.is_meant strangers) g.S.Stage.replays opening) turns h once
