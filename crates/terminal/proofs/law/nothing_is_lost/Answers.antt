use Rattle.terminal.proofs.PlayedLemmas.{echoes, tells}
use Rattle.terminal.proofs.law.nothing_is_lost.Goals as goal

pub returns-clause-echoed : goal.returns-clause-echoed
returns-clause-echoed c = echoes

pub returns-clause-told : goal.returns-clause-told
returns-clause-told c = tells
