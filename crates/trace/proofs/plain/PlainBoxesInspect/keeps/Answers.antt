use Rattle.trace.proofs.Changes.Reached.{offer_keeps, take_keeps}
use Rattle.trace.proofs.plain.PlainBoxesInspect.keeps.Goals as goal

pub returns-clause-offered : goal.returns-clause-offered
returns-clause-offered c = offer_keeps

pub returns-clause-refused : goal.returns-clause-refused
returns-clause-refused c = take_keeps
