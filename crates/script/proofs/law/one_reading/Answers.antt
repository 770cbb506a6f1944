use Rattle.script.proofs.OneReading.{asked_once, parted_once}
use Rattle.script.proofs.law.one_reading.Goals as goal

pub returns-clause-events : goal.returns-clause-events
returns-clause-events c lines events others d e = asked_once events others lines d e

pub returns-clause-parts : goal.returns-clause-parts
returns-clause-parts c input topology script other more p q = let same = parted_once input topology script other more p q in (same.topologies, same.scripts)
