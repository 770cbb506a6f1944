use Rattle.world_script.proofs.WorldOnce.{world_asked_once, world_event_once}
use Rattle.world_script.proofs.law.one_reading.Goals as goal

pub returns-clause-event : goal.returns-clause-event
returns-clause-event c strangers event other is also same = world_event_once strangers event other is also same

pub returns-clause-events : goal.returns-clause-events
returns-clause-events c strangers lines events others d e = world_asked_once strangers events others lines d e
