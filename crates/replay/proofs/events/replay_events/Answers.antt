use Rattle.interface.proofs.lemmas.{safe_messages}
use Rattle.replay.proofs.events.replay_events.Goals as goal

pub returns-clause-messages : goal.returns-clause-messages
returns-clause-messages g c =
    safe_messages (g.C.Carrier.calls.seen c.replay_in_turn-outcome.new.carrier).hosts (g.C.Carrier.calls.seen c.replay_in_turn-outcome.new.carrier).log c.log-log.ensures.run
