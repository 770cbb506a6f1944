use Rattle.net_sim.proofs.lemmas.{booked_messages}
use Rattle.world_replay.proofs.events.replay_mixed_events.Goals as goal

pub returns-clause-messages : goal.returns-clause-messages
returns-clause-messages g c = booked_messages g.C.Carrier.calls.seen c.replay_in_turn-outcome.new.world c.book-book.ensures.lawful.booked c.book-book.ensures.lawful.run
