use Rattle.replay.proofs.Common.{◌≡◌, false, take, Calls}
use Rattle.replay.specs.Output.{Writes}
use Rattle.replay.specs.Replay.{Replays}
use Rattle.replay.proofs.events.replay_in_turn.Given as goal

-- the events so far are replayed, and what they showed is written; no write has failed
abbrev pub invariant-loop-event : goal.invariant-loop-event
invariant-loop-event g l =
    let calls : Calls g.row.C.Denot = g.C.Carrier.calls in
    Writes l.detail (Replays calls l.fn.carrier (take l.event-index l.fn.events) l.carrier) (g.W.Output.contents l.fn.writer) (g.W.Output.contents l.writer)
    × (g.W.Output.failed l.writer ≡ false)
