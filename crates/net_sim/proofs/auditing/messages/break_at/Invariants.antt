use Rattle.std.proofs.Common.{◌≡◌, true, take, reverse}
use Rattle.net_sim.specs.Inside.Audit.{messages_hold}
use Rattle.net_sim.proofs.auditing.messages.break_at.Given as goal

abbrev pub invariant-loop-at : goal.invariant-loop-at
invariant-loop-at l = messages_hold (reverse (take l.at l.log)) ≡ true
