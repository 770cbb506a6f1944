use Rattle.subnet.proofs.Calls.Highest.{round_bound}
use Rattle.subnet.proofs.Calls.Resting.{never_rests}
use Rattle.subnet.proofs.Calls.Working.{round_invariant}
use Rattle.subnet.proofs.subnet.Subnet.round.Goals as goal

pub invariant_of-self : goal.invariant_of-self
invariant_of-self c = record { working = c.self.invariant.working; resting = λ says. c.is_settled.ensures c.if-is_settled.true; numbers = c.self.invariant.numbers }

pub invariant_of-self-2 : goal.invariant_of-self-2
invariant_of-self-2 c = record {
  working =
      round_invariant (record { net = c.self.inside.parts; stopped = c.self.inside.stopped }) c.fails_in_round-failed.new.self c.fails_in_round-failed.result
      c.if-self.false c.fails_in_round-failed.ensures.round c.fails_in_round-failed.ensures.memory c.fails_in_round-failed.ensures.keeps c.self.invariant.working;
  resting = never_rests c.fails_in_round-failed.new.self c.self.inside.rests c.if-self-2.false;
  numbers = λ goes. round_bound c.self.inside.highest c.self.inside.parts c.fails_in_round-failed.new.self (c.fails_in_round-failed.ensures.round goes) (c.self.invariant.numbers c.if-self.false);
}
