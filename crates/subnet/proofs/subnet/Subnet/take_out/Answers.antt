use Rattle.std.proofs.Common.{sym, ◌∙◌}
use Rattle.subnet.proofs.Calls.Highest.{take_bound}
use Rattle.subnet.proofs.Calls.Resting.{still_rests}
use Rattle.subnet.proofs.Calls.Working.{take_invariant}
use Rattle.subnet.proofs.subnet.Subnet.take_out.Goals as goal

pub invariant_of-self : goal.invariant_of-self
invariant_of-self c = record {
  working =
      take_invariant (record { net = c.self.inside.parts; stopped = c.self.inside.stopped }) c.args.host c.take_in-outcome.new.self c.take_in-outcome.result c.has_run_out-self-inside.result c.has_run_out-self-inside.ensures
      c.if-self.false c.take_in-outcome.ensures.call c.take_in-outcome.ensures.keeps c.self.invariant.working;
  resting = still_rests _ _ _ c.self.inside.parts c.take_in-outcome.new.self c.take_in-outcome.result c.self.inside.rests c.still_rests_taken-self-inside.result c.still_rests_taken-self-inside.ensures c.take_in-outcome.ensures.call c.self.invariant.resting;
  numbers = λ goes. take_bound c.self.inside.highest c.self.inside.parts c.args.host c.take_in-outcome.new.self c.take_in-outcome.result c.take_in-outcome.ensures.call
      (c.self.invariant.working.whole c.if-self.false).sound (c.self.invariant.numbers c.if-self.false) (sym c.has_run_out-self-inside.ensures ∙ goes);
}
