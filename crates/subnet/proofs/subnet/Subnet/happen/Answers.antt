use Rattle.std.proofs.Common.{sym, ◌∙◌}
use Rattle.subnet.proofs.Calls.Highest.{step_bound}
use Rattle.subnet.proofs.Calls.Resting.{still_rests}
use Rattle.subnet.proofs.Calls.Working.{step_invariant}
use Rattle.subnet.proofs.subnet.Subnet.happen.Goals as goal

pub invariant_of-self : goal.invariant_of-self
invariant_of-self c = record {
  working =
      step_invariant (record { net = c.self.inside.parts; stopped = c.self.inside.stopped }) c.args.event c.step-outcome.new.self c.step-outcome.result c.runs_out-self-inside.result c.runs_out-self-inside.ensures
      c.if-self.false c.step-outcome.ensures.step c.step-outcome.ensures.keeps c.self.invariant.working;
  resting = still_rests _ _ _ c.self.inside.parts c.step-outcome.new.self c.step-outcome.result c.self.inside.rests c.still_rests-self-inside.result c.still_rests-self-inside.ensures c.step-outcome.ensures.step c.self.invariant.resting;
  numbers = λ goes. step_bound c.self.inside.highest c.self.inside.parts c.args.event c.step-outcome.new.self c.step-outcome.result c.step-outcome.ensures.step
      (c.self.invariant.working.whole c.if-self.false).sound (c.self.invariant.numbers c.if-self.false) (sym c.runs_out-self-inside.ensures ∙ goes);
}
