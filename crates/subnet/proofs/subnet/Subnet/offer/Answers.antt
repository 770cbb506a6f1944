use Rattle.std.proofs.Common.{sym, ◌∙◌}
use Rattle.subnet.proofs.Calls.Highest.{offer_bound}
use Rattle.subnet.proofs.Calls.Resting.{still_rests}
use Rattle.subnet.proofs.Calls.Working.{offer_invariant}
use Rattle.subnet.proofs.subnet.Subnet.offer.Goals as goal

pub invariant_of-self : goal.invariant_of-self
invariant_of-self c = record {
  working =
      offer_invariant (record { net = c.self.inside.parts; stopped = c.self.inside.stopped }) c.args.message c.offer_out-outcome.new.self c.offer_out-outcome.result c.runs_out-self-inside.result c.runs_out-self-inside.ensures
      c.if-self.false c.known.ensures c.offer_out-outcome.ensures.call c.offer_out-outcome.ensures.keeps c.self.invariant.working;
  resting = still_rests _ _ _ c.self.inside.parts c.offer_out-outcome.new.self c.offer_out-outcome.result c.self.inside.rests c.still_rests-self-inside.result c.still_rests-self-inside.ensures c.offer_out-outcome.ensures.call c.self.invariant.resting;
  numbers = λ goes. offer_bound c.self.inside.highest c.next_number-begun.result c.self.inside.parts c.args.message c.offer_out-outcome.new.self c.offer_out-outcome.result c.max-self-inside.result c.max-self-inside.ensures
      c.next_number-begun.ensures c.offer_out-outcome.ensures.call (c.self.invariant.numbers c.if-self.false) (sym c.runs_out-self-inside.ensures ∙ goes);
}
