use Rattle.std.proofs.Common.{rules}
use Rattle.net_sim.proofs.Books.Undoing.{state, step_back}
use Rattle.net_sim.proofs.undo.take_back.Goals as goal

pub steps-preserved : goal.steps-preserved
steps-preserved c =
    step_back c.steps.done.items c.pop.new.self.items c.in-Some.undo (state c.steps.lives.items c.steps.handed.items c.steps.fates.items) (state c.take_one_back.new.lives.items c.take_one_back.new.handed.items c.take_one_back.new.fates.items) _ (search rules)
    c.take_one_back.ensures c.steps.invariant
