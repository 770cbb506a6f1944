use Rattle.leader1822.proofs.Common.{None, [], refl, ap, sym, ◌∙◌, for_host, with_queue, waiting_in}
use Rattle.leader1822.proofs.Kept.{for_shown, shown_with}
use Rattle.leader1822.proofs.queues.Queues.take.Goals as goal

pub returns-clause-all : goal.returns-clause-all
returns-clause-all g c = ap waiting_in c.remove.ensures.value ∙ sym (for_shown c.self.inside.queues.entries c.args.host.now) ∙ ap (λ q. for_host q c.args.host.now) c.self.view_is

pub returns-clause-left : goal.returns-clause-left
returns-clause-left g c =
    shown_with c.self.inside.queues.entries c.remove.new.self.entries c.args.host.now None [] c.remove.ensures.updates.0 refl ∙ ap (λ q. with_queue q c.args.host.now []) c.self.view_is
