use Rattle.leader1822.proofs.Common.{for_host, waiting_in}
use Rattle.std.proofs.Common.{◌≡◌, slice_get, sym, ap, ◌∙◌}
use Rattle.leader1822.proofs.Kept.{for_shown}
use Rattle.interface.proofs.lemmas.{read_at}
use Rattle.leader1822.proofs.queues.Queues.at.Goals as goal

pub returns-in-Some : goal.returns-in-Some
returns-in-Some g c =
    let h = c.args.host.now in
    let whole : for_host c.args.self.now h ≡ c.in-Some.queue.now.items =
    ap (λ q. for_host q h) (sym c.self.view_is) ∙ for_shown c.self.inside.queues.entries h ∙ ap waiting_in (sym c.in-Some.ensures.value) in
    read_at c.in-Some.queue.now.items c.args.place c.get-in-Some.result c.get-in-Some.ensures.item ∙ ap (λ xs. slice_get xs c.args.place) (sym whole)

pub returns-in-None : goal.returns-in-None
returns-in-None g c =
    let h = c.args.host.now in
    ap (λ xs. slice_get xs c.args.place) (sym (ap (λ q. for_host q h) (sym c.self.view_is) ∙ for_shown c.self.inside.queues.entries h ∙ ap waiting_in (sym c.in-None.ensures.value)))
