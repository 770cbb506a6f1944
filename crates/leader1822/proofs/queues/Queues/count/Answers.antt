use Rattle.leader1822.proofs.Common.{for_host, waiting_in}
use Rattle.std.proofs.Common.{◌≡◌, deque_len, length, rules, sym, ap, ◌∙◌}
use Rattle.leader1822.proofs.Kept.{for_shown}
use Rattle.leader1822.proofs.queues.Queues.count.Goals as goal

pub returns-in-Some : goal.returns-in-Some
returns-in-Some g c =
    let h = c.args.host.now in
    let whole : for_host c.args.self.now h ≡ c.in-Some.queue.now.items =
    ap (λ q. for_host q h) (sym c.self.view_is) ∙ for_shown c.self.inside.queues.entries h ∙ ap waiting_in (sym c.in-Some.ensures.value) in
    let long : deque_len c.in-Some.queue.now ≡ length c.in-Some.queue.now.items = search rules in
    c.len.ensures ∙ long ∙ ap length (sym whole)

pub returns-in-None : goal.returns-in-None
returns-in-None g c =
    let h = c.args.host.now in
    ap length (sym (ap (λ q. for_host q h) (sym c.self.view_is) ∙ for_shown c.self.inside.queues.entries h ∙ ap waiting_in (sym c.in-None.ensures.value)))
