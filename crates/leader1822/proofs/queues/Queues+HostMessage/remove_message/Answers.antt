use Rattle.leader1822.proofs.Common.{◌≡◌, [], Some, is_some, not, length, filter, ap, sym, ◌∙◌, arith, for_host, with_queue, is_of, waiting_in}
use Rattle.leader1822.proofs.Kept.{for_shown, shown_with}
use Rattle.leader1822.proofs.queues.Queues+HostMessage.remove_message.Goals as goal

pub unreachable-requires : goal.unreachable-requires
unreachable-requires c =
    let h = c.args.flow.now.destination in
    let none : for_host c.args.self.now h ≡ [] = ap (λ q. for_host q h) (sym c.self.view_is) ∙ for_shown c.self.inside.queues.entries h ∙ ap waiting_in (sym c.in_default.ensures.value) in
    let one : 0 ≡ 1 = ap (λ xs. length (filter (is_of c.args.flow.now) xs)) (sym none) ∙ c.requires in
    absurd (omega (arith, one))

pub remove_message-requires : goal.remove_message-requires
remove_message-requires c =
    let h = c.args.flow.now.destination in
    let whole : for_host c.args.self.now h ≡ c.in-Some.queue.now.items =
    ap (λ q. for_host q h) (sym c.self.view_is) ∙ for_shown c.self.inside.queues.entries h ∙ ap waiting_in (sym c.in-Some.ensures.value) in
    ap (λ xs. length (filter (is_of c.args.flow.now) xs)) (sym whole) ∙ c.requires

pub returns : goal.returns
returns c =
    let h = c.args.flow.now.destination in
    let whole : for_host c.args.self.now h ≡ c.in-Some.queue.now.items =
    ap (λ q. for_host q h) (sym c.self.view_is) ∙ for_shown c.self.inside.queues.entries h ∙ ap waiting_in (sym c.in-Some.ensures.value) in
    shown_with c.self.inside.queues.entries (c.get_mut.follows.lender c.remove_message.new.queue).entries h (Some c.remove_message.new.queue) (filter (λ m. not (is_of c.args.flow.now m)) (for_host c.args.self.now h))
    ((c.get_mut.follows.holds c.remove_message.new.queue).3 (ap is_some (sym c.in-Some.ensures.value))).0 (c.remove_message.ensures ∙ ap (filter (λ m. not (is_of c.args.flow.now m))) (sym whole))
    ∙ ap (λ q. with_queue q h (filter (λ m. not (is_of c.args.flow.now m)) (for_host c.args.self.now h))) c.self.view_is
