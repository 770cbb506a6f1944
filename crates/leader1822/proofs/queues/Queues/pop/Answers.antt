use Rattle.leader1822.proofs.Common.{◌≡◌, [], Some, is_some, ap, sym, ◌∙◌, for_host, with_queue, first_of_list, rest, waiting_in, shown}
use Rattle.leader1822.proofs.Kept.{for_shown, shown_with, shown_same, popped}
use Rattle.leader1822.proofs.SoundCalls.{none_first}
use Rattle.leader1822.proofs.queues.Queues.pop.Goals as goal

pub returns-in_default-clause-oldest : goal.returns-in_default-clause-oldest
returns-in_default-clause-oldest g c =
    let h = c.args.host.now in
    let none : for_host c.args.self.now h ≡ [] = ap (λ q. for_host q h) (sym c.self.view_is) ∙ for_shown c.self.inside.queues.entries h ∙ ap waiting_in (sym c.in_default.ensures.value) in
    ap first_of_list (sym none)

pub returns-in_default-clause-left : goal.returns-in_default-clause-left
returns-in_default-clause-left g c =
    let h = c.args.host.now in
    let none : for_host c.args.self.now h ≡ [] = ap (λ q. for_host q h) (sym c.self.view_is) ∙ for_shown c.self.inside.queues.entries h ∙ ap waiting_in (sym c.in_default.ensures.value) in
    ap (λ m. shown m.entries) c.get_mut.follows.holds-at-none
    ∙ shown_same c.self.inside.queues.entries h [] (ap waiting_in (sym c.in_default.ensures.value))
    ∙ ap (λ q. with_queue q h []) c.self.view_is ∙ ap (λ xs. with_queue c.args.self.now h (rest xs)) (sym none)

pub returns-clause-oldest : goal.returns-clause-oldest
returns-clause-oldest g c =
    let h = c.args.host.now in
    let whole : for_host c.args.self.now h ≡ c.in-Some.queue.now.items =
    ap (λ q. for_host q h) (sym c.self.view_is) ∙ for_shown c.self.inside.queues.entries h ∙ ap waiting_in (sym c.in-Some.ensures.value) in
    (popped c.pop_front.result c.in-Some.queue.now.items c.pop_front.new.self.items c.pop_front.ensures.items c.pop_front.ensures.rest).oldest ∙ ap first_of_list (sym whole)

pub returns-clause-left : goal.returns-clause-left
returns-clause-left g c =
    let h = c.args.host.now in
    let whole : for_host c.args.self.now h ≡ c.in-Some.queue.now.items =
    ap (λ q. for_host q h) (sym c.self.view_is) ∙ for_shown c.self.inside.queues.entries h ∙ ap waiting_in (sym c.in-Some.ensures.value) in
    let left : c.pop_front.new.self.items ≡ rest (for_host c.args.self.now h) =
    (popped c.pop_front.result c.in-Some.queue.now.items c.pop_front.new.self.items c.pop_front.ensures.items c.pop_front.ensures.rest).left ∙ ap rest (sym whole) in
    shown_with c.self.inside.queues.entries (c.get_mut.follows.lender c.pop_front.new.self).entries h (Some c.pop_front.new.self) (rest (for_host c.args.self.now h))
    ((c.get_mut.follows.holds c.pop_front.new.self).3 (ap is_some (sym c.in-Some.ensures.value))).0 left
    ∙ ap (λ q. with_queue q h (rest (for_host c.args.self.now h))) c.self.view_is

pub returns-clause-unchanged : goal.returns-clause-unchanged
returns-clause-unchanged g c = λ none.
    let h = c.args.host.now in
    let es = c.self.inside.queues.entries in
    let whole : for_host (shown es) h ≡ c.in-Some.queue.now.items = for_shown es h ∙ ap waiting_in (sym c.in-Some.ensures.value) in
    let p = popped c.pop_front.result c.in-Some.queue.now.items c.pop_front.new.self.items c.pop_front.ensures.items c.pop_front.ensures.rest in
    let empty : c.in-Some.queue.now.items ≡ [] = none_first c.in-Some.queue.now.items (sym p.oldest ∙ none) in
    let left : c.pop_front.new.self.items ≡ [] = p.left ∙ ap rest empty in
    shown_with es (c.get_mut.follows.lender c.pop_front.new.self).entries h (Some c.pop_front.new.self) []
    ((c.get_mut.follows.holds c.pop_front.new.self).3 (ap is_some (sym c.in-Some.ensures.value))).0 left
    ∙ sym (shown_same es h [] (sym (for_shown es h) ∙ whole ∙ empty)) ∙ c.self.view_is
