use Rattle.leader1822.proofs.Common.{◌≡◌, ◌++◌, [], ◌∷◌, Some, is_some, not, length, filter, ap, sym, ◌∙◌, arith, for_host, with_queue, is_rfnm_about, waiting_in}
use Rattle.leader1822.proofs.Kept.{for_shown, shown_with}
use Rattle.interface.specs.declared.crossing.Answer.TheVariants as answer
use Rattle.leader1822.proofs.queues.Queues+tuple2+Answer+Flow.replace_rfnm.Goals as goal

pub unreachable-requires : goal.unreachable-requires
unreachable-requires c =
    let h = c.args.flow.now.source in
    let none : for_host c.args.self.now h ≡ [] = ap (λ q. for_host q h) (sym c.self.view_is) ∙ for_shown c.self.inside.queues.entries h ∙ ap waiting_in (sym c.in_default.ensures.value) in
    let one : 0 ≡ 1 = ap (λ xs. length (filter (is_rfnm_about c.args.flow.now) xs)) (sym none) ∙ c.requires in
    absurd (omega (arith, one))

pub remove_rfnm-requires : goal.remove_rfnm-requires
remove_rfnm-requires c =
    let h = c.args.flow.now.source in
    let whole : for_host c.args.self.now h ≡ c.in-Some.queue.now.items =
    ap (λ q. for_host q h) (sym c.self.view_is) ∙ for_shown c.self.inside.queues.entries h ∙ ap waiting_in (sym c.in-Some.ensures.value) in
    ap (λ xs. length (filter (is_rfnm_about c.args.flow.now) xs)) (sym whole) ∙ c.requires

pub returns : goal.returns
returns c =
    let h = c.args.flow.now.source in
    let whole : for_host c.args.self.now h ≡ c.in-Some.queue.now.items =
    ap (λ q. for_host q h) (sym c.self.view_is) ∙ for_shown c.self.inside.queues.entries h ∙ ap waiting_in (sym c.in-Some.ensures.value) in
    shown_with c.self.inside.queues.entries (c.get_mut.follows.lender c.push_back_reserved.new.self).entries h (Some c.push_back_reserved.new.self) (filter (λ a. not (is_rfnm_about c.args.flow.now a)) (for_host c.args.self.now h) ++ (answer.Incomplete, c.args.flow.now) ∷ [])
    ((c.get_mut.follows.holds c.push_back_reserved.new.self).3 (ap is_some (sym c.in-Some.ensures.value))).0 (c.push_back_reserved.ensures.items ∙ ap (λ xs. xs ++ (answer.Incomplete, c.args.flow.now) ∷ []) (c.remove_rfnm.ensures.left ∙ ap (filter (λ a. not (is_rfnm_about c.args.flow.now a))) (sym whole)))
    ∙ ap (λ q. with_queue q h (filter (λ a. not (is_rfnm_about c.args.flow.now a)) (for_host c.args.self.now h) ++ (answer.Incomplete, c.args.flow.now) ∷ [])) c.self.view_is
