use Rattle.leader1822.proofs.Common.{◌≡◌, [], ◌∷◌, ◌++◌, Some, is_some, ap, sym, ◌∙◌, for_host, with_queue, waiting_in, shown}
use Rattle.leader1822.proofs.Kept.{for_shown, shown_with}
use Rattle.leader1822.proofs.queues.Queues.push.Goals as goal

pub returns-in-Some : goal.returns-in-Some
returns-in-Some g c =
    let h = c.args.host in
    let whole : for_host c.args.self.now h ≡ c.in-Some.queue.now.items =
    ap (λ q. for_host q h) (sym c.self.view_is) ∙ for_shown c.self.inside.queues.entries h ∙ ap waiting_in (sym c.in-Some.ensures.value) in
    let more : c.push_back.new.self.items ≡ for_host c.args.self.now h ++ c.args.item ∷ [] =
    c.in_ok-push_back.ensures.items ∙ ap (λ xs. xs ++ c.args.item ∷ []) (sym whole) in
    shown_with c.self.inside.queues.entries (c.get_mut.follows.lender c.push_back.new.self).entries h (Some c.push_back.new.self) (for_host c.args.self.now h ++ c.args.item ∷ [])
    ((c.get_mut.follows.holds c.push_back.new.self).3 (ap is_some (sym c.in-Some.ensures.value))).0 more
    ∙ ap (λ q. with_queue q h (for_host c.args.self.now h ++ c.args.item ∷ [])) c.self.view_is

pub returns : goal.returns
returns g c =
    let h = c.args.host in
    let none : for_host c.args.self.now h ≡ [] = ap (λ q. for_host q h) (sym c.self.view_is) ∙ for_shown c.self.inside.queues.entries h ∙ ap waiting_in (sym c.in_default.ensures.value) in
    let more : c.push_back-2.new.self.items ≡ for_host c.args.self.now h ++ c.args.item ∷ [] =
    c.in_ok-push_back-2.ensures.items ∙ ap (λ xs. xs ++ c.args.item ∷ []) (c.new-queue.ensures.items ∙ sym none) in
    shown_with c.get_mut.follows.lender-at-none.entries c.insert.new.self.entries h (Some c.push_back-2.new.self) (for_host c.args.self.now h ++ c.args.item ∷ [])
    c.in_ok-insert.ensures.updates.0 more
    ∙ ap (λ m. with_queue (shown m.entries) h (for_host c.args.self.now h ++ c.args.item ∷ [])) c.get_mut.follows.holds-at-none
    ∙ ap (λ q. with_queue q h (for_host c.args.self.now h ++ c.args.item ∷ [])) c.self.view_is
