use Rattle.net_sim.proofs.Common.{◌≡◌, ◌∙◌, true, false, List, ap, sym, subst, Life, AreWithin, LivesState, all_undone}
use Rattle.net_sim.proofs.Books.Counts.{counts_undone}
use Rattle.net_sim.proofs.Books.Undoing.{state}
use Rattle.net_sim.proofs.lives.Lives.go_back.Goals as goal

pub invariant_of-self : goal.invariant_of-self
invariant_of-self c =
    let before : LivesState = state c.self.inside.lives.items c.self.inside.handed.items c.self.inside.fates.items in
    let after : c.take_back.new.lives.items ≡ (all_undone c.args.done.items before).lives = ap (λ (s : LivesState). s.lives) c.take_back.ensures in (
      λ known. absurd (let r : true ≡ false = sym known ∙ c.forget.ensures in cc),
      subst (λ (xs : List Life). AreWithin c.self.inside.changes xs) (sym after) (counts_undone c.self.inside.changes c.args.done.items before c.self.invariant.1),
    )
