use Rattle.net_sim.proofs.Common.{◌≡◌, rules, ℕ, List, sym, subst, Life, turns, Covers, Holds}
use Rattle.net_sim.proofs.Books.Turned.{look_by}
use Rattle.net_sim.proofs.lives.Lives.turn.Goals as goal

pub turn-requires : goal.turn-requires
turn-requires c =
    let there : c.deref.result.now ≡ c.self.inside.lives.items = search rules in
    let covers : Covers c.know.new.self.hosts c.know.new.self.sockets c.self.inside.lives.items = subst (λ (xs : List Life). Covers c.know.new.self.hosts c.know.new.self.sockets xs) there c.in_ok-know.ensures.known in
    let same : c.deref-2.result.now ≡ c.self.inside.lives.items = search rules in
    subst (λ (xs : List Life). Holds (turns c.args.by.now) c.by.result.now xs) (sym same) (subst (λ (ats : List ℕ). Holds (turns c.args.by.now) ats c.self.inside.lives.items) (sym c.by.ensures) (look_by c.know.new.self.hosts c.know.new.self.sockets c.args.by.now c.self.inside.lives.items covers))
