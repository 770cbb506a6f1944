use Rattle.net_sim.proofs.Common.{◌≡◌, rules, ℕ, List, sym, subst, Life, lives_at, Covers, Holds}
use Rattle.net_sim.proofs.Books.Marks.{look_at}
use Rattle.net_sim.proofs.lives.Lives.hand.Goals as goal

pub hand-requires : goal.hand-requires
hand-requires c =
    let there : c.deref.result.now ≡ c.self.inside.lives.items = search rules in
    let covers : Covers c.know.new.self.hosts c.know.new.self.sockets c.self.inside.lives.items = subst (λ (xs : List Life). Covers c.know.new.self.hosts c.know.new.self.sockets xs) there c.in_ok-know.ensures.known in
    let same : c.deref-2.result.now ≡ c.self.inside.lives.items = search rules in
    subst (λ (xs : List Life). Holds (lives_at c.args.host c.args.socket) c.at-places.result.now xs) (sym same) (subst (λ (ats : List ℕ). Holds (lives_at c.args.host c.args.socket) ats c.self.inside.lives.items) (sym c.at-places.ensures) (look_at c.know.new.self.hosts c.know.new.self.sockets c.args.host c.args.socket c.self.inside.lives.items covers))
