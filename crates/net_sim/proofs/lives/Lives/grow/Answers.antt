use Rattle.net_sim.proofs.Common.{◌≡◌, rules, ℕ, List, ◌++◌, take, drop, length, sym, subst, Life, lives_at, AreWithin, AreKept, Covers, Holds}
use Rattle.net_sim.proofs.Books.Counts.{counts_put}
use Rattle.net_sim.proofs.Books.Marks.{covers_kept, kept_put, look_at}
use Rattle.net_sim.proofs.lives.Lives.grow.Goals as goal

pub grow-requires-clause-places : goal.grow-requires-clause-places
grow-requires-clause-places c =
    let there : c.deref.result.now ≡ c.self.inside.lives.items = search rules in
    let covers : Covers c.know.new.self.hosts c.know.new.self.sockets c.self.inside.lives.items = subst (λ (xs : List Life). Covers c.know.new.self.hosts c.know.new.self.sockets xs) there c.in_ok-know.ensures.known in
    let same : c.deref_mut.result.now ≡ c.self.inside.lives.items = search rules in
    subst (λ (xs : List Life). Holds (lives_at c.args.host c.args.socket) c.at-places.result.now xs) (sym same) (subst (λ (ats : List ℕ). Holds (lives_at c.args.host c.args.socket) ats c.self.inside.lives.items) (sym c.at-places.ensures) (look_at c.know.new.self.hosts c.know.new.self.sockets c.args.host c.args.socket c.self.inside.lives.items covers))

pub grow-requires-clause-within : goal.grow-requires-clause-within
grow-requires-clause-within c =
    let same : c.deref_mut.result.now ≡ c.self.inside.lives.items = search rules in
    subst (λ (xs : List Life). AreWithin c.self.inside.changes xs) (sym same) c.self.invariant.1

pub invariant_of-self-2 : goal.invariant_of-self-2
invariant_of-self-2 c =
    let after : List Life = take c.self.inside.lives.len (c.grow.new.lives ++ drop (length c.grow.new.lives) c.self.inside.lives.items) in
    let there : c.deref.result.now ≡ c.self.inside.lives.items = search rules in
    let covers : Covers c.know.new.self.hosts c.know.new.self.sockets c.self.inside.lives.items = subst (λ (xs : List Life). Covers c.know.new.self.hosts c.know.new.self.sockets xs) there c.in_ok-know.ensures.known in
    let same : c.deref_mut.result.now ≡ c.self.inside.lives.items = search rules in
    let kept : AreKept c.self.inside.lives.items c.grow.new.lives = subst (λ (xs : List Life). AreKept xs c.grow.new.lives) same c.grow.ensures.kept in (
      λ known. covers_kept c.know.new.self.hosts c.know.new.self.sockets c.self.inside.lives.items after (kept_put c.self.inside.lives.items c.grow.new.lives (drop (length c.grow.new.lives) c.self.inside.lives.items) c.self.inside.lives.len (search rules) kept) covers,
      counts_put c.grow.new.changes c.self.inside.lives.items c.grow.new.lives (drop (length c.grow.new.lives) c.self.inside.lives.items) c.self.inside.lives.len (search rules) kept c.grow.ensures.within,
    )
