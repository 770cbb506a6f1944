use Rattle.net_sim.proofs.Common.{◌≡◌, rules, ℕ, List, ◌++◌, take, drop, length, sym, subst, Life, AreWithin, ends, AreKept, Covers, Holds}
use Rattle.net_sim.proofs.Books.Counts.{counts_put}
use Rattle.net_sim.proofs.Books.Marks.{covers_kept, kept_put, look_of}
use Rattle.net_sim.proofs.lives.Lives.end.Goals as goal

pub end-requires : goal.end-requires
end-requires c =
    let there : c.deref.result.now ≡ c.self.inside.lives.items = search rules in
    let covers : Covers c.know.new.self.hosts c.know.new.self.sockets c.self.inside.lives.items = subst (λ (xs : List Life). Covers c.know.new.self.hosts c.know.new.self.sockets xs) there c.in_ok-know.ensures.known in
    let same : c.deref_mut.result.now ≡ c.self.inside.lives.items = search rules in
    subst (λ (xs : List Life). Holds (ends c.args.ending.now) c.of.result.now xs) (sym same) (subst (λ (ats : List ℕ). Holds (ends c.args.ending.now) ats c.self.inside.lives.items) (sym c.of.ensures) (look_of c.know.new.self.hosts c.know.new.self.sockets c.args.ending.now c.self.inside.lives.items covers))

pub invariant_of-self-2 : goal.invariant_of-self-2
invariant_of-self-2 c =
    let after : List Life = take c.self.inside.lives.len (c.end.new.lives ++ drop (length c.end.new.lives) c.self.inside.lives.items) in
    let there : c.deref.result.now ≡ c.self.inside.lives.items = search rules in
    let covers : Covers c.know.new.self.hosts c.know.new.self.sockets c.self.inside.lives.items = subst (λ (xs : List Life). Covers c.know.new.self.hosts c.know.new.self.sockets xs) there c.in_ok-know.ensures.known in
    let same : c.deref_mut.result.now ≡ c.self.inside.lives.items = search rules in
    let kept : AreKept c.self.inside.lives.items c.end.new.lives = subst (λ (xs : List Life). AreKept xs c.end.new.lives) same c.end.ensures.kept in (
      λ known. covers_kept c.know.new.self.hosts c.know.new.self.sockets c.self.inside.lives.items after (kept_put c.self.inside.lives.items c.end.new.lives (drop (length c.end.new.lives) c.self.inside.lives.items) c.self.inside.lives.len (search rules) kept) covers,
      counts_put c.self.inside.changes c.self.inside.lives.items c.end.new.lives (drop (length c.end.new.lives) c.self.inside.lives.items) c.self.inside.lives.len (search rules) kept
          (c.end.ensures.within c.self.inside.changes (subst (λ (xs : List Life). AreWithin c.self.inside.changes xs) (sym same) c.self.invariant.1)),
    )
