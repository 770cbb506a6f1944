use Rattle.net_sim.proofs.Common.{◌≡◌, arith, rules, List, [], ◌∷◌, ◌++◌, refl, ap, sym, subst, ◌∙◌, All-push, Life, AreWithin, IsWithin}
use Rattle.promise.specs.declared.life.Fate.TheVariants as fate
use Rattle.net_sim.specs.Inside.Open.{AreKnown}
use Rattle.net_sim.specs.declared.undo.Undo.TheVariants as undo
use Rattle.net_sim.proofs.Books.Counts.{counts_later}
use Rattle.net_sim.proofs.Books.Undoing.{state, begun_back, one_back}
use Rattle.net_sim.proofs.lives.Lives.begin.Goals as goal

pub invariant_of-self-2 : goal.invariant_of-self-2
invariant_of-self-2 c =
    let there : c.deref.result.now ≡ c.self.inside.lives.items = search rules in
    let more : c.push_reserved-4.new.self.items ≡ c.self.inside.lives.items ++ c.args.life ∷ [] = search rules in
    let known : AreKnown c.self.inside.open.known c.self.inside.open.hosts c.self.inside.open.sockets c.deref.result.now =
    subst (λ (xs : List Life). AreKnown c.self.inside.open.known c.self.inside.open.hosts c.self.inside.open.sockets xs) (sym there) c.self.invariant.0 in (
      subst (λ (xs : List Life). AreKnown c.enter.new.self.known c.enter.new.self.hosts c.enter.new.self.sockets xs) (ap (λ (xs : List Life). xs ++ c.args.life ∷ []) there ∙ sym more)
          (c.in_ok-enter.ensures.done c.args.life refl refl known),
      subst (λ (xs : List Life). AreWithin c.self.inside.changes xs) (sym more)
          (All-push (IsWithin c.self.inside.changes) c.self.inside.lives.items c.args.life c.self.invariant.1 (counts_later 0 c.self.inside.changes c.args.life (omega arith) c.requires)),
    )

pub returns-clause-back : goal.returns-clause-back
returns-clause-back c =
    one_back c.args.done.now.items c.push_reserved.new.self.items (undo.Begun c.len.result c.len-2.result c.len-3.result) c.args.self.now
    (state c.push_reserved-4.new.self.items c.push_reserved-3.new.self.items c.push_reserved-2.new.self.items) (search rules)
    (begun_back c.self.inside.lives.items c.push_reserved-4.new.self.items c.self.inside.handed.items c.push_reserved-3.new.self.items c.self.inside.fates.items c.push_reserved-2.new.self.items
    c.args.life c.new.result fate.Open c.len.result c.len-2.result c.len-3.result c.args.self.now
    (search rules) (search rules) (search rules) (search rules) (search rules) (search rules) (search rules))
