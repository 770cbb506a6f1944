use Rattle.book_judge.proofs.Common.{List, length, reverse, subst, sym, AreNamed, Name}
use Rattle.book_judge.proofs.broken.broken_at.Goals as goal

pub broken_parts-requires-clause-named : goal.broken_parts-requires-clause-named
broken_parts-requires-clause-named c =
    let are : AreNamed (length c.args.lives.now) c.in-Ok.names.items c.args.lives.now (reverse c.args.log.now) =
    rw c.in-Ok.is at c.in_ok-names.ensures in
    subst (λ (ns : List Name). AreNamed (length c.args.lives.now) ns c.args.lives.now (reverse c.args.log.now))
    (sym c.deref.ensures.value) are
