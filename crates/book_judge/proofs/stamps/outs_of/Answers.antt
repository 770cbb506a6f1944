use Rattle.book_judge.proofs.Common.{◌≡◌, ℕ, length, subst, arith, AreOuts}
use Rattle.book_judge.proofs.Identities.Asked.{outs_init, outs_next}
use Rattle.book_judge.proofs.stamps.outs_of.Goals as goal

pub loop-place-init : goal.loop-place-init
loop-place-init c = (outs_init c.new-last.result c.in_ok-outs.outs.items c.args.log.now c.new-last.ensures c.in_ok-outs.ensures.items, omega arith)

pub loop-place-preserved : goal.loop-place-preserved
loop-place-preserved c = (
  outs_next c.loop-place.place c.loop-place.outs.items c.push.new.self.items c.args.log.now c.loop-place.last c.note.new.last
      c.index-log-place.result c.out_at.result c.loop-place-test.true c.index-log-place.is c.out_at.ensures c.in_ok-push.ensures.items c.in_ok-note.ensures
      c.loop-place.invariant.0,
  omega (arith, c.loop-place-test.true),
)

pub returns : goal.returns
returns c =
    let e : c.loop-place.place ≡ length c.args.log.now = omega (arith, c.loop-place-test.false, c.loop-place.invariant.1) in
    let P : ℕ → Type 0 = λ n. AreOuts n c.loop-place.outs.items c.args.log.now in subst P e c.loop-place.invariant.0.1
