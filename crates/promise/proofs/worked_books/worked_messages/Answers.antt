use Rattle.std.proofs.Common.{◌≡◌, List, [], ◌∷◌, ◌++◌, length, refl, ap, arith, length-append}
use Rattle.interface.specs.Messages.{TakenOnce}
use Rattle.interface.specs.declared.crossing.Crossing.TheVariants as crossing
use Rattle.promise.specs.Worked.{one_bit}
use Rattle.promise.proofs.worked_books.worked_messages.Goals as goal

pub returns-clause-once : goal.returns-clause-once
returns-clause-once c = record {
  out = record {
    since = crossing.In one_bit ∷ [];
    message = one_bit;
    before = [];
    parts = refl;
    flow = refl;
    last = refl;
  };
  once = refl;
}

pub returns-clause-unsent : goal.returns-clause-unsent
returns-clause-unsent c safe =
    let t : TakenOnce one_bit.flow [] = safe.answered [] [] one_bit.flow refl in
    let none : 0 ≡ length (t.out.since ++ crossing.Out t.out.message ∷ t.out.before) = ap length t.out.parts in
    omega (arith, none, length-append t.out.since (crossing.Out t.out.message ∷ t.out.before))

pub returns-clause-early : goal.returns-clause-early
returns-clause-early c safe =
    let none : one_bit.text ∷ [] ≡ [] = safe.none_before [] (crossing.In one_bit ∷ []) one_bit.flow refl refl in
    absurd (cc)
