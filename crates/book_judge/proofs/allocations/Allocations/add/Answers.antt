use Rattle.book_judge.proofs.Common.{Flow, arith, refl, subst}
use Rattle.book_judge.specs.Inside.Allocations.{IsNumbered}
use Rattle.book_judge.proofs.Crossed.Streamed.{on_ok}
use Rattle.book_judge.proofs.Crossed.Supplies.{grant_added, number_there}
use Rattle.book_judge.proofs.allocations.Allocations.add.Goals as goal

pub index_mut-requires : goal.index_mut-requires
index_mut-requires c =
    let there = number_there c.args.place c.in_ok-number.number c.data_flow.result c.args.self.now c.number.new.self c.in_ok-number.ensures c.requires in
    omega (arith, there, c.number.new.self.supplies.ok.0)

pub returns : goal.returns
returns c =
    on_ok c.add.result _ _
    (λ grows. grant_added c.args.place c.args.host c.args.peer c.args.grant c.in_ok-number.number c.args.self.now c.number.new.self _ c.index_mut.result.now c.add.new.self
    (subst (λ (f : Flow). IsNumbered c.in_ok-number.number f c.args.self.now c.number.new.self) c.data_flow.ensures c.in_ok-number.ensures)
    c.index_mut.ensures.value refl refl grows) c.add.ensures
