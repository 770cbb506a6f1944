use Rattle.std.proofs.Common.{◌≡◌, ℕ, List, length, map, refl, ap, sym, ◌∙◌, subst, arith, All}
use Rattle.std.proofs.lemmas.List.{length-map}
use Rattle.routing.specs.RouteTable.{Table, vector_of}
use Rattle.routing.specs.Settle.{AreTablesOf, IsImp, IsRight, settled, one_round, after_round, table_of}
use Rattle.routing.proofs.RoundsLemmas.{settled_none, settled-more, round_keeps, right}
use Rattle.routing.proofs.settling.settle.Goals as goal
use Rattle.routing.proofs.settling.settle.Goals.{then-rounds-eq0-via-then-rounds-eq0, then-rounds-eq0-via-else-rounds-eq0+then-is_empty}

pub returns-then-rounds-eq0-clause-settled : goal.returns-then-rounds-eq0-clause-settled
unfolding settled
returns-then-rounds-eq0-clause-settled c = elim c.then-rounds-eq0.branch [
  | then-rounds-eq0-via-then-rounds-eq0 w ↦ sym (ap (λ (n : ℕ). settled c.args.graph.now c.args.tables.now n) w.if-rounds-eq0.true)
  | then-rounds-eq0-via-else-rounds-eq0+then-is_empty w ↦ sym (settled_none c.args.graph.now c.args.tables.now c.args.rounds (sym w.is_empty.ensures ∙ w.if-is_empty.true))
]

pub loop-init : goal.loop-init
unfolding settled
loop-init c = record { rounds = refl; told = c.in_ok-told.ensures; are = c.requires }

pub hear_all-requires-clause-named : goal.hear_all-requires-clause-named
hear_all-requires-clause-named c =
    let same : length c.loop.tables ≡ length c.deref.result.now =
    omega (arith, c.deref.ensures.len, ap (λ (told : List (List ℕ)). length told) (sym c.deref.ensures.value), ap (λ (told : List (List ℕ)). length told) c.loop.invariant.told, length-map c.loop.tables vector_of) in
    subst (λ (n : ℕ). All (λ line. IsImp n line.0 × IsImp n line.1) c.args.graph.now) same c.loop.invariant.are.named

pub loop-preserved : goal.loop-preserved
loop-preserved c =
    let heard : c.hear_all.new.tables ≡ one_round c.args.graph.now c.loop.tables =
    c.hear_all.ensures ∙ ap (λ (told : List (List ℕ)). map (after_round c.args.graph.now told) c.loop.tables) (c.deref.ensures.value ∙ c.loop.invariant.told) in
    record {
      rounds = heard ∙ ap (λ (tables : List Table). one_round c.args.graph.now tables) c.loop.invariant.rounds ∙ settled-more c.args.graph.now c.args.tables.now c.loop.counter;
      told = c.tell_all.ensures;
      are = subst (λ (tables : List Table). AreTablesOf c.args.graph.now tables) (sym heard) (round_keeps c.args.graph.now c.loop.tables c.loop.invariant.are);
    }

pub returns-clause-right : goal.returns-clause-right
returns-clause-right c = λ long imp there.
    let end : c.loop.counter ≡ c.args.rounds = omega arith in
    let tables : settled c.args.graph.now c.args.tables.now c.args.rounds ≡ c.loop.tables =
    ap (λ (n : ℕ). settled c.args.graph.now c.args.tables.now n) (sym end) ∙ sym c.loop.invariant.rounds in
    subst (λ (tables : List Table). IsRight c.args.graph.now (table_of tables imp)) tables
    (right c.args.graph.now c.args.tables.now c.args.rounds c.requires long imp there)
