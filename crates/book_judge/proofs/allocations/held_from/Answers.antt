use Rattle.std.proofs.Common.{nat_le, rules}
use Rattle.std.proofs.lemmas.List.Sorted.{IsPartitionPoint-from_clause}
use Rattle.book_judge.specs.declared.allocations.Total.{Total}
use Rattle.book_judge.proofs.Crossed.Supplies.{held_by, totals_parted}
use Rattle.book_judge.proofs.allocations.held_from.Goals as goal

pub returns : goal.returns
returns c = record {
  within = c.partition_point.ensures.bound;
  parts = λ top floor falls. held_by c.args.totals.now c.args.from _
      (IsPartitionPoint-from_clause (λ (t : Total). nat_le c.args.from t.place) _ _ c.partition_point.ensures.partitioned (totals_parted c.args.totals.now c.args.from top floor falls) (λ a r f' k. search rules));
}
