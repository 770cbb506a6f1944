use Rattle.book_judge.proofs.Common.{Piece}
use Rattle.std.proofs.Common.{nat_lt, rules}
use Rattle.std.proofs.lemmas.List.Sorted.{IsPartitionPoint-from_clause}
use Rattle.book_judge.proofs.Crossed.Streamed.{first_by, parted}
use Rattle.book_judge.proofs.joined.first_from.Goals as goal

pub returns : goal.returns
returns c = (
  c.partition_point.ensures.bound,
  λ rises. first_by c.args.pieces.now c.args.since _
      (IsPartitionPoint-from_clause (λ (p : Piece). nat_lt p.place c.args.since) _ _ c.partition_point.ensures.partitioned (parted c.args.pieces.now c.args.since rises) (λ a r f' k. search rules)),
)
