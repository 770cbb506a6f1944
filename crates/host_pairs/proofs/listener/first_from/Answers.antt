use Rattle.std.proofs.Common.{rules, nat_lt}
use Rattle.std.proofs.lemmas.List.Sorted.{IsPartitionPoint-from_clause, IsPartitionedBy-ltb}
use Rattle.host_pairs.specs.declared.listener.Listener.{Listener}
use Rattle.host_pairs.proofs.listener.first_from.Goals as goal

pub returns-clause-parts : goal.returns-clause-parts
returns-clause-parts c =
    IsPartitionPoint-from_clause (λ (l : Listener). nat_lt l.socket c.args.socket) _ _ c.partition_point.ensures.partitioned (IsPartitionedBy-ltb (λ (l : Listener). l.socket) _ c.args.socket c.requires) (λ a r f' k. search rules)
