use Rattle.std.proofs.Common.{rules, nat_lt}
use Rattle.std.proofs.lemmas.List.Sorted.{IsPartitionPoint-from_clause}
use Rattle.host_pairs.specs.Inside.Index.{end_key, key_of}
use Rattle.host_pairs.specs.declared.entry.Entry.{Entry}
use Rattle.host_pairs.proofs.OrderLemmas.{partitioned}
use Rattle.host_pairs.proofs.index.count_before.Goals as goal

pub returns : goal.returns
returns c =
    IsPartitionPoint-from_clause (λ (e : Entry). nat_lt (end_key e) (key_of c.args.own c.args.foreign)) _ _ c.partition_point.ensures.partitioned (partitioned (key_of c.args.own c.args.foreign) _ c.requires) (λ a r f' k. search rules)
