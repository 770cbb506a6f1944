use Rattle.std.proofs.Common.{sym, ap, ◌∙◌}
use Rattle.topology.specs.Topology.{size_of}
use Rattle.topology.proofs.Documents.{count_members}
use Rattle.topology.proofs.network.size.Goals as goal

pub returns-in-Some : goal.returns-in-Some
returns-in-Some c = c.len.ensures.len ∙ sym (count_members c.in-Some.table.now.entries) ∙ ap size_of c.in-Some.ensures
