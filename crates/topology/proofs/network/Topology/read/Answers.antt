use Rattle.topology.proofs.Common.{◌≡◌, subst, true, Data}
use Rattle.topology.specs.Topology.{has}
use Rattle.toml.specs.View.{table_view}
use Rattle.toml.proofs.Views.{view-Table}
use Rattle.std.proofs.Common.{codes}
use Rattle.topology.proofs.Documents.{no_imps}
use Rattle.topology.proofs.network.Topology.read.Goals as goal

pub returns-in-Ok-clause-memory : goal.returns-in-Ok-clause-memory
returns-in-Ok-clause-memory c = λ e blank.
    no_imps c.args.text.now (table_view c.in-Ok.table) blank c.in-Ok.ensures.ok (subst (λ (d : Data). has (codes "imp") d ≡ true) (view-Table c.in-Ok.table) (c.from_document.ensures.memory e))
