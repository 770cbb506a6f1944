use Rattle.packetiser.proofs.Holding.{added_only, discarded_only, whole_gathered, rejoined, stripped, added_table, named_once}
use Rattle.packetiser.proofs.Slots.{without_table}
use Rattle.packetiser.proofs.law.holding.Goals as goal

pub returns : goal.returns
returns c = record {
  added_only = added_only;
  discarded_only = discarded_only;
  whole = whole_gathered;
  body = rejoined;
  stripped = stripped;
  table = added_table;
  emptied = without_table;
  named = named_once;
}
