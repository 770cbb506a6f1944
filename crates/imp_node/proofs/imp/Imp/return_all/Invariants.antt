use Rattle.imp_node.proofs.Common.{all_returned}
use Rattle.std.proofs.Common.{◌≡◌, length}
use Rattle.imp_node.specs.Inside.Parts.{AreOfPackets}
use Rattle.imp_node.proofs.imp.Imp.return_all.Given as goal

-- the messages that are left, after those so far
abbrev pub invariant-messages : goal.invariant-messages
invariant-messages l = record {
  flows : AreOfPackets l.queue.items;
  state : all_returned l.queue.items l.self ≡ all_returned l.fn.queue.items l.fn.self;
}

abbrev pub decreases-messages : goal.decreases-messages
decreases-messages l = length l.queue.items
