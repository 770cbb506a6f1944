use Rattle.std.proofs.Common.{◌≡◌, length}
use Rattle.leader1822.proofs.ToldDead.{all_told}
use Rattle.leader1822.proofs.contents.Contents.tell_dead.Given as goal

abbrev pub invariant-messages : goal.invariant-messages
invariant-messages l = all_told l.self l.messages.items ≡ all_told l.fn.self l.fn.messages.items × (l.self.boxes.hosts ≡ l.fn.self.boxes.hosts) × (l.self.boxes.log ≡ l.fn.self.boxes.log)

abbrev pub decreases-messages : goal.decreases-messages
decreases-messages l = length l.messages.items
