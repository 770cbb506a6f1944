-- The boxes after some messages were answered Dead.
use Rattle.leader1822.proofs.Common.{HostMessage}
use Rattle.std.proofs.Common.{List}
use Rattle.leader1822.specs.Boxes.{told_dead}
use Rattle.leader1822.specs.Inside.Held.{Held, flows_dead}

abbrev pub all_told : Held → List HostMessage → Held
all_told c ms = record {
  boxes = record c.boxes { answers = told_dead c.boxes.hosts c.boxes.down c.boxes.answers ms };
  flows = flows_dead c.boxes.hosts c.boxes.down c.flows ms;
}
