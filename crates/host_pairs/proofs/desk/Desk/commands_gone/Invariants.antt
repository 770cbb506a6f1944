use Rattle.std.proofs.Common.{◌≡◌, drop, take}
use Rattle.host_pairs.specs.Parcels.{commands_gone}
use Rattle.host_pairs.proofs.desk.Desk.commands_gone.Given as goal

abbrev pub invariant-loop-at : goal.invariant-loop-at
invariant-loop-at l =
    (commands_gone l.peer l.stamp (drop l.at (take l.count l.fn.self.queue)) l.self ≡ commands_gone l.peer l.stamp (take l.count l.fn.self.queue) l.fn.self)
    × (l.self.queue ≡ l.fn.self.queue)
    × (l.self.listening ≡ l.fn.self.listening)
