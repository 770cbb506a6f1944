use Rattle.net_sim.proofs.Common.{◌≡◌, false, take, Covers}
use Rattle.net_sim.proofs.open.Open.know.Given as goal

-- the places of the lives so far are known
abbrev pub invariant-loop-at : goal.invariant-loop-at
invariant-loop-at l = record {
  so_far : Covers l.self.hosts l.self.sockets (take l.at l.lives);
  unknown : l.self.known ≡ false;
}
