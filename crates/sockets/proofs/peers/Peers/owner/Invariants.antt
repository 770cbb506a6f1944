use Rattle.std.proofs.Common.{◌≡◌, drop}
use Rattle.sockets.specs.Pairs.{owner_of}
use Rattle.sockets.proofs.peers.Peers.owner.Given as goal

-- no peer so far has it
abbrev pub invariant-loop-peer : goal.invariant-loop-peer
invariant-loop-peer l = owner_of l.socket (drop l.peer-index l.fn.self) ≡ owner_of l.socket l.fn.self
