use Rattle.net_sim.proofs.Common.{◌≡◌, ◌++◌, drop, flat_map, contacts_asked}
use Rattle.net_sim.proofs.asking.called_in.Given as goal

abbrev pub invariant-loop-request : goal.invariant-loop-request
invariant-loop-request l = l.called.items ++ flat_map (contacts_asked l.host l.place) (drop l.request-index l.requests) ≡ flat_map (contacts_asked l.host l.place) l.requests
