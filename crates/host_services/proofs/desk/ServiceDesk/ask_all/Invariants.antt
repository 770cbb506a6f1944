use Rattle.std.proofs.Common.{◌≡◌}
use Rattle.host_services.specs.Turns.{asks}
use Rattle.host_services.proofs.desk.ServiceDesk.ask_all.Given as goal

abbrev pub invariant-loop-request : goal.invariant-loop-request
invariant-loop-request l = asks l.self l.request-iterator.rest.items ≡ asks l.fn.self l.fn.requests.items
