use Rattle.std.proofs.Common.{◌≡◌}
use Rattle.host_services.specs.Turns.{tries}
use Rattle.host_services.proofs.desk.ServiceDesk.try_all.Given as goal

abbrev pub invariant-loop-request : goal.invariant-loop-request
invariant-loop-request l = tries l.self l.request-iterator.rest.items ≡ tries l.fn.self l.fn.requests.items
