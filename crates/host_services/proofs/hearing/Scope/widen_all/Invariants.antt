use Rattle.std.proofs.Common.{◌≡◌, drop}
use Rattle.std.specs.List.{fold}
use Rattle.host_services.specs.Ears.{widened}
use Rattle.host_services.proofs.hearing.Scope.widen_all.Given as goal

abbrev pub invariant-loop-ear : goal.invariant-loop-ear
invariant-loop-ear l = fold widened l.self (drop l.ear-index l.ears) ≡ fold widened l.fn.self l.fn.ears
