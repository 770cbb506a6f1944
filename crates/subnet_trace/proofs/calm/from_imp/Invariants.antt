use Rattle.std.proofs.Common.{◌≡◌, ℕ, length}
use Rattle.subnet_trace.specs.Elements.{imp_left}
use Rattle.subnet_trace.proofs.calm.from_imp.Given as goal

-- the IMPs so far did nothing
abbrev pub invariant-loop-number : goal.invariant-loop-number
invariant-loop-number l =
    (l.number-end ≡ length l.subnet.net.imps) × ((round : ℕ) → imp_left round l.number l.told l.subnet.net ≡ imp_left round l.fn.imp l.fn.told l.subnet.net)
