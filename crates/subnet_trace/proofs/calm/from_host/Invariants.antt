use Rattle.std.proofs.Common.{◌≡◌, ℕ, drop, length}
use Rattle.trace.specs.Elements.{takings_from}
use Rattle.subnet_trace.specs.Elements.{from_subnet}
use Rattle.subnet_trace.proofs.calm.from_host.Given as goal

-- nothing was left for the hosts so far
abbrev pub invariant-loop-place : goal.invariant-loop-place
invariant-loop-place l =
    (l.place-end ≡ length l.hosts)
    × ((round : ℕ) → takings_from from_subnet round (drop l.place l.subnet.net.hosts) l.times l.subnet.net ≡ takings_from from_subnet round (drop l.fn.host l.subnet.net.hosts) l.fn.times l.subnet.net)
