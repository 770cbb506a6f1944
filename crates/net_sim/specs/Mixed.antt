-- What happens in a network some of whose hosts are strangers, that run anything, and what is kept of it. Only hosts with programs have
-- users, notices and lives (NIC 8246). Lists are read newest first.
use Rattle.std.specs.Prelude.{◌≡◌, Bool, false, if◌then◌else◌, List, [], ◌∷◌}
use Rattle.interface.specs.Host.{Host}
use Rattle.reset_law.specs.Network.{Network}
use Rattle.net_sim.specs.Book.{Kept, all_told, crossed, opening_kept}
use Rattle.net_sim.specs.Story.{Moment, Crossed, Asked}
use Rattle.net_sim.specs.Timeline.{Happens}
use Rattle.net_sim.specs.Told.{host_in, kept_by, notices_by}

-- a moment of a host with a program happens as its program says; a stranger may do anything
abbrev pub MayHappen : (Host → Bool) → List Host → Moment → List Moment → Type 0
MayHappen strange hosts x moments = strange (host_in x) ≡ false → Happens hosts x moments

abbrev pub AreMixed : (Host → Bool) → List Host → List Moment → Type 0
AreMixed strange hosts [] = Unit {0}
AreMixed strange hosts (x ∷ moments) = MayHappen strange hosts x moments × AreMixed strange hosts moments

-- what happened in a network, whatever its strangers did
abbrev pub Happened : Network → List Moment → Type 0
Happened hosts moments = AreMixed hosts.strange hosts.all moments

-- of a stranger only what crosses is kept
abbrev pub crossed_only : Moment → Kept → Kept
crossed_only (Crossed c) k = crossed c k
crossed_only (Asked h r) k = k

abbrev pub mixed_kept : (Host → Bool) → List Moment → Kept
mixed_kept strange [] = opening_kept
mixed_kept strange (x ∷ moments) =
    if strange (host_in x) then crossed_only x (mixed_kept strange moments)
    else all_told (host_in x) (notices_by x moments) (kept_by x (mixed_kept strange moments))
