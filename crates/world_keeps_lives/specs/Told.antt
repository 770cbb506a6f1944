-- What hosts with programs are notified of about data, among each other (NIC 8246, messages of data).
use Rattle.std.specs.Prelude.{◌≡◌, ◌⊎◌, ◌==◌, ◌&&◌, ◌||◌, ℕ, not, Bool, true, false, if◌then◌else◌, List, [], ◌∷◌, filter, length, Option, Some, None}
use Rattle.interface.specs.Host.{Host, same_host}
use Rattle.interface.specs.declared.crossing.Crossing.{Crossing}
use Rattle.interface.specs.declared.crossing.Crossing.TheVariants as crossing
use Rattle.net_sim.specs.Story.{Crossed}
use Rattle.net_sim.specs.Told.{host_in}
use Rattle.promise.specs.Notices.{MayBeUntold, Tells, data_told}
use Rattle.promise.specs.declared.book.Told.{Told}

-- what crossed at a place, counted from 1
abbrev pub crossed_at : ℕ → List Crossing → Option Crossing
crossed_at place [] = None
crossed_at place (c ∷ log) = if place == length (c ∷ log) then Some c else crossed_at place log

-- a stranger takes part in it
abbrev pub is_of_stranger : (Host → Bool) → Crossing → Bool
is_of_stranger strange (crossing.Out m) = strange m.flow.source || strange m.flow.destination
is_of_stranger strange (crossing.In m) = strange m.flow.source || strange m.flow.destination
is_of_stranger strange (crossing.Answer kind f) = strange f.source || strange f.destination
is_of_stranger strange (crossing.Down h) = strange h
is_of_stranger strange (crossing.Up h) = strange h

-- it is this host's own, and a stranger takes part in it
abbrev pub has_stranger : (Host → Bool) → Host → Option Crossing → Bool
has_stranger strange h None = false
has_stranger strange h (Some c) = same_host h (host_in (Crossed c)) && is_of_stranger strange c

-- all notices but those of a host just after a crossing of its own in which a stranger took part
abbrev pub told_among : (Host → Bool) → List Crossing → List Told → List Told
told_among strange log told = filter (λ t. not (has_stranger strange t.host (crossed_at t.place log))) told

-- what goes out to a stranger may be reported or not, and so may what comes in from one
abbrev pub MayBeUntoldAmong : (Host → Bool) → Crossing → Type 0
MayBeUntoldAmong strange c = (is_of_stranger strange c ≡ true) ⊎ MayBeUntold c

-- crossings and notices of data, both newest first, one beside the other as `AreTold` has them
abbrev pub AreToldAmong : (Host → Bool) → List Crossing → List Told → Type 0
AreToldAmong strange [] [] = Unit {0}
AreToldAmong strange [] (t ∷ told) = ⊥
AreToldAmong strange (c ∷ log) [] = MayBeUntoldAmong strange c × AreToldAmong strange log []
AreToldAmong strange (c ∷ log) (t ∷ told) =
    (MayBeUntoldAmong strange c × AreToldAmong strange log (t ∷ told)) ⊎ (Tells c log t × AreToldAmong strange log told)

-- of what crosses among hosts with programs the notices of data are formed, as those of a book are: each message of
-- data that goes out is reported once, and each that comes in at most once
abbrev pub ToldAmong : (Host → Bool) → List Crossing → List Told → Type 0
ToldAmong strange log told = AreToldAmong strange log (told_among strange log (data_told told))
