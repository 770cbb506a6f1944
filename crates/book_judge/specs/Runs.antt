-- Whether what crossed is a run of the mailboxes, where nobody says which hosts the network has (BBN Report 1822: one message outstanding on a link).
use Rattle.std.specs.Prelude.{ℕ, ◌+◌, List, take, reverse}
use Rattle.interface.specs.Host.{Host}
use Rattle.interface.specs.Mailboxes.{IsRun}
use Rattle.interface.specs.declared.crossing.Crossing.{Crossing}

-- a run between some hosts; the log is the newest first
abbrev pub IsSomeRun : List Crossing → Type 0
IsSomeRun log = (hosts : List Host) × IsRun hosts log

-- of a log, the oldest first: what is before this place is such a run, and with the crossing there it is none
abbrev pub StraysAt : List Crossing → ℕ → Type 0
StraysAt log place = IsSomeRun (reverse (take place log)) × (IsSomeRun (reverse (take (place + 1) log)) → ⊥)
