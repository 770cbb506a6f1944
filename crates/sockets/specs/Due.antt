-- What is known of what goes to a peer next.
use Rattle.std.specs.Prelude.{◌≡◌, Bool, true, false, Some, None, is_some}
use Rattle.host_pairs.specs.Outgoing.{HasRoom, IsThere, parcel_of}
use Rattle.host_pairs.specs.Pair.{PairState}
use Rattle.host_pairs.specs.Parcels.{next_of}
use Rattle.sockets.specs.declared.due.Due.{Due}
use Rattle.sockets.specs.declared.due.Due.TheVariants as due

-- whether something goes
abbrev pub is_due : Due → Bool
is_due due.Nothing = false
is_due due.Something = true
is_due (due.Known out) = true

-- what is known of a pair is true
abbrev pub GoesNext : PairState → Due → Type 0
GoesNext q due.Nothing = next_of q ≡ None
GoesNext q due.Something = is_some (next_of q) ≡ true
GoesNext q (due.Known out) = (next_of q ≡ Some (parcel_of q.entries out)) × IsThere q.entries out × HasRoom q.entries q.queue out
