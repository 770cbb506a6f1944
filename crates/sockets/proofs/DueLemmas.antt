-- What goes to a peer next, and which peer is the first that something goes to.
use Rattle.std.proofs.Common.{◌≡◌, ℕ, ◌∙◌, false, List, [], ◌∷◌, find, position, Option, Some, None, is_some, slice_index_or, refl, ap, sym}
use Rattle.host_pairs.proofs.lemmas.{none_found, one_found}
use Rattle.host_pairs.specs.Outgoing.{HasRoom, IsThere, parcel_of}
use Rattle.host_pairs.specs.Pair.{PairState}
use Rattle.host_pairs.specs.Parcels.{Parcel, next_of}
use Rattle.host_pairs.specs.declared.outgoing.Outgoing.{Outgoing}
use Rattle.sockets.specs.Due.{GoesNext}
use Rattle.sockets.specs.Peers.{has_parcel}
use Rattle.sockets.specs.declared.due.Due.TheVariants as due
use Rattle.sockets.specs.Sending.{next_in, parcel_for}
use Rattle.sockets.specs.declared.peer.Peer.{Peer}

-- ---- one pair

pub known_next : (q : PairState) (out : Outgoing) → next_of q ≡ Some (parcel_of q.entries out) → IsThere q.entries out → HasRoom q.entries q.queue out → GoesNext q (due.Known out)
known_next q out next there room = (next, there, room)

none_by : (o : Option Parcel) → is_some o ≡ false → o ≡ None
none_by None e = refl
none_by (Some x) e = absurd (cc)

pub none_next : (q : PairState) → is_some (next_of q) ≡ false → next_of q ≡ None
none_next q none = none_by (next_of q) none

-- ---- the first of them

-- what goes to the peer that was found
abbrev next_to : Option Peer → Option (Peer × Parcel)
next_to None = None
next_to (Some p) = parcel_for p (next_of p.pair) None

next_step : (p : Peer) (ps : List Peer) → next_in ps ≡ next_to (find has_parcel ps) → (o : Option Parcel) → next_of p.pair ≡ o
    → next_in (p ∷ ps) ≡ next_to (find has_parcel (p ∷ ps))
next_step p ps rest (Some x) e = rw e (rw e refl)
next_step p ps rest None e = rw e rest

next_found : (ps : List Peer) → next_in ps ≡ next_to (find has_parcel ps)
next_found [] = refl
next_found (p ∷ ps) = next_step p ps (next_found ps) (next_of p.pair) refl

-- nothing goes to any
pub none_due : (ps : List Peer) → position has_parcel ps ≡ None → next_in ps ≡ None
none_due ps none = next_found ps ∙ ap (λ (o : Option Peer). next_to o) (none_found has_parcel ps none)

one_due : (ps : List Peer) (at : ℕ) (p : Peer) → position has_parcel ps ≡ Some at → p ≡ slice_index_or ps at p → next_in ps ≡ parcel_for p (next_of p.pair) None
one_due ps at p one is =
    next_found ps ∙ ap (λ (o : Option Peer). next_to o) (one_found has_parcel at p ps one) ∙ ap (λ (q : Peer). parcel_for q (next_of q.pair) None) (sym is)

pub nothing_due : (ps : List Peer) (at : ℕ) (p : Peer) → position has_parcel ps ≡ Some at → p ≡ slice_index_or ps at p → next_of p.pair ≡ None → next_in ps ≡ None
nothing_due ps at p one is none = one_due ps at p one is ∙ ap (λ (o : Option Parcel). parcel_for p o None) none

-- what goes to the first goes out next
pub next_due : (ps : List Peer) (at : ℕ) (p : Peer) (x : Parcel) → position has_parcel ps ≡ Some at → p ≡ slice_index_or ps at p → next_of p.pair ≡ Some x
    → next_in ps ≡ Some (p, x)
next_due ps at p x one is goes = one_due ps at p one is ∙ ap (λ (o : Option Parcel). parcel_for p o None) goes
