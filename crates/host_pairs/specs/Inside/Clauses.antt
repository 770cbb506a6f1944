-- Names for what clauses of private functions say.
use Rattle.std.specs.Prelude.{◌≡◌, ℕ, ◌+◌, Bool, List, [], ◌∷◌, Option, None, Some, MatchOption, drop, find, slice_index_or}
use Rattle.interface.specs.Host.{Host}
use Rattle.host_pairs.specs.Commands.{changed}
use Rattle.host_pairs.specs.Control.{orders_within}
use Rattle.host_pairs.specs.Data.{data_of, spent}
use Rattle.host_pairs.specs.Desk.{desk_of, desk_told}
use Rattle.host_pairs.specs.Entries.{receives_on}
use Rattle.host_pairs.specs.Gone.{desk_after, left_with}
use Rattle.host_pairs.specs.Outgoing.{end_at}
use Rattle.host_pairs.specs.Parcels.{Bytes}
use Rattle.host_pairs.specs.Turn.{TurnState, orders_taken, with_desk}
use Rattle.host_pairs.specs.declared.entry.Entry.{Entry}
use Rattle.host_pairs.specs.declared.notice.Notice.TheVariants as notice

-- an end is found at this place, or there is none that passes
abbrev pub IsFoundAt : (Entry → Bool) → List Entry → Option ℕ → Type 0
IsFoundAt test entries place = MatchOption place (find test entries ≡ None) (λ at. (d : Entry) → find test entries ≡ Some (slice_index_or entries at d))

-- the first bits of a text's data have arrived at a socket, on a link
abbrev pub data_arrived : ℕ → ℕ → ℕ → List Bool → TurnState → TurnState
data_arrived socket link bits text t =
    with_desk t (desk_told (notice.Arrived socket (data_of bits text) ∷ []) (changed (receives_on link) (spent bits) (desk_of t.pair t.listening)))

-- this many bytes of the end at a place have gone out
abbrev pub bytes_left : Host → ℕ → ℕ → ℕ → ℕ → TurnState → TurnState
bytes_left peer stamp at size count t =
    left_with (Bytes (end_at t.pair.entries at) size count) t (desk_after peer stamp (Bytes (end_at t.pair.entries at) size count) t)

-- after the first order of these octets was taken, the others are in the octets after those that were read
abbrev pub LeavesOrders : Host → ℕ → List ℕ → TurnState → TurnState → ℕ → Type 0
LeavesOrders peer stamp octets old new read =
    (more : ℕ) → orders_taken peer stamp (orders_within (1 + more) octets) old ≡ orders_taken peer stamp (orders_within more (drop read octets)) new
