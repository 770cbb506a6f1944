-- One end of a connection, as its host's own log has it (NIC 8246, RTS, STR, CLS, ALL and RET).
use Rattle.std.specs.Prelude.{ℕ, ◌==◌, Bool, true, false, not, ◌&&◌, nat_lt, nat_le, List, [], ◌∷◌, ◌++◌, length, take}
use Rattle.std.specs.Prelude.{drop, option_map, unwrap_or, Option, None, if◌then◌else◌}
use Rattle.std.specs.Cmp.Lexicographic.{pointwise}
use Rattle.std.specs.List.{sum_by}
use Rattle.ncp_control.specs.Allocation.{nothing, added}
use Rattle.ncp_control.specs.DataHeader.{header_of, data_bits}
use Rattle.ncp_control.specs.Numbers.{is_receive_socket}
use Rattle.ncp_control.specs.declared.allocation.Allocation.{Allocation}
use Rattle.ncp_control.specs.declared.data_header.DataHeader.{DataHeader}
use Rattle.host_contract.specs.Acts.{Sockets}

-- the data of a message: the size of its bytes, and its bits. What follows the bits that the header announces is
-- padding
pub record Data : Type 0 where
  pub size : ℕ
  pub bits : List Bool

abbrev pub data_of : List Bool → Option Data
data_of text =
    option_map (λ (h : DataHeader). record { size = h.size; bits = take (data_bits h) (drop 40 text) }) (header_of text)

abbrev pub same_bits : List Bool → List Bool → Bool
same_bits = pointwise (λ x y. if x then y else not y)

pub record End : Type 0 where
  pub at : Sockets
  -- whether its request has crossed, and its partner's; its CLS, and its partner's
  pub asked : Bool
  pub partner : Bool
  pub gone : Bool
  pub taken : Bool
  -- the link that the receiver named, and the byte size that the sender did
  pub link : Option ℕ
  pub size : Option ℕ
  -- whether its user was notified that it is open, and has closed it; whether it has passed over a message
  pub told : Bool
  pub closed : Bool
  pub lost : Bool
  -- at a receiver what its user granted, at a sender what ALLs have; what RETs gave back of that; what was sent or
  -- counted
  pub granted : Allocation
  pub back : Allocation
  pub used : Allocation
  -- at a receiver what ALLs said of the grants, and what its user knows of the returns
  pub said : Allocation
  pub returned : Allocation
  -- at a sender the bits that were handed over and haven't gone out; at a receiver what came and isn't counted, the
  -- oldest first
  pub handed : List Bool
  pub waits : List Data

abbrev pub new_end : Sockets → End
new_end s = record {
  at = s;
  asked = false;
  partner = false;
  gone = false;
  taken = false;
  link = None;
  size = None;
  told = false;
  closed = false;
  lost = false;
  granted = nothing;
  back = nothing;
  used = nothing;
  said = nothing;
  returned = nothing;
  handed = [];
  waits = [];
}

-- receiving ends have even sockets
abbrev pub receives : End → Bool
receives e = is_receive_socket e.at.own

abbrev pub is_open : End → Bool
is_open e = e.asked && e.partner && not e.gone && not e.taken

-- its user knows that it is open, and neither CLS has crossed
abbrev pub is_known : End → Bool
is_known e = e.told && not e.gone && not e.taken

abbrev pub is_waiting : End → Bool
is_waiting e = nat_lt 0 (length e.waits)

abbrev pub plus : Allocation → Allocation → Allocation
plus a b = added a b.messages b.bits

-- what messages take of a grant
abbrev pub cost : List Data → Allocation
cost messages = record { messages = length messages; bits = sum_by (λ d. length d.bits) messages }

-- so much is no more than that
abbrev pub covers : Allocation → Allocation → Bool
covers all part = nat_le part.messages all.messages && nat_le part.bits all.bits

-- ---- what becomes of it

abbrev pub sends_data : Data → End → End
sends_data d e = record e { used = plus e.used (cost (d ∷ [])); handed = drop (length d.bits) e.handed }

-- data wait to be counted where they have its size, are within its grants, and come after no gap
abbrev pub is_taken : Data → End → Bool
is_taken d e =
    e.asked && not e.lost && d.size == unwrap_or e.size d.size &&
    covers e.granted (plus (plus (cost (d ∷ e.waits)) e.used) e.returned)

abbrev pub takes_data : Data → End → End
takes_data d e = if is_taken d e then record e { waits = e.waits ++ d ∷ [] } else e

-- the oldest is counted
abbrev pub counts_first : List Data → End → End
counts_first [] e = e
counts_first (d ∷ later) e = record e { used = plus e.used (cost (d ∷ [])); waits = later }

-- what it hasn't counted when something else happens it has passed over
abbrev pub settles : End → End
settles e = if e.told && is_waiting e then record e { lost = true; waits = [] } else e
