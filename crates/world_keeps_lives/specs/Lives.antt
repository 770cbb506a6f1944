-- The lives of a host in the book, and the ends of its program that they are lives of (NIC 8246, connections and ALL).
use Rattle.std.specs.Prelude.{◌≡◌, ℕ, ◌+◌, ◌≤◌, ◌==◌, ◌&&◌, Bool, true, false, List, [], ◌∷◌, ◌++◌, filter, length, Some}
use Rattle.interface.specs.Host.{Host, same_host}
use Rattle.ncp_control.specs.Allocation as counters
use Rattle.ncp_control.specs.declared.allocation.Allocation.{Allocation}
use Rattle.host_pairs.specs.Entries.{has_cls, is_mine_on, is_open}
use Rattle.ncp_control.specs.Numbers.{is_receive_socket, is_send_socket}
use Rattle.ncp_control.specs.Phases.{is_ready}
use Rattle.host_pairs.specs.Desk.{listens_on}
use Rattle.host_pairs.specs.declared.entry.Entry.{Entry}
use Rattle.sockets.specs.Pairs.{NcpState, pair_with}
pub use Rattle.host_keeps_streams.specs.Ends.{has_opened}
use Rattle.net_sim.specs.Book.{Kept}
use Rattle.promise.specs.declared.life.Life.{Life}
use Rattle.promise.specs.Safe.{IsPrefix, IsGranted, receives, sends}

-- ---- the ends of a host's own

-- those on a socket
abbrev pub mine_on : ℕ → List Entry → List Entry
mine_on socket entries = filter (is_mine_on socket) entries

-- until both requests have passed nothing was granted on an end, and nothing handed over
abbrev pub IsFresh : Entry → Type 0
IsFresh e = has_opened e ≡ false → (e.bits ≡ []) × (e.allocation ≡ counters.nothing)

-- an end that isn't this host's own is that of a request which it refuses
abbrev pub AreRefusing : List Entry → Type 0
AreRefusing [] = Unit {0}
AreRefusing (e ∷ entries) = (e.mine ≡ false → has_cls e.closing ≡ true) × AreRefusing entries

-- ---- the counts of a life

-- what was granted in a life was taken, was returned, or is left
pub record AddsUp (x : Life) (left : Allocation) : Type 0 where
  pub messages : x.granted.messages ≡ x.messages + x.returned.messages + left.messages
  pub bits : x.granted.bits ≡ length x.bits + x.returned.bits + left.bits

-- what was granted in a life was taken or returned, except for at most what a counter can hold: 65535 messages and 4294967295 bits
pub record IsBounded (x : Life) : Type 0 where
  pub messages : x.granted.messages ≤ x.messages + x.returned.messages + 65535
  pub bits : x.granted.bits ≤ length x.bits + x.returned.bits + 4294967295

-- ---- a life and its end

-- what was sent in a life is a prefix of what was handed over; what was taken in it is granted, and its grants are bounded
pub record IsSafe (x : Life) (handed : List Bool) : Type 0 where
  pub front : sends x ≡ true → IsPrefix x.bits handed
  pub within : receives x ≡ true → IsGranted x x.messages (length x.bits)
  pub bounded : receives x ≡ true → IsBounded x

-- a life is that of an end with a peer: they have one foreign socket and the same two stamps. While it is open, what was handed over
-- is what was sent and then what waits; and all of it was sent where the CLS of a sending end was queued before its partner's was taken. What was granted is
-- what was taken, what was returned, and what the end has left
pub record IsLifeOf (peer : Host) (e : Entry) (x : Life) (handed : List Bool) : Type 0 where
  pub peers : x.peer ≡ peer
  pub foreign : e.foreign ≡ x.foreign
  pub own : e.asked ≡ Some x.own_stamp
  pub partner : e.partner ≡ Some x.partner_stamp
  pub waits : is_open e ≡ true → sends x ≡ true → handed ≡ x.bits ++ e.bits
  pub drained : is_send_socket e.own ≡ true → is_receive_socket e.foreign ≡ true → sends x ≡ true → has_cls e.closing ≡ true → e.partner_closed ≡ false → handed ≡ x.bits
  pub left : receives x ≡ true → AddsUp x e.allocation

-- ---- all lives of a socket

abbrev pub at_socket : Host → ℕ → Life → Bool
at_socket h socket x = same_host h x.host && x.socket == socket

-- each of them is safe, and so it is for those that haven't ended
abbrev pub EachOn : Host → ℕ → (Life → List Bool → Type 0) → List Life → List (List Bool) → Type 0
EachOn h socket P [] [] = Unit {0}
EachOn h socket P [] (t ∷ handed) = ⊥
EachOn h socket P (x ∷ lives) [] = ⊥
EachOn h socket P (x ∷ lives) (t ∷ handed) = (at_socket h socket x ≡ true → IsSafe x t × (x.ended ≡ false → P x t)) × EachOn h socket P lives handed

abbrev pub EachIn : Host → ℕ → (Life → List Bool → Type 0) → Kept → Type 0
EachIn h socket P k = EachOn h socket P k.book.lives k.handed

-- none that hasn't ended
abbrev pub NoneOf : Life → List Bool → Type 0
NoneOf x handed = ⊥

-- ---- a socket

-- a host has no end on a socket, and no life there continues
pub record IsFreeSocket (h : Host) (socket : ℕ) (s : NcpState) (k : Kept) : Type 0 where
  pub none : (peer : Host) → mine_on socket (pair_with peer s.peers).entries ≡ []
  pub lives : EachIn h socket NoneOf k

-- it has one end there, with one peer; then the socket doesn't listen, and each life there that continues is that end's
pub record IsOwned (h : Host) (socket : ℕ) (s : NcpState) (k : Kept) : Type 0 where
  pub peer : Host
  pub end : Entry
  pub one : mine_on socket (pair_with peer s.peers).entries ≡ end ∷ []
  pub others : (other : Host) → same_host other peer ≡ false → mine_on socket (pair_with other s.peers).entries ≡ []
  pub silent : listens_on socket s.listening ≡ false
  pub fresh : IsFresh end
  pub lives : EachIn h socket (IsLifeOf peer end) k

-- a pair that isn't through a reset has no ends
pub record IsSteady (s : NcpState) : Type 0 where
  pub refusing : (peer : Host) → AreRefusing (pair_with peer s.peers).entries
  pub idle : (peer : Host) → is_ready (pair_with peer s.peers).phase ≡ false → (pair_with peer s.peers).entries ≡ []

-- ---- a life that isn't over

-- it is that of the one end which its host has on its socket. This is with its peer, and open by its two requests
pub record HasOpenEnd (s : NcpState) (x : Life) : Type 0 where
  pub end : Entry
  pub one : mine_on x.socket (pair_with x.peer s.peers).entries ≡ end ∷ []
  pub others : (other : Host) → same_host other x.peer ≡ false → mine_on x.socket (pair_with other s.peers).entries ≡ []
  pub foreign : end.foreign ≡ x.foreign
  pub own : end.asked ≡ Some x.own_stamp
  pub partner : end.partner ≡ Some x.partner_stamp
