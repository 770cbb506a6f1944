-- Which sockets have an end with some peer, so far as that is known beside the peers.
use Rattle.std.specs.Prelude.{◌≡◌, ℕ, ◌==◌, Bool, false, List}
use Rattle.std.specs.BTreeSet.{BTreeSet, contains}
use Rattle.std.specs.List.{list_any}
use Rattle.std.specs.Ordering.{nat_cmp}
use Rattle.host_pairs.specs.declared.entry.Entry.{Entry}
use Rattle.sockets.specs.declared.owned.Owned.{Owned}
use Rattle.sockets.specs.declared.owned.Owned.TheVariants as owned
use Rattle.sockets.specs.declared.peer.Peer.{Peer}

-- whether one of these ends is on this socket, whoever opened it
abbrev pub has_own : ℕ → List Entry → Bool
has_own socket entries = list_any (λ e. e.own == socket) entries

-- whether this host has an end on this socket with one of these peers
abbrev pub some_own : ℕ → List Peer → Bool
some_own socket peers = list_any (λ p. has_own socket p.pair.entries) peers

-- a socket that isn't among these has no end
abbrev pub Covers : BTreeSet ℕ → List Peer → Type 0
Covers sockets peers = (socket : ℕ) → contains nat_cmp sockets socket ≡ false → some_own socket peers ≡ false

-- what is known is true
abbrev pub AreKnown : Owned → List Peer → Type 0
AreKnown owned.Unknown peers = Unit {0}
AreKnown owned.Asked peers = Unit {0}
AreKnown (owned.Known sockets) peers = Covers sockets peers

-- the same, with an end on this socket besides
abbrev pub AreKnownBut : ℕ → Owned → List Peer → Type 0
AreKnownBut own owned.Unknown peers = Unit {0}
AreKnownBut own owned.Asked peers = Unit {0}
AreKnownBut own (owned.Known sockets) peers = (socket : ℕ) → contains nat_cmp sockets socket ≡ false → (own == socket) ≡ false → some_own socket peers ≡ false
