-- The peer that something goes to is among the peers with its pair.
use Rattle.std.proofs.Common.{◌≡◌, ℕ, ◌<◌, Bool, true, false, List, [], ◌∷◌, Option, Some, None, refl, ap, subst, arith}
use Rattle.interface.specs.Host.{Host, same_host, address_octet}
use Rattle.interface.proofs.lemmas.{same_host-refl}
use Rattle.host_pairs.specs.Outgoing.{IsThere, parcel_of}
use Rattle.sockets.specs.Pairs.{pair_with}
use Rattle.sockets.specs.Peers.{StandAbove, AreInOrder}
use Rattle.host_pairs.specs.Parcels.{Parcel, next_of}
use Rattle.sockets.specs.Sending.{next_in}
use Rattle.host_pairs.specs.declared.outgoing.Outgoing.{Outgoing}
use Rattle.sockets.specs.declared.peer.Peer.{Peer}
use Rattle.sockets.proofs.PeerLemmas.{same_octet}

abbrev peer_or : Peer → Option (Peer × Parcel) → Peer
peer_or d None = d
peer_or d (Some found) = found.0

above_at : (n : ℕ) (q : Peer) (qs : List Peer) (p : Peer) (x : Parcel) → StandAbove n (q ∷ qs)
    → ((m : ℕ) → StandAbove m qs → next_in qs ≡ Some (p, x) → m < address_octet p.host)
    → (o : Option Parcel) → next_of q.pair ≡ o → next_in (q ∷ qs) ≡ Some (p, x) → n < address_octet p.host
above_at n q qs p x s rest (Some y) e is =
    let same : q ≡ p = ap (peer_or q) (rw e at is) in
    subst (λ (r : Peer). n < address_octet r.host) same s.0
above_at n q qs p x s rest None e is =
    let later : next_in qs ≡ Some (p, x) = rw e at is in
    omega (arith, s.0, rest (address_octet q.host) s.2 later)

next_above : (n : ℕ) (ps : List Peer) (p : Peer) (x : Parcel) → StandAbove n ps → next_in ps ≡ Some (p, x) → n < address_octet p.host
next_above n [] p x s is = absurd (cc)
next_above n (q ∷ qs) p x s is = above_at n q qs p x s (λ m t e. next_above m qs p x t e) (next_of q.pair) refl is

unlike : (h : Host) (q : Peer) → address_octet q.host < address_octet h → (b : Bool) → same_host h q.host ≡ b → b ≡ false
unlike h q lt true e = absurd (let o : address_octet h ≡ address_octet q.host = same_octet h q.host e in omega (arith, lt, o))
unlike h q lt false e = refl

pair_at : (n : ℕ) (q : Peer) (qs : List Peer) (p : Peer) (x : Parcel) → StandAbove n (q ∷ qs) → (next_in qs ≡ Some (p, x) → pair_with p.host qs ≡ p.pair)
    → (o : Option Parcel) → next_of q.pair ≡ o → next_in (q ∷ qs) ≡ Some (p, x) → pair_with p.host (q ∷ qs) ≡ p.pair
pair_at n q qs p x s rest (Some y) e is =
    let same : q ≡ p = ap (peer_or q) (rw e at is) in
    subst (λ (r : Peer). pair_with r.host (q ∷ qs) ≡ r.pair) same (rw (same_host-refl q.host) refl)
pair_at n q qs p x s rest None e is =
    let later : next_in qs ≡ Some (p, x) = rw e at is in
    let other : same_host p.host q.host ≡ false = unlike p.host q (next_above (address_octet q.host) qs p x s.2 later) (same_host p.host q.host) refl in
    rw other (rest later)

next_pair_by : (n : ℕ) (ps : List Peer) (p : Peer) (x : Parcel) → StandAbove n ps → next_in ps ≡ Some (p, x) → pair_with p.host ps ≡ p.pair
next_pair_by n [] p x s is = absurd (cc)
next_pair_by n (q ∷ qs) p x s is = pair_at n q qs p x s (λ e. next_pair_by (address_octet q.host) qs p x s.2 e) (next_of q.pair) refl is

pub next_pair : (ps : List Peer) (p : Peer) (x : Parcel) → AreInOrder ps → next_in ps ≡ Some (p, x) → pair_with p.host ps ≡ p.pair
next_pair ps p x s is = next_pair_by 0 ps p x s is

-- what was found, and the pair of its host
pub record IsNext (ps : List Peer) (h : Host) (out : Outgoing) : Type 0 where
  pub found : next_in ps ≡ Some (record { host = h; pair = pair_with h ps }, parcel_of (pair_with h ps).entries out)
  pub there : IsThere (pair_with h ps).entries out

pub next_by_host : (ps : List Peer) (p : Peer) (out : Outgoing) → AreInOrder ps → next_in ps ≡ Some (p, parcel_of p.pair.entries out)
    → IsThere p.pair.entries out → IsNext ps p.host out
next_by_host ps p out s e t =
    let pair : pair_with p.host ps ≡ p.pair = next_pair ps p (parcel_of p.pair.entries out) s e in
    record { found = rw pair e; there = rw pair t }
