-- Of which peer something goes out.
use Rattle.std.proofs.Common.{◌≡◌, List, [], ◌∷◌, Option, Some, None, refl, ap, sym, ◌∙◌}
use Rattle.host_pairs.specs.Parcels.{Parcel, next_of}
use Rattle.sockets.specs.Sending.{next_in, parcel_for}
use Rattle.sockets.specs.declared.peer.Peer.{Peer}
use Rattle.host_pairs.proofs.lemmas.{some_is}

-- ---- of which peer

next_by : (p : Peer) (parcel : Parcel) (q : Peer) (qs : List Peer) (o : Option Parcel) → next_of q.pair ≡ o → parcel_for q o (next_in qs) ≡ Some (p, parcel)
    → (next_in qs ≡ Some (p, parcel) → next_of p.pair ≡ Some parcel) → next_of p.pair ≡ Some parcel
next_by p parcel q qs None e g rest = rest g
next_by p parcel q qs (Some x) e g rest =
    let r : (q, x) ≡ (p, parcel) = some_is (q, x) (p, parcel) g in
    let a : q ≡ p = ap (λ (y : Peer × Parcel). y.0) r in
    let b : x ≡ parcel = ap (λ (y : Peer × Parcel). y.1) r in
    sym (ap (λ (y : Peer). next_of y.pair) a) ∙ e ∙ ap (λ (y : Parcel). Some y) b

pub next_is : (p : Peer) (parcel : Parcel) (peers : List Peer) → next_in peers ≡ Some (p, parcel) → next_of p.pair ≡ Some parcel
next_is p parcel [] g = absurd (cc)
next_is p parcel (q ∷ qs) g = next_by p parcel q qs (next_of q.pair) refl g (next_is p parcel qs)
