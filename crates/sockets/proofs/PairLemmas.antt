-- A pair that is changed, and the others.
use Rattle.std.proofs.Common.{◌≡◌, Bool, true, false, cond, List, [], ◌∷◌, refl, ap, sym, ◌∙◌, arith, nat_lt}
use Rattle.std.proofs.lemmas.Bool.{ltb-true}
use Rattle.interface.specs.Host.{Host, same_host, address_octet}
use Rattle.host_pairs.specs.Pair.{PairState, opening_pair, is_opening}
use Rattle.sockets.specs.Pairs.{pair_with, with_pair, placed, without_peer}
use Rattle.sockets.specs.declared.peer.Peer.{Peer}
use Rattle.sockets.proofs.PeerLemmas.{same_host-true, same_octet}
use Rattle.host_pairs.proofs.lemmas.{opening_is}

-- ---- one host or another

alike : (g h k : Host) → same_host g k ≡ true → same_host h g ≡ same_host h k
alike g h k e = ap (λ (x : Host). same_host h x) (same_host-true g k e)

abbrev peer : Host → PairState → Peer
peer g q = record { host = g; pair = q }

-- ---- a pair that is put in its place

abbrev IsPlaced : Host → Host → PairState → List Peer → Type 0
IsPlaced g h q ps = pair_with h (placed (peer g q) ps) ≡ cond (same_host h g) q (pair_with h ps)

placed_nowhere : (g h : Host) (q : PairState) (b : Bool) → same_host h g ≡ b → IsPlaced g h q []
placed_nowhere g h q true e = rw e refl
placed_nowhere g h q false e = rw e refl

placed_step : (g h : Host) (q : PairState) (p : Peer) (ps : List Peer) → IsPlaced g h q ps
    → (below same mine his : Bool) → nat_lt (address_octet p.host) (address_octet g) ≡ below → same_host g p.host ≡ same → same_host h g ≡ mine → same_host h p.host ≡ his
    → IsPlaced g h q (p ∷ ps)
placed_step g h q p ps rest true same true true e f m t =
    absurd (let a : address_octet h ≡ address_octet p.host = same_octet h p.host t in let b : address_octet h ≡ address_octet g = same_octet h g m in omega (arith, a, b, ltb-true (address_octet p.host) (address_octet g) e))
placed_step g h q p ps rest true same false true e f m t = rw (e, m, t) refl
placed_step g h q p ps rest true same mine false e f m t = rw (e, t) rest
placed_step g h q p ps rest false true true his e f m t = rw (e, f, m) refl
placed_step g h q p ps rest false true false true e f m t = absurd (let a : same_host h g ≡ same_host h p.host = alike g h p.host f in cc)
placed_step g h q p ps rest false true false false e f m t = rw (e, f, m, t) refl
placed_step g h q p ps rest false false true his e f m t = rw (e, f, m) refl
placed_step g h q p ps rest false false false his e f m t = rw (e, f, m) refl

is_placed : (g h : Host) (q : PairState) (ps : List Peer) → IsPlaced g h q ps
is_placed g h q [] = placed_nowhere g h q (same_host h g) refl
is_placed g h q (p ∷ ps) =
    placed_step g h q p ps (is_placed g h q ps) (nat_lt (address_octet p.host) (address_octet g)) (same_host g p.host) (same_host h g) (same_host h p.host) refl refl refl refl

-- ---- a pair that is taken out

abbrev IsOut : Host → Host → List Peer → Type 0
IsOut g h ps = pair_with h (without_peer g ps) ≡ cond (same_host h g) opening_pair (pair_with h ps)

out_nowhere : (g h : Host) (b : Bool) → same_host h g ≡ b → IsOut g h []
out_nowhere g h true e = rw e refl
out_nowhere g h false e = rw e refl

out_step : (g h : Host) (p : Peer) (ps : List Peer) → IsOut g h ps
    → (same mine his : Bool) → same_host g p.host ≡ same → same_host h g ≡ mine → same_host h p.host ≡ his → IsOut g h (p ∷ ps)
out_step g h p ps rest true true his f m t = let r : pair_with h (without_peer g ps) ≡ opening_pair = rw m at rest in rw (f, m) r
out_step g h p ps rest true false true f m t = absurd (let a : same_host h g ≡ same_host h p.host = alike g h p.host f in cc)
out_step g h p ps rest true false false f m t = let r : pair_with h (without_peer g ps) ≡ pair_with h ps = rw m at rest in rw (f, m, t) r
out_step g h p ps rest false true true f m t =
    absurd (let a : h ≡ g = same_host-true h g m in let b : same_host h p.host ≡ same_host g p.host = ap (λ (x : Host). same_host x p.host) a in cc)
out_step g h p ps rest false false true f m t = rw (f, m, t) refl
out_step g h p ps rest false mine false f m t = rw (f, t) rest

is_out : (g h : Host) (ps : List Peer) → IsOut g h ps
is_out g h [] = out_nowhere g h (same_host h g) refl
is_out g h (p ∷ ps) = out_step g h p ps (is_out g h ps) (same_host g p.host) (same_host h g) (same_host h p.host) refl refl refl

-- ---- a pair that is changed

changed_by : (g h : Host) (q : PairState) (ps : List Peer) (b : Bool) → is_opening q ≡ b → pair_with h (with_pair g q ps) ≡ cond (same_host h g) q (pair_with h ps)
changed_by g h q ps true e = rw e (is_out g h ps ∙ ap (λ (x : PairState). cond (same_host h g) x (pair_with h ps)) (sym (opening_is q e)))
changed_by g h q ps false e = rw e (is_placed g h q ps)

pub pair_changed : (g h : Host) (q : PairState) (ps : List Peer) → pair_with h (with_pair g q ps) ≡ cond (same_host h g) q (pair_with h ps)
pair_changed g h q ps = changed_by g h q ps (is_opening q) refl

pub others_stay : (g h : Host) (q : PairState) (ps : List Peer) → same_host h g ≡ false → pair_with h (with_pair g q ps) ≡ pair_with h ps
others_stay g h q ps e = let r : pair_with h (with_pair g q ps) ≡ cond (same_host h g) q (pair_with h ps) = pair_changed g h q ps in rw e at r
