-- Peers in order: where a host is among them.
pub use Rattle.interface.proofs.lemmas.{same_host-true}
use Rattle.std.proofs.Common.{◌≡◌, ℕ, ◌<◌, ◌≤◌, ◌-◌, ◌++◌, Bool, true, false, not, ◌&&◌, ◌==◌, List, [], ◌∷◌, length, find, Option, Some, None, Result, Ok, Err, OnOk, slice_set, slice_index_or, refl, ap, sym, subst, ◌∙◌, arith, suc, zero, nat_lt, eq-eqb}
use Rattle.std.specs.List.{count_by}
use Rattle.std.proofs.lemmas.List.Sums.{length-filter, count_by-le-length}
use Rattle.std.specs.List.Sorted.{IsPartitionPoint, IsPartitionedBy}
use Rattle.std.proofs.lemmas.Bool.{eqb-true, ltb-true, ltb-false, and_parts}
use Rattle.interface.specs.Host.{Host, IsAddress, same_host, address_octet}
use Rattle.interface.proofs.lemmas.{same_host-refl, and_none}
use Rattle.std.specs.declared.alloc.AllocError.{AllocError}
use Rattle.ncp_control.specs.declared.command.Command.{Command}
use Rattle.host_pairs.specs.Asked.{commanded, requested, with_end, with_more_bits}
use Rattle.host_pairs.specs.Commands.{granted}
use Rattle.host_pairs.specs.Pair.{PairState, is_opening}
use Rattle.host_pairs.specs.Entries.{changed_first, is_mine_on}
use Rattle.host_pairs.specs.declared.entry.Entry.{Entry}
use Rattle.sockets.specs.Memory.{newly_known}
use Rattle.sockets.specs.Pairs.{NcpState, owner_of, pair_in, pair_with, placed, without_peer, with_pair}
use Rattle.sockets.specs.Requests.{at_owner}
use Rattle.sockets.specs.Peers.{AreInOrder, IsMissing, StandAbove, StandsAt}
use Rattle.sockets.specs.declared.peer.Peer.{Peer}

-- ---- hosts

abbrev host_of : ℕ → ℕ → Host
host_of i j = record { imp = i; host = j }

pub same_octet : (g h : Host) → same_host g h ≡ true → address_octet g ≡ address_octet h
same_octet g h e = ap (λ (x : Host). address_octet x) (same_host-true g h e)

-- two hosts with one octet are one
octet_names : (g h : Host) → IsAddress g → IsAddress h → address_octet g ≡ address_octet h → same_host g h ≡ true
octet_names g h a b e =
    let imp : g.imp ≡ h.imp = omega (arith, e, a.imp_to, b.imp_to, a.host_to, b.host_to) in
    let host : g.host ≡ h.host = omega (arith, e, a.imp_to, b.imp_to, a.host_to, b.host_to) in
    rw (eq-eqb g.imp h.imp imp, eq-eqb g.host h.host host) refl

-- ---- order

not_less_by : (m n : ℕ) → n ≤ m → (b : Bool) → nat_lt m n ≡ b → b ≡ false
not_less_by m n le true e = absurd (omega (arith, le, ltb-true m n e))
not_less_by m n le false e = refl

not_less : (m n : ℕ) → n ≤ m → nat_lt m n ≡ false
not_less m n le = not_less_by m n le (nat_lt m n) refl

above_less : (m n : ℕ) (ps : List Peer) → m ≤ n → StandAbove n ps → StandAbove m ps
above_less m n [] le h = h
above_less m n (p ∷ ps) le h = (omega (arith, le, h.0), h.1, h.2)

differs : (h : Host) (p : Peer) → address_octet h < address_octet p.host → (b : Bool) → same_host h p.host ≡ b → b ≡ false
differs h p lt true e = absurd (let o : address_octet h ≡ address_octet p.host = same_octet h p.host e in omega (arith, lt, o))
differs h p lt false e = refl

pub other : (h : Host) (p : Peer) → address_octet h < address_octet p.host → same_host h p.host ≡ false
other h p lt = differs h p lt (same_host h p.host) refl

none_above : (h : Host) (n : ℕ) (ps : List Peer) → address_octet h ≤ n → StandAbove n ps → find (λ (p : Peer). same_host h p.host) ps ≡ None
none_above h n [] le s = refl
none_above h n (p ∷ ps) le s = rw (other h p (omega (arith, le, s.0))) (none_above h (address_octet p.host) ps (omega (arith, le, s.0)) s.2)

kept_above : (h : Host) (n : ℕ) (ps : List Peer) → address_octet h ≤ n → StandAbove n ps → without_peer h ps ≡ ps
kept_above h n [] le s = refl
kept_above h n (p ∷ ps) le s = rw (other h p (omega (arith, le, s.0))) (ap (λ (qs : List Peer). p ∷ qs) (kept_above h (address_octet p.host) ps (omega (arith, le, s.0)) s.2))

-- ---- places

abbrev below : Host → Peer → Bool
below h p = nat_lt (address_octet p.host) (address_octet h)

abbrev Parts : Host → List Peer → ℕ → Type 0
Parts h ps at = IsPartitionPoint (λ (p : Peer). below h p ≡ true) (λ (p : Peer). below h p ≡ false) ps at

rest_parts : (h : Host) (p : Peer) (ps : List Peer) (at : ℕ) → Parts h (p ∷ ps) (suc at) → Parts h ps at
rest_parts h p ps at t = (λ k d lo hi. t.0 (suc k) d (omega (arith, lo)) (omega (arith, hi)), λ k d lo hi. t.1 (suc k) d (omega (arith, lo)) (omega (arith, hi)))

first_below : (h : Host) (p : Peer) (ps : List Peer) (at : ℕ) → Parts h (p ∷ ps) (suc at) → below h p ≡ true
first_below h p ps at t = t.0 0 p (omega arith) (omega arith)

first_not : (h : Host) (p : Peer) (ps : List Peer) → Parts h (p ∷ ps) 0 → below h p ≡ false
first_not h p ps t = t.1 0 p (omega arith) (omega arith)

differs_below : (h : Host) (p : Peer) → below h p ≡ true → (b : Bool) → same_host h p.host ≡ b → b ≡ false
differs_below h p lt true e = absurd (let o : address_octet h ≡ address_octet p.host = same_octet h p.host e in omega (arith, o, ltb-true (address_octet p.host) (address_octet h) lt))
differs_below h p lt false e = refl

other_below : (h : Host) (p : Peer) → below h p ≡ true → same_host h p.host ≡ false
other_below h p lt = differs_below h p lt (same_host h p.host) refl

each_above : (n : ℕ) (ps : List Peer) → StandAbove n ps → (j : ℕ) (d : Peer) → j < length ps → n < address_octet (slice_index_or ps j d).host
each_above n [] s j d lt = absurd (omega (arith, lt))
each_above n (p ∷ ps) s zero d lt = s.0
each_above n (p ∷ ps) s (suc j) d lt = omega (arith, s.0, each_above (address_octet p.host) ps s.2 j d (omega (arith, lt)))

less_by : (m n : ℕ) → m < n → (b : Bool) → nat_lt m n ≡ b → b ≡ true
less_by m n lt true e = refl
less_by m n lt false e = absurd (omega (arith, lt, ltb-false m n e))

pub stands_at : (h : Host) (n : ℕ) (ps : List Peer) (at : ℕ) (d : Peer) → StandAbove n ps → at < length ps → same_host h (slice_index_or ps at d).host ≡ true → StandsAt h ps at
stands_at h n [] at d s lt e = absurd (omega (arith, lt))
stands_at h n (p ∷ ps) zero d s lt e = record {
  there = lt;
  host = λ x. sym (same_host-true h p.host e);
  found = λ x. rw e refl;
  removed = rw e (sym (kept_above h (address_octet p.host) ps (omega (arith, same_octet h p.host e)) s.2));
  placed = λ q. rw (not_less (address_octet p.host) (address_octet h) (omega (arith, same_octet h p.host e)), e) refl;
}
stands_at h n (p ∷ ps) (suc at) d s lt e =
    let r : StandsAt h ps at = stands_at h (address_octet p.host) ps at d s.2 (omega (arith, lt)) e in
    let same : address_octet h ≡ address_octet (slice_index_or ps at d).host = same_octet h (slice_index_or ps at d).host e in
    let before : address_octet p.host < address_octet h = omega (arith, same, each_above (address_octet p.host) ps s.2 at d (omega (arith, lt))) in
    let less : below h p ≡ true = less_by (address_octet p.host) (address_octet h) before (nat_lt (address_octet p.host) (address_octet h)) refl in
    let o : same_host h p.host ≡ false = other_below h p less in
    record {
      there = lt;
      host = λ x. r.host x;
      found = λ x. rw o (r.found x);
      removed = rw o (ap (λ (qs : List Peer). p ∷ qs) r.removed);
      placed = λ q. rw less (ap (λ (qs : List Peer). p ∷ qs) (r.placed q));
    }

less_of : (m n : ℕ) → n ≤ m → (n ≡ m → ⊥) → n < m
less_of m n le ne = omega (arith, le, ne)

pub is_missing : (h : Host) (n : ℕ) (ps : List Peer) (at : ℕ) → IsAddress h → StandAbove n ps → Parts h ps at → at ≤ length ps
    → (at < length ps → (d : Peer) → same_host h (slice_index_or ps at d).host ≡ false) → IsMissing h ps at
is_missing h n [] zero a s t le e = record { within = le; found = refl; removed = refl; placed = λ q. refl }
is_missing h n [] (suc at) a s t le e = absurd (omega (arith, le))
is_missing h n (p ∷ ps) zero a s t le e =
    let o : same_host h p.host ≡ false = e (omega arith) p in
    let not_same : (address_octet h ≡ address_octet p.host) → ⊥ = λ w. (let y : same_host h p.host ≡ true = octet_names h p.host a s.1 w in absurd (cc)) in
    let above : address_octet h < address_octet p.host = less_of (address_octet p.host) (address_octet h) (ltb-false (address_octet p.host) (address_octet h) (first_not h p ps t)) not_same in
    record {
      within = le;
      found = rw o (none_above h (address_octet p.host) ps (omega (arith, above)) s.2);
      removed = rw o (ap (λ (qs : List Peer). p ∷ qs) (kept_above h (address_octet p.host) ps (omega (arith, above)) s.2));
      placed = λ q. rw (first_not h p ps t, o) refl;
    }
is_missing h n (p ∷ ps) (suc at) a s t le e =
    let r : IsMissing h ps at = is_missing h (address_octet p.host) ps at a s.2 (rest_parts h p ps at t) (omega (arith, le)) (λ lt d. e (omega (arith, lt)) d) in
    let o : same_host h p.host ≡ false = other_below h p (first_below h p ps at t) in
    record {
      within = le;
      found = rw o r.found;
      removed = rw o (ap (λ (qs : List Peer). p ∷ qs) r.removed);
      placed = λ q. rw (first_below h p ps at t) (ap (λ (qs : List Peer). p ∷ qs) (r.placed q));
    }

-- what is known of a host is at its place
pub pair_at : (h : Host) (ps : List Peer) (at : ℕ) (p : Peer) → StandsAt h ps at → p ≡ slice_index_or ps at p → pair_with h ps ≡ p.pair
pair_at h ps at p s is = ap (λ (o : Option Peer). pair_in o) (s.found p) ∙ ap (λ (q : Peer). q.pair) (sym is)

-- another pair there is the pair of that host
pub set_at : (h : Host) (ps : List Peer) (at : ℕ) (p : Peer) → StandsAt h ps at → p.host ≡ (slice_index_or ps at p).host
    → slice_set ps at p ≡ placed (record { host = h; pair = p.pair }) ps
set_at h ps at p s same =
    ap (λ (g : Host). slice_set ps at (record { host = g; pair = p.pair })) (same ∙ s.host p) ∙ s.placed p.pair

-- ---- the order is kept

placed_below : (n : ℕ) (p q : Peer) (qs : List Peer) → n < address_octet p.host → IsAddress p.host → StandAbove n (q ∷ qs)
    → ((m : ℕ) → m < address_octet p.host → StandAbove m qs → StandAbove m (placed p qs))
    → (below same : Bool) → nat_lt (address_octet q.host) (address_octet p.host) ≡ below → same_host p.host q.host ≡ same → StandAbove n (placed p (q ∷ qs))
placed_below n p q qs lt a s rest true same e f = rw e (s.0, s.1, rest (address_octet q.host) (ltb-true (address_octet q.host) (address_octet p.host) e) s.2)
placed_below n p q qs lt a s rest false true e f =
    rw (e, f) (lt, a, above_less (address_octet p.host) (address_octet q.host) qs (omega (arith, same_octet p.host q.host f)) s.2)
placed_below n p q qs lt a s rest false false e f =
    let not_same : (address_octet p.host ≡ address_octet q.host) → ⊥ = λ w. (let y : same_host p.host q.host ≡ true = octet_names p.host q.host a s.1 w in absurd (cc)) in
    rw (e, f) (lt, a, (less_of (address_octet q.host) (address_octet p.host) (ltb-false (address_octet q.host) (address_octet p.host) e) not_same, s.1, s.2))

placed_above : (n : ℕ) (p : Peer) (ps : List Peer) → n < address_octet p.host → IsAddress p.host → StandAbove n ps → StandAbove n (placed p ps)
placed_above n p [] lt a s = (lt, a, tt)
placed_above n p (q ∷ qs) lt a s =
    placed_below n p q qs lt a s (λ m l t. placed_above m p qs l a t) (nat_lt (address_octet q.host) (address_octet p.host)) (same_host p.host q.host) refl refl

without_one : (h : Host) (n : ℕ) (p : Peer) (ps : List Peer) → StandAbove n (p ∷ ps) → ((m : ℕ) → StandAbove m ps → StandAbove m (without_peer h ps))
    → (same : Bool) → same_host h p.host ≡ same → StandAbove n (without_peer h (p ∷ ps))
without_one h n p ps s rest true e = rw e (rest n (above_less n (address_octet p.host) ps (omega (arith, s.0)) s.2))
without_one h n p ps s rest false e = rw e (s.0, s.1, rest (address_octet p.host) s.2)

without_above : (h : Host) (n : ℕ) (ps : List Peer) → StandAbove n ps → StandAbove n (without_peer h ps)
without_above h n [] s = tt
without_above h n (p ∷ ps) s = without_one h n p ps s (λ m t. without_above h m ps t) (same_host h p.host) refl

-- ---- what was taken out is put back

-- below all peers it is placed first
placed_first : (p : Peer) (n : ℕ) (ps : List Peer) → address_octet p.host ≤ n → StandAbove n ps → placed p ps ≡ p ∷ ps
placed_first p n [] le s = refl
placed_first p n (q ∷ qs) le s =
    let lt : nat_lt (address_octet q.host) (address_octet p.host) ≡ false = not_less (address_octet q.host) (address_octet p.host) (omega (arith, le, s.0)) in
    rw (lt, other p.host q (omega (arith, le, s.0))) refl

without_other : (h : Host) (p : Peer) (ps : List Peer) → without_peer h (without_peer h ps) ≡ without_peer h ps
    → (same : Bool) → same_host h p.host ≡ same → without_peer h (without_peer h (p ∷ ps)) ≡ without_peer h (p ∷ ps)
without_other h p ps rest true e = rw e rest
without_other h p ps rest false e = rw e (let more : without_peer h (p ∷ without_peer h ps) ≡ p ∷ without_peer h ps = rw e (ap (λ (qs : List Peer). p ∷ qs) rest) in more)

-- ---- what is left in a peer's place

abbrev peer_at : Host → PairState → Peer
peer_at h q = record { host = h; pair = q }

placed_over : (h : Host) (o q : PairState) (ps : List Peer) → placed (peer_at h q) (peer_at h o ∷ ps) ≡ peer_at h q ∷ ps
placed_over h o q ps = rw (not_less (address_octet h) (address_octet h) (omega arith), same_host-refl h) refl

placed_step : (h : Host) (o q : PairState) (p : Peer) (ps : List Peer) → placed (peer_at h q) (placed (peer_at h o) ps) ≡ placed (peer_at h q) ps
    → (below same : Bool) → nat_lt (address_octet p.host) (address_octet h) ≡ below → same_host h p.host ≡ same
    → placed (peer_at h q) (placed (peer_at h o) (p ∷ ps)) ≡ placed (peer_at h q) (p ∷ ps)
placed_step h o q p ps rest true same e f =
    rw e (let more : placed (peer_at h q) (p ∷ placed (peer_at h o) ps) ≡ p ∷ placed (peer_at h q) ps = rw e (ap (λ (qs : List Peer). p ∷ qs) rest) in more)
placed_step h o q p ps rest false true e f = rw (e, f) (placed_over h o q ps)
placed_step h o q p ps rest false false e f = rw (e, f) (placed_over h o q (p ∷ ps))

placed_twice : (h : Host) (o q : PairState) (ps : List Peer) → placed (peer_at h q) (placed (peer_at h o) ps) ≡ placed (peer_at h q) ps
placed_twice h o q [] = placed_over h o q []
placed_twice h o q (p ∷ ps) = placed_step h o q p ps (placed_twice h o q ps) (nat_lt (address_octet p.host) (address_octet h)) (same_host h p.host) refl refl

without_over : (h : Host) (o : PairState) (ps : List Peer) → without_peer h (peer_at h o ∷ ps) ≡ without_peer h ps
without_over h o ps = rw (same_host-refl h) refl

without_step : (h : Host) (o : PairState) (p : Peer) (ps : List Peer) → without_peer h (placed (peer_at h o) ps) ≡ without_peer h ps
    → (below same : Bool) → nat_lt (address_octet p.host) (address_octet h) ≡ below → same_host h p.host ≡ same
    → without_peer h (placed (peer_at h o) (p ∷ ps)) ≡ without_peer h (p ∷ ps)
without_step h o p ps rest true true e f = rw (e, f) rest
without_step h o p ps rest true false e f = rw (e, f) (ap (λ (qs : List Peer). p ∷ qs) rest)
without_step h o p ps rest false true e f = rw (e, f) (without_over h o ps)
without_step h o p ps rest false false e f = rw (e, f) (without_over h o (p ∷ ps) ∙ (let kept : without_peer h (p ∷ ps) ≡ p ∷ without_peer h ps = rw f refl in kept))

without_placed : (h : Host) (o : PairState) (ps : List Peer) → without_peer h (placed (peer_at h o) ps) ≡ without_peer h ps
without_placed h o [] = without_over h o []
without_placed h o (p ∷ ps) = without_step h o p ps (without_placed h o ps) (nat_lt (address_octet p.host) (address_octet h)) (same_host h p.host) refl refl

swapped_by : (h : Host) (o q : PairState) (ps : List Peer) → (b : Bool) → is_opening q ≡ b → with_pair h q (placed (peer_at h o) ps) ≡ with_pair h q ps
swapped_by h o q ps true e = rw e (without_placed h o ps)
swapped_by h o q ps false e = rw e (placed_twice h o q ps)

-- what was in a peer's place doesn't matter once the peer is put back
pub again_swapped : (h : Host) (o q : PairState) (ps qs : List Peer) → qs ≡ placed (peer_at h o) ps → with_pair h q qs ≡ with_pair h q ps
again_swapped h o q ps qs e = ap (λ (rs : List Peer). with_pair h q rs) e ∙ swapped_by h o q ps (is_opening q) refl

-- ---- the search

partitioned_at : (h : Host) (n : ℕ) (ps : List Peer) → StandAbove n ps → (i j : ℕ) (d : Peer) → i ≤ j → j < length ps
    → nat_lt (address_octet (slice_index_or ps j d).host) (address_octet h) ≡ true → nat_lt (address_octet (slice_index_or ps i d).host) (address_octet h) ≡ true
partitioned_at h n [] s i j d le lt t = absurd (omega (arith, lt))
partitioned_at h n (p ∷ ps) s zero zero d le lt t = t
partitioned_at h n (p ∷ ps) s zero (suc j) d le lt t =
    less_by (address_octet p.host) (address_octet h) (omega (arith, each_above (address_octet p.host) ps s.2 j d (omega (arith, lt)), ltb-true (address_octet (slice_index_or ps j d).host) (address_octet h) t)) (nat_lt (address_octet p.host) (address_octet h)) refl
partitioned_at h n (p ∷ ps) s (suc i) zero d le lt t = absurd (omega (arith, le))
partitioned_at h n (p ∷ ps) s (suc i) (suc j) d le lt t = partitioned_at h (address_octet p.host) ps s.2 i j d (omega (arith, le)) (omega (arith, lt)) t

pub partitioned : (h : Host) (n : ℕ) (ps : List Peer) → StandAbove n ps → IsPartitionedBy (λ (p : Peer). nat_lt (address_octet p.host) (address_octet h)) ps
partitioned h n ps s = λ i j d le lt t. partitioned_at h n ps s i j d le lt t

-- ---- a peer that is known

abbrev host_or : Host → Option (Host × Entry) → Host
host_or h None = h
host_or h (Some found) = found.0

owner_above_by : (socket n : ℕ) (p : Peer) (ps : List Peer) (h : Host) (e : Entry) → StandAbove n (p ∷ ps) → (owner_of socket ps ≡ Some (h, e) → address_octet p.host < address_octet h)
    → (o : Option Entry) → find (is_mine_on socket) p.pair.entries ≡ o → owner_of socket (p ∷ ps) ≡ Some (h, e) → n < address_octet h
owner_above_by socket n p ps h e s rest (Some x) f is =
    let same : p.host ≡ h = ap (host_or p.host) (rw f at is) in
    subst (λ (g : Host). n < address_octet g) same s.0
owner_above_by socket n p ps h e s rest None f is =
    let later : owner_of socket ps ≡ Some (h, e) = rw f at is in
    omega (arith, s.0, rest later)

owner_above : (socket n : ℕ) (ps : List Peer) (h : Host) (e : Entry) → StandAbove n ps → owner_of socket ps ≡ Some (h, e) → n < address_octet h
owner_above socket n [] h e s is = absurd (cc)
owner_above socket n (p ∷ ps) h e s is =
    owner_above_by socket n p ps h e s (λ later. owner_above socket (address_octet p.host) ps h e s.2 later) (find (is_mine_on socket) p.pair.entries) refl is

known_by : (socket n : ℕ) (p : Peer) (ps : List Peer) (h : Host) (e : Entry) (q : PairState) → StandAbove n (p ∷ ps)
    → (owner_of socket ps ≡ Some (h, e) → length (placed (peer_at h q) ps) ≤ length ps)
    → (o : Option Entry) → find (is_mine_on socket) p.pair.entries ≡ o → owner_of socket (p ∷ ps) ≡ Some (h, e) → length (placed (peer_at h q) (p ∷ ps)) ≤ length (p ∷ ps)
known_by socket n p ps h e q s rest (Some x) f is =
    let same : p.host ≡ h = ap (host_or p.host) (rw f at is) in
    subst (λ (g : Host). length (placed (peer_at g q) (p ∷ ps)) ≤ length (p ∷ ps)) same
    (rw (not_less (address_octet p.host) (address_octet p.host) (omega arith), same_host-refl p.host) (omega arith))
known_by socket n p ps h e q s rest None f is =
    let later : owner_of socket ps ≡ Some (h, e) = rw f at is in
    let above : nat_lt (address_octet p.host) (address_octet h) ≡ true =
    less_by (address_octet p.host) (address_octet h) (owner_above socket (address_octet p.host) ps h e s.2 later) (nat_lt (address_octet p.host) (address_octet h)) refl in
    let more : length (placed (peer_at h q) ps) ≤ length ps = rest later in
    rw above (omega (arith, more))

known_placed : (socket n : ℕ) (ps : List Peer) (h : Host) (e : Entry) (q : PairState) → StandAbove n ps → owner_of socket ps ≡ Some (h, e) → length (placed (peer_at h q) ps) ≤ length ps
known_placed socket n [] h e q s is = absurd (cc)
known_placed socket n (p ∷ ps) h e q s is =
    known_by socket n p ps h e q s (λ later. known_placed socket (address_octet p.host) ps h e q s.2 later) (find (is_mine_on socket) p.pair.entries) refl is

known_with : (socket : ℕ) (ps : List Peer) (h : Host) (e : Entry) (q : PairState) → AreInOrder ps → owner_of socket ps ≡ Some (h, e) → (b : Bool) → is_opening q ≡ b
    → length (with_pair h q ps) ≤ length ps
known_with socket ps h e q s is true o =
    rw o (let count : length (without_peer h ps) ≡ count_by (λ (p : Peer). not (same_host h p.host)) ps = length-filter (λ (p : Peer). not (same_host h p.host)) ps in
    omega (arith, count, count_by-le-length (λ (p : Peer). not (same_host h p.host)) ps))
known_with socket ps h e q s is false o = rw o (known_placed socket 0 ps h e q s is)

none_more : (m n : ℕ) → m ≤ n → m - n ≡ 0
none_more m n le = omega (arith, le)

-- what is done to the owner of a socket makes no host known
pub owner_known : (s : NcpState) (socket : ℕ) (change : Entry → PairState → PairState) → AreInOrder s.peers → (o : Option (Host × Entry)) → owner_of socket s.peers ≡ o
    → newly_known s (at_owner s o change) ≡ 0
owner_known s socket change order None is = none_more (length s.peers) (length s.peers) (omega arith)
owner_known s socket change order (Some (h, e)) is =
    none_more (length (with_pair h (change e (pair_with h s.peers)) s.peers)) (length s.peers)
    (known_with socket s.peers h e (change e (pair_with h s.peers)) order is (is_opening (change e (pair_with h s.peers))) refl)

-- ---- what is where a peer was put

pub order_removed : (h : Host) (ps qs : List Peer) → AreInOrder ps → qs ≡ without_peer h ps → AreInOrder qs
order_removed h ps qs s e = subst (λ (rs : List Peer). AreInOrder rs) (sym e) (without_above h 0 ps s)

pub order_placed : (p : Peer) (ps qs : List Peer) → IsAddress p.host → AreInOrder ps → qs ≡ placed p ps → AreInOrder qs
order_placed p ps qs a s e = subst (λ (rs : List Peer). AreInOrder rs) (sym e) (placed_above 0 p ps (omega (arith, a.imp_from)) a s)

-- ---- a pair that changes where it is

-- a pair that isn't in the initial state is kept
changes_to : (h : Host) (change : PairState → PairState) (q : PairState) (ps qs : List Peer) → is_opening (change (pair_with h ps)) ≡ false
    → q ≡ change (pair_with h ps) → qs ≡ placed (record { host = h; pair = q }) ps → qs ≡ with_pair h (change (pair_with h ps)) ps
changes_to h change q ps qs stays is put = rw stays (put ∙ ap (λ (r : PairState). placed (record { host = h; pair = r }) ps) is)

pub done_to : (h : Host) (change : PairState → PairState) (done : Result (Unit {0}) AllocError) (q : PairState) (ps qs : List Peer)
    → is_opening (change (pair_with h ps)) ≡ false → OnOk done (q ≡ change (pair_with h ps)) → qs ≡ placed (record { host = h; pair = q }) ps
    → OnOk done (qs ≡ with_pair h (change (pair_with h ps)) ps)
done_to h change (Err e) q ps qs stays is put = tt
done_to h change (Ok x) q ps qs stays is put = changes_to h change q ps qs stays is put

-- ---- a command that waits where the pair is

not_none : (n : ℕ) (b : Bool) → (suc n == 0) ≡ b → b ≡ false
not_none n true e = absurd (omega (arith, eqb-true (suc n) 0 e))
not_none n false e = refl

more_commands : (c : Command) (cs : List Command) → (length (cs ++ c ∷ []) == 0) ≡ false
more_commands c [] = refl
more_commands c (d ∷ cs) = not_none (length (cs ++ c ∷ [])) (suc (length (cs ++ c ∷ [])) == 0) refl

pub command_stays : (c : Command) (q : PairState) → is_opening (commanded c q) ≡ false
command_stays c q = rw (more_commands c q.queue) (and_none _)

pub request_stays : (e : Entry) (c : Command) (q : PairState) → is_opening (requested e c q) ≡ false
request_stays e c q = rw (more_commands c q.queue) (and_none _)

pub grant_stays : (s messages bits : ℕ) (c : Command) (q : PairState) → is_opening (commanded c (with_end s (granted messages bits) q)) ≡ false
grant_stays s messages bits c q = rw (more_commands c q.queue) (and_none _)

-- ---- bits that wait where the pair is

as_many_by : (test : Entry → Bool) (change : Entry → Entry) (e : Entry) (es : List Entry) → length (changed_first test change es) ≡ length es → (b : Bool) → test e ≡ b
    → length (changed_first test change (e ∷ es)) ≡ length (e ∷ es)
as_many_by test change e es rest true is = rw is refl
as_many_by test change e es rest false is = rw is (ap suc rest)

as_many : (test : Entry → Bool) (change : Entry → Entry) (es : List Entry) → length (changed_first test change es) ≡ length es
as_many test change [] = refl
as_many test change (e ∷ es) = as_many_by test change e es (as_many test change es) (test e) refl

pub bits_stay : (s : ℕ) (bits : List Bool) (q : PairState) → is_opening q ≡ false → is_opening (with_end s (with_more_bits bits) q) ≡ false
bits_stay s bits q other = rw (as_many (is_mine_on s) (with_more_bits bits) q.entries) other
