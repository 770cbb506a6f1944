-- Sockets with an end, and peers that are changed.
use Rattle.std.proofs.Common.{◌≡◌, ℕ, ◌<◌, ◌==◌, ◌&&◌, ◌||◌, ◌++◌, Bool, true, false, List, [], ◌∷◌, find, None, refl, nat_lt}
use Rattle.std.specs.BTreeSet.{BTreeSet, IsUpperBound, contains}
use Rattle.std.specs.Ordering.{nat_cmp}
use Rattle.std.proofs.lemmas.Bool.{or_parts}
use Rattle.host_pairs.proofs.lemmas.{beyond_last}
use Rattle.interface.specs.Host.{Host, same_host, address_octet}
use Rattle.ncp_control.specs.declared.command.Command.{Command}
use Rattle.host_pairs.specs.Asked.{requested}
use Rattle.host_pairs.specs.Entries.{entry_at, is_mine_on}
use Rattle.host_pairs.specs.Pair.{PairState, is_opening}
use Rattle.host_pairs.specs.declared.entry.Entry.{Entry}
use Rattle.sockets.specs.Owned.{has_own, some_own, AreKnown, AreKnownBut}
use Rattle.sockets.specs.Pairs.{owner_of, pair_with, placed, with_pair, without_peer}
use Rattle.sockets.specs.declared.owned.Owned.{Owned}
use Rattle.sockets.specs.declared.owned.Owned.TheVariants as owned
use Rattle.sockets.specs.declared.peer.Peer.{Peer}
use Rattle.interface.proofs.lemmas.{and_none}

-- a number that is greater than the greatest one is none of them
pub beyond_all : (numbers : BTreeSet ℕ) (last n : ℕ) → IsUpperBound nat_cmp numbers last → last < n → contains nat_cmp numbers n ≡ false
beyond_all numbers last n greatest lt = beyond_last numbers last n greatest lt

-- ---- no end on a socket

no_mine : (s : ℕ) (es : List Entry) → has_own s es ≡ false → find (is_mine_on s) es ≡ None
no_mine s [] h = refl
no_mine s (e ∷ es) h =
    let t : (e.own == s) ≡ false × has_own s es ≡ false = or_parts (e.own == s) (has_own s es) h in
    rw (t.0, and_none e.mine) (no_mine s es t.1)

no_at : (s f : ℕ) (es : List Entry) → has_own s es ≡ false → entry_at s f es ≡ None
no_at s f [] h = refl
no_at s f (e ∷ es) h =
    let t : (e.own == s) ≡ false × has_own s es ≡ false = or_parts (e.own == s) (has_own s es) h in
    rw t.0 (no_at s f es t.1)

pub no_owner : (s : ℕ) (ps : List Peer) → some_own s ps ≡ false → owner_of s ps ≡ None
no_owner s [] h = refl
no_owner s (p ∷ ps) h =
    let t : has_own s p.pair.entries ≡ false × some_own s ps ≡ false = or_parts (has_own s p.pair.entries) (some_own s ps) h in
    rw (no_mine s p.pair.entries t.0) (no_owner s ps t.1)

-- ---- peers

found_own : (s : ℕ) (h : Host) (p : Peer) (ps : List Peer) → has_own s p.pair.entries ≡ false → has_own s (pair_with h ps).entries ≡ false → (b : Bool) → same_host h p.host ≡ b
    → has_own s (pair_with h (p ∷ ps)).entries ≡ false
found_own s h p ps one rest true e = rw e one
found_own s h p ps one rest false e = rw e rest

own_with : (s : ℕ) (h : Host) (ps : List Peer) → some_own s ps ≡ false → has_own s (pair_with h ps).entries ≡ false
own_with s h [] z = refl
own_with s h (p ∷ ps) z =
    let t : has_own s p.pair.entries ≡ false × some_own s ps ≡ false = or_parts (has_own s p.pair.entries) (some_own s ps) z in
    found_own s h p ps t.0 (own_with s h ps t.1) (same_host h p.host) refl

pub no_end : (s f : ℕ) (h : Host) (ps : List Peer) → some_own s ps ≡ false → entry_at s f (pair_with h ps).entries ≡ None
no_end s f h ps z = no_at s f (pair_with h ps).entries (own_with s h ps z)

placed_by : (s : ℕ) (p q : Peer) (qs : List Peer) → has_own s p.pair.entries ≡ false → has_own s q.pair.entries ≡ false → some_own s qs ≡ false → some_own s (placed p qs) ≡ false
    → (below same : Bool) → nat_lt (address_octet q.host) (address_octet p.host) ≡ below → same_host p.host q.host ≡ same → some_own s (placed p (q ∷ qs)) ≡ false
placed_by s p q qs one other rest more true same e f = rw e (rw (other, more) refl)
placed_by s p q qs one other rest more false true e f = rw (e, f) (rw (one, rest) refl)
placed_by s p q qs one other rest more false false e f = rw (e, f) (rw (one, other, rest) refl)

own_placed : (s : ℕ) (p : Peer) (ps : List Peer) → has_own s p.pair.entries ≡ false → some_own s ps ≡ false → some_own s (placed p ps) ≡ false
own_placed s p [] one z = rw one refl
own_placed s p (q ∷ qs) one z =
    let t : has_own s q.pair.entries ≡ false × some_own s qs ≡ false = or_parts (has_own s q.pair.entries) (some_own s qs) z in
    placed_by s p q qs one t.0 t.1 (own_placed s p qs one t.1) (nat_lt (address_octet q.host) (address_octet p.host)) (same_host p.host q.host) refl refl

without_by : (s : ℕ) (h : Host) (p : Peer) (ps : List Peer) → has_own s p.pair.entries ≡ false → some_own s (without_peer h ps) ≡ false → (b : Bool) → same_host h p.host ≡ b
    → some_own s (without_peer h (p ∷ ps)) ≡ false
without_by s h p ps one rest true e = rw e rest
without_by s h p ps one rest false e = rw e (rw (one, rest) refl)

own_without : (s : ℕ) (h : Host) (ps : List Peer) → some_own s ps ≡ false → some_own s (without_peer h ps) ≡ false
own_without s h [] z = refl
own_without s h (p ∷ ps) z =
    let t : has_own s p.pair.entries ≡ false × some_own s ps ≡ false = or_parts (has_own s p.pair.entries) (some_own s ps) z in
    without_by s h p ps t.0 (own_without s h ps t.1) (same_host h p.host) refl

put_by : (s : ℕ) (h : Host) (q : PairState) (ps : List Peer) → has_own s q.entries ≡ false → some_own s ps ≡ false → (b : Bool) → is_opening q ≡ b → some_own s (with_pair h q ps) ≡ false
put_by s h q ps one z true e = rw e (own_without s h ps z)
put_by s h q ps one z false e = rw e (own_placed s (record { host = h; pair = q }) ps one z)

-- ---- one end more

more_own : (s : ℕ) (x : Entry) (es : List Entry) → has_own s es ≡ false → (x.own == s) ≡ false → has_own s (es ++ x ∷ []) ≡ false
more_own s x [] z d = rw d refl
more_own s x (e ∷ es) z d =
    let t : (e.own == s) ≡ false × has_own s es ≡ false = or_parts (e.own == s) (has_own s es) z in
    rw (t.0, more_own s x es t.1 d) refl

requested_own : (s : ℕ) (h : Host) (x : Entry) (c : Command) (ps : List Peer) → some_own s ps ≡ false → (x.own == s) ≡ false
    → some_own s (with_pair h (requested x c (pair_with h ps)) ps) ≡ false
requested_own s h x c ps z d =
    put_by s h (requested x c (pair_with h ps)) ps (more_own s x (pair_with h ps).entries (own_with s h ps z) d) z (is_opening (requested x c (pair_with h ps))) refl

-- what is known is still true but for the new end
pub known_but : (h : Host) (x : Entry) (c : Command) (o : Owned) (ps : List Peer) → AreKnown o ps → AreKnownBut x.own o (with_pair h (requested x c (pair_with h ps)) ps)
known_but h x c owned.Unknown ps k = tt
known_but h x c owned.Asked ps k = tt
known_but h x c (owned.Known sockets) ps k = λ s off d. requested_own s h x c ps (k s off) d
