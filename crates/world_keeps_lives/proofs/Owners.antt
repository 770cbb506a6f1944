-- The own end on a socket, over all peers of a host.
use Rattle.world_keeps_lives.proofs.Common.{same_host-refl, listens_on, is_mine_on, Entry, NcpState, owner_of, pair_with, Peer, Kept, IsOwned, mine_on}
use Rattle.std.proofs.Common.{◌≡◌, ℕ, ◌<◌, ◌||◌, Bool, true, false, List, [], ◌∷◌, find, Option, Some, is_some, refl, ap, sym, subst, ◌∙◌, arith, None}
use Rattle.interface.specs.Host.{Host, same_host, address_octet}
use Rattle.sockets.specs.Peers.{AreInOrder, StandAbove}
use Rattle.sockets.specs.Requests.{is_used}
use Rattle.sockets.proofs.lemmas.{same_octet}
use Rattle.world_keeps_lives.proofs.Ends.{mine_one}
use Rattle.world_keeps_lives.proofs.Desks.{clash}

-- ---- who owns it

abbrev host_or : Host → Option (Host × Entry) → Host
host_or h None = h
host_or h (Some found) = found.0

abbrev end_or : Entry → Option (Host × Entry) → Entry
end_or e None = e
end_or e (Some found) = found.1

above : (k n : ℕ) (ps : List Peer) (g : Host) (e : Entry) → StandAbove n ps → owner_of k ps ≡ Some (g, e) → n < address_octet g
above k n [] g e s f = absurd (cc)
above k n (p ∷ ps) g e s f = by (above k (address_octet p.host) ps g e s.2) (find (is_mine_on k) p.pair.entries) refl f where
  by : (owner_of k ps ≡ Some (g, e) → address_octet p.host < address_octet g) → (o : Option Entry) → find (is_mine_on k) p.pair.entries ≡ o → owner_of k (p ∷ ps) ≡ Some (g, e) → n < address_octet g
  by rest (Some x) t f = let same : p.host ≡ g = ap (host_or p.host) (rw t at f) in subst (λ (h : Host). n < address_octet h) same s.0
  by rest None t f = let later : owner_of k ps ≡ Some (g, e) = rw t at f in omega (arith, s.0, rest later)

found_above : (k n : ℕ) (ps : List Peer) (g : Host) (e : Entry) → StandAbove n ps → owner_of k ps ≡ Some (g, e) → find (is_mine_on k) (pair_with g ps).entries ≡ Some e
found_above k n [] g e s f = absurd (cc)
found_above k n (p ∷ ps) g e s f = by (found_above k (address_octet p.host) ps g e s.2) (find (is_mine_on k) p.pair.entries) refl f where
  by : (owner_of k ps ≡ Some (g, e) → find (is_mine_on k) (pair_with g ps).entries ≡ Some e) → (o : Option Entry) → find (is_mine_on k) p.pair.entries ≡ o → owner_of k (p ∷ ps) ≡ Some (g, e) → find (is_mine_on k) (pair_with g (p ∷ ps)).entries ≡ Some e
  by rest (Some x) t f =
      let r : Some (p.host, x) ≡ Some (g, e) = rw t at f in
      let host : p.host ≡ g = ap (host_or p.host) r in
      let end : x ≡ e = ap (end_or x) r in
      let here : find (is_mine_on k) (pair_with p.host (p ∷ ps)).entries ≡ Some x = rw (same_host-refl p.host) t in
      subst (λ (h : Host). find (is_mine_on k) (pair_with h (p ∷ ps)).entries ≡ Some e) host (here ∙ ap (λ (y : Entry). Some y) end)
  by rest None t f = away _ refl where
    away : (b : Bool) → same_host g p.host ≡ b → find (is_mine_on k) (pair_with g (p ∷ ps)).entries ≡ Some e
    away true same = absurd (omega (arith, above k _ ps g e s.2 (rw t at f), same_octet g p.host same))
    away false off = rw off (rest (rw t at f))

pub owner_found : (k : ℕ) (ps : List Peer) (g : Host) (e : Entry) → AreInOrder ps → owner_of k ps ≡ Some (g, e) → find (is_mine_on k) (pair_with g ps).entries ≡ Some e
owner_found k ps g e order f = found_above k 0 ps g e order f

-- ---- a socket without an owner

none_mine : (k : ℕ) (xs : List Entry) → find (is_mine_on k) xs ≡ None → mine_on k xs ≡ []
none_mine k [] f = refl
none_mine k (x ∷ xs) f = by (none_mine k xs) (is_mine_on k x) refl f where
  by : (find (is_mine_on k) xs ≡ None → mine_on k xs ≡ []) → (b : Bool) → is_mine_on k x ≡ b → find (is_mine_on k) (x ∷ xs) ≡ None → mine_on k (x ∷ xs) ≡ []
  by rest true t f = absurd (let r : Some x ≡ None = rw t at f in cc)
  by rest false t f = mine_one k x xs false t ∙ rest (rw t at f)

unowned : (k : ℕ) (ps : List Peer) (h : Host) → is_some (owner_of k ps) ≡ false → mine_on k (pair_with h ps).entries ≡ []
unowned k [] h f = refl
unowned k (p ∷ ps) h f = by (unowned k ps h) (find (is_mine_on k) p.pair.entries) refl f where
  by : (is_some (owner_of k ps) ≡ false → mine_on k (pair_with h ps).entries ≡ []) → (o : Option Entry) → find (is_mine_on k) p.pair.entries ≡ o → is_some (owner_of k (p ∷ ps)) ≡ false → mine_on k (pair_with h (p ∷ ps)).entries ≡ []
  by rest (Some x) t f = absurd (let r : true ≡ false = rw t at f in cc)
  by rest None t f = at _ refl where
    at : (b : Bool) → same_host h p.host ≡ b → mine_on k (pair_with h (p ∷ ps)).entries ≡ []
    at true e = rw e (none_mine k p.pair.entries t)
    at false e = rw e (rest (rw t at f))

-- one that isn't used isn't owned
pub unused : (a : Host) (k : ℕ) (s : NcpState) (κ : Kept) → is_used s k ≡ false → IsOwned a k s κ → ⊥
unused a k s κ off o = by (is_some (owner_of k s.peers)) refl where
  by : (b : Bool) → is_some (owner_of k s.peers) ≡ b → ⊥
  by true e = clash ⊥ _ (or_true _) (subst (λ (b : Bool). (listens_on k s.listening || b) ≡ false) e off) where
    or_true : (b : Bool) → (b || true) ≡ true
    or_true true = refl
    or_true false = refl
  by false e = absurd (let r : o.end ∷ [] ≡ [] = sym o.one ∙ unowned k s.peers o.peer e in cc)
