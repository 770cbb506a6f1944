-- The order of keys, and the map that a list of entries by key makes.
pub use Rattle.interface.proofs.lemmas.{is_equal}
use Rattle.book_judge.proofs.Common.{◌≡◌, ℕ, Bool, true, false, ◌&&◌, ◌==◌, List, [], ◌∷◌, Some, refl, ap, sym, subst, ◌∙◌, cond, if◌then◌else◌, lookup, is_at, Ordering, Equal, Greater, Less, FinMap, find, from_entries, get, get-from_entries, get-insert, insert, same_map, Key, same_bit, key_cmp, same_key}
use Rattle.std.specs.Ordering.{eq_by_cmp, is_eq, nat_cmp, bool_cmp, ordering_then}
use Rattle.std.specs.Cmp.{eq_by_cmp_equiv, nat_cmp_total, IsTotalOrder, bool_cmp_total}
use Rattle.std.proofs.lemmas.Bool.{and_from, eqb-true, false≢true, eq-eqb}
use Rattle.std.proofs.lemmas.Map.Lookups.{exact_unsigned, CmpEqualImpliesEq, exact_pairs}
use Rattle.interface.specs.Host.{Host, same_host, host_cmp}
use Rattle.interface.proofs.lemmas.{and_true, both_ways, same_host-refl, same_host-true, exact_hosts, hosts_total}
use Rattle.std.proofs.lemmas.Cmp.{on_total, then_total}
use Rattle.book_judge.proofs.Crossed.SameText.{same_bit-true, same_bit-refl}

-- ---- their order

keys_total : IsTotalOrder key_cmp
keys_total =
    then_total (on_total (λ k. k.place) nat_cmp_total) (then_total (on_total (λ k. k.host) hosts_total)
    (then_total (on_total (λ k. k.peer) hosts_total) (then_total (on_total (λ k. k.comes) bool_cmp_total)
    (then_total (on_total (λ k. k.own) nat_cmp_total) (on_total (λ k. k.foreign) nat_cmp_total)))))

exact_ways : CmpEqualImpliesEq bool_cmp
exact_ways false false e = refl
exact_ways false true e = absurd (cc)
exact_ways true false e = absurd (cc)
exact_ways true true e = refl

abbrev Sockets : Type 0
Sockets = ℕ × ℕ

abbrev sockets_cmp : Sockets → Sockets → Ordering
sockets_cmp a b = ordering_then (nat_cmp a.0 b.0) (nat_cmp a.1 b.1)

abbrev way_cmp : Bool × Sockets → Bool × Sockets → Ordering
way_cmp a b = ordering_then (bool_cmp a.0 b.0) (sockets_cmp a.1 b.1)

abbrev peer_cmp : Host × (Bool × Sockets) → Host × (Bool × Sockets) → Ordering
peer_cmp a b = ordering_then (host_cmp a.0 b.0) (way_cmp a.1 b.1)

abbrev pair_cmp : Host × (Host × (Bool × Sockets)) → Host × (Host × (Bool × Sockets)) → Ordering
pair_cmp a b = ordering_then (host_cmp a.0 b.0) (peer_cmp a.1 b.1)

exact_keys : CmpEqualImpliesEq key_cmp
exact_keys a b e =
    ap (λ (p : ℕ × (Host × (Host × (Bool × Sockets)))). record {
      place = p.0;
      host = p.1.0;
      peer = p.1.1.0;
      comes = p.1.1.1.0;
      own = p.1.1.1.1.0;
      foreign = p.1.1.1.1.1;
    })
    (exact_pairs nat_cmp pair_cmp exact_unsigned
    (exact_pairs host_cmp peer_cmp exact_hosts
    (exact_pairs host_cmp way_cmp exact_hosts
    (exact_pairs bool_cmp sockets_cmp exact_ways (exact_pairs nat_cmp nat_cmp exact_unsigned exact_unsigned))))
    (a.place, (a.host, (a.peer, (a.comes, (a.own, a.foreign)))))
    (b.place, (b.host, (b.peer, (b.comes, (b.own, b.foreign))))) e)

-- ---- the map

find_key : {V : Type 0} (es : List (Key × V)) (k : Key) → find key_cmp k es ≡ lookup (is_at (key_cmp k)) es
find_key [] k = refl
find_key (e ∷ es) k = ap (cond (is_at (key_cmp k) e.0) (Some e.1)) (find_key es k)

pub get_key : {V : Type 0} (es : List (Key × V)) (k : Key) → get (from_entries {R = key_cmp} es) k
    ≡ lookup (is_at (key_cmp k)) es
get_key es k = get-from_entries keys_total es k ∙ find_key es k

pub key_set : {V : Type 0} (es ds : List (Key × V)) (k : Key) (v : V)
    → ((q : Key) → lookup (is_at (key_cmp q)) ds ≡ cond (is_at (key_cmp k) q) (Some v) (lookup (is_at (key_cmp q)) es))
    → from_entries {R = key_cmp} ds ≡ insert (from_entries es) k v
key_set es ds k v h = same_map keys_total exact_keys _ _ (λ q.
    get_key ds q ∙ h q
    ∙ ap (λ b. cond b (Some v) (lookup (is_at (key_cmp q)) es)) ((eq_by_cmp_equiv keys_total).symm k q)
    ∙ sym (get-insert keys_total (from_entries es) k v q ∙ ap (cond (is_at (key_cmp q) k) (Some v)) (get_key es q)))

-- ---- keys that are one

pub same_key-true : (a b : Key) → same_key a b ≡ true → a ≡ b
same_key-true a b e =
    let foreign = and_true
    (same_bit a.comes b.comes && b.place == a.place && same_host a.host b.host && same_host a.peer b.peer && b.own ==
    a.own) (b.foreign == a.foreign) e in
    let own = and_true
    (same_bit a.comes b.comes && b.place == a.place && same_host a.host b.host && same_host a.peer b.peer)
    (b.own == a.own) foreign.0 in
    let peer = and_true (same_bit a.comes b.comes && b.place == a.place && same_host a.host b.host)
    (same_host a.peer b.peer) own.0 in
    let host = and_true (same_bit a.comes b.comes && b.place == a.place) (same_host a.host b.host) peer.0 in
    let place = and_true (same_bit a.comes b.comes) (b.place == a.place) host.0 in
    let p : a.place ≡ b.place = sym (eqb-true b.place a.place place.1) in
    let h : a.host ≡ b.host = same_host-true a.host b.host host.1 in
    let q : a.peer ≡ b.peer = same_host-true a.peer b.peer peer.1 in
    let w : a.comes ≡ b.comes = same_bit-true a.comes b.comes place.0 in
    let o : a.own ≡ b.own = sym (eqb-true b.own a.own own.1) in
    let f : a.foreign ≡ b.foreign = sym (eqb-true b.foreign a.foreign foreign.1) in
    λ i. record { place = p i; host = h i; peer = q i; comes = w i; own = o i; foreign = f i }

pub same_key-refl : (k : Key) → same_key k k ≡ true
same_key-refl k =
    and_from _ (k.foreign == k.foreign) (and_from _ (k.own == k.own) (and_from _ (same_host k.peer k.peer)
    (and_from _ (same_host k.host k.host)
    (and_from (same_bit k.comes k.comes) (k.place == k.place) (same_bit-refl k.comes) (eq-eqb k.place k.place refl))
    (same_host-refl k.host)) (same_host-refl k.peer)) (eq-eqb k.own k.own refl)) (eq-eqb k.foreign k.foreign refl)

alike_keys : (a b : Key) → eq_by_cmp key_cmp a b ≡ same_key a b
alike_keys a b = both_ways (eq_by_cmp key_cmp a b) (same_key a b)
    (λ e. let P : Key → Type 0 = λ x. same_key a x
    ≡ true in subst P (exact_keys a b (is_equal (key_cmp a b) e)) (same_key-refl a))
    (λ e. let P : Key → Type 0 = λ x. eq_by_cmp key_cmp a x
    ≡ true in subst P (same_key-true a b e) ((eq_by_cmp_equiv keys_total).refl a))

-- a key is the one that was set, or has what it had
pub get_set_key : {V : Type 0} (m : FinMap key_cmp V) (k : Key) (v : V) (q : Key) → get (insert m k v) q
    ≡ (if same_key q k then Some v else get m q)
get_set_key {V} m k v q =
    get-insert keys_total m k v q ∙ by (eq_by_cmp key_cmp q k) (same_key q k) (alike_keys q k) where
      by : (a b : Bool) → a ≡ b → cond a (Some v) (get m q) ≡ (if b then Some v else get m q)
      by true true e = refl
      by false false e = refl
      by true false e = absurd (cc)
      by false true e = absurd (cc)
