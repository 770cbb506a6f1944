-- Ends in order of their sockets.
use Rattle.std.proofs.Common.{◌≡◌, ℕ, ◌<◌, ◌≤◌, ◌-◌, ◌==◌, ◌++◌, Bool, true, false, not, nat_lt, List, [], ◌∷◌, length, filter, slice_index_or, zero, suc, refl, sym, ap, arith}
use Rattle.std.specs.Bool.{OnTrue}
use Rattle.std.specs.List.{list_any, remove}
use Rattle.std.specs.List.Sorted.{IsPartitionPoint, IsPartitionedBy}
use Rattle.std.proofs.lemmas.Bool.{eqb-true, ltb-false, ltb-true, not_from_false}
use Rattle.host_pairs.specs.Entries.{is_at, new_entry}
use Rattle.host_pairs.specs.Inside.Held.{none_but}
use Rattle.host_pairs.specs.Inside.Index.{AreBelow, AreInOrder, AscendFrom, end_key, key_of}
use Rattle.host_pairs.specs.declared.entry.Entry.{Entry}
use Rattle.host_pairs.proofs.IndexLemmas.{at_key, not_at}

weaker : (low more : ℕ) (es : List Entry) → low ≤ more → AscendFrom more es → AscendFrom low es
weaker low more [] le h = tt
weaker low more (e ∷ es) le h = (omega (arith, le, h.0), h.1)

-- each end is above what they ascend from
above : (low : ℕ) (es : List Entry) (i : ℕ) (d : Entry) → AscendFrom low es → i < length es → low ≤ end_key (slice_index_or es i d)
above low [] i d h lt = absurd (omega (arith, lt))
above low (e ∷ es) zero d h lt = h.0
above low (e ∷ es) (suc i) d h lt =
    let rest : suc (end_key e) ≤ end_key (slice_index_or es i d) = above (suc (end_key e)) es i d h.1 (omega (arith, lt)) in
    omega (arith, rest, h.0)

-- ---- ends before two sockets

below_from : (low key last : ℕ) (d : Entry) (es : List Entry) → AscendFrom low es → suc last ≡ length es → end_key (slice_index_or es last d) < key → AreBelow key es
below_from low key last d [] h is lt = tt
below_from low key zero d (e ∷ []) h is lt = (lt, tt)
below_from low key (suc last) d (e ∷ []) h is lt = absurd (omega (arith, is))
below_from low key zero d (e ∷ f ∷ es) h is lt = absurd (omega (arith, is))
below_from low key (suc last) d (e ∷ f ∷ es) h is lt =
    let rest : suc (end_key e) ≤ end_key (slice_index_or (f ∷ es) last d) = above (suc (end_key e)) (f ∷ es) last d h.1 (omega (arith, is)) in
    (omega (arith, rest, lt), below_from (suc (end_key e)) key last d (f ∷ es) h.1 (omega (arith, is)) lt)

none_from : (own foreign : ℕ) (es : List Entry) → AreBelow (key_of own foreign) es → list_any (is_at own foreign) es ≡ false
none_from own foreign [] h = refl
none_from own foreign (e ∷ es) h =
    let first : is_at own foreign e ≡ false = not_at own foreign e (λ same. absurd (omega (arith, same, h.0))) in
    rw first (none_from own foreign es h.1)

pub none_before : (own foreign : ℕ) (es : List Entry) → AreBelow (key_of own foreign) es → not (list_any (is_at own foreign) es) ≡ true
none_before own foreign es h = not_from_false _ (none_from own foreign es h)

joined_from : (low : ℕ) (e : Entry) (es : List Entry) → low ≤ end_key e → AreBelow (end_key e) es → AscendFrom low es → AscendFrom low (es ++ e ∷ [])
joined_from low e [] le below h = (le, tt)
joined_from low e (f ∷ es) le below h = (h.0, joined_from (suc (end_key f)) e es (omega (arith, below.0)) below.1 h.1)

joined_below : (e : Entry) (es : List Entry) → AreBelow (end_key e) es → AreInOrder es → AreInOrder (es ++ e ∷ [])
joined_below e es below h = joined_from 0 e es (omega arith) below h

pub stay_if : (b : Bool) (e : Entry) (es : List Entry) → AreInOrder es → OnTrue b (AreBelow (key_of e.own e.foreign) es) → OnTrue b (AreInOrder (es ++ e ∷ []))
stay_if true e es h below = joined_below e es below h
stay_if false e es h below = tt

only_by : (b : Bool) (e : Entry) → OnTrue b (AreInOrder (e ∷ []))
only_by true e = (omega arith, tt)
only_by false e = tt

pub only_if : (b : Bool) (e : Entry) (es : List Entry) → b ≡ (length es == 0) → OnTrue b (AreInOrder (es ++ e ∷ []))
only_if b e [] is = only_by b e
only_if true e (f ∷ es) is =
    let none : length (f ∷ es) ≡ 0 = eqb-true (length (f ∷ es)) 0 (sym is) in
    absurd (omega (arith, none))
only_if false e (f ∷ es) is = tt

-- ---- the place of two sockets

none_above : (own foreign low : ℕ) (es : List Entry) → key_of own foreign < low → AscendFrom low es → list_any (is_at own foreign) es ≡ false
none_above own foreign low [] lt h = refl
none_above own foreign low (e ∷ es) lt h =
    let first : is_at own foreign e ≡ false = not_at own foreign e (λ same. absurd (omega (arith, same, lt, h.0))) in
    rw first (none_above own foreign (suc (end_key e)) es (omega (arith, lt, h.0)) h.1)

only_from : (own foreign low at : ℕ) (d : Entry) (es : List Entry) → AscendFrom low es → at < length es → is_at own foreign (slice_index_or es at d) ≡ true → none_but (is_at own foreign) at es ≡ true
only_from own foreign low at d [] h lt is = refl
only_from own foreign low zero d (e ∷ es) h lt is =
    not_from_false _ (none_above own foreign (suc (end_key e)) es (omega (arith, at_key own foreign e is)) h.1)
only_from own foreign low (suc at) d (e ∷ es) h lt is =
    let rest : suc (end_key e) ≤ end_key (slice_index_or es at d) = above (suc (end_key e)) es at d h.1 (omega (arith, lt)) in
    let first : is_at own foreign e ≡ false = not_at own foreign e (λ same. absurd (omega (arith, same, rest, at_key own foreign (slice_index_or es at d) is))) in
    rw first (only_from own foreign (suc (end_key e)) at d es h.1 (omega (arith, lt)) is)

pub only_that : (own foreign at : ℕ) (es : List Entry) → AreInOrder es → at < length es → ((d : Entry) → is_at own foreign (slice_index_or es at d) ≡ true) → none_but (is_at own foreign) at es ≡ true
only_that own foreign at es h lt is = only_from own foreign 0 at (new_entry 0 0) es h lt (is (new_entry 0 0))

-- where the ends from a place on aren't before two sockets, and those before it are
parted_from : (own foreign low at : ℕ) (es : List Entry) → AscendFrom low es → ((k : ℕ) (d : Entry) → k < at → k < length es → end_key (slice_index_or es k d) < key_of own foreign)
    → ((d : Entry) → at < length es → key_of own foreign ≤ end_key (slice_index_or es at d)) → none_but (is_at own foreign) at es ≡ true
parted_from own foreign low at [] h before behind = refl
parted_from own foreign low zero (e ∷ es) h before behind =
    not_from_false _ (none_above own foreign (suc (end_key e)) es (omega (arith, behind e (omega arith))) h.1)
parted_from own foreign low (suc at) (e ∷ es) h before behind =
    let first : is_at own foreign e ≡ false = not_at own foreign e (λ same. absurd (omega (arith, same, before 0 e (omega arith) (omega arith)))) in
    rw first (parted_from own foreign (suc (end_key e)) at es h.1 (λ k d lt there. before (suc k) d (omega (arith, lt)) (omega (arith, there))) (λ d there. behind d (omega (arith, there))))

pub parted : (own foreign at : ℕ) (es : List Entry) → AreInOrder es → IsPartitionPoint (λ e. nat_lt (end_key e) (key_of own foreign) ≡ true) (λ e. nat_lt (end_key e) (key_of own foreign) ≡ false) es at
    → none_but (is_at own foreign) at es ≡ true
parted own foreign at es h points =
    parted_from own foreign 0 at es h (λ k d lt there. ltb-true (end_key (slice_index_or es k d)) (key_of own foreign) (points.0 k d (omega arith) lt))
    (λ d there. ltb-false (end_key (slice_index_or es at d)) (key_of own foreign) (points.1 at d (omega arith) there))

less_by : (x y : ℕ) → x < y → (b : Bool) → nat_lt x y ≡ b → b ≡ true
less_by x y lt true is = refl
less_by x y lt false is = absurd (omega (arith, lt, ltb-false x y is))

partitioned_from : (key low : ℕ) (es : List Entry) → AscendFrom low es → (i j : ℕ) (d : Entry) → i ≤ j → j < length es → nat_lt (end_key (slice_index_or es j d)) key ≡ true → nat_lt (end_key (slice_index_or es i d)) key ≡ true
partitioned_from key low [] h i j d le lt t = absurd (omega (arith, lt))
partitioned_from key low (e ∷ es) h zero zero d le lt t = t
partitioned_from key low (e ∷ es) h zero (suc j) d le lt t =
    less_by (end_key e) key (omega (arith, above (suc (end_key e)) es j d h.1 (omega (arith, lt)), ltb-true (end_key (slice_index_or es j d)) key t)) (nat_lt (end_key e) key) refl
partitioned_from key low (e ∷ es) h (suc i) zero d le lt t = absurd (omega (arith, le))
partitioned_from key low (e ∷ es) h (suc i) (suc j) d le lt t = partitioned_from key (suc (end_key e)) es h.1 i j d (omega (arith, le)) (omega (arith, lt)) t

pub partitioned : (key : ℕ) (es : List Entry) → AreInOrder es → IsPartitionedBy (λ (e : Entry). nat_lt (end_key e) key) es
partitioned key es h = λ i j d le lt t. partitioned_from key 0 es h i j d le lt t

-- ---- ends that go

removed_from : (low at : ℕ) (es : List Entry) → AscendFrom low es → AscendFrom low (remove es at)
removed_from low zero [] h = h
removed_from low (suc at) [] h = h
removed_from low zero (e ∷ es) h = weaker low (suc (end_key e)) es (omega (arith, h.0)) h.1
removed_from low (suc at) (e ∷ es) h = (h.0, removed_from (suc (end_key e)) at es h.1)

pub order_removed : (at : ℕ) (es : List Entry) → AreInOrder es → AreInOrder (remove es at)
order_removed at es h = removed_from 0 at es h

left_by : (low : ℕ) (stays : Entry → Bool) (e : Entry) (es : List Entry) → AscendFrom (suc (end_key e)) (filter stays es) → (b : Bool) → stays e ≡ b → low ≤ end_key e → AscendFrom low (filter stays (e ∷ es))
left_by low stays e es rest true is le = rw is (le, rest)
left_by low stays e es rest false is le = rw is (weaker low (suc (end_key e)) (filter stays es) (omega (arith, le)) rest)

left_from : (low : ℕ) (stays : Entry → Bool) (es : List Entry) → AscendFrom low es → AscendFrom low (filter stays es)
left_from low stays [] h = h
left_from low stays (e ∷ es) h = left_by low stays e es (left_from (suc (end_key e)) stays es h.1) (stays e) refl h.0

pub order_left : (stays : Entry → Bool) (es : List Entry) → AreInOrder es → AreInOrder (filter stays es)
order_left stays es h = left_from 0 stays es h

-- ---- the last end

below_by : (key last : ℕ) (e : Entry) (es : List Entry) (x y : ℕ) → AreInOrder es → x ≡ end_key e → y ≡ key → e ≡ slice_index_or es last e → suc last ≡ length es → (b : Bool) → nat_lt x y ≡ b → OnTrue b (AreBelow key es)
below_by key last e es x y h first second read is true lt =
    let key_of_last : end_key (slice_index_or es last e) ≡ end_key e = ap end_key (sym read) in
    below_from 0 key last e es h is (omega (arith, ltb-true x y lt, first, second, key_of_last))
below_by key last e es x y h first second read is false lt = tt

pub all_below : (key : ℕ) (e : Entry) (es : List Entry) (x y : ℕ) → AreInOrder es → x ≡ end_key e → y ≡ key → e ≡ slice_index_or es (length es - 1) e → 0 < length es → OnTrue (nat_lt x y) (AreBelow key es)
all_below key e es x y h first second read some = below_by key (length es - 1) e es x y h first second read (omega (arith, some)) (nat_lt x y) refl
