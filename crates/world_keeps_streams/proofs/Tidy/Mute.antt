-- A pair that has nothing to say where each of its messages was answered: no command waits, and no end may send.
use Rattle.world_keeps_streams.proofs.Common.{Host, same_host, Command, is_answered, is_busy, is_open, is_receiving, PairState, Entry, both, pair_with, Peer}
use Rattle.std.proofs.Common.{◌≡◌, inl, inr, ℕ, suc, ◌≤◌, ◌==◌, ◌&&◌, ◌||◌, not, nat_lt, Bool, true, false, List, [], ◌∷◌, filter, find, length, Option, Some, is_some, refl, ap, sym, subst, ◌∙◌, arith, eq-eqb, min, None, lt-ltb}
use Rattle.std.proofs.lemmas.Bool.{eqb-true, eqb-false, ltb-false}
use Rattle.host_pairs.specs.Parcels.{Commands, Parcel, may_send, may_send_on, next_of, sendable, Reply, bytes_by, bytes_of, bytes_on, link_of, lower, lowest_link, next_bytes, next_of_ready, sendable_by}
use Rattle.host_keeps_streams.proofs.lemmas.{find_passes, unlike}
use Rattle.sockets.specs.Sending.{message_of, next_in, message_for, parcel_for}
use Rattle.ncp_control.specs.Packing.{packed_count}
use Rattle.ncp_control.specs.declared.phase.Phase.TheVariants as phase
use Rattle.world_keeps_streams.proofs.Deeds.Effects.{Among}

-- ---- a program

-- has nothing for any of its peers
pub none_next : (ps : List Peer) → next_in ps ≡ None → (h : Host) → next_of (pair_with h ps) ≡ None
none_next [] e h = refl
none_next (p ∷ ps) e h = by (next_of p.pair) refl e (none_next ps) where
  by : (o : Option Parcel) → next_of p.pair ≡ o → parcel_for p o (next_in ps) ≡ None → (next_in ps ≡ None → (g : Host) → next_of (pair_with g ps) ≡ None) → next_of (pair_with h (p ∷ ps)) ≡ None
  by (Some parcel) is f rest = absurd (cc)
  by None is f rest = here (same_host h p.host) refl where
    here : (v : Bool) → same_host h p.host ≡ v → next_of (pair_with h (p ∷ ps)) ≡ None
    here true t = rw t is
    here false t = rw t (rest f h)

pub none_in : (own : Host) (o : Option (Peer × Parcel)) → message_of own o ≡ None → o ≡ None
none_in own None e = refl
none_in own (Some (p, parcel)) e = absurd (let no : Some (message_for own p parcel) ≡ None = e in cc)

pub not_busy : (ls : List ℕ) → ((l : ℕ) → is_busy ls l ≡ false) → ls ≡ []
not_busy [] free = refl
not_busy (l ∷ ls) free = absurd (unlike (l == l) (eq-eqb l l refl) (first (l == l) (is_busy ls l) (free l))) where
  first : (u v : Bool) → (u || v) ≡ false → u ≡ false
  first true v e = e
  first false v e = refl

-- ---- data

found_more : (test : Entry → Bool) (e : Entry) (es : List Entry) → (x : Entry) × (find test es ≡ Some x) → (x : Entry) × (find test (e ∷ es) ≡ Some x)
found_more test e es h = by (test e) refl where
  by : (b : Bool) → test e ≡ b → (x : Entry) × (find test (e ∷ es) ≡ Some x)
  by true t = (e, rw t refl)
  by false t = (h.0, rw t h.1)

-- the lowest link of those that may send is one of theirs
lowest_found : (busy : List ℕ) (es : List Entry) (link : ℕ) → lowest_link (filter (may_send busy) es) ≡ Some link → (x : Entry) × (find (may_send_on busy link) es ≡ Some x)
lowest_found busy [] link is = absurd (let no : None ≡ Some link = is in cc)
lowest_found busy (e ∷ es) link is = by (may_send busy e) refl is (λ l f. found_more (may_send_on busy l) e es (lowest_found busy es l f)) where
  here : may_send busy e ≡ true → link_of e.link ≡ link → (x : Entry) × (find (may_send_on busy link) (e ∷ es) ≡ Some x)
  here t same = let on : (link_of e.link == link) ≡ true = eq-eqb (link_of e.link) link same in (e, rw (t, on) refl)

  first : may_send busy e ≡ true → (o : Option ℕ) → Some (lower (link_of e.link) o) ≡ Some link → ((l : ℕ) → o ≡ Some l → (x : Entry) × (find (may_send_on busy l) (e ∷ es) ≡ Some x)) → (x : Entry) × (find (may_send_on busy link) (e ∷ es) ≡ Some x)
  first t None f rest = let same : link_of e.link ≡ link = cc in here t same
  first t (Some other) f rest = let least : min (link_of e.link) other ≡ link = cc in pick _ refl least where
    pick : (b : Bool) → (link_of e.link == link) ≡ b → min (link_of e.link) other ≡ link → (x : Entry) × (find (may_send_on busy link) (e ∷ es) ≡ Some x)
    pick true same least = here t (eqb-true (link_of e.link) link same)
    pick false apart least = rest link (ap (λ (n : ℕ). Some n) (omega (arith, least, eqb-false (link_of e.link) link apart)))

  by : (b : Bool) → may_send busy e ≡ b → lowest_link (filter (may_send busy) (e ∷ es)) ≡ Some link → ((l : ℕ) → lowest_link (filter (may_send busy) es) ≡ Some l → (x : Entry) × (find (may_send_on busy l) (e ∷ es) ≡ Some x))
      → (x : Entry) × (find (may_send_on busy link) (e ∷ es) ≡ Some x)
  by true t f rest = first t (lowest_link (filter (may_send busy) es)) (rw t at f) rest
  by false t f rest = rest link (rw t at f)

-- where one may, something goes
some_lowest : (busy : List ℕ) (es : List Entry) (e : Entry) → Among e es → may_send busy e ≡ true → lowest_link (filter (may_send busy) es) ≡ None → ⊥
some_lowest busy [] e i may none = i
some_lowest busy (z ∷ zs) e i may none = by (may_send busy z) refl i none (λ j. some_lowest busy zs e j may) where
  by : (b : Bool) → may_send busy z ≡ b → Among e (z ∷ zs) → lowest_link (filter (may_send busy) (z ∷ zs)) ≡ None → (Among e zs → lowest_link (filter (may_send busy) zs) ≡ None → ⊥) → ⊥
  by true t j f rest = absurd (let no : Some (lower (link_of z.link) (lowest_link (filter (may_send busy) zs))) ≡ None = rw t at f in cc)
  by false t (inl same) f rest = unlike (may_send busy z) (subst (λ (y : Entry). may_send busy y ≡ true) (sym same) may) t
  by false t (inr j) f rest = rest j (rw t at f)

sized : (busy : List ℕ) (link : ℕ) (x : Entry) → may_send_on busy link x ≡ true → bytes_of (Some x) ≡ None → ⊥
sized busy link x may none = by x.size refl none where
  more : nat_lt 0 (sendable x) ≡ true
  more = (both (not (is_receiving x) && is_open x && is_some x.link && is_answered busy x.link) (nat_lt 0 (sendable x)) (both (may_send busy x) (link_of x.link == link) may).0).1

  by : (o : Option ℕ) → x.size ≡ o → bytes_by x o ≡ None → ⊥
  by None is f = absurd (let no : nat_lt 0 0 ≡ true = ap (λ (p : Option ℕ). nat_lt 0 (sendable_by p x)) (sym is) ∙ more in let never : nat_lt 0 0 ≡ false = refl in cc)
  by (Some size) is f = absurd (cc)

none_may : (busy : List ℕ) (es : List Entry) (e : Entry) → Among e es → next_bytes busy es ≡ None → may_send busy e ≡ false
none_may busy es e i none = by (may_send busy e) refl where
  lowest : may_send busy e ≡ true → (o : Option ℕ) → lowest_link (filter (may_send busy) es) ≡ o → bytes_on busy es o ≡ None → ⊥
  lowest may None is f = some_lowest busy es e i may is
  lowest may (Some link) is f =
      let x : (x : Entry) × (find (may_send_on busy link) es ≡ Some x) = lowest_found busy es link is in
      sized busy link x.0 (find_passes (may_send_on busy link) x.0 es x.1) (subst (λ (o : Option Entry). bytes_of o ≡ None) x.1 f)

  by : (b : Bool) → may_send busy e ≡ b → may_send busy e ≡ false
  by true t = absurd (lowest t (lowest_link (filter (may_send busy) es)) refl none)
  by false t = t

-- ---- a pair that is through a reset

module _ (q : PairState) (ready : q.phase ≡ phase.Ready) (busy : q.busy ≡ []) (none : next_of q ≡ None) where
  ready_none : next_of_ready q ≡ None
  ready_none = by q.owed refl where
    by : (v : Bool) → q.owed ≡ v → next_of_ready q ≡ None
    by true owed = absurd (let some : Some Reply ≡ None = rw (ready, owed, busy) at none in cc)
    by false owed = rw (ready, owed) at none

  pub none_queued : q.queue ≡ []
  none_queued = by q.queue refl where
    by : (cs : List Command) → q.queue ≡ cs → cs ≡ []
    by [] is = refl
    by (c ∷ cs) is = absurd (let more : nat_lt 0 (suc (length cs)) ≡ true = lt-ltb 0 (suc (length cs)) (omega arith) in let some : Some (Commands (packed_count (c ∷ cs))) ≡ None = rw (is, busy, more) at ready_none in cc)

  -- an open end whose link is known sends nothing, so it may not
  pub nothing_goes : (e : Entry) → Among e q.entries → is_receiving e ≡ false → is_open e ≡ true → is_some e.link ≡ true → is_answered q.busy e.link ≡ true → sendable e ≡ 0
  nothing_goes e i sends opened linked answered =
      let bytes : next_bytes q.busy q.entries ≡ None = (let queue : q.queue ≡ [] = none_queued in rw queue at ready_none) in
      let may : may_send q.busy e ≡ false = none_may q.busy q.entries e i bytes in
      let more : nat_lt 0 (sendable e) ≡ false = rw (sends, opened, linked, answered) at may in
      let least : sendable e ≤ 0 = ltb-false 0 (sendable e) more in
      omega (arith, least)
