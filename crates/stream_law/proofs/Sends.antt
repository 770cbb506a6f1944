-- What the sender does keeps all of it.
use Rattle.std.proofs.Common.{◌≡◌, ◌≢◌, ℕ, ◌+◌, ◌≤◌, ◌==◌, Bool, true, false, not, ◌&&◌, List, [], ◌∷◌, ◌++◌, length, Option, Some, None, refl, ap, sym, subst, ◌∙◌, inl, inr, if◌then◌else◌, eq-eqb, append-nil, arith}
use Rattle.std.proofs.lemmas.Bool.{eqb-true, false_from_ne_true, and_parts, and_right, not-true}
use Rattle.std.proofs.lemmas.List.{append_assoc, length-append}
use Rattle.std.proofs.Common.{ne_eqb}
use Rattle.ncp_control.specs.Allocation as counters
use Rattle.ncp_control.specs.declared.allocation.Allocation.{Allocation}
use Rattle.stream_law.specs.Words.{Word, Rts, Str, All, Gvb, Ret, Cls, for, covers}
use Rattle.stream_law.specs.Receivers.{Receiver}
use Rattle.stream_law.specs.Senders as senders
use Rattle.stream_law.specs.Senders.{Sender}
use Rattle.stream_law.specs.Streams.{Box, Empty, Waiting, Taken, word_queued}
use Rattle.stream_law.specs.Within.{IsPrefix}
use Rattle.stream_law.proofs.Amounts.{unlike, some_is, both_are, at, for_here, for_more, for_less, mine, mine_add, mine_within, Counter, number, amount, cost, total, number_granted, number_spent, number_back, number_nothing, total_for, returned_in, returned_more, held, held_is}
use Rattle.stream_law.proofs.Words.{unless, unless_none, unless_some, NoRts, DownFits, UpFits, up_more, up_said}
use Rattle.stream_law.proofs.Keeps.{made, Down, Waits, Account, Inv, sole, link_free}

pub opens : (c : ℕ) (s : Sender) → senders.is_open c s ≡ true → (s.opened ≡ true) × (s.shut ≡ false) × (s.closed c ≡ false)
opens c s e =
    let p : ((s.opened && not s.shut) ≡ true) × (not (s.closed c) ≡ true) = and_parts (s.opened && not s.shut) (not (s.closed c)) e in
    let q : (s.opened ≡ true) × (not s.shut ≡ true) = and_parts s.opened (not s.shut) p.0 in
    (q.0, not-true s.shut q.1, not-true (s.closed c) p.1)

-- a size that is said once stays so
size_more : (c z : ℕ) (size : ℕ → Option ℕ) → size c ≡ None → (k y : ℕ) → size k ≡ Some y → for c (Some z) size k ≡ Some y
size_more c z size none k y e = elim (at c (Some z) size k) [
  | inl t ↦ (let both : None ≡ Some y = sym none ∙ (ap size (sym t.0) ∙ e) in absurd (cc))
  | inr t ↦ (t.1 ∙ e)
]

front_more : (xs ys : List (List Bool)) (m : List Bool) → IsPrefix xs ys → IsPrefix xs (ys ++ m ∷ [])
front_more xs ys m f = (f.0 ++ m ∷ [], sym (append_assoc xs f.0 (m ∷ [])) ∙ ap (λ (l : List (List Bool)). l ++ m ∷ []) f.1)

-- ---- an end that goes

goes_by : (v : Bool) (own k : ℕ) → (if v then None else Some own) ≡ Some k → (own ≡ k) × (v ≡ false)
goes_by true own k e = absurd (cc)
goes_by false own k e = (some_is own k e, refl)

-- an end that stays when a CLS is said of connection `c`
goes_some : (c : ℕ) (v : Bool) (o : Option ℕ) (k : ℕ) → senders.goes c v o ≡ Some k → (o ≡ Some k) × ((k == c && v) ≡ false)
goes_some c v None k e = absurd (cc)
goes_some c v (Some own) k e =
    let t : (own ≡ k) × ((own == c && v) ≡ false) = goes_by _ own k e in
    (ap (λ (n : ℕ). Some n) t.0, subst (λ (n : ℕ). (n == c && v) ≡ false) t.0 t.1)

pub goes_other : (c : ℕ) (v : Bool) (o : Option ℕ) (k : ℕ) → k ≢ c → o ≡ Some k → senders.goes c v o ≡ Some k
goes_other c v o k other e = subst (λ (p : Option ℕ). senders.goes c v p ≡ Some k) (sym e) (let f : (k == c) ≡ false = ne_eqb k c other in rw f refl)

goes_open : (c : ℕ) (o : Option ℕ) → senders.goes c false o ≡ o
goes_open c None = refl
goes_open c (Some own) = let f : (own == c && false) ≡ false = and_right (own == c) false refl in rw f refl

view_same : (c : ℕ) (v : Bool) (o : Option ℕ) → unless v (senders.goes c v o) ≡ unless v o
view_same c true o = refl
view_same c false o = goes_open c o

held_by : (v : Bool) (u : Counter) (k own : ℕ) (a : Allocation) → held u k (if v then None else Some own) a ≤ mine k own (number u a)
held_by true u k own a = omega arith
held_by false u k own a = omega arith

held_goes : (u : Counter) (k c : ℕ) (v : Bool) (o : Option ℕ) (a : Allocation) → held u k (senders.goes c v o) a ≤ held u k o a
held_goes u k c v None a = omega arith
held_goes u k c v (Some own) a = held_by _ u k own a

none_by : (v : Bool) → (if v then 0 else 0) ≤ 0
none_by true = omega arith
none_by false = omega arith

none_mine : (k c : ℕ) → mine k c 0 ≤ 0
none_mine k c = none_by _

-- ---- what waits

waits_sized : (s : Sender) (c z : ℕ) → s.size c ≡ None → (b : Box) → Waits s b → Waits (record s { size = for c (Some z) s.size }) b
waits_sized s c z none Empty w = tt
waits_sized s c z none (Waiting k y bits) w = (w.0, w.1, w.2, size_more c z s.size none k y w.3)
waits_sized s c z none Taken w = tt

waits_opened : (s : Sender) (b : Box) → Waits s b → Waits (record s { opened = true }) b
waits_opened s Empty w = tt
waits_opened s (Waiting k y bits) w = (w.0, refl, w.2, w.3)
waits_opened s Taken w = tt

-- an end is closed where nothing is outstanding, so what waits is of another connection
waits_closed : (s : Sender) (c : ℕ) (b : Box) → (s.end ≡ Some c → s.opened ≡ true → b ≡ Empty) → Waits s b → Waits (record s { end = senders.goes c s.shut s.end; closed = for c true s.closed }) b
waits_closed s c Empty f w = tt
waits_closed s c (Waiting k y bits) f w =
    let other : k ≢ c = λ same. (let both : Waiting k y bits ≡ Empty = f (w.0 ∙ ap (λ (n : ℕ). Some n) same) w.1 in absurd (cc)) in
    let closed : for c true s.closed k ≡ false = elim (at c true s.closed k) [ inl t ↦ absurd (other t.0) | inr t ↦ (t.1 ∙ w.2) ] in
    (goes_other c s.shut s.end k other w.0, w.1, closed, w.3)
waits_closed s c Taken f w = tt

-- nothing waits of a sender that has no end on the link
waits_begun : (s t : Sender) (b : Box) → s.end ≡ None → Waits s b → Waits t b
waits_begun s t Empty none w = tt
waits_begun s t (Waiting k y bits) none w = let both : None ≡ Some k = sym none ∙ w.0 in absurd (cc)
waits_begun s t Taken none w = tt

waits_over : (s t : Sender) (c : ℕ) (b : Box) → s.end ≡ Some c → s.closed c ≡ true → Waits s b → Waits t b
waits_over s t c Empty end closed w = tt
waits_over s t c (Waiting k y bits) end closed w = absurd (unlike _ (ap s.closed (both_are s.end c k end w.0) ∙ closed) w.2)
waits_over s t c Taken end closed w = tt

module _ (r : Receiver) (s : Sender) (d u : List Word) (b : Box) (h : Inv (made r s d u b)) where
  pub kept_ask : (c z : ℕ) → s.size c ≡ None → Inv (made r (record s { size = for c (Some z) s.size }) d (u ++ Str c z ∷ []) b)
  kept_ask c z none = record {
    ends = h.ends;
    down = h.down;
    still = h.still;
    up = up_said r.asked s.closed _ _ (λ over f. (for_here c _ s.size, tt)) r.over u h.ends.passed
        (up_more r.asked s.closed r.asked s.closed s.size _ (λ k e. e) (λ k e. e) (size_more c z s.size none) r.over u h.up);
    sizes = record { told = λ k y e. size_more c z s.size none k y (h.sizes.told k y e); sized = h.sizes.sized };
    waiting = waits_sized s c z none b h.waiting;
    arrivals = h.arrivals;
    account = λ u' k. (let a : Account u' k r s d u = h.account u' k in let g : returned_in u' k (u ++ Str c z ∷ []) ≡ returned_in u' k u + 0 = returned_more u' k u _ in omega (arith, a, g));
    grants = h.grants;
  }

  pub kept_open : Inv (made r (record s { opened = true }) d u b)
  kept_open = record {
    ends = h.ends;
    down = h.down;
    still = h.still;
    up = h.up;
    sizes = h.sizes;
    waiting = waits_opened s b h.waiting;
    arrivals = h.arrivals;
    account = h.account;
    grants = h.grants;
  }

  pub kept_close : (c : ℕ) → s.closed c ≡ false → (s.end ≡ Some c → s.opened ≡ true → b ≡ Empty)
      → Inv (made r (record s { end = senders.goes c s.shut s.end; closed = for c true s.closed }) d (u ++ Cls c ∷ []) b)
  kept_close c none drained = record {
    ends = record {
      known = h.ends.known;
      own = h.ends.own;
      passed = passed;
      heard = λ k e. h.ends.heard k (goes_some c s.shut s.end k e).0;
      half = λ k e f. elim (at c true s.closed k) [
        | inl t ↦ (
            let gone : (k == c && s.shut) ≡ false = (goes_some c s.shut s.end k e).1 in
            let there : (k == c && s.shut) ≡ true = (let same : (k == c) ≡ true = eq-eqb k c t.0 in rw (same, f) refl) in
            absurd (unlike _ there gone))
        | inr t ↦ (t.1 ∙ h.ends.half k (goes_some c s.shut s.end k e).0 f)
      ];
    };
    down = subst (λ (o : Option ℕ). DownFits r.over r.asked o d (unless r.closed r.end)) (sym (view_same c s.shut s.end)) h.down;
    still = λ k e f. h.still k (goes_some c s.shut s.end k e).0 (for_less c s.closed k f);
    up = up_said r.asked _ s.size (Cls c) (λ over f. (for_here c true s.closed, tt)) r.over u passed
        (up_more r.asked s.closed r.asked _ s.size s.size (λ k e. e) (for_more c s.closed) (λ k y e. e) r.over u h.up);
    sizes = h.sizes;
    waiting = waits_closed s c b drained h.waiting;
    arrivals = h.arrivals;
    account = λ u' k. (
        let a : Account u' k r s d u = h.account u' k in
        let g : returned_in u' k (u ++ Cls c ∷ []) ≡ returned_in u' k u + 0 = returned_more u' k u (Cls c) in
        let l : held u' k _ s.allocation ≤ held u' k s.end s.allocation = held_goes u' k c s.shut s.end s.allocation in
        omega (arith, a, g, l));
    grants = h.grants;
  } where
    passed : (k : ℕ) → r.over k ≡ true → for c true s.closed k ≡ true
    passed k e = for_more c s.closed k (h.ends.passed k e)

-- data go out
module _ (r : Receiver) (s : Sender) (d u : List Word) (h : Inv (made r s d u Empty)) where
  pub kept_send : (c z : ℕ) (bits : List Bool) → s.end ≡ Some c → senders.is_open c s ≡ true → s.size c ≡ Some z → covers s.allocation (length bits) ≡ true
      → Inv (made r (record s { allocation = counters.spent s.allocation (length bits); sent = for c (s.sent c ++ bits ∷ []) s.sent }) d u (Waiting c z bits))
  kept_send c z bits end is_open size covered = record {
    ends = h.ends;
    down = h.down;
    still = h.still;
    up = h.up;
    sizes = h.sizes;
    waiting = (end, (opens c s is_open).0, not_closed, size);
    arrivals = record {
      whole = λ k e f g. elim (at c (s.sent c ++ bits ∷ []) s.sent k) [
        | inl t ↦ (t.1 ∙ ap (λ (l : List (List Bool)). l ++ bits ∷ []) (h.arrivals.whole c there f (ap r.over (sym t.0) ∙ g) ∙ append-nil (r.taken c)) ∙ ap (λ (j : ℕ). r.taken j ++ bits ∷ []) (sym t.0))
        | inr t ↦ absurd (t.0 (both_are r.end c k there e))
      ];
      firsts = h.arrivals.firsts;
      settled = λ k e f. elim (at c (s.sent c ++ bits ∷ []) s.sent k) [
        | inl t ↦ absurd (unlike (s.closed c) (ap s.closed (sym t.0) ∙ h.ends.passed k e) not_closed)
        | inr t ↦ (h.arrivals.settled k e f ∙ sym t.1)
      ];
      fronts = λ k. elim (at c (s.sent c ++ bits ∷ []) s.sent k) [
        | inl t ↦ subst (λ (l : List (List Bool)). IsPrefix (r.taken k) l) (ap (λ (j : ℕ). s.sent j ++ bits ∷ []) t.0 ∙ sym t.1) (front_more _ _ bits (h.arrivals.fronts k))
        | inr t ↦ subst (λ (l : List (List Bool)). IsPrefix (r.taken k) l) (sym t.1) (h.arrivals.fronts k)
      ];
      unsent = λ k e. elim (at c (s.sent c ++ bits ∷ []) s.sent k) [
        | inl t ↦ absurd (unlike (r.asked k) (ap r.asked t.0 ∙ h.ends.heard c end) e)
        | inr t ↦ (t.1 ∙ h.arrivals.unsent k e)
      ];
      came = came_one;
    };
    account = λ u' k. (
        let a : Account u' k r s d u = h.account u' k in
        let f : total u' (for c (s.sent c ++ bits ∷ []) s.sent k) ≡ total u' (s.sent k) + mine k c (cost u' bits) = total_for u' k c bits s.sent in
        let before : held u' k s.end s.allocation ≡ mine k c (number u' s.allocation) = held_is u' k c s.end s.allocation end in
        let after : held u' k s.end (counters.spent s.allocation (length bits)) ≡ mine k c (number u' (counters.spent s.allocation (length bits))) = held_is u' k c s.end _ end in
        let less : mine k c (number u' (counters.spent s.allocation (length bits))) + mine k c (cost u' bits) ≡ mine k c (number u' s.allocation)
        = mine_add k c _ _ _ (number_spent u' s.allocation bits covered) in
        omega (arith, a, f, before, after, less));
    grants = h.grants;
  } where
    came_one : (k : ℕ) → length (for c (s.sent c ++ bits ∷ []) s.sent k) ≡ r.came k + (if k == c then 1 else 0)
    came_one k = by (k == c) refl where
      by : (v : Bool) → (k == c) ≡ v → length (if v then s.sent c ++ bits ∷ [] else s.sent k) ≡ r.came k + (if v then 1 else 0)
      by true same =
          let old : length (s.sent k) ≡ r.came k + 0 = h.arrivals.came k in
          let one : length (s.sent k) ≡ length (s.sent c) = ap (λ (j : ℕ). length (s.sent j)) (eqb-true k c same) in
          let more : length (s.sent c ++ bits ∷ []) ≡ length (s.sent c) + 1 = length-append (s.sent c) (bits ∷ []) in
          omega (arith, old, one, more)
      by false same = h.arrivals.came k

    not_closed : s.closed c ≡ false
    not_closed = (opens c s is_open).2

    there : r.end ≡ Some c
    there = sole _ h c (h.ends.heard c end) not_closed

-- it is notified that its message was taken
pub kept_told : (r : Receiver) (s : Sender) (d u : List Word) → Inv (made r s d u Taken) → Inv (made r s d u Empty)
kept_told r s d u h = record {
  ends = h.ends;
  down = h.down;
  still = h.still;
  up = h.up;
  sizes = h.sizes;
  waiting = tt;
  arrivals = h.arrivals;
  account = h.account;
  grants = h.grants;
}

-- what it may send and what is under way change, and nothing else does
reallocated : (r : Receiver) (s : Sender) (d u : List Word) (b : Box) → Inv (made r s d u b)
    → (a : Allocation) (down up : List Word) → Down r s down → (NoRts d → NoRts down) → UpFits r.over r.asked s.closed s.size up
    → ((u' : Counter) (k : ℕ) → Account u' k r (record s { allocation = a }) down up)
    → Inv (made r (record s { allocation = a }) down up b)
reallocated r s d u b h a down up fits still fits_up account = record {
  ends = h.ends;
  down = fits;
  still = λ k e f. still (h.still k e f);
  up = fits_up;
  sizes = h.sizes;
  waiting = h.waiting;
  arrivals = h.arrivals;
  account = account;
  grants = h.grants;
}

-- it hears what the receiver said
module _ (r : Receiver) (s : Sender) (rest u : List Word) (b : Box) where
  begun : (c : ℕ) → s.end ≡ None → Inv (made r s (Rts c ∷ rest) u b) → Inv (made r (senders.begins c None s) rest u b)
  begun c none h = record {
    ends = record {
      known = h.ends.known;
      own = h.ends.own;
      passed = h.ends.passed;
      heard = λ k e. subst (λ (j : ℕ). r.asked j ≡ true) (some_is c k e) h.down.1;
      half = λ k e f. absurd (cc);
    };
    down = h.down.3;
    still = λ k e f. elim h.down.2 [
      | inl n ↦ n
      | inr o ↦ absurd (unlike _ (h.ends.passed c o) (ap s.closed (some_is c k e) ∙ f))
    ];
    up = h.up;
    sizes = h.sizes;
    waiting = waits_begun s (senders.begins c None s) b none h.waiting;
    arrivals = h.arrivals;
    account = λ u' k. (
        let a : Account u' k r s (Rts c ∷ rest) u = h.account u' k in
        let same : mine k c (number u' counters.nothing) ≡ mine k c 0 = ap (mine k c) (number_nothing u') in
        let less : mine k c 0 ≤ 0 = none_mine k c in
        omega (arith, a, same, less));
    grants = h.grants;
  }

  pub kept_rts : (c : ℕ) → Inv (made r s (Rts c ∷ rest) u b) → Inv (made r (senders.begins c s.end s) rest u b)
  kept_rts c h =
      let none : s.end ≡ None = link_free _ c rest h refl in
      subst (λ (o : Option ℕ). Inv (made r (senders.begins c o s) rest u b)) (sym none) (begun c none h)

  pub granted_to : (c m n : ℕ) → Inv (made r s (All c m n ∷ rest) u b) → s.end ≡ Some c
  granted_to c m n h = (unless_some s.shut s.end c h.down.0).0

  granted_if : (c m n : ℕ) → s.end ≡ Some c → Inv (made r s (All c m n ∷ rest) u b) → (v : Bool) → Inv (made r (if v then record s { allocation = counters.granted s.allocation m n } else s) rest u b)
  granted_if c m n end h true =
      reallocated r s _ u b h _ rest u h.down.1 (λ q. q) h.up (λ u' k. (
      let a : Account u' k r s (All c m n ∷ rest) u = h.account u' k in
      let before : held u' k s.end s.allocation ≡ mine k c (number u' s.allocation) = held_is u' k c s.end s.allocation end in
      let after : held u' k s.end (counters.granted s.allocation m n) ≡ mine k c (number u' (counters.granted s.allocation m n)) = held_is u' k c s.end _ end in
      let more : mine k c (number u' (counters.granted s.allocation m n)) ≤ mine k c (number u' s.allocation) + mine k c (amount u' m n)
      = mine_within k c _ _ _ (number_granted u' s.allocation m n) in
      omega (arith, a, before, after, more)))
  granted_if c m n end h false =
      reallocated r s _ u b h s.allocation rest u h.down.1 (λ q. q) h.up
      (λ u' k. (let a : Account u' k r s (All c m n ∷ rest) u = h.account u' k in omega (arith, a)))

  pub kept_all : (c m n : ℕ) → Inv (made r s (All c m n ∷ rest) u b) → Inv (made r (senders.with_allocation s.end (λ a. counters.granted a m n) s) rest u b)
  kept_all c m n h =
      let end : s.end ≡ Some c = granted_to c m n h in
      subst (λ (o : Option ℕ). Inv (made r (senders.with_allocation o (λ a. counters.granted a m n) s) rest u b)) (sym end) (granted_if c m n end h _)

  pub asked_of : (c m n : ℕ) → Inv (made r s (Gvb c m n ∷ rest) u b) → s.end ≡ Some c
  asked_of c m n h = (unless_some s.shut s.end c h.down.0).0

  returned_if : (c m n : ℕ) → s.end ≡ Some c → Inv (made r s (Gvb c m n ∷ rest) u b) → (v : Bool) → senders.is_open c s ≡ v
      → Inv (made r (if v then record s { allocation = counters.given_back s.allocation m n } else s) rest (word_queued (if v then Some (Ret c (counters.share s.allocation.messages m) (counters.share s.allocation.bits n)) else None) u) b)
  returned_if c m n end h true e =
      reallocated r s _ u b h _ rest _ h.down.1 (λ q. q)
      (up_said r.asked s.closed s.size share (λ over f. (never_over over f, h.ends.heard c end, tt)) r.over u h.ends.passed h.up) (λ u' k. (
      let a : Account u' k r s (Gvb c m n ∷ rest) u = h.account u' k in
      let before : held u' k s.end s.allocation ≡ mine k c (number u' s.allocation) = held_is u' k c s.end s.allocation end in
      let after : held u' k s.end (counters.given_back s.allocation m n) ≡ mine k c (number u' (counters.given_back s.allocation m n)) = held_is u' k c s.end _ end in
      let less : mine k c (number u' (counters.given_back s.allocation m n)) + mine k c (amount u' (counters.share s.allocation.messages m) (counters.share s.allocation.bits n)) ≡ mine k c (number u' s.allocation)
      = mine_add k c _ _ _ (number_back u' s.allocation m n) in
      let g : returned_in u' k (u ++ share ∷ [])
      ≡ returned_in u' k u + (mine k c (amount u' (counters.share s.allocation.messages m) (counters.share s.allocation.bits n)) + 0)
      = returned_more u' k u share in
      omega (arith, a, before, after, less, g))) where
        share : Word
        share = Ret c (counters.share s.allocation.messages m) (counters.share s.allocation.bits n)

        never_over : (over : ℕ → Bool) → ((k : ℕ) → over k ≡ true → s.closed k ≡ true) → over c ≡ false
        never_over over f = false_from_ne_true (over c) (λ o. unlike _ (f c o) (opens c s e).2)
  returned_if c m n end h false e = reallocated r s _ u b h s.allocation rest u h.down.1 (λ q. q) h.up h.account

  pub kept_gvb : (c m n : ℕ) → Inv (made r s (Gvb c m n ∷ rest) u b)
      → Inv (made r (senders.with_allocation s.end (λ a. counters.given_back a m n) s) rest (word_queued (senders.returns m n s.end s) u) b)
  kept_gvb c m n h =
      let end : s.end ≡ Some c = asked_of c m n h in
      subst (λ (o : Option ℕ). Inv (made r (senders.with_allocation o (λ a. counters.given_back a m n) s) rest (word_queued (senders.returns m n o s) u) b)) (sym end)
      (returned_if c m n end h _ refl)

  shut_if : (c : ℕ) → s.end ≡ Some c → s.shut ≡ false → Inv (made r s (Cls c ∷ rest) u b) → (v : Bool) → s.closed c ≡ v → Inv (made r (if v then record s { end = None } else record s { shut = true }) rest u b)
  shut_if c end shut h true closed = record {
    ends = record {
      known = h.ends.known;
      own = h.ends.own;
      passed = h.ends.passed;
      heard = λ k e. absurd (cc);
      half = λ k e f. absurd (cc);
    };
    down = subst (λ (o : Option ℕ). DownFits r.over r.asked o rest (unless r.closed r.end)) (sym (unless_none s.shut)) h.down.1;
    still = λ k e f. absurd (cc);
    up = h.up;
    sizes = h.sizes;
    waiting = waits_over s (record s { end = None }) c b end closed h.waiting;
    arrivals = h.arrivals;
    account = λ u' k. (let a : Account u' k r s (Cls c ∷ rest) u = h.account u' k in omega (arith, a));
    grants = h.grants;
  }
  shut_if c end shut h false closed = record {
    ends = record {
      known = h.ends.known;
      own = h.ends.own;
      passed = h.ends.passed;
      heard = h.ends.heard;
      half = λ k e f. (ap s.closed (both_are s.end c k end e) ∙ closed);
    };
    down = h.down.1;
    still = h.still;
    up = h.up;
    sizes = h.sizes;
    waiting = h.waiting;
    arrivals = h.arrivals;
    account = h.account;
    grants = h.grants;
  }

  pub kept_cls : (c : ℕ) → Inv (made r s (Cls c ∷ rest) u b) → Inv (made r (senders.shuts c s.end s) rest u b)
  kept_cls c h =
      let view : (s.end ≡ Some c) × (s.shut ≡ false) = unless_some s.shut s.end c h.down.0 in
      subst (λ (o : Option ℕ). Inv (made r (senders.shuts c o s) rest u b)) (sym view.0)
      (subst (λ (v : Bool). Inv (made r (if v then (if s.closed c then record s { end = None } else record s { shut = true }) else s) rest u b)) (sym (eq-eqb c c refl)) (shut_if c view.0 view.1 h _ refl))
