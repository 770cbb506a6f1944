-- What the receiver does keeps all of it.
use Rattle.std.proofs.Common.{◌≡◌, ℕ, suc, ◌==◌, ◌+◌, ◌-◌, ◌≤◌, Bool, true, false, not, ◌&&◌, List, [], ◌∷◌, ◌++◌, length, Option, Some, None, is_some, refl, ap, sym, subst, ◌∙◌, inl, inr, if◌then◌else◌, append-nil, eqb-true, arith}
use Rattle.std.proofs.lemmas.Bool.{and_parts, not-true}
use Rattle.ncp_control.specs.Allocation as counters
use Rattle.stream_law.specs.Words.{Word, Rts, Str, All, Gvb, Ret, Cls, for, covers, holds, is_size}
use Rattle.stream_law.specs.Receivers as receivers
use Rattle.stream_law.specs.Receivers.{Receiver}
use Rattle.stream_law.specs.Senders.{Sender}
use Rattle.stream_law.specs.Streams.{Stream, Box, Empty, Waiting, Taken}
use Rattle.stream_law.specs.Within.{IsPrefix, waiting_in}
use Rattle.stream_law.proofs.Amounts.{unlike, some_is, both_are, at, for_here, for_more, for_less, mine, mine_same, mine_most, Counter, number, amount, cost, total, number_all, number_spent, number_less, number_for, total_for, granted_in, granted_more}
use Rattle.stream_law.proofs.Words.{unless, unless_none, DownFits, down_more, no_rts_said, down_said, down_asked, up_more, closed_more}
use Rattle.stream_law.proofs.Keeps.{made, Account, Inv, all_over, sole, waits_for, waits_of, acceptable}

-- the last connection of which anything was said
last_of : (r : Receiver) (c : ℕ) → r.end ≡ Some c → r.closed ≡ false → unless r.closed r.end ≡ Some c
last_of r c end closed = ap (λ (v : Bool). unless v r.end) closed ∙ end

pub opens : (c : ℕ) (r : Receiver) → receivers.is_open c r ≡ true → (r.opened ≡ true) × (r.closed ≡ false) × (r.over c ≡ false)
opens c r e =
    let p : ((r.opened && not r.closed) ≡ true) × (not (r.over c) ≡ true) = and_parts (r.opened && not r.closed) (not (r.over c)) e in
    let q : (r.opened ≡ true) × (not r.closed ≡ true) = and_parts r.opened (not r.closed) p.0 in
    (q.0, not-true r.closed q.1, not-true (r.over c) p.1)

no_front : (xs : List (List Bool)) → IsPrefix xs [] → xs ≡ []
no_front [] f = refl
no_front (x ∷ xs) f = let e : x ∷ (xs ++ f.0) ≡ [] = f.1 in absurd (cc)

-- nothing waits where the link is free
none_waits : (x : Stream) → Inv x → x.receiver.end ≡ None → (b : Box) → x.box ≡ b → waiting_in b ≡ []
none_waits x h none Empty e = refl
none_waits x h none (Waiting c z bits) e = let both : None ≡ Some c = sym none ∙ waits_of x h c z bits e in absurd (cc)
none_waits x h none Taken e = refl

-- nothing waits of a connection that the sender has closed
none_closed : (x : Stream) → Inv x → (c : ℕ) → x.receiver.end ≡ Some c → x.sender.closed c ≡ true → (b : Box) → x.box ≡ b → waiting_in b ≡ []
none_closed x h c end closed Empty e = refl
none_closed x h c end closed (Waiting k z bits) e =
    let same : k ≡ c = both_are x.receiver.end c k end (waits_of x h k z bits e) in
    absurd (unlike _ (ap x.sender.closed same ∙ closed) (waits_for x h k z bits e).2)
none_closed x h c end closed Taken e = refl

-- ---- whose CLS was first

-- an end that says its CLS, and has heard none, says it first
firsts_closed : (c k : ℕ) (r : Receiver) → k ≡ c → r.over k ≡ false → (receivers.closes c r).first k ≡ true
firsts_closed c k r same g =
    let before : r.over c ≡ false = ap r.over (sym same) ∙ g in
    subst (λ (v : Bool). (if v then r.first else for c true r.first) k ≡ true) (sym before) (ap (for c true r.first) same ∙ for_here c true r.first)

-- and one that isn't the first now wasn't before
first_less : (c k : ℕ) (r : Receiver) → (receivers.closes c r).first k ≡ false → r.first k ≡ false
first_less c k r first = by (r.over c) first where
  by : (v : Bool) → (if v then r.first else for c true r.first) k ≡ false → r.first k ≡ false
  by true f = f
  by false f = for_less c r.first k f

-- where the sender's CLS comes to be heard first, all that was sent was taken
settled_heard : (x : Stream) → Inv x → (c : ℕ) → x.sender.closed c ≡ true → x.receiver.first c ≡ false → x.receiver.taken c ≡ x.sender.sent c
settled_heard x h c closed first = by_over _ refl where
  open_whole : x.receiver.end ≡ Some c → x.receiver.over c ≡ false → (v : Bool) → x.receiver.closed ≡ v → x.receiver.taken c ≡ x.sender.sent c
  open_whole end over true e = absurd (unlike _ (h.arrivals.firsts c end e over) first)
  open_whole end over false e =
      let sent : x.sender.sent c ≡ x.receiver.taken c ++ waiting_in x.box = h.arrivals.whole c end e over in
      let none : waiting_in x.box ≡ [] = none_closed x h c end closed x.box refl in
      sym (sent ∙ ap (λ (l : List (List Bool)). x.receiver.taken c ++ l) none ∙ append-nil (x.receiver.taken c))

  by_asked : x.receiver.over c ≡ false → (v : Bool) → x.receiver.asked c ≡ v → x.receiver.taken c ≡ x.sender.sent c
  by_asked over true e = elim (h.ends.known c e) [
    | inl end ↦ open_whole end over x.receiver.closed refl
    | inr o ↦ absurd (unlike _ o over)
  ]
  by_asked over false e =
      let unsent : x.sender.sent c ≡ [] = h.arrivals.unsent c e in
      no_front _ (subst (λ (l : List (List Bool)). IsPrefix (x.receiver.taken c) l) unsent (h.arrivals.fronts c)) ∙ sym unsent

  by_over : (v : Bool) → x.receiver.over c ≡ v → x.receiver.taken c ≡ x.sender.sent c
  by_over true e = h.arrivals.settled c e first
  by_over false e = by_asked e _ refl

module _ (r : Receiver) (s : Sender) (d u : List Word) (b : Box) (h : Inv (made r s d u b)) where
  pub kept_ask : (c : ℕ) → r.end ≡ None → r.asked c ≡ false → Inv (made (receivers.asks c r) s (d ++ Rts c ∷ []) u b)
  kept_ask c none fresh = record {
    ends = record {
      known = λ k e. elim (at c true r.asked k) [ inl t ↦ inl (ap (λ (n : ℕ). Some n) (sym t.0)) | inr t ↦ inr (over k (sym t.1 ∙ e)) ];
      own = λ k e. subst (λ (j : ℕ). for c true r.asked j ≡ true) (some_is c k e) (for_here c true r.asked);
      passed = h.ends.passed;
      heard = λ k e. for_more c r.asked k (h.ends.heard k e);
      half = h.ends.half;
    };
    down = down_asked r.over r.asked _ c over (for_more c r.asked) (for_here c true r.asked) _ d before;
    still = λ k e f. (let both : None ≡ Some k = sym none ∙ sole _ h k (h.ends.heard k e) f in absurd (cc));
    up = up_more r.asked s.closed _ s.closed s.size s.size (for_more c r.asked) (λ k e. e) (λ k z e. e) r.over u h.up;
    sizes = record { told = h.sizes.told; sized = λ k e f. absurd (cc) };
    waiting = h.waiting;
    arrivals = record {
      whole = λ k e f g. subst (λ (j : ℕ). s.sent j ≡ r.taken j ++ waiting_in b) (some_is c k e) (h.arrivals.unsent c fresh ∙ sym (ap (λ (l : List (List Bool)). l ++ waiting_in b) untaken ∙ none_waits _ h none b refl));
      firsts = λ k e f g. absurd (cc);
      settled = h.arrivals.settled;
      fronts = h.arrivals.fronts;
      unsent = λ k e. h.arrivals.unsent k (for_less c r.asked k e);
      came = h.arrivals.came;
    };
    account = λ u' k. (let a : Account u' k r s d u = h.account u' k in let g : granted_in u' k (d ++ Rts c ∷ []) ≡ granted_in u' k d + 0 = granted_more u' k d (Rts c) in omega (arith, a, g));
    grants = record {
      left = λ u' k e. (let g : number u' (r.granted k) ≡ 0 = ungranted u' k e in omega (arith, g));
      unopened = λ u' k e f. ungranted u' k e;
      ungranted = λ u' k e. h.grants.ungranted u' k (for_less c r.asked k e);
    };
  } where
    over : (k : ℕ) → r.asked k ≡ true → r.over k ≡ true
    over = all_over _ h none

    before : DownFits r.over r.asked (unless s.shut s.end) d None
    before = subst (λ (o : Option ℕ). DownFits r.over r.asked (unless s.shut s.end) d o) (ap (λ (o : Option ℕ). unless r.closed o) none ∙ unless_none r.closed) h.down

    ungranted : (u' : Counter) (k : ℕ) → Some c ≡ Some k → number u' (r.granted k) ≡ 0
    ungranted u' k e = subst (λ (j : ℕ). number u' (r.granted j) ≡ 0) (some_is c k e) (h.grants.ungranted u' c fresh)

    untaken : r.taken c ≡ []
    untaken = no_front _ (subst (λ (l : List (List Bool)). IsPrefix (r.taken c) l) (h.arrivals.unsent c fresh) (h.arrivals.fronts c))

  pub kept_open : (c : ℕ) → r.end ≡ Some c → is_some (r.size c) ≡ true → Inv (made (record r { opened = true }) s d u b)
  kept_open c end size = record {
    ends = h.ends;
    down = h.down;
    still = h.still;
    up = h.up;
    sizes = record {
      told = h.sizes.told;
      sized = λ k e f. subst (λ (j : ℕ). is_some (r.size j) ≡ true) (some_is c k (sym end ∙ e)) size;
    };
    waiting = h.waiting;
    arrivals = h.arrivals;
    account = h.account;
    grants = record { left = h.grants.left; unopened = λ u' k e f. absurd (cc); ungranted = h.grants.ungranted };
  }

  pub kept_grant : (c m n : ℕ) → r.end ≡ Some c → receivers.is_open c r ≡ true → r.allocation.messages + m ≤ 65535 → r.allocation.bits + n ≤ 4294967295
      → Inv (made (receivers.grants c m n r) s (d ++ All c m n ∷ []) u b)
  kept_grant c m n end is_open messages bits = record {
    ends = h.ends;
    down = down_said r.over r.asked _ _ _ tt (λ view e. (e ∙ last, e)) _ d h.down;
    still = λ k e f. no_rts_said _ d tt (h.still k e f);
    up = h.up;
    sizes = h.sizes;
    waiting = h.waiting;
    arrivals = h.arrivals;
    account = λ u' k. (
        let a : Account u' k r s d u = h.account u' k in
        let g : granted_in u' k (d ++ All c m n ∷ []) ≡ granted_in u' k d + (mine k c (amount u' m n) + 0) = granted_more u' k d _ in
        let f : number u' (for c (counters.added (r.granted c) m n) r.granted k) ≡ number u' (r.granted k) + mine k c (amount u' m n) = number_for u' k c m n r.granted in
        omega (arith, a, g, f));
    grants = record {
      left = λ u' k e. (
          let l : number u' (r.granted k) ≤ number u' r.allocation + total u' (r.taken k) + number u' (r.returned k) = h.grants.left u' k e in
          let f : number u' (for c (counters.added (r.granted c) m n) r.granted k) ≡ number u' (r.granted k) + mine k c (amount u' m n) = number_for u' k c m n r.granted in
          let most : mine k c (amount u' m n) ≤ amount u' m n = mine_most k c _ in
          let all : number u' (counters.granted r.allocation m n) ≡ number u' r.allocation + amount u' m n = number_all u' r.allocation m n messages bits in
          omega (arith, l, f, most, all));
      unopened = λ u' k e f. absurd (unlike r.opened (opens c r is_open).0 f);
      ungranted = λ u' k e. elim (at c (counters.added (r.granted c) m n) r.granted k) [
        | inl t ↦ absurd (unlike (r.asked k) (ap r.asked t.0 ∙ h.ends.own c end) e)
        | inr t ↦ (ap (number u') t.1 ∙ h.grants.ungranted u' k e)
      ];
    };
  } where
    last : unless r.closed r.end ≡ Some c
    last = last_of r c end (opens c r is_open).1

  pub kept_ask_back : (c m n : ℕ) → r.end ≡ Some c → receivers.is_open c r ≡ true → Inv (made r s (d ++ Gvb c m n ∷ []) u b)
  kept_ask_back c m n end is_open = record {
    ends = h.ends;
    down = down_said r.over r.asked _ _ _ tt (λ view e. (e ∙ last, e)) _ d h.down;
    still = λ k e f. no_rts_said _ d tt (h.still k e f);
    up = h.up;
    sizes = h.sizes;
    waiting = h.waiting;
    arrivals = h.arrivals;
    account = λ u' k. (let a : Account u' k r s d u = h.account u' k in let g : granted_in u' k (d ++ Gvb c m n ∷ []) ≡ granted_in u' k d + 0 = granted_more u' k d _ in omega (arith, a, g));
    grants = h.grants;
  } where
    last : unless r.closed r.end ≡ Some c
    last = last_of r c end (opens c r is_open).1

  pub kept_close : (c : ℕ) → r.end ≡ Some c → r.closed ≡ false → Inv (made (receivers.closes c r) s (d ++ Cls c ∷ []) u b)
  kept_close c end closed = record {
    ends = h.ends;
    down = down_said r.over r.asked (Cls c) _ None tt (λ view e. (e ∙ last_of r c end closed, refl)) _ d h.down;
    still = λ k e f. no_rts_said (Cls c) d tt (h.still k e f);
    up = h.up;
    sizes = h.sizes;
    waiting = h.waiting;
    arrivals = record {
      whole = λ k e f g. absurd (cc);
      firsts = λ k e f g. firsts_closed c k r (both_are r.end c k end e) g;
      settled = λ k e f. h.arrivals.settled k e (first_less c k r f);
      fronts = h.arrivals.fronts;
      unsent = h.arrivals.unsent;
      came = h.arrivals.came;
    };
    account = λ u' k. (let a : Account u' k r s d u = h.account u' k in let g : granted_in u' k (d ++ Cls c ∷ []) ≡ granted_in u' k d + 0 = granted_more u' k d (Cls c) in omega (arith, a, g));
    grants = h.grants;
  }

  pub kept_free : (c : ℕ) → r.end ≡ Some c → r.closed ≡ true → r.over c ≡ true → Inv (made (record r { end = None }) s d u b)
  kept_free c end closed over = record {
    ends = record {
      known = λ k e. elim (h.ends.known k e) [
        | inl f ↦ inr (ap r.over (both_are r.end c k end f) ∙ over)
        | inr o ↦ inr o
      ];
      own = λ k e. absurd (cc);
      passed = h.ends.passed;
      heard = h.ends.heard;
      half = h.ends.half;
    };
    down = subst (λ (o : Option ℕ). DownFits r.over r.asked (unless s.shut s.end) d o) (ap (λ (v : Bool). unless v r.end) closed ∙ sym (ap (λ (v : Bool). unless v None) closed)) h.down;
    still = h.still;
    up = h.up;
    sizes = record { told = h.sizes.told; sized = λ k e f. absurd (cc) };
    waiting = h.waiting;
    arrivals = record {
      whole = λ k e f g. absurd (cc);
      firsts = λ k e f g. absurd (cc);
      settled = h.arrivals.settled;
      fronts = h.arrivals.fronts;
      unsent = h.arrivals.unsent;
      came = h.arrivals.came;
    };
    account = h.account;
    grants = record {
      left = λ u' k e. absurd (cc);
      unopened = λ u' k e f. absurd (cc);
      ungranted = h.grants.ungranted;
    };
  }

-- it hears what the sender said
module _ (r : Receiver) (s : Sender) (d rest : List Word) (b : Box) where
  pub kept_str : (c z : ℕ) → Inv (made r s d (Str c z ∷ rest) b) → Inv (made (record r { size = for c (Some z) r.size }) s d rest b)
  kept_str c z h = record {
    ends = h.ends;
    down = h.down;
    still = h.still;
    up = h.up.1;
    sizes = record {
      told = λ k y e. elim (at c (Some z) r.size k) [
        | inl t ↦ (ap s.size t.0 ∙ h.up.0 ∙ sym t.1 ∙ e)
        | inr t ↦ h.sizes.told k y (sym t.1 ∙ e)
      ];
      sized = λ k e f. elim (at c (Some z) r.size k) [
        | inl t ↦ ap is_some t.1
        | inr t ↦ (ap is_some t.1 ∙ h.sizes.sized k e f)
      ];
    };
    waiting = h.waiting;
    arrivals = h.arrivals;
    account = h.account;
    grants = h.grants;
  }

  pub kept_cls : (c : ℕ) → Inv (made r s d (Cls c ∷ rest) b) → Inv (made (record r { over = for c true r.over }) s d rest b)
  kept_cls c h = record {
    ends = record {
      known = λ k e. elim (h.ends.known k e) [ inl f ↦ inl f | inr o ↦ inr (for_more c r.over k o) ];
      own = h.ends.own;
      passed = closed_more c r.over s.closed h.up.0 h.ends.passed;
      heard = h.ends.heard;
      half = h.ends.half;
    };
    down = down_more r.over _ r.asked (for_more c r.over) _ d _ h.down;
    still = h.still;
    up = h.up.1;
    sizes = h.sizes;
    waiting = h.waiting;
    arrivals = record {
      whole = λ k e f g. h.arrivals.whole k e f (for_less c r.over k g);
      firsts = λ k e f g. h.arrivals.firsts k e f (for_less c r.over k g);
      settled = λ k e f. elim (at c true r.over k) [
        | inl t ↦ subst (λ (j : ℕ). r.taken j ≡ s.sent j) (sym t.0) (settled_heard _ h c h.up.0 (ap r.first (sym t.0) ∙ f))
        | inr t ↦ h.arrivals.settled k (sym t.1 ∙ e) f
      ];
      fronts = h.arrivals.fronts;
      unsent = h.arrivals.unsent;
      came = h.arrivals.came;
    };
    account = h.account;
    grants = h.grants;
  }

  taken_back : (c m n : ℕ) → r.end ≡ Some c → Inv (made r s d (Ret c m n ∷ rest) b) → (v : Bool) → (receivers.is_open c r && holds r.allocation m n) ≡ v
      → Inv (made (if v then record r { allocation = record { messages = r.allocation.messages - m; bits = r.allocation.bits - n }; returned = for c (counters.added (r.returned c) m n) r.returned } else r) s d rest b)
  taken_back c m n end h true e = record {
    ends = h.ends;
    down = h.down;
    still = h.still;
    up = h.up.2;
    sizes = h.sizes;
    waiting = h.waiting;
    arrivals = h.arrivals;
    account = λ u' k. (
        let a : Account u' k r s d (Ret c m n ∷ rest) = h.account u' k in
        let f : number u' (for c (counters.added (r.returned c) m n) r.returned k) ≡ number u' (r.returned k) + mine k c (amount u' m n) = number_for u' k c m n r.returned in
        omega (arith, a, f));
    grants = record {
      left = λ u' k i. (
          let l : number u' (r.granted k) ≤ number u' r.allocation + total u' (r.taken k) + number u' (r.returned k) = h.grants.left u' k i in
          let f : number u' (for c (counters.added (r.returned c) m n) r.returned k) ≡ number u' (r.returned k) + mine k c (amount u' m n) = number_for u' k c m n r.returned in
          let same : mine k c (amount u' m n) ≡ amount u' m n = mine_same k c _ (both_are r.end c k end i) in
          let less : number u' (record { messages = r.allocation.messages - m; bits = r.allocation.bits - n }) + amount u' m n ≡ number u' r.allocation
          = number_less u' r.allocation m n (and_parts (receivers.is_open c r) (holds r.allocation m n) e).1 in
          omega (arith, l, f, same, less));
      unopened = h.grants.unopened;
      ungranted = h.grants.ungranted;
    };
  }
  taken_back c m n end h false e = record {
    ends = h.ends;
    down = h.down;
    still = h.still;
    up = h.up.2;
    sizes = h.sizes;
    waiting = h.waiting;
    arrivals = h.arrivals;
    account = λ u' k. (let a : Account u' k r s d (Ret c m n ∷ rest) = h.account u' k in omega (arith, a));
    grants = h.grants;
  }

  pub returned_to : (c m n : ℕ) → Inv (made r s d (Ret c m n ∷ rest) b) → r.end ≡ Some c
  returned_to c m n h = elim (h.ends.known c h.up.1) [
    | inl e ↦ e
    | inr o ↦ absurd (unlike _ o h.up.0)
  ]

  pub kept_ret : (c m n : ℕ) → Inv (made r s d (Ret c m n ∷ rest) b) → Inv (made (receivers.takes_back m n r.end r) s d rest b)
  kept_ret c m n h =
      subst (λ (o : Option ℕ). Inv (made (receivers.takes_back m n o r) s d rest b)) (sym (returned_to c m n h)) (taken_back c m n (returned_to c m n h) h _ refl)

-- it takes data
module _ (r : Receiver) (s : Sender) (d u : List Word) (c z : ℕ) (bits : List Bool) (h : Inv (made r s d u (Waiting c z bits))) where
  end_is : r.end ≡ Some c
  end_is = waits_of _ h c z bits refl

  came_one : (k : ℕ) → length (s.sent k) ≡ for c (suc (r.came c)) r.came k + 0
  came_one k = by (k == c) refl (h.arrivals.came k) where
    by : (v : Bool) → (k == c) ≡ v → length (s.sent k) ≡ r.came k + (if v then 1 else 0) → length (s.sent k) ≡ (if v then suc (r.came c) else r.came k) + 0
    by true same e = let one : r.came k ≡ r.came c = ap r.came (eqb-true k c same) in omega (arith, e, one)
    by false same e = e

  taken_if : (v : Bool) → (receivers.is_open c r && is_size z (r.size c) && covers r.allocation (length bits)) ≡ v
      → Inv (made (record (if v then record r { allocation = counters.spent r.allocation (length bits); taken = for c (r.taken c ++ bits ∷ []) r.taken } else r) { came = for c (suc (r.came c)) r.came }) s d u Taken)
  taken_if true e = record {
    ends = h.ends;
    down = h.down;
    still = h.still;
    up = h.up;
    sizes = h.sizes;
    waiting = tt;
    arrivals = record {
      whole = λ k i f g. (same k (both_are r.end c k end_is i) ∙ sym (append-nil (for c (r.taken c ++ bits ∷ []) r.taken k)));
      firsts = h.arrivals.firsts;
      settled = λ k e f. elim (at c (r.taken c ++ bits ∷ []) r.taken k) [
        | inl t ↦ absurd (unlike (r.over k) e (ap r.over t.0 ∙ opened.2))
        | inr t ↦ (t.1 ∙ h.arrivals.settled k e f)
      ];
      fronts = λ k. elim (at c (r.taken c ++ bits ∷ []) r.taken k) [
        | inl t ↦ ([], append-nil (for c (r.taken c ++ bits ∷ []) r.taken k) ∙ sym (same k t.0))
        | inr t ↦ subst (λ (l : List (List Bool)). IsPrefix l (s.sent k)) (sym t.1) (h.arrivals.fronts k)
      ];
      unsent = h.arrivals.unsent;
      came = came_one;
    };
    account = h.account;
    grants = record {
      left = λ u' k i. (
          let l : number u' (r.granted k) ≤ number u' r.allocation + total u' (r.taken k) + number u' (r.returned k) = h.grants.left u' k i in
          let f : total u' (for c (r.taken c ++ bits ∷ []) r.taken k) ≡ total u' (r.taken k) + mine k c (cost u' bits) = total_for u' k c bits r.taken in
          let own : mine k c (cost u' bits) ≡ cost u' bits = mine_same k c _ (both_are r.end c k end_is i) in
          let less : number u' (counters.spent r.allocation (length bits)) + cost u' bits ≡ number u' r.allocation = number_spent u' r.allocation bits covered in
          omega (arith, l, f, own, less));
      unopened = h.grants.unopened;
      ungranted = h.grants.ungranted;
    };
  } where
    fits : ((receivers.is_open c r && is_size z (r.size c)) ≡ true) × (covers r.allocation (length bits) ≡ true)
    fits = and_parts (receivers.is_open c r && is_size z (r.size c)) (covers r.allocation (length bits)) e

    covered : covers r.allocation (length bits) ≡ true
    covered = fits.1

    opened : (r.opened ≡ true) × (r.closed ≡ false) × (r.over c ≡ false)
    opened = opens c r (and_parts (receivers.is_open c r) (is_size z (r.size c)) fits.0).0

    same : (k : ℕ) → k ≡ c → s.sent k ≡ for c (r.taken c ++ bits ∷ []) r.taken k
    same k e = subst (λ (j : ℕ). s.sent j ≡ for c (r.taken c ++ bits ∷ []) r.taken j) (sym e) (h.arrivals.whole c end_is opened.1 opened.2 ∙ sym (for_here c _ r.taken))
  taken_if false e = record {
    ends = h.ends;
    down = h.down;
    still = h.still;
    up = h.up;
    sizes = h.sizes;
    waiting = tt;
    arrivals = record {
      whole = λ k i f g. absurd (unlike (receivers.is_open c r && is_size z (r.size c) && covers r.allocation (length bits))
          (acceptable _ h c z bits refl f (ap r.over (sym (both_are r.end c k end_is i)) ∙ g)) e);
      firsts = h.arrivals.firsts;
      settled = h.arrivals.settled;
      fronts = h.arrivals.fronts;
      unsent = h.arrivals.unsent;
      came = came_one;
    };
    account = h.account;
    grants = h.grants;
  }

  pub kept_take : Inv (made (receivers.moved (receivers.Take z bits) r) s d u Taken)
  kept_take =
      subst (λ (o : Option ℕ). Inv (made (record (receivers.takes z bits o r) { came = receivers.one_more o r.came }) s d u Taken)) (sym end_is) (taken_if _ refl)
