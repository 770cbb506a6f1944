-- While both ends of a connection are open nothing that was granted is lost.
use Rattle.std.proofs.Common.{◌≡◌, ◌≢◌, ℕ, suc, ◌+◌, ◌-◌, ◌≤◌, ◌==◌, Bool, true, false, ◌&&◌, List, [], ◌∷◌, ◌++◌, length, Option, Some, None, refl, ap, sym, subst, ◌∙◌, inl, inr, if◌then◌else◌, eq-eqb, append-nil, nat_le, ◌⊎◌, arith, ne_eqb}
use Rattle.std.proofs.lemmas.Bool.{eqb-true, le-leb, false_from_ne_true, and_parts}
use Rattle.std.proofs.Math.Nat.{min-eq_left}
use Rattle.ncp_control.specs.Allocation as counters
use Rattle.ncp_control.specs.declared.allocation.Allocation.{Allocation}
use Rattle.stream_law.specs.Words.{Word, Rts, Str, All, Gvb, Ret, Cls, for, covers, holds, is_size}
use Rattle.stream_law.specs.Receivers as receivers
use Rattle.stream_law.specs.Receivers.{Receiver}
use Rattle.stream_law.specs.Senders as senders
use Rattle.stream_law.specs.Senders.{Sender}
use Rattle.stream_law.specs.Streams.{Stream, Box, Empty, Waiting, Taken, Event, Receives, Sends, happens, word_queued, behind, opening_stream, stream, MayHappen, IsRun}
use Rattle.stream_law.specs.Within.{message_bits}
use Rattle.stream_law.specs.Agreed.{IsPrompt, ArePrompt, IsAtRest, AreAgreed}
use Rattle.stream_law.proofs.Amounts.{unlike, some_is, both_are, at, mine, mine_same, mine_most, mine_add, Counter, Messages, Bits, number, amount, cost, total, number_all, number_spent, number_less, number_back, number_nothing, number_for, total_for, total_front, total_messages, total_bits, granted_in, granted_more, returned_in, returned_more, held, held_is}
use Rattle.stream_law.proofs.Words.{unless_some}
use Rattle.stream_law.proofs.Keeps.{made, Account, Inv, waits_of, link_free}
use Rattle.stream_law.proofs.Receives as receives
use Rattle.stream_law.proofs.Sends as sends
use Rattle.stream_law.proofs.Runs.{inv_run}

-- ---- what is kept

-- what a receiving end may still take is what was granted and neither taken nor returned
abbrev pub Holds : Counter → ℕ → Receiver → Type 0
Holds u c r = r.end ≡ Some c → number u r.allocation + total u (r.taken c) + number u (r.returned c) ≤ number u (r.granted c)

abbrev pub Fits : Receiver → Type 0
Fits r = (r.allocation.messages ≤ 65535) × (r.allocation.bits ≤ 4294967295)

-- no end of the connection closes; and where grants may be lost, the sender's has opened
pub record AreOpen (lost : Bool) (c : ℕ) (receives sends : Option ℕ) (closing shut begun : Bool) (closed : ℕ → Bool) : Type 0 where
  pub end : receives ≡ Some c
  pub receiver : closing ≡ false
  pub sender : closed c ≡ false
  pub unshut : sends ≡ Some c → shut ≡ false
  pub opened : lost ≡ true → sends ≡ Some c → begun ≡ true

abbrev pub IsOpen : Bool → ℕ → Receiver → Sender → Type 0
IsOpen lost c r s = AreOpen lost c r.end s.end r.closed s.shut s.opened s.closed

abbrev pub AtMostAll : Counter → ℕ → Receiver → Sender → List Word → List Word → Type 0
AtMostAll u c r s down up = number u (r.granted c) ≤ total u (s.sent c) + held u c s.end s.allocation + granted_in u c down + returned_in u c up + number u (r.returned c)

-- `lost`: a grant that comes before the sender's end opens may be lost
pub record Exact (lost : Bool) (x : Stream) : Type 0 where
  pub holds : (u : Counter) (c : ℕ) → Holds u c x.receiver
  pub fits : Fits x.receiver
  pub all : (u : Counter) (c : ℕ) → IsOpen lost c x.receiver x.sender → AtMostAll u c x.receiver x.sender x.to_sender x.to_receiver

-- nothing was lost in a connection
abbrev pub Claims : ℕ → Stream → Type 0
Claims c x = (u : Counter) → IsOpen false c x.receiver x.sender → AtMostAll u c x.receiver x.sender x.to_sender x.to_receiver

-- no grant comes too early, or nothing was lost where an end opens
abbrev pub IsKept : Bool → Event → Stream → Type 0
IsKept lost (Sends (senders.Hear (All c m n))) x = lost ≡ false → x.sender.opened ≡ true
IsKept lost (Sends (senders.Open c)) x = lost ≡ true → x.sender.opened ≡ false → Claims c x
IsKept lost e x = Unit {0}

pub exact_opening : (lost : Bool) → Exact lost opening_stream
exact_opening lost = record {
  holds = λ u c e. absurd (cc);
  fits = (omega arith, omega arith);
  all = λ u c o. (let e : None ≡ Some c = o.end in absurd (cc));
}

-- ---- amounts

other_by : (v : Bool) (n : ℕ) → v ≡ false → (if v then n else 0) ≡ 0
other_by true n e = absurd (cc)
other_by false n e = refl

mine_other : (k c n : ℕ) → k ≢ c → mine k c n ≡ 0
mine_other k c n other = other_by _ n (ne_eqb k c other)

fits_in : (u : Counter) (a : Allocation) (m n : ℕ) → number u a + amount u m n ≤ number u (record { messages = 65535; bits = 4294967295 }) → number u (counters.granted a m n) ≡ number u a + amount u m n
fits_in Messages a m n l = min-eq_left l
fits_in Bits a m n l = min-eq_left l

fits_of : (u : Counter) (r : Receiver) → Fits r → number u r.allocation ≤ number u (record { messages = 65535; bits = 4294967295 })
fits_of Messages r f = f.0
fits_of Bits r f = f.1

-- ---- what the receiver does

module _ (lost : Bool) (r : Receiver) (s : Sender) (d u : List Word) (b : Box) (h : Inv (made r s d u b)) (x : Exact lost (made r s d u b)) where
  exact_ask : (c : ℕ) → r.asked c ≡ false → Exact lost (made (receivers.asks c r) s (d ++ Rts c ∷ []) u b)
  exact_ask c fresh = record {
    holds = λ u' k e. (
        let a : Account u' k r s d u = h.account u' k in
        let t : total u' (r.taken k) ≤ total u' (s.sent k) = total_front u' _ _ (h.arrivals.fronts k) in
        let n : number u' counters.nothing ≡ 0 = number_nothing u' in
        omega (arith, a, t, n));
    fits = (omega arith, omega arith);
    all = λ u' k o. (let g : number u' (r.granted k) ≡ 0 = subst (λ (j : ℕ). number u' (r.granted j) ≡ 0) (some_is c k o.end) (h.grants.ungranted u' c fresh) in omega (arith, g));
  }

  exact_grant : (c m n : ℕ) → r.end ≡ Some c → r.allocation.messages + m ≤ 65535 → r.allocation.bits + n ≤ 4294967295 → Exact lost (made (receivers.grants c m n r) s (d ++ All c m n ∷ []) u b)
  exact_grant c m n end messages bits = record {
    holds = λ u' k e. (
        let l : number u' r.allocation + total u' (r.taken k) + number u' (r.returned k) ≤ number u' (r.granted k) = x.holds u' k e in
        let f : number u' (for c (counters.added (r.granted c) m n) r.granted k) ≡ number u' (r.granted k) + mine k c (amount u' m n) = number_for u' k c m n r.granted in
        let same : mine k c (amount u' m n) ≡ amount u' m n = mine_same k c _ (both_are r.end c k end e) in
        let all : number u' (counters.granted r.allocation m n) ≡ number u' r.allocation + amount u' m n = number_all u' r.allocation m n messages bits in
        omega (arith, l, f, same, all));
    fits = (
      (let e : (counters.granted r.allocation m n).messages ≡ r.allocation.messages + m = number_all Messages r.allocation m n messages bits in omega (arith, e, messages)),
      (let e : (counters.granted r.allocation m n).bits ≡ r.allocation.bits + n = number_all Bits r.allocation m n messages bits in omega (arith, e, bits)),
    );
    all = λ u' k o. (
        let a : AtMostAll u' k r s d u = x.all u' k o in
        let g : granted_in u' k (d ++ All c m n ∷ []) ≡ granted_in u' k d + (mine k c (amount u' m n) + 0) = granted_more u' k d _ in
        let f : number u' (for c (counters.added (r.granted c) m n) r.granted k) ≡ number u' (r.granted k) + mine k c (amount u' m n) = number_for u' k c m n r.granted in
        omega (arith, a, g, f));
  }

  exact_ask_back : (c m n : ℕ) → Exact lost (made r s (d ++ Gvb c m n ∷ []) u b)
  exact_ask_back c m n = record {
    holds = x.holds;
    fits = x.fits;
    all = λ u' k o. (
        let a : AtMostAll u' k r s d u = x.all u' k o in
        let g : granted_in u' k (d ++ Gvb c m n ∷ []) ≡ granted_in u' k d + 0 = granted_more u' k d _ in
        omega (arith, a, g));
  }

  exact_close : (c : ℕ) → Exact lost (made (receivers.closes c r) s (d ++ Cls c ∷ []) u b)
  exact_close c = record { holds = x.holds; fits = x.fits; all = λ u' k o. (let e : true ≡ false = o.receiver in absurd (cc)) }

  exact_free : Exact lost (made (record r { end = None }) s d u b)
  exact_free = record { holds = λ u' k e. absurd (cc); fits = x.fits; all = λ u' k o. (let e : None ≡ Some k = o.end in absurd (cc)) }

  exact_opened : Exact lost (made (record r { opened = true }) s d u b)
  exact_opened = record { holds = x.holds; fits = x.fits; all = x.all }

-- what it hears
module _ (lost : Bool) (r : Receiver) (s : Sender) (d rest : List Word) (b : Box) where
  exact_str : (c z : ℕ) → Exact lost (made r s d (Str c z ∷ rest) b) → Exact lost (made (receivers.hears (Str c z) r) s d rest b)
  exact_str c z x = record { holds = x.holds; fits = x.fits; all = x.all }

  exact_over : (c : ℕ) → Exact lost (made r s d (Cls c ∷ rest) b) → Exact lost (made (receivers.hears (Cls c) r) s d rest b)
  exact_over c x = record { holds = x.holds; fits = x.fits; all = x.all }

  -- an end that doesn't close holds what is returned to it
  room_for : (c m n : ℕ) → r.end ≡ Some c → Inv (made r s d (Ret c m n ∷ rest) b) → (u : Counter) → amount u m n ≤ number u r.allocation
  room_for c m n end h u =
      let a : Account u c r s d (Ret c m n ∷ rest) = h.account u c in
      let l : number u (r.granted c) ≤ number u r.allocation + total u (r.taken c) + number u (r.returned c) = h.grants.left u c end in
      let t : total u (r.taken c) ≤ total u (s.sent c) = total_front u _ _ (h.arrivals.fronts c) in
      let own : mine c c (amount u m n) ≡ amount u m n = mine_same c c _ refl in
      omega (arith, a, l, t, own)

  opened_for : (c m n : ℕ) → r.end ≡ Some c → Inv (made r s d (Ret c m n ∷ rest) b) → (u : Counter) → r.opened ≡ false → amount u m n ≡ 0
  opened_for c m n end h u unopened =
      let a : Account u c r s d (Ret c m n ∷ rest) = h.account u c in
      let none : number u (r.granted c) ≡ 0 = h.grants.unopened u c end unopened in
      let own : mine c c (amount u m n) ≡ amount u m n = mine_same c c _ refl in
      omega (arith, a, none, own)

  ret_opened : (c m n : ℕ) → r.end ≡ Some c → Inv (made r s d (Ret c m n ∷ rest) b) → r.closed ≡ false → r.over c ≡ false → r.opened ≡ true → (receivers.is_open c r && holds r.allocation m n) ≡ true
  ret_opened c m n end h closed over opened =
      let many : nat_le m r.allocation.messages ≡ true = le-leb m r.allocation.messages (room_for c m n end h Messages) in
      let much : nat_le n r.allocation.bits ≡ true = le-leb n r.allocation.bits (room_for c m n end h Bits) in
      rw (opened, closed, over, many, much) refl

  -- what isn't taken back was nothing
  ret_nothing : (c m n : ℕ) → r.end ≡ Some c → Inv (made r s d (Ret c m n ∷ rest) b) → (receivers.is_open c r && holds r.allocation m n) ≡ false → r.closed ≡ false → s.closed c ≡ false
      → (u : Counter) → amount u m n ≡ 0
  ret_nothing c m n end h dropped closed unsaid u = by r.opened refl where
    over : r.over c ≡ false
    over = false_from_ne_true (r.over c) (λ o. unlike _ (h.ends.passed c o) unsaid)

    by : (v : Bool) → r.opened ≡ v → amount u m n ≡ 0
    by true e = absurd (unlike _ (ret_opened c m n end h closed over e) dropped)
    by false e = opened_for c m n end h u e

  exact_ret_if : (c m n : ℕ) → r.end ≡ Some c → Inv (made r s d (Ret c m n ∷ rest) b) → Exact lost (made r s d (Ret c m n ∷ rest) b) → (v : Bool) → (receivers.is_open c r && holds r.allocation m n) ≡ v
      → Exact lost (made (if v then record r { allocation = record { messages = r.allocation.messages - m; bits = r.allocation.bits - n }; returned = for c (counters.added (r.returned c) m n) r.returned } else r) s d rest b)
  exact_ret_if c m n end h x true e = record {
    holds = λ u' k i. (
        let l : number u' r.allocation + total u' (r.taken k) + number u' (r.returned k) ≤ number u' (r.granted k) = x.holds u' k i in
        let f : number u' (for c (counters.added (r.returned c) m n) r.returned k) ≡ number u' (r.returned k) + mine k c (amount u' m n) = number_for u' k c m n r.returned in
        let same : mine k c (amount u' m n) ≡ amount u' m n = mine_same k c _ (both_are r.end c k end i) in
        let less : number u' (record { messages = r.allocation.messages - m; bits = r.allocation.bits - n }) + amount u' m n ≡ number u' r.allocation
        = number_less u' r.allocation m n (and_parts (receivers.is_open c r) (holds r.allocation m n) e).1 in
        omega (arith, l, f, same, less));
    fits = ((let l : r.allocation.messages ≤ 65535 = x.fits.0 in omega (arith, l)), (let l : r.allocation.bits ≤ 4294967295 = x.fits.1 in omega (arith, l)));
    all = λ u' k o. (
        let a : AtMostAll u' k r s d (Ret c m n ∷ rest) = x.all u' k o in
        let f : number u' (for c (counters.added (r.returned c) m n) r.returned k) ≡ number u' (r.returned k) + mine k c (amount u' m n) = number_for u' k c m n r.returned in
        omega (arith, a, f));
  }
  exact_ret_if c m n end h x false e = record {
    holds = x.holds;
    fits = x.fits;
    all = λ u' k o. (
        let a : AtMostAll u' k r s d (Ret c m n ∷ rest) = x.all u' k o in
        let same : k ≡ c = both_are r.end c k end o.end in
        let none : amount u' m n ≡ 0 = ret_nothing c m n end h e o.receiver (ap s.closed (sym same) ∙ o.sender) u' in
        let less : mine k c (amount u' m n) ≤ amount u' m n = mine_most k c _ in
        omega (arith, a, none, less));
  }

  exact_ret : (c m n : ℕ) → Inv (made r s d (Ret c m n ∷ rest) b) → Exact lost (made r s d (Ret c m n ∷ rest) b) → Exact lost (made (receivers.takes_back m n r.end r) s d rest b)
  exact_ret c m n h x =
      let end : r.end ≡ Some c = receives.returned_to r s d rest b c m n h in
      subst (λ (o : Option ℕ). Exact lost (made (receivers.takes_back m n o r) s d rest b)) (sym end) (exact_ret_if c m n end h x _ refl)

-- it takes data
module _ (lost : Bool) (r : Receiver) (s : Sender) (d u : List Word) (c z : ℕ) (bits : List Bool) (h : Inv (made r s d u (Waiting c z bits))) (x : Exact lost (made r s d u (Waiting c z bits))) where
  end_is : r.end ≡ Some c
  end_is = waits_of _ h c z bits refl

  exact_taken_if : (v : Bool) → (receivers.is_open c r && is_size z (r.size c) && covers r.allocation (length bits)) ≡ v
      → Exact lost (made (record (if v then record r { allocation = counters.spent r.allocation (length bits); taken = for c (r.taken c ++ bits ∷ []) r.taken } else r) { came = for c (suc (r.came c)) r.came }) s d u Taken)
  exact_taken_if true e = record {
    holds = λ u' k i. (
        let l : number u' r.allocation + total u' (r.taken k) + number u' (r.returned k) ≤ number u' (r.granted k) = x.holds u' k i in
        let f : total u' (for c (r.taken c ++ bits ∷ []) r.taken k) ≡ total u' (r.taken k) + mine k c (cost u' bits) = total_for u' k c bits r.taken in
        let own : mine k c (cost u' bits) ≡ cost u' bits = mine_same k c _ (both_are r.end c k end_is i) in
        let less : number u' (counters.spent r.allocation (length bits)) + cost u' bits ≡ number u' r.allocation
        = number_spent u' r.allocation bits (and_parts (receivers.is_open c r && is_size z (r.size c)) (covers r.allocation (length bits)) e).1 in
        omega (arith, l, f, own, less));
    fits = ((let l : r.allocation.messages ≤ 65535 = x.fits.0 in omega (arith, l)), (let l : r.allocation.bits ≤ 4294967295 = x.fits.1 in omega (arith, l)));
    all = x.all;
  }
  exact_taken_if false e = record { holds = x.holds; fits = x.fits; all = x.all }

  exact_take : Exact lost (made (receivers.moved (receivers.Take z bits) r) s d u Taken)
  exact_take =
      subst (λ (o : Option ℕ). Exact lost (made (record (receivers.takes z bits o r) { came = receivers.one_more o r.came }) s d u Taken)) (sym end_is)
      (exact_taken_if _ refl)

-- ---- what the sender does

held_stays : (u : Counter) (k c : ℕ) (v : Bool) (o : Option ℕ) (a : Allocation) → k ≢ c → held u k o a ≤ held u k (senders.goes c v o) a
held_stays u k c v None a other = omega arith
held_stays u k c v (Some own) a other = by (own == c) refl v where
  by : (w : Bool) → (own == c) ≡ w → (v' : Bool) → mine k own (number u a) ≤ held u k (if w && v' then None else Some own) a
  by true e true = let none : mine k own (number u a) ≡ 0 = mine_other k own _ (λ same. other (same ∙ eqb-true own c e)) in omega (arith, none)
  by true e false = omega arith
  by false e v' = omega arith

is_same : (k c : ℕ) → (k ≡ c) ⊎ (k ≢ c)
is_same k c = by (k == c) refl where
  by : (v : Bool) → (k == c) ≡ v → (k ≡ c) ⊎ (k ≢ c)
  by true e = inl (eqb-true k c e)
  by false e = inr (λ same. unlike _ (eq-eqb k c same) e)

module _ (lost : Bool) (r : Receiver) (s : Sender) (d u : List Word) (b : Box) (x : Exact lost (made r s d u b)) where
  exact_asks : (c z : ℕ) → Exact lost (made r (record s { size = for c (Some z) s.size }) d (u ++ Str c z ∷ []) b)
  exact_asks c z = record {
    holds = x.holds;
    fits = x.fits;
    all = λ u' k o. (
        let a : AtMostAll u' k r s d u = x.all u' k o in
        let g : returned_in u' k (u ++ Str c z ∷ []) ≡ returned_in u' k u + 0 = returned_more u' k u _ in
        omega (arith, a, g));
  }

  exact_opens : (c : ℕ) → s.end ≡ Some c → (lost ≡ true → s.opened ≡ false → Claims c (made r s d u b)) → Exact lost (made r (record s { opened = true }) d u b)
  exact_opens c end claims = record {
    holds = x.holds;
    fits = x.fits;
    all = λ u' k o. by u' k o lost s.opened refl refl;
  } where
    by : (u' : Counter) (k : ℕ) → IsOpen lost k r (record s { opened = true }) → (l v : Bool) → lost ≡ l → s.opened ≡ v → AtMostAll u' k r s d u
    by u' k o false v e f = x.all u' k (record { end = o.end; receiver = o.receiver; sender = o.sender; unshut = o.unshut; opened = λ g i. absurd (unlike lost g e) })
    by u' k o true true e f = x.all u' k (record { end = o.end; receiver = o.receiver; sender = o.sender; unshut = o.unshut; opened = λ g i. f })
    by u' k o true false e f = elim (is_same k c) [
      | inl same ↦
          subst (λ (j : ℕ). AtMostAll u' j r s d u) (sym same)
          (claims e f u' (record {
            end = o.end ∙ ap (λ (j : ℕ). Some j) same;
            receiver = o.receiver;
            sender = ap s.closed (sym same) ∙ o.sender;
            unshut = λ i. o.unshut (i ∙ ap (λ (j : ℕ). Some j) (sym same));
            opened = λ g i. absurd (cc);
          }))
      | inr other ↦
          x.all u' k (record { end = o.end; receiver = o.receiver; sender = o.sender; unshut = o.unshut; opened = λ g i. absurd (other (both_are s.end c k end i)) })
    ]

  exact_boxed : (b' : Box) → Exact lost (made r s d u b')
  exact_boxed b' = record { holds = x.holds; fits = x.fits; all = x.all }

  exact_closes : (c : ℕ) → Exact lost (made r (record s { end = senders.goes c s.shut s.end; closed = for c true s.closed }) d (u ++ Cls c ∷ []) b)
  exact_closes c = record {
    holds = x.holds;
    fits = x.fits;
    all = λ u' k o. elim (at c true s.closed k) [
      | inl t ↦ absurd (unlike _ t.1 o.sender)
      | inr t ↦ (
          let a : AtMostAll u' k r s d u = x.all u' k (record { end = o.end; receiver = o.receiver; sender = sym t.1 ∙ o.sender; unshut = λ e. o.unshut (sends.goes_other c s.shut s.end k t.0 e); opened = λ g e. o.opened g (sends.goes_other c s.shut s.end k t.0 e) }) in
          let g : returned_in u' k (u ++ Cls c ∷ []) ≡ returned_in u' k u + 0 = returned_more u' k u (Cls c) in
          let l : held u' k s.end s.allocation ≤ held u' k _ s.allocation = held_stays u' k c s.shut s.end s.allocation t.0 in
          omega (arith, a, g, l))
    ];
  }

  exact_sends : (c : ℕ) (bits : List Bool) (b' : Box) → s.end ≡ Some c → covers s.allocation (length bits) ≡ true
      → Exact lost (made r (record s { allocation = counters.spent s.allocation (length bits); sent = for c (s.sent c ++ bits ∷ []) s.sent }) d u b')
  exact_sends c bits b' end covered = record {
    holds = x.holds;
    fits = x.fits;
    all = λ u' k o. (
        let a : AtMostAll u' k r s d u = x.all u' k o in
        let f : total u' (for c (s.sent c ++ bits ∷ []) s.sent k) ≡ total u' (s.sent k) + mine k c (cost u' bits) = total_for u' k c bits s.sent in
        let before : held u' k s.end s.allocation ≡ mine k c (number u' s.allocation) = held_is u' k c s.end s.allocation end in
        let after : held u' k s.end (counters.spent s.allocation (length bits)) ≡ mine k c (number u' (counters.spent s.allocation (length bits))) = held_is u' k c s.end _ end in
        let less : mine k c (number u' (counters.spent s.allocation (length bits))) + mine k c (cost u' bits) ≡ mine k c (number u' s.allocation)
        = mine_add k c _ _ _ (number_spent u' s.allocation bits covered) in
        omega (arith, a, f, before, after, less));
  }

-- what it hears
module _ (lost : Bool) (r : Receiver) (s : Sender) (rest u : List Word) (b : Box) where
  -- the end of a request has lost nothing yet
  exact_rts : (later : Bool) (c : ℕ) → Inv (made r s (Rts c ∷ rest) u b) → Exact lost (made r s (Rts c ∷ rest) u b) → Exact later (made r (senders.begins c s.end s) rest u b)
  exact_rts later c h x = subst (λ (o : Option ℕ). Exact later (made r (senders.begins c o s) rest u b)) (sym none) begun where
    none : s.end ≡ None
    none = link_free (made r s (Rts c ∷ rest) u b) c rest h refl

    begun : Exact later (made r (senders.begins c None s) rest u b)
    begun = record {
      holds = x.holds;
      fits = x.fits;
      all = λ u' k o. (
          let a : AtMostAll u' k r s (Rts c ∷ rest) u = x.all u' k (record { end = o.end; receiver = o.receiver; sender = o.sender; unshut = λ e. (let both : None ≡ Some k = sym none ∙ e in absurd (cc)); opened = λ g e. (let both : None ≡ Some k = sym none ∙ e in absurd (cc)) }) in
          let before : held u' k s.end s.allocation ≡ 0 = ap (λ (p : Option ℕ). held u' k p s.allocation) none in
          omega (arith, a, before));
    }

  opened_of : (c : ℕ) → s.opened ≡ true → s.shut ≡ false → s.closed c ≡ false → senders.is_open c s ≡ true
  opened_of c opened shut closed = rw (opened, shut, closed) refl

  -- the sender's end can count all that is granted to it
  counts : (c m n : ℕ) → s.end ≡ Some c → r.end ≡ Some c → Inv (made r s (All c m n ∷ rest) u b) → Exact lost (made r s (All c m n ∷ rest) u b)
      → (u' : Counter) → number u' (counters.granted s.allocation m n) ≡ number u' s.allocation + amount u' m n
  counts c m n end there h x u' =
      let a : Account u' c r s (All c m n ∷ rest) u = h.account u' c in
      let l : number u' (r.granted c) ≤ number u' r.allocation + total u' (r.taken c) + number u' (r.returned c) = h.grants.left u' c there in
      let t : total u' (r.taken c) ≤ total u' (s.sent c) = total_front u' _ _ (h.arrivals.fronts c) in
      let own : mine c c (amount u' m n) ≡ amount u' m n = mine_same c c _ refl in
      let all : held u' c s.end s.allocation ≡ mine c c (number u' s.allocation) = held_is u' c c s.end s.allocation end in
      let same : mine c c (number u' s.allocation) ≡ number u' s.allocation = mine_same c c _ refl in
      let most : number u' r.allocation ≤ number u' (record { messages = 65535; bits = 4294967295 }) = fits_of u' r x.fits in
      fits_in u' s.allocation m n (omega (arith, a, l, t, own, all, same, most))

  exact_all_if : (c m n : ℕ) → s.end ≡ Some c → (lost ≡ false → s.opened ≡ true) → Inv (made r s (All c m n ∷ rest) u b) → Exact lost (made r s (All c m n ∷ rest) u b) → (v : Bool) → senders.is_open c s ≡ v
      → Exact lost (made r (if v then record s { allocation = counters.granted s.allocation m n } else s) rest u b)
  exact_all_if c m n end opened h x true e = record {
    holds = x.holds;
    fits = x.fits;
    all = λ u' k o. (
        let a : AtMostAll u' k r s (All c m n ∷ rest) u = x.all u' k o in
        let before : held u' k s.end s.allocation ≡ mine k c (number u' s.allocation) = held_is u' k c s.end s.allocation end in
        let after : held u' k s.end (counters.granted s.allocation m n) ≡ mine k c (number u' (counters.granted s.allocation m n)) = held_is u' k c s.end _ end in
        let more : mine k c (number u' s.allocation) + mine k c (amount u' m n) ≤ mine k c (number u' (counters.granted s.allocation m n)) = grows u' k o.end (is_same k c) in
        omega (arith, a, before, after, more));
  } where
    grows : (u' : Counter) (k : ℕ) → r.end ≡ Some k → (k ≡ c) ⊎ (k ≢ c) → mine k c (number u' s.allocation) + mine k c (amount u' m n) ≤ mine k c (number u' (counters.granted s.allocation m n))
    grows u' k there (inl same) =
        let all : number u' (counters.granted s.allocation m n) ≡ number u' s.allocation + amount u' m n = counts c m n end (there ∙ ap (λ (j : ℕ). Some j) same) h x u' in
        let one : mine k c (number u' s.allocation) ≡ number u' s.allocation = mine_same k c _ same in
        let two : mine k c (amount u' m n) ≡ amount u' m n = mine_same k c _ same in
        let three : mine k c (number u' (counters.granted s.allocation m n)) ≡ number u' (counters.granted s.allocation m n) = mine_same k c _ same in
        omega (arith, all, one, two, three)
    grows u' k there (inr other) =
        let one : mine k c (number u' s.allocation) ≡ 0 = mine_other k c _ other in
        let two : mine k c (amount u' m n) ≡ 0 = mine_other k c _ other in
        omega (arith, one, two)
  exact_all_if c m n end opened h x false e = record {
    holds = x.holds;
    fits = x.fits;
    all = λ u' k o. elim (is_same k c) [
      | inl same ↦ absurd (unlike _ (opened_of c (was (end ∙ ap (λ (j : ℕ). Some j) (sym same)) o.opened lost refl) (o.unshut (end ∙ ap (λ (j : ℕ). Some j) (sym same))) (ap s.closed (sym same) ∙ o.sender)) e)
      | inr other ↦ (
          let a : AtMostAll u' k r s (All c m n ∷ rest) u = x.all u' k o in
          let none : mine k c (amount u' m n) ≡ 0 = mine_other k c _ other in
          omega (arith, a, none))
    ];
  } where
    was : {k : ℕ} → s.end ≡ Some k → (lost ≡ true → s.end ≡ Some k → s.opened ≡ true) → (l : Bool) → lost ≡ l → s.opened ≡ true
    was {k} i f true g = f g i
    was {k} i f false g = opened g

  exact_all : (c m n : ℕ) → (lost ≡ false → s.opened ≡ true) → Inv (made r s (All c m n ∷ rest) u b) → Exact lost (made r s (All c m n ∷ rest) u b)
      → Exact lost (made r (senders.with_allocation s.end (λ a. counters.granted a m n) s) rest u b)
  exact_all c m n opened h x =
      let end : s.end ≡ Some c = sends.granted_to r s rest u b c m n h in
      subst (λ (o : Option ℕ). Exact lost (made r (senders.with_allocation o (λ a. counters.granted a m n) s) rest u b)) (sym end) (exact_all_if c m n end opened h x _ refl)

  exact_gvb_if : (c m n : ℕ) → s.end ≡ Some c → Exact lost (made r s (Gvb c m n ∷ rest) u b) → (v : Bool)
      → Exact lost (made r (if v then record s { allocation = counters.given_back s.allocation m n } else s) rest (word_queued (if v then Some (Ret c (counters.share s.allocation.messages m) (counters.share s.allocation.bits n)) else None) u) b)
  exact_gvb_if c m n end x true = record {
    holds = x.holds;
    fits = x.fits;
    all = λ u' k o. (
        let a : AtMostAll u' k r s (Gvb c m n ∷ rest) u = x.all u' k o in
        let before : held u' k s.end s.allocation ≡ mine k c (number u' s.allocation) = held_is u' k c s.end s.allocation end in
        let after : held u' k s.end (counters.given_back s.allocation m n) ≡ mine k c (number u' (counters.given_back s.allocation m n)) = held_is u' k c s.end _ end in
        let less : mine k c (number u' (counters.given_back s.allocation m n)) + mine k c (amount u' (counters.share s.allocation.messages m) (counters.share s.allocation.bits n)) ≡ mine k c (number u' s.allocation)
        = mine_add k c _ _ _ (number_back u' s.allocation m n) in
        let g : returned_in u' k (u ++ Ret c (counters.share s.allocation.messages m) (counters.share s.allocation.bits n) ∷ [])
        ≡ returned_in u' k u + (mine k c (amount u' (counters.share s.allocation.messages m) (counters.share s.allocation.bits n)) + 0)
        = returned_more u' k u _ in
        omega (arith, a, before, after, less, g));
  }
  exact_gvb_if c m n end x false = record { holds = x.holds; fits = x.fits; all = x.all }

  exact_gvb : (c m n : ℕ) → Inv (made r s (Gvb c m n ∷ rest) u b) → Exact lost (made r s (Gvb c m n ∷ rest) u b)
      → Exact lost (made r (senders.with_allocation s.end (λ a. counters.given_back a m n) s) rest (word_queued (senders.returns m n s.end s) u) b)
  exact_gvb c m n h x =
      let end : s.end ≡ Some c = sends.asked_of r s rest u b c m n h in
      subst (λ (o : Option ℕ). Exact lost (made r (senders.with_allocation o (λ a. counters.given_back a m n) s) rest (word_queued (senders.returns m n o s) u) b)) (sym end)
      (exact_gvb_if c m n end x _)

  exact_shut_if : (c : ℕ) → s.end ≡ Some c → Exact lost (made r s (Cls c ∷ rest) u b) → (v : Bool) → s.closed c ≡ v → Exact lost (made r (if v then record s { end = None } else record s { shut = true }) rest u b)
  exact_shut_if c end x true closed = record {
    holds = x.holds;
    fits = x.fits;
    all = λ u' k o. (
        let other : k ≢ c = λ same. unlike _ closed (ap s.closed (sym same) ∙ o.sender) in
        let a : AtMostAll u' k r s (Cls c ∷ rest) u = x.all u' k (record { end = o.end; receiver = o.receiver; sender = o.sender; unshut = λ e. absurd (other (both_are s.end c k end e)); opened = λ g e. absurd (other (both_are s.end c k end e)) }) in
        let before : held u' k s.end s.allocation ≡ mine k c (number u' s.allocation) = held_is u' k c s.end s.allocation end in
        let none : mine k c (number u' s.allocation) ≡ 0 = mine_other k c _ other in
        omega (arith, a, before, none));
  }
  exact_shut_if c end x false closed = record {
    holds = x.holds;
    fits = x.fits;
    all = λ u' k o. (
        let other : s.end ≡ Some k → s.shut ≡ false = λ e. (let both : true ≡ false = o.unshut e in absurd (cc)) in
        x.all u' k (record { end = o.end; receiver = o.receiver; sender = o.sender; unshut = other; opened = o.opened }));
  }

  exact_cls : (c : ℕ) → Inv (made r s (Cls c ∷ rest) u b) → Exact lost (made r s (Cls c ∷ rest) u b) → Exact lost (made r (senders.shuts c s.end s) rest u b)
  exact_cls c h x =
      let view : (s.end ≡ Some c) × (s.shut ≡ false) = unless_some s.shut s.end c h.down.0 in
      subst (λ (o : Option ℕ). Exact lost (made r (senders.shuts c o s) rest u b)) (sym view.0)
      (subst (λ (v : Bool). Exact lost (made r (if v then (if s.closed c then record s { end = None } else record s { shut = true }) else s) rest u b)) (sym (eq-eqb c c refl)) (exact_shut_if c view.0 x _ refl))

-- ---- all that may happen

exact_heard : (lost : Bool) (r : Receiver) (s : Sender) (d rest : List Word) (b : Box) (w : Word) → Inv (made r s d (w ∷ rest) b) → Exact lost (made r s d (w ∷ rest) b) → Exact lost (made (receivers.hears w r) s d rest b)
exact_heard lost r s d rest b (Str c z) h x = exact_str lost r s d rest b c z x
exact_heard lost r s d rest b (Ret c m n) h x = exact_ret lost r s d rest b c m n h x
exact_heard lost r s d rest b (Cls c) h x = exact_over lost r s d rest b c x
exact_heard lost r s d rest b w h x = absurd (h.up)

exact_told : (lost : Bool) (r : Receiver) (s : Sender) (rest u : List Word) (b : Box) (w : Word) → IsKept lost (Sends (senders.Hear w)) (made r s (w ∷ rest) u b) → Inv (made r s (w ∷ rest) u b) → Exact lost (made r s (w ∷ rest) u b)
    → Exact lost (made r (senders.hears w s) rest (word_queued (senders.says (senders.Hear w) s) u) b)
exact_told lost r s rest u b (Rts c) p h x = exact_rts lost r s rest u b lost c h x
exact_told lost r s rest u b (All c m n) p h x = exact_all lost r s rest u b c m n p h x
exact_told lost r s rest u b (Gvb c m n) p h x = exact_gvb lost r s rest u b c m n h x
exact_told lost r s rest u b (Cls c) p h x = exact_cls lost r s rest u b c h x
exact_told lost r s rest u b w p h x = absurd (h.down)

pub exact_kept : (lost : Bool) (e : Event) (y : Stream) → MayHappen e y → IsKept lost e y → Inv y → Exact lost y → Exact lost (happens e y)
exact_kept lost (Receives (receivers.Ask c)) y m p h x = exact_ask lost y.receiver y.sender y.to_sender y.to_receiver y.box h x c m.0.1
exact_kept lost (Receives (receivers.Open c)) y m p h x = exact_opened lost y.receiver y.sender y.to_sender y.to_receiver y.box h x
exact_kept lost (Receives (receivers.Grant c n b)) y m p h x = exact_grant lost y.receiver y.sender y.to_sender y.to_receiver y.box h x c n b m.0.0 m.0.2 m.0.3
exact_kept lost (Receives (receivers.AskBack c n b)) y m p h x = exact_ask_back lost y.receiver y.sender y.to_sender y.to_receiver y.box h x c n b
exact_kept lost (Receives (receivers.Close c)) y m p h x = exact_close lost y.receiver y.sender y.to_sender y.to_receiver y.box h x c
exact_kept lost (Receives (receivers.Free c)) y m p h x = exact_free lost y.receiver y.sender y.to_sender y.to_receiver y.box h x
exact_kept lost (Receives (receivers.Hear w)) y m p h x =
    subst (λ (u : List Word). Inv (made y.receiver y.sender y.to_sender u y.box) → Exact lost (made y.receiver y.sender y.to_sender u y.box) → Exact lost (made (receivers.hears w y.receiver) y.sender y.to_sender (behind u) y.box)) (sym m.1.1)
    (exact_heard lost y.receiver y.sender y.to_sender m.1.0 y.box w) h x
exact_kept lost (Receives (receivers.Take z bits)) y m p h x =
    subst (λ (b : Box). Inv (made y.receiver y.sender y.to_sender y.to_receiver b) → Exact lost (made y.receiver y.sender y.to_sender y.to_receiver b) → Exact lost (made (receivers.moved (receivers.Take z bits) y.receiver) y.sender y.to_sender y.to_receiver Taken)) (sym m.1.1)
    (exact_take lost y.receiver y.sender y.to_sender y.to_receiver m.1.0 z bits) h x
exact_kept lost (Sends (senders.Ask c z)) y m p h x = exact_asks lost y.receiver y.sender y.to_sender y.to_receiver y.box x c z
exact_kept lost (Sends (senders.Open c)) y m p h x = exact_opens lost y.receiver y.sender y.to_sender y.to_receiver y.box x c m.0.0 p
exact_kept lost (Sends (senders.Send c z bits)) y m p h x = exact_sends lost y.receiver y.sender y.to_sender y.to_receiver y.box x c bits _ m.0.0 m.0.3
exact_kept lost (Sends (senders.Close c)) y m p h x = exact_closes lost y.receiver y.sender y.to_sender y.to_receiver y.box x c
exact_kept lost (Sends (senders.Hear w)) y m p h x =
    subst (λ (d : List Word). IsKept lost (Sends (senders.Hear w)) (made y.receiver y.sender d y.to_receiver y.box) → Inv (made y.receiver y.sender d y.to_receiver y.box) → Exact lost (made y.receiver y.sender d y.to_receiver y.box)
    → Exact lost (made y.receiver (senders.hears w y.sender) (behind d) (word_queued (senders.says (senders.Hear w) y.sender) y.to_receiver) y.box)) (sym m.1.1)
    (exact_told lost y.receiver y.sender m.1.0 y.to_receiver y.box w) p h x
exact_kept lost (Sends senders.Told) y m p h x = exact_boxed lost y.receiver y.sender y.to_sender y.to_receiver y.box x Empty

-- where no grant comes too early none is lost
told_kept : (w : Word) (x : Stream) → IsPrompt (Sends (senders.Hear w)) x → IsKept false (Sends (senders.Hear w)) x
told_kept (All c m n) x p = λ e. p
told_kept w x p = tt

prompt_kept : (e : Event) (x : Stream) → IsPrompt e x → IsKept false e x
prompt_kept (Sends (senders.Open c)) x p = λ e o. absurd (cc)
prompt_kept (Sends (senders.Hear w)) x p = told_kept w x p
prompt_kept e x p = tt

exact_run : (events : List Event) → IsRun events → ArePrompt events → Exact false (stream events)
exact_run [] run prompt = exact_opening false
exact_run (e ∷ events) run prompt =
    exact_kept false e _ run.0 (prompt_kept e _ prompt.0) (inv_run events run.1) (exact_run events run.1 prompt.1)

-- ---- an end that opens

-- nothing is granted before the receiver's end has opened
pub claims_ungranted : (x : Stream) (c : ℕ) → Inv x → (x.receiver.end ≡ Some c → x.receiver.opened ≡ false) → Claims c x
claims_ungranted x c h unopened u o =
    let none : number u (x.receiver.granted c) ≡ 0 = h.grants.unopened u c o.end (unopened o.end) in
    omega (arith, none)

-- nor is anything lost as its request is heard
claims_made : (r : Receiver) (s : Sender) (rest u : List Word) (b : Box) (c : ℕ) → Inv (made r s (Rts c ∷ rest) u b) → Exact true (made r s (Rts c ∷ rest) u b) → (k : ℕ) → Claims k (made r (senders.begins c s.end s) rest u b)
claims_made r s rest u b c h x k u' o = (exact_rts true r s rest u b false c h x).all u' k o

pub claims_asked : (x : Stream) (c k : ℕ) (rest : List Word) → x.to_sender ≡ Rts c ∷ rest → Inv x → Exact true x → Claims k (happens (Sends (senders.Hear (Rts c))) x)
claims_asked x c k rest e h exact =
    subst (λ (d : List Word). Inv (made x.receiver x.sender d x.to_receiver x.box) → Exact true (made x.receiver x.sender d x.to_receiver x.box) → Claims k (made x.receiver (senders.begins c x.sender.end x.sender) (behind d) x.to_receiver x.box)) (sym e)
    (λ i j. claims_made x.receiver x.sender rest x.to_receiver x.box c i j k) h exact

-- ---- two ends at rest

same_allocation : (a b : Allocation) → ((u : Counter) → number u a ≡ number u b) → a ≡ b
same_allocation a b f =
    let many : record { messages = a.messages; bits = a.bits } ≡ record { messages = b.messages; bits = a.bits } = ap (λ (n : ℕ). record { messages = n; bits = a.bits }) (f Messages) in
    let much : record { messages = b.messages; bits = a.bits } ≡ record { messages = b.messages; bits = b.bits } = ap (λ (n : ℕ). record { messages = b.messages; bits = n }) (f Bits) in
    many ∙ much

module _ (lost : Bool) (x : Stream) (c : ℕ) (h : Inv x) (e : Exact lost x) (q : IsAtRest x c) where
  receiver_open : (x.receiver.opened ≡ true) × (x.receiver.closed ≡ false) × (x.receiver.over c ≡ false)
  receiver_open = receives.opens c x.receiver q.receives

  sender_open : (x.sender.opened ≡ true) × (x.sender.shut ≡ false) × (x.sender.closed c ≡ false)
  sender_open = sends.opens c x.sender q.sends

  rest_taken : x.receiver.taken c ≡ x.sender.sent c
  rest_taken = sym (h.arrivals.whole c q.receiver receiver_open.1 receiver_open.2 ∙ ap (λ (l : List (List Bool)). x.receiver.taken c ++ l) q.box ∙ append-nil (x.receiver.taken c))

  -- the amounts of a counter: all of them, and those of the receiver
  amounts : (u : Counter) → (total u (x.receiver.taken c) + number u (x.receiver.returned c) + number u x.sender.allocation ≡ number u (x.receiver.granted c)) × (number u x.sender.allocation ≡ number u x.receiver.allocation)
  amounts u =
      let all : AtMostAll u c x.receiver x.sender x.to_sender x.to_receiver = e.all u c (record { end = q.receiver; receiver = receiver_open.1; sender = sender_open.2; unshut = λ end. sender_open.1; opened = λ g end. sender_open.0 }) in
      let less : Account u c x.receiver x.sender x.to_sender x.to_receiver = h.account u c in
      let left : number u (x.receiver.granted c) ≤ number u x.receiver.allocation + total u (x.receiver.taken c) + number u (x.receiver.returned c) = h.grants.left u c q.receiver in
      let holds : number u x.receiver.allocation + total u (x.receiver.taken c) + number u (x.receiver.returned c) ≤ number u (x.receiver.granted c) = e.holds u c q.receiver in
      let down : granted_in u c x.to_sender ≡ 0 = ap (granted_in u c) q.to_sender in
      let up : returned_in u c x.to_receiver ≡ 0 = ap (returned_in u c) q.to_receiver in
      let taken : total u (x.receiver.taken c) ≡ total u (x.sender.sent c) = ap (total u) rest_taken in
      let of : held u c x.sender.end x.sender.allocation ≡ mine c c (number u x.sender.allocation) = held_is u c c x.sender.end x.sender.allocation q.sender in
      let own : mine c c (number u x.sender.allocation) ≡ number u x.sender.allocation = mine_same c c _ refl in
      (omega (arith, all, less, down, up, taken, of, own), omega (arith, all, less, left, holds, down, up, taken, of, own))

  pub agreed_of : AreAgreed x c
  agreed_of = record {
    taken = rest_taken;
    allocation = same_allocation x.sender.allocation x.receiver.allocation (λ u. (amounts u).1);
    in_messages = (let n : total Messages (x.receiver.taken c) ≡ length (x.receiver.taken c) = total_messages _ in let a : total Messages (x.receiver.taken c) + (x.receiver.returned c).messages + x.sender.allocation.messages ≡ (x.receiver.granted c).messages = (amounts Messages).0 in omega (arith, n, a));
    in_bits = (let n : total Bits (x.receiver.taken c) ≡ message_bits _ = total_bits _ in let a : total Bits (x.receiver.taken c) + (x.receiver.returned c).bits + x.sender.allocation.bits ≡ (x.receiver.granted c).bits = (amounts Bits).0 in omega (arith, n, a));
  }

pub agreed_run : (events : List Event) (c : ℕ) → IsRun events → ArePrompt events → IsAtRest (stream events) c → AreAgreed (stream events) c
agreed_run events c run prompt q = agreed_of false (stream events) c (inv_run events run) (exact_run events run prompt) q
