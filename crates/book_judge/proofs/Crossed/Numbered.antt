-- What is answered of the messages of a life by their numbers.
use Rattle.book_judge.proofs.Common.{cases_lt, slice_get_read, take_all, Flow, Crossing, Name, receives, Life, flow_of, texts_by, AreJoined, IsNth, Arrival, Joined, Start, Taking}
use Rattle.std.proofs.Common.{◌≡◌, ℕ, suc, ◌+◌, ◌-◌, ◌<◌, ◌≤◌, Bool, true, false, List, [], length, take, get_or, Option, Some, None, MatchBool, refl, ap, sym, subst, ◌∙◌, arith, inl, inr, leb-true, nat_le}
use Rattle.std.specs.Bool.{OnTrue}
use Rattle.std.specs.List.{slice_get}
use Rattle.book_judge.specs.Inside.Arrivals.{ArrivalOf, IsSteady, sent_by}
use Rattle.book_judge.specs.Inside.Sent.{AllSent, ArriveIn, EachSent, Rises, SenderAt, SentAt, SentNth, Tells, taking_at}
use Rattle.book_judge.specs.Inside.Starts.{AreStarts, counts, counts_of, start_at}
use Rattle.book_judge.proofs.Identities.Asked.{below_cases}
use Rattle.book_judge.proofs.Crossed.Counted.{counts_is, counts_true}
use Rattle.book_judge.proofs.Crossed.Numbers.{nth_once}
use Rattle.book_judge.proofs.Crossed.TextsBy.{texts_within}

-- ---- where the messages of one life more begin

pub starts_none : (starts : List (Option Start)) (lives : List Life) (log : List Crossing) → starts ≡ []
    → AreStarts 0 starts lives log
starts_none starts lives log e = subst (λ (os : List (Option Start)). AreStarts 0 os lives log) (sym e) (record {
  counts = refl;
  each = λ i x less at. absurd (omega (arith, less));
})

pub all_starts : (n : ℕ) (starts : List (Option Start)) (lives : List Life) (log : List Crossing) → length lives ≤ n
    → n ≤ length lives → AreStarts n starts lives log → AreStarts (length lives) starts lives log
all_starts n starts lives log h k a =
    let e : n ≡ length lives = omega (arith, h, k) in subst (λ (m : ℕ). AreStarts m starts lives log) e a

-- ---- one message

module _ (log : List Crossing) (starts : List (Option Start)) (s : Start) (a : Name) (x : Life) (names : List Name)
    (lives : List Life) where
  abbrev f : Flow
  f = flow_of x s.link

  abbrev Here : ℕ → Type 0
  Here n = SentNth log starts s a x names lives n

  abbrev with_sent : ℕ → ℕ → Taking
  with_sent n sent = record { link = s.link; nth = n - s.before; sent = sent }

  abbrev Found : ℕ → ℕ → Type 0
  Found n sent = (i : ℕ) × SenderAt starts (with_sent n sent) a x names lives i

  pub nth_answered : (n : ℕ) (e : Arrival) (b : Bool) → ArrivalOf f log n (Some e)
      → MatchBool b (Found n e.sent) ((i : ℕ) → SenderAt starts (with_sent n e.sent) a x names lives i → ⊥)
      → MatchBool b (Here n) (Here n → ⊥)
  nth_answered n e true at m = λ place nth.
      (let one : at.0 ≡ place = nth_once f log n at.0 place at.1 nth in
      subst (λ (k : ℕ). Found n k) (at.2.0 ∙ ap (λ (q : ℕ). sent_by f log q) one) m)
  nth_answered n e false at m = λ all.
      (let t : Found n e.sent = subst (λ (k : ℕ). Found n k) (sym at.2.0) (all at.0 at.1) in m t.0 t.1)

  pub nth_none : (n : ℕ) → ArrivalOf f log n None → Here n
  nth_none n none place nth = absurd (none place nth)

  -- ---- several

  pub none_sent : (past : ℕ) → past ≤ s.before → EachSent log starts s a x names lives past
  none_sent past le n from less = absurd (omega (arith, le, from, less))

  pub more_sent : (n : ℕ) → Here n → EachSent log starts s a x names lives n → EachSent log starts s a x names lives (n + 1)
  more_sent n here each i from less = elim (below_cases i n less) [
    | inl e ↦ subst (λ (k : ℕ). Here k) (sym e) here
    | inr low ↦ each i from low
  ]

  pub fewer_sent : (n m : ℕ) → m ≤ n → EachSent log starts s a x names lives n → EachSent log starts s a x names lives m
  fewer_sent n m le each i from less = each i from (omega (arith, less, le))

  -- where one more had gone out before each next one, the last shows it of all
  as_last : (n past i p q : ℕ) → s.before ≤ n → n ≤ past → sent_by f log p + (past - n) ≡ sent_by f log q
      → SenderAt starts (with_sent past (sent_by f log q)) a x names lives i → Found n (sent_by f log p)
  as_last n past i p q from le steady (b, y, e, g, fit, count) = (i, (b, y, e, g, fit, by (slice_get starts i) count)) where
    by : (o : Option (Option Start)) → counts_of o y (with_sent past (sent_by f log q)) ≡ true
        → counts_of o y (with_sent n (sent_by f log p)) ≡ true
    by None h = h
    by (Some None) h = h
    by (Some (Some r)) h =
        let t = counts_true r y (with_sent past (sent_by f log q)) h in
        let low : r.before < sent_by f log q = t.1 in
        let nth : sent_by f log q - r.before - 1 ≡ past - s.before = t.2 in
        let within : past - s.before < y.messages = t.3 in
        counts_is r y (with_sent n (sent_by f log p)) t.0 (omega (arith, low, nth, steady, from, le))
        (omega (arith, low, nth, steady, from, le)) (omega (arith, within, from, le))

  pub last_shows : (past : ℕ) → Rises f log s.before past → Here past → EachSent log starts s a x names lives (past + 1)
  last_shows past r here n from less place nth =
      let t : Found past (sent_by f log r.0) = here r.0 r.1 in
      elim (below_cases n past less) [
        | inl e ↦ here_at n e place nth
        | inr low ↦ as_last n past t.0 place r.0 from (omega (arith, low)) (r.2 n place from low nth) t.1
      ] where
        here_at : (k : ℕ) → k ≡ past → (q : ℕ) → IsNth true f log k q → Found k (sent_by f log q)
        here_at k e q is = subst (λ (j : ℕ). (w : ℕ) → IsNth true f log j w → Found j (sent_by f log w)) (sym e) here q is

  -- ---- all that the life counts

  -- none with a number past the last that came in
  pub none_past : (n place count : ℕ) → IsNth true f log n place → count ≡ length (texts_by true f log) → n < count
  none_past n place count nth all =
      let next : length (texts_by true f (take (suc place) log)) ≡ suc n = nth.2 in
      let whole : length (texts_by true f (take (suc place) log)) ≤ length (texts_by true f log) =
      texts_within true f (suc place) log in
      omega (arith, next, whole, all)

  module _ (past count : ℕ) (all : count ≡ length (texts_by true f log))
      (inside : (n : ℕ) → s.before ≤ n → n < past → n < s.before + x.messages)
      (whole : (n : ℕ) → s.before ≤ n → n < s.before + x.messages → n < count → n < past) where
    pub each_all : EachSent log starts s a x names lives past → AllSent log starts s a x names lives
    each_all each n from less place nth = each n from (whole n from less (none_past n place count nth all)) place nth

    all_each : AllSent log starts s a x names lives → EachSent log starts s a x names lives past
    all_each every n from less = every n from (inside n from less)

    pub each_tells : (b : Bool)
        → MatchBool b (EachSent log starts s a x names lives past) (EachSent log starts s a x names lives past → ⊥)
        → Tells log starts s a x names lives b
    each_tells true m = each_all m
    each_tells false m = λ every. m (all_each every)

    pub last_tells : (b : Bool) → s.before < past → Rises f log s.before (past - 1)
        → MatchBool b (Here (past - 1)) (Here (past - 1) → ⊥) → Tells log starts s a x names lives b
    last_tells true some r m =
        let e : past - 1 + 1 ≡ past = omega (arith, some) in
        each_all (subst (λ (k : ℕ). EachSent log starts s a x names lives k) e (last_shows (past - 1) r m))
    last_tells false some r m = λ every.
        m (every (past - 1) (omega (arith, some)) (inside (past - 1) (omega (arith, some)) (omega (arith, some))))

pub on_true : (P : Type 0) (b : Bool) → OnTrue b P → b ≡ true → P
on_true P true h e = h
on_true P false h e = absurd (cc)

-- as many as came in
pub count_all : (f : Flow) (log : List Crossing) (n count : ℕ) → n ≡ length log
    → count ≡ length (texts_by true f (take n log)) → count ≡ length (texts_by true f log)
count_all f log n count e is =
    is ∙ ap (λ (cs : List Crossing). length (texts_by true f cs))
    (ap (λ (k : ℕ). take k log) e ∙ take_all (length log) log (omega arith))

pub steady_told : (f : Flow) (log : List Crossing) (first n : ℕ) (e : Arrival) (b : Bool) → ArrivalOf f log n (Some e)
    → b ≡ nat_le e.since first → OnTrue b (Rises f log first n)
steady_told f log first n e false at is = tt
steady_told f log first n e true at is =
    let le : e.since ≤ first = leb-true e.since first (sym is) in (
      at.0,
      at.1,
      λ i p from less nth. at.2.1 i p (omega (arith, le, from)) less nth ∙ at.2.0,
    )

-- ---- the life at a place

module _ (log : List Crossing) (starts : List (Option Start)) (names : List Name) (lives : List Life) (place : ℕ)
    (x : Life) (less : place < length lives) (counted : (length names ≡ length lives) × (length starts ≡ length lives))
    (at : x ≡ get_or lives place x) where
  there : slice_get lives place ≡ Some x
  there = slice_get_read lives (length lives) place x refl less at

  one_life : (y : Life) → slice_get lives place ≡ Some y → x ≡ y
  one_life y e = let both : Some x ≡ Some y = sym there ∙ e in cc

  pub sender_sent : receives x ≡ false → SentAt log starts names lives place
  sender_sent kind a y s e f g comes =
      let both : false ≡ true = sym kind ∙ ap (λ (z : Life). receives z) (one_life y f) ∙ comes in absurd (cc)

  pub unlinked_sent : (r : Option Start) → r ≡ start_at (slice_get starts place) → r ≡ None
      → SentAt log starts names lives place
  unlinked_sent r is none a y s e f g comes =
      let both : Some s ≡ None = sym (ap (λ (o : Option (Option Start)). start_at o) g) ∙ sym is ∙ none in absurd (cc)

  started : (o : Option (Option Start)) (s : Start) → start_at o ≡ Some s → o ≡ Some (Some s)
  started None s e = absurd (cc)
  started (Some o) s e = ap (λ (r : Option Start). Some r) e

  pub sent_told : (a : Name) (r : Option Start) (s : Start) (b : Bool) → receives x ≡ true → a ≡ get_or names place a
      → r ≡ start_at (slice_get starts place) → r ≡ Some s → Tells log starts s a x names lives b
      → MatchBool b (SentAt log starts names lives place) (SentAt log starts names lives place → ⊥)
  sent_told a r s b comes asks is some m = by b m where
    named : slice_get names place ≡ Some a
    named = slice_get_read names (length names) place a refl (omega (arith, less, counted.0)) asks

    here : slice_get starts place ≡ Some (Some s)
    here = started (slice_get starts place) s (sym is ∙ some)

    by : (v : Bool) → Tells log starts s a x names lives v
        → MatchBool v (SentAt log starts names lives place) (SentAt log starts names lives place → ⊥)
    by true all = λ c y t e f g receiving.
        (let one : a ≡ c = (let both : Some a ≡ Some c = sym named ∙ e in cc) in
        let two : s ≡ t = (let both : Some (Some s) ≡ Some (Some t) = sym here ∙ g in cc) in
        let P : Start → Name → Life → Type 0 = λ k d z. AllSent log starts k d z names lives in
        subst (λ (k : Start). P k c y) two (subst (λ (d : Name). P s d y) one (subst (λ (z : Life). P s a z) (one_life y f) all)))
    by false none = λ all. none (all a x s named there here comes)
