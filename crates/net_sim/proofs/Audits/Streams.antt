-- The test of streams is true exactly where they are safe, in a log with safe partners.
use Rattle.net_sim.proofs.Common.{◌≡◌, ℕ, zero, suc, add-one, ◌+◌, ◌<◌, ◌≤◌, Bool, true, false, ◌&&◌, ◌||◌, ◌==◌, not, List, [], ◌∷◌, ◌++◌, length, take, drop, get_or, refl, ap, sym, subst, ◌∙◌, arith, inl, inr, Option, Some, None, eq-eqb, list_all, list_any, is_none, take_all, AreFed, AreUnmatched, eqb-true, cases_lt, Crossing, and_true, Life, is_asked, is_partner, is_match, same_bit, is_prefix, is_source, is_unmatched, some_fed, streams_hold, Name, SafePartners, SafeStreams, Match, Source, own_request, partner_request, receives, sends}
use Rattle.std.proofs.lemmas.List.Folds.{list_all_more}
use Rattle.std.proofs.Common.{ap₂}
use Rattle.std.specs.List.{slice_get}
use Rattle.net_sim.specs.Inside.Audit.{asked_at, same_found, is_fed, is_handed, handed_at, are_handed, Found}
use Rattle.promise.specs.Safe.{IsPrefix, AreHanded}
use Rattle.std.proofs.lemmas.Bool.{and_from, and_right, false_from_ne_true, or_cases, or_right}
use Rattle.net_sim.proofs.Audits.Elements.{when_true, when_is, not_is, not_true, all_at, all_from, all_take, any_at, any_from}
use Rattle.net_sim.proofs.Audits.Searches.{none_found}
use Rattle.net_sim.proofs.Audits.Requests.{asks, asks_is, asked_sockets, partner_true, partner_is}
use Rattle.net_sim.proofs.Audits.Steps.{same_bit-true, same_bit-refl}

-- ---- matches

pub match_true : (log : List Crossing) (x y : Life) → is_match log (asked_at log x) x y ≡ true → Match log x y
match_true log x y h =
    let t = and_true (receives x && sends y && is_asked (asked_at log x) x y) (is_partner log x y) h in
    let u = and_true (receives x && sends y) (is_asked (asked_at log x) x y) t.0 in
    let v = and_true (receives x) (sends y) u.0 in
    let p = partner_true log x y t.1 in
    let a = asked_sockets (asked_at log x) x y u.1 in
    record {
      receiving = v.0;
      sending = v.1;
      peers = (p.0, p.1);
      sockets = (a.0, sym a.1);
      asked = asks log x y u.1;
      answered = p.2;
    }

pub match_is : (log : List Crossing) (x y : Life) → Match log x y → is_match log (asked_at log x) x y ≡ true
match_is log x y m =
    and_from (receives x && sends y && is_asked (asked_at log x) x y) (is_partner log x y)
    (and_from (receives x && sends y) (is_asked (asked_at log x) x y) (and_from (receives x) (sends y) m.receiving m.sending) (asks_is log x y m.asked))
    (partner_is log x y m.peers.0 m.peers.1 m.answered)

-- ---- prefixes

pub front_true : (xs ys : List Bool) → is_prefix xs ys ≡ true → IsPrefix xs ys
front_true [] ys h = (ys, refl)
front_true (x ∷ xs) [] h = absurd (cc)
front_true (x ∷ xs) (y ∷ ys) h =
    let t = and_true (same_bit x y) (is_prefix xs ys) h in
    let rest = front_true xs ys t.1 in
    let e : x ≡ y = same_bit-true x y t.0 in
    (rest.0, ap (λ (z : Bool). z ∷ xs ++ rest.0) e ∙ ap (λ (zs : List Bool). y ∷ zs) rest.1)

front_append : (xs rest : List Bool) → is_prefix xs (xs ++ rest) ≡ true
front_append [] rest = refl
front_append (x ∷ xs) rest = and_from (same_bit x x) (is_prefix xs (xs ++ rest)) (same_bit-refl x) (front_append xs rest)

pub front_is : (xs ys : List Bool) → IsPrefix xs ys → is_prefix xs ys ≡ true
front_is xs ys (rest, e) = let P : List Bool → Type 0 = λ z. is_prefix xs z ≡ true in subst P e (front_append xs rest)

-- one bit more
get_drop : (xs : List Bool) (i : ℕ) → i < length xs → (x : Bool) × (slice_get xs i ≡ Some x) × (drop i xs ≡ x ∷ drop (suc i) xs)
get_drop [] i h = absurd (omega arith)
get_drop (x ∷ xs) zero h = (x, refl, refl)
get_drop (x ∷ xs) (suc i) h = get_drop xs i (omega arith)

past_drop : (xs : List Bool) (i : ℕ) → length xs ≤ i → (slice_get xs i ≡ None) × (drop i xs ≡ [])
past_drop [] zero h = (refl, refl)
past_drop [] (suc i) h = (refl, refl)
past_drop (x ∷ xs) zero h = absurd (omega arith)
past_drop (x ∷ xs) (suc i) h = past_drop xs i (omega arith)

front_step : (xs ys : List Bool) (i : ℕ) → i < length xs → is_prefix (drop i xs) (drop i ys) ≡ (same_found (slice_get xs i) (slice_get ys i) && is_prefix (drop (suc i) xs) (drop (suc i) ys))
front_step xs ys i h =
    let a = get_drop xs i h in
    elim (cases_lt i (length ys)) [
      | inl l ↦ (let b = get_drop ys i l in rw (a.1, a.2, b.1, b.2) refl)
      | inr l ↦ (let b = past_drop ys i l in rw (a.1, a.2, b.0, b.1) refl)
    ]

pub front_more : (xs ys : List Bool) (i : ℕ) (a b : Option Bool) (r : Bool) → i < length xs → a ≡ slice_get xs i → b ≡ slice_get ys i → r ≡ same_found a b
    → is_prefix (drop i xs) (drop i ys) ≡ is_prefix xs ys → r ≡ true → is_prefix (drop (i + 1) xs) (drop (i + 1) ys) ≡ is_prefix xs ys
front_more xs ys i a b r h p q s e t =
    let here : same_found (slice_get xs i) (slice_get ys i) ≡ true = rw (← p, ← q) (sym s ∙ t) in
    let step : is_prefix (drop i xs) (drop i ys) ≡ (same_found (slice_get xs i) (slice_get ys i) && is_prefix (drop (suc i) xs) (drop (suc i) ys)) = front_step xs ys i h in
    let after : is_prefix (drop i xs) (drop i ys) ≡ is_prefix (drop (suc i) xs) (drop (suc i) ys) = rw here at step in
    rw (add-one) (sym after ∙ e)

pub front_stops : (xs ys : List Bool) (i : ℕ) (a b : Option Bool) (r : Bool) → i < length xs → a ≡ slice_get xs i → b ≡ slice_get ys i → r ≡ same_found a b
    → is_prefix (drop i xs) (drop i ys) ≡ is_prefix xs ys → r ≡ false → false ≡ is_prefix xs ys
front_stops xs ys i a b r h p q s e t =
    let here : same_found (slice_get xs i) (slice_get ys i) ≡ false = rw (← p, ← q) (sym s ∙ t) in
    let step : is_prefix (drop i xs) (drop i ys) ≡ (same_found (slice_get xs i) (slice_get ys i) && is_prefix (drop (suc i) xs) (drop (suc i) ys)) = front_step xs ys i h in
    let after : is_prefix (drop i xs) (drop i ys) ≡ false = rw here at step in
    sym after ∙ e

-- ---- what was handed over

pub handed_true : (lives : List Life) (handed : List (List Bool)) → are_handed lives handed ≡ true → AreHanded lives handed
handed_true [] [] h = refl
handed_true [] (b ∷ handed) h = absurd (cc)
handed_true (x ∷ lives) [] h = absurd (cc)
handed_true (x ∷ lives) (b ∷ handed) h =
    let t = and_true (is_handed x b) (are_handed lives handed) h in
    (λ s. front_true x.bits b (when_true (sends x) (is_prefix x.bits b) t.0 s), handed_true lives handed t.1)

pub handed_is : (lives : List Life) (handed : List (List Bool)) → AreHanded lives handed → are_handed lives handed ≡ true
handed_is [] [] h = refl
handed_is [] (b ∷ handed) h = absurd (cc)
handed_is (x ∷ lives) [] h = absurd h
handed_is (x ∷ lives) (b ∷ handed) (f, rest) =
    and_from (is_handed x b) (are_handed lives handed) (when_is (sends x) (is_prefix x.bits b) (λ s. front_is x.bits b (f s))) (handed_is lives handed rest)

-- as many lists as lives
handed_length : (lives : List Life) (handed : List (List Bool)) → are_handed lives handed ≡ true → length lives ≡ length handed
handed_length [] [] h = refl
handed_length [] (b ∷ handed) h = absurd (cc)
handed_length (x ∷ lives) [] h = absurd (cc)
handed_length (x ∷ lives) (b ∷ handed) h = let t = handed_length lives handed (and_true (is_handed x b) (are_handed lives handed) h).1 in omega arith

pub handed_apart : (lives : List Life) (handed : List (List Bool)) (m n : ℕ) → m ≡ length lives → n ≡ length handed → (m ≡ n → ⊥) → false ≡ are_handed lives handed
handed_apart lives handed m n p q apart = sym (false_from_ne_true (are_handed lives handed) (λ t. apart (p ∙ handed_length lives handed t ∙ sym q)))

-- ---- sources

no_bits : (xs : List Bool) → (length xs == 0) ≡ true → xs ≡ []
no_bits [] h = refl
no_bits (x ∷ xs) h = absurd (let e : length (x ∷ xs) ≡ 0 = eqb-true (length (x ∷ xs)) 0 h in omega arith)

fed_true : (log : List Crossing) (lives : List Life) (x : Life) → is_fed log lives x ≡ true → receives x ≡ true → (x.bits ≡ [] → ⊥) → Source log lives x
fed_true log lives x h r n =
    let source : list_any (is_source log (asked_at log x) x) lives ≡ true =
    elim (or_cases (not (receives x) || length x.bits == 0) (list_any (is_source log (asked_at log x) x) lives) h) [
      | inl a ↦ absurd (n (no_bits x.bits (when_true (receives x) (length x.bits == 0) a r)))
      | inr b ↦ b
    ] in
    let found = any_at (is_source log (asked_at log x) x) lives source in
    let t = and_true (is_match log (asked_at log x) x found.0) (is_prefix x.bits found.0.bits) found.2 in
    record { sender = found.0; there = found.1; matches = match_true log x found.0 t.0; front = front_true x.bits found.0.bits t.1 }

fed_by : (log : List Crossing) (lives : List Life) (x : Life) → Source log lives x → list_any (is_source log (asked_at log x) x) lives ≡ true
fed_by log lives x s =
    any_from (is_source log (asked_at log x) x) lives s.sender s.there
    (and_from (is_match log (asked_at log x) x s.sender) (is_prefix x.bits s.sender.bits) (match_is log x s.sender s.matches) (front_is x.bits s.sender.bits s.front))

fed_is : (log : List Crossing) (lives : List Life) (x : Life) → (receives x ≡ true → (x.bits ≡ [] → ⊥) → Source log lives x)
    → (r : Bool) → receives x ≡ r → (e : Bool) → (length x.bits == 0) ≡ e → is_fed log lives x ≡ true
fed_is log lives x f false p e q = rw p refl
fed_is log lives x f true p true q = rw (p, q) refl
fed_is log lives x f true p false q =
    let some : x.bits ≡ [] → ⊥ = λ k. (let z : (length x.bits == 0) ≡ true = eq-eqb (length x.bits) 0 (ap (λ (zs : List Bool). length zs) k) in absurd (cc)) in
    or_right (not (receives x) || length x.bits == 0) (list_any (is_source log (asked_at log x) x) lives) (fed_by log lives x (f p some))

-- ---- the streams

-- two own requests that are the partner's request of one life are one
one_name : (a : Option Name) (m n : Name) → a ≡ Some m → a ≡ Some n → m ≡ n
one_name a m n e f = let z : Some m ≡ Some n = sym e ∙ f in cc

fed_from : (log : List Crossing) (lives some : List Life) (handed : List (List Bool)) → (list_all (is_fed log lives) some && are_handed some handed) ≡ true → AreFed log lives some handed
fed_from log lives some handed h =
    let t = and_true (list_all (is_fed log lives) some) (are_handed some handed) h in
    record { source = λ receiver c r n. fed_true log lives receiver (all_at (is_fed log lives) some t.0 receiver c) r n; sent = handed_true some handed t.1 }

fed_holds : (log : List Crossing) (lives some : List Life) (handed : List (List Bool)) → AreFed log lives some handed → (list_all (is_fed log lives) some && are_handed some handed) ≡ true
fed_holds log lives some handed s =
    and_from (list_all (is_fed log lives) some) (are_handed some handed)
    (all_from (is_fed log lives) some (λ x c. fed_is log lives x (s.source x c) (receives x) refl (length x.bits == 0) refl))
    (handed_is some handed s.sent)

-- the test of some lives is true exactly where what the streams promise of them holds
pub fed_decides : (log : List Crossing) (lives some : List Life) (handed : List (List Bool))
    → ((list_all (is_fed log lives) some && are_handed some handed) ≡ true → AreFed log lives some handed) × (AreFed log lives some handed → (list_all (is_fed log lives) some && are_handed some handed) ≡ true)
fed_decides log lives some handed = (fed_from log lives some handed, fed_holds log lives some handed)

-- a receiving life has one sender where no two lives have one own request
pub safe_streams : (log : List Crossing) (lives : List Life) (handed : List (List Bool)) → SafePartners log lives → AreFed log lives lives handed → SafeStreams log lives handed
safe_streams log lives handed p fed = record {
  one = λ receiver x y c two m n. p.own_once x y two (one_name (partner_request log receiver) (own_request x) (own_request y) m.asked n.asked);
  source = fed.source;
  sent = fed.sent;
}

-- the test of streams is true exactly where they are safe
pub streams_decide : (log : List Crossing) (lives : List Life) (handed : List (List Bool)) → SafePartners log lives
    → (streams_hold log lives handed ≡ true → SafeStreams log lives handed) × (SafeStreams log lives handed → streams_hold log lives handed ≡ true)
streams_decide log lives handed p = (
  λ h. safe_streams log lives handed p (fed_from log lives lives handed h),
  λ s. fed_holds log lives lives handed (record { source = s.source; sent = s.sent }),
)

-- ---- the search

handed_take : (n : ℕ) (lives : List Life) (handed : List (List Bool)) → are_handed lives handed ≡ true → are_handed (take n lives) (take n handed) ≡ true
handed_take zero lives handed h = refl
handed_take (suc n) [] [] h = refl
handed_take (suc n) [] (b ∷ handed) h = absurd (cc)
handed_take (suc n) (x ∷ lives) [] h = absurd (cc)
handed_take (suc n) (x ∷ lives) (b ∷ handed) h =
    let t = and_true (is_handed x b) (are_handed lives handed) h in and_from (is_handed x b) (are_handed (take n lives) (take n handed)) t.0 (handed_take n lives handed t.1)

and_yes : (a : Bool) → (a && true) ≡ a
and_yes true = refl
and_yes false = refl

and_both : (a b c : Bool) → (a && (b && c)) ≡ (a && b && c)
and_both true b c = refl
and_both false b c = refl

handed_next : (lives : List Life) (handed : List (List Bool)) (i : ℕ) (x : Life) → i < length lives → x ≡ get_or lives i x
    → are_handed (take (suc i) lives) (take (suc i) handed) ≡ (are_handed (take i lives) (take i handed) && handed_at x (slice_get handed i))
handed_next [] handed i x lt e = absurd (omega arith)
handed_next (y ∷ lives) [] i x lt e = sym (and_right (are_handed (take i (y ∷ lives)) (take i [])) false refl)
handed_next (y ∷ lives) (b ∷ handed) zero x lt e = and_yes (is_handed y b) ∙ ap (λ (z : Life). is_handed z b) (sym e)
handed_next (y ∷ lives) (b ∷ handed) (suc i) x lt e =
    ap (λ (r : Bool). is_handed y b && r) (handed_next lives handed i x (omega arith) e)
    ∙ and_both (is_handed y b) (are_handed (take i lives) (take i handed)) (handed_at x (slice_get handed i))

fed_next : (log : List Crossing) (lives : List Life) (handed : List (List Bool)) (i : ℕ) (x : Life) → i < length lives → x ≡ get_or lives i x → some_fed log lives handed i ≡ true
    → some_fed log lives handed (i + 1) ≡ (is_fed log lives x && handed_at x (slice_get handed i))
fed_next log lives handed i x lt e h =
    let t = and_true (list_all (is_fed log lives) (take i lives)) (are_handed (take i lives) (take i handed)) h in
    let fed : list_all (is_fed log lives) (take (i + 1) lives) ≡ is_fed log lives x =
    list_all_more (is_fed log lives) lives i x lt ∙ ap (λ (b : Bool). b && is_fed log lives (get_or lives i x)) t.0 ∙ ap (λ (z : Life). is_fed log lives z) (sym e) in
    let more : are_handed (take (i + 1) lives) (take (i + 1) handed) ≡ handed_at x (slice_get handed i) =
    rw (add-one) (handed_next lives handed i x lt e ∙ ap (λ (b : Bool). b && handed_at x (slice_get handed i)) t.1) in
    ap₂ (λ (a b : Bool). a && b) fed more

pub fed_more : (log : List Crossing) (lives : List Life) (handed : List (List Bool)) (i : ℕ) (x : Life) (a b : Bool) → i < length lives → x ≡ get_or lives i x → a ≡ is_fed log lives x
    → b ≡ handed_at x (slice_get handed i) → a ≡ true → b ≡ true → some_fed log lives handed i ≡ true → some_fed log lives handed (i + 1) ≡ true
fed_more log lives handed i x a b lt e p q s t h = fed_next log lives handed i x lt e h ∙ and_from (is_fed log lives x) (handed_at x (slice_get handed i)) (sym p ∙ s) (sym q ∙ t)

pub fed_stops : (log : List Crossing) (lives : List Life) (handed : List (List Bool)) (i : ℕ) (x : Life) → i < length lives → x ≡ get_or lives i x
    → (is_fed log lives x && handed_at x (slice_get handed i)) ≡ false → some_fed log lives handed i ≡ true → Found (some_fed log lives handed) (length lives) (Some i)
fed_stops log lives handed i x lt e s h = (lt, h, fed_next log lives handed i x lt e h ∙ s)

-- in a book with a list for each life nothing is found exactly where the test is true
pub none_unfed : (log : List Crossing) (lives : List Life) (handed : List (List Bool)) (r : Option ℕ) → length lives ≡ length handed → Found (some_fed log lives handed) (length lives) r
    → is_none r ≡ streams_hold log lives handed
none_unfed log lives handed r e h =
    none_found (some_fed log lives handed) (length lives) r (streams_hold log lives handed) h
    (ap₂ (λ (xs : List Life) (hs : List (List Bool)). list_all (is_fed log lives) xs && are_handed xs hs) (take_all (length lives) lives (omega arith)) (take_all (length lives) handed (omega (arith, e))))
    (λ n t.
    (let u = and_true (list_all (is_fed log lives) lives) (are_handed lives handed) t in
    and_from (list_all (is_fed log lives) (take n lives)) (are_handed (take n lives) (take n handed)) (all_take (is_fed log lives) n lives u.0) (handed_take n lives handed u.1)))

pub none_apart : (log : List Crossing) (lives : List Life) (handed : List (List Bool)) → (length lives ≡ length handed → ⊥) → (length lives == length handed) ≡ streams_hold log lives handed
none_apart log lives handed apart =
    false_from_ne_true (length lives == length handed) (λ t. apart (eqb-true (length lives) (length handed) t)) ∙ sym (and_right (list_all (is_fed log lives) lives) (are_handed lives handed) (sym (handed_apart lives handed (length lives) (length handed) refl refl apart)))

-- ---- the life that one matches

match_none : (log : List Crossing) (x y : Life) → is_unmatched log x y ≡ true → Match log x y → ⊥
match_none log x y h m = not_true (is_match log (asked_at log x) x y) h (match_is log x y m)

pub matched_at : (log : List Crossing) (lives : List Life) (x : Life) (n : ℕ)
    → (list_all (is_unmatched log x) (take n lives) ≡ true → AreUnmatched log (take n lives) x) × (AreUnmatched log (take n lives) x → list_all (is_unmatched log x) (take n lives) ≡ true)
matched_at log lives x n = (
  λ h y c. match_none log x y (all_at (is_unmatched log x) (take n lives) h y c),
  λ u. all_from (is_unmatched log x) (take n lives) (λ y c. not_is (is_match log (asked_at log x) x y) (λ e. u y c (match_true log x y e))),
)
