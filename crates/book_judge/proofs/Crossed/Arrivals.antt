-- How many messages had gone out before each one came in.
use Rattle.book_judge.proofs.Common.{◌≡◌, ℕ, suc, ◌+◌, ◌-◌, ◌<◌, ◌≤◌, ◌==◌, ◌&&◌, if◌then◌else◌, Bool, false, true, List, [], ◌∷◌, ◌++◌, length, take, get_or, Option, Some, None, refl, ap, sym, subst, ◌∙◌, arith, inl, inr, and_true, eqb-true, ltb-true, cases_lt, slice_get_within, Flow, Crossing, HostMessage, Arrival}
use Rattle.book_judge.specs.Inside.Joined.{texts_by, IsNth, PlaceOf, message_of}
use Rattle.std.specs.List.{slice_get}
use Rattle.std.specs.Prelude.{nat_lt}
use Rattle.interface.specs.declared.crossing.Crossing.TheVariants as crossing
use Rattle.book_judge.specs.Inside.Arrivals.{AreArrivals, ArrivalOf, IsArrival, IsArrivalAt, IsSteady, found_in, risen, sent_by}
use Rattle.book_judge.proofs.Identities.Asked.{grown_length}
use Rattle.book_judge.proofs.Elements.{read_at}
use Rattle.book_judge.proofs.Identities.Named.{get_cases}
use Rattle.book_judge.proofs.Crossed.Numbers.{nth_message, nth_once}
use Rattle.book_judge.proofs.Crossed.TextsBy.{texts_within}

-- from a message on there is none before it
pub steady_none : (f : Flow) (log : List Crossing) (n sent : ℕ) → IsSteady f log n sent n
steady_none f log n sent i place from less nth = absurd (omega (arith, from, less))

-- one more had gone out than before the last that came in
pub steady_last : (f : Flow) (log : List Crossing) (n sent place : ℕ) (last : Arrival)
    → IsNth true f log (n - 1) place → IsArrivalAt log place last → last.sent < sent → sent - last.sent ≡ 1
    → IsSteady f log n sent last.since
steady_last f log n sent place last nth at low one i p from less is = elim (cases_lt i (n - 1)) [
  | inl before ↦
      (let steady : sent_by f log p + (n - 1 - i) ≡ last.sent = (at f (n - 1) nth).1 i p from before is in
      omega (arith, steady, before, low, one))
  | inr ge ↦
      (let same : i ≡ n - 1 = omega (arith, less, ge) in
      let here : p ≡ place = nth_once f log (n - 1) p place (subst (λ (k : ℕ). IsNth true f log k p) same is) nth in
      let gone : sent_by f log p ≡ last.sent = ap (λ (q : ℕ). sent_by f log q) here ∙ sym (at f (n - 1) nth).0 in
      omega (arith, gone, same, low, one, less))
]

-- up to the next, whatever is known of the last
pub steady_more : (f : Flow) (log : List Crossing) (arrivals : List Arrival) (n sent k : ℕ) (o : Option ℕ) (last : Arrival)
    → Some last ≡ found_in arrivals o → PlaceOf true f log (n - 1) o → AreArrivals k arrivals log
    → IsSteady f log n sent (risen last n sent)
steady_more f log arrivals n sent k None last found at are = absurd (cc)
steady_more f log arrivals n sent k (Some place) last found at are =
    by (nat_lt last.sent sent && (sent - last.sent) == 1) refl where
      by : (v : Bool) → (nat_lt last.sent sent && (sent - last.sent) == 1) ≡ v
          → IsSteady f log n sent (if v then last.since else n)
      by true e =
          let t = and_true (nat_lt last.sent sent) ((sent - last.sent) == 1) e in
          steady_last f log n sent place last at (are.each place last (sym found)) (ltb-true last.sent sent t.0)
          (eqb-true (sent - last.sent) 1 t.1)
      by false e = steady_none f log n sent

-- nothing came in
pub arrival_none : (log : List Crossing) (place : ℕ) (c : Crossing) (e : Arrival) → slice_get log place ≡ Some c
    → None ≡ message_of true c → IsArrivalAt log place e
arrival_none log place c e at none f n nth =
    let t = nth_message f log n place nth in
    let same : c ≡ crossing.In t.0 = (let both : Some c ≡ Some (crossing.In t.0) = sym at ∙ t.1 in cc) in
    let some : None ≡ Some t.0 = none ∙ ap (λ (d : Crossing). message_of true d) same in
    absurd (cc)

pub arrival_here : (log : List Crossing) (place : ℕ) (c : Crossing) (m : HostMessage) (number sent since : ℕ)
    → slice_get log place ≡ Some c → Some m ≡ message_of true c
    → number ≡ length (texts_by true m.flow (take place log)) → sent ≡ sent_by m.flow log place
    → IsSteady m.flow log number sent since → IsArrivalAt log place (record { sent = sent; since = since })
arrival_here log place c m number sent since at got counted gone steady f n nth =
    let t = nth_message f log n place nth in
    let same : c ≡ crossing.In t.0 = (let both : Some c ≡ Some (crossing.In t.0) = sym at ∙ t.1 in cc) in
    let one : m ≡ t.0 = (let both : Some m ≡ Some t.0 = got ∙ ap (λ (d : Crossing). message_of true d) same in cc) in
    let on : m.flow ≡ f = ap (λ (k : HostMessage). k.flow) one ∙ t.2 in
    let here : length (texts_by true f (take place log)) ≡ n = nth.1 in
    let num : number ≡ n = counted ∙ ap (λ (g : Flow). length (texts_by true g (take place log))) on ∙ here in (
      gone ∙ ap (λ (g : Flow). sent_by g log place) on,
      subst (λ (k : ℕ). IsSteady f log k sent since) num (subst (λ (g : Flow). IsSteady g log number sent since) on steady),
    )

-- one place more
pub arrivals_none : (arrivals : List Arrival) (log : List Crossing) → arrivals ≡ [] → AreArrivals 0 arrivals log
arrivals_none arrivals log e = subst (λ (es : List Arrival). AreArrivals 0 es log) (sym e) (record {
  counts = refl;
  each = λ place a at. absurd (cc);
})

pub arrivals_more : (n : ℕ) (arrivals more : List Arrival) (log : List Crossing) (e : Arrival)
    → more ≡ arrivals ++ e ∷ [] → IsArrivalAt log n e → AreArrivals n arrivals log → AreArrivals (n + 1) more log
arrivals_more n arrivals more log e is at a = subst (λ (es : List Arrival). AreArrivals (n + 1) es log) (sym is) (record {
  counts = grown_length arrivals e ∙ ap (λ (k : ℕ). k + 1) a.counts;
  each = λ place d there. elim (get_cases arrivals e d place there) [
    | inl s ↦ subst (λ (k : ℕ). IsArrivalAt log k d) (sym (s.1 ∙ a.counts)) (subst (λ (b : Arrival). IsArrivalAt log n b) (sym s.0) at)
    | inr r ↦ a.each place d r
  ];
})

pub all_arrivals : (n : ℕ) (arrivals : List Arrival) (log : List Crossing) → length log ≤ n → n ≤ length log
    → AreArrivals n arrivals log → AreArrivals (length log) arrivals log
all_arrivals n arrivals log h k a =
    let e : n ≡ length log = omega (arith, h, k) in subst (λ (m : ℕ). AreArrivals m arrivals log) e a

-- ---- the message with a number

pub unplaced : (f : Flow) (log : List Crossing) (n : ℕ) → length (texts_by true f log) ≤ n → ArrivalOf f log n None
unplaced f log n past place nth =
    let next : length (texts_by true f (take (suc place) log)) ≡ suc n = nth.2 in
    let all : length (texts_by true f (take (suc place) log)) ≤ length (texts_by true f log) =
    texts_within true f (suc place) log in
    omega (arith, next, all, past)

pub arrival_told : (f : Flow) (log : List Crossing) (arrivals : List Arrival) (n : ℕ) (o : Option ℕ) (r : Option Arrival)
    → r ≡ found_in arrivals o → PlaceOf true f log n o → AreArrivals (length log) arrivals log → ArrivalOf f log n r
arrival_told f log arrivals n None r e at are =
    subst (λ (x : Option Arrival). ArrivalOf f log n x) (sym e) (unplaced f log n at)
arrival_told f log arrivals n (Some place) r e at are =
    let long : length arrivals ≡ length log = are.counts in
    let within : place < length log = at.0 in
    let t = read_at arrivals place (omega (arith, long, within)) in
    subst (λ (x : Option Arrival). ArrivalOf f log n x) (sym (e ∙ t.1)) (place, at, are.each place t.0 t.1 f n at)
