-- In the middle of a calm of plain mailboxes.
use Rattle.trace.proofs.Common.{◌≡◌, ◌&&◌, ◌||◌, not, nat_lt, is_some, ◌-◌, ◌<◌, ◌+◌, ℕ, suc, true, false, List, [], ◌∷◌, drop, length, Option, Some, None, Result, Ok, Err, refl, sym, ap, ◌∙◌, subst, arith, lt-ltb, Host, is_host, Shown, GoesOn, Happens, outcome_of, Element, GoesOnWith}
use Rattle.leader1822.specs.Boxes.{Boxes, WaitingAnswer, answer_first, first_of_list, for_host, host_refusal, inbound_taken, is_running, next_for, take_grows, plain_calls}
use Rattle.interface.specs.declared.CarrierFault.{CarrierFault}
use Rattle.interface.specs.declared.HostMessage.{HostMessage}
use Rattle.interface.specs.declared.Inbound.{Inbound}
use Rattle.script.specs.declared.event.RawEvent.TheVariants as event
use Rattle.trace.specs.declared.turn.Turn.{Turn}
use Rattle.trace.specs.Elements.{Course, calm_left, from_boxes, is_given, no_course, rest_of_calm, round_left, round_of, rounds_from, takings_from, then_course}
use Rattle.trace.specs.Steps.{IsNext}
use Rattle.trace.proofs.Calms.{refused_is}
use Rattle.trace.proofs.Courses.{idle_rounds, idle_takings, takings_all}
use Rattle.trace.proofs.Each.{Went, went}
use Rattle.trace.proofs.Going.{or_first}
use Rattle.trace.proofs.Rest.{taken_frame}

-- ---- a calm continues

-- a taking that continues gives what waits
taken : (b new : Boxes) (h : Host) (shown : List Shown) → is_given b h ≡ true
    → Happens plain_calls b (event.Take h) new shown → new ≡ inbound_taken b h (next_for b h)
taken b new h shown given k = by k.gives.0 k.gives.1 (subst GoesOn k.gives.2 k.goes_on)
  where
    by : (a : Result (Option Inbound) CarrierFault) → plain_calls.takes b h a new → GoesOn (outcome_of a)
        → new ≡ inbound_taken b h (next_for b h)
    by (Ok o) t goes =
        let w : Went (host_refusal b h) (λ o. (o ≡ next_for b h) × (new ≡ inbound_taken b h o)) b (Ok o) new =
        went _ (take_grows b h) (λ o. (o ≡ next_for b h) × (new ≡ inbound_taken b h o)) b
        (Ok o) new t tt in
        w.1.1 ∙ ap (λ o. inbound_taken b h o) w.1.0
    by (Err f) t goes =
        let w : Went (host_refusal b h) (λ o. (o ≡ next_for b h) × (new ≡ inbound_taken b h o)) b (Err f) new =
        went _ _ (λ o. (o ≡ next_for b h) × (new ≡ inbound_taken b h o)) b
        (Err f) new t goes in
        let down : is_running b.hosts b.down h ≡ false =
        refused_is b h f w.0 (or_first _ _ goes) in
        let bad : false ≡ true = rw down at given in
        absurd (cc)

-- with a taking and what is left after it
pub goes_on_with : (b : Boxes) (t : Turn) (next : Element × Turn) → IsNext b t (Some next)
    → GoesOnWith plain_calls calm_left b t (Some next)
goes_on_with b t next (h, is, given, same_round, same_rounds, left) = (
  later,
  subst (λ (x : Element). Once x) (sym is) tt,
  ap (λ (c : Course Boxes). rest_of_calm round_of t.round t.rounds c) left ∙ ap (λ (x : Element). x ∷ later) (sym is),
  λ new shown k. after new (taken b new h shown given
      (subst (λ (x : Element). Happens plain_calls b x.event new shown) is k)),
)
  where
    Once : Element → Type 0
    Once x = Rattle.replay.specs.Replay.IsOneCall x.event

    gone : Boxes
    gone = inbound_taken b h (next_for b h)

    later : List Element
    later = rest_of_calm round_of t.round t.rounds
        (takings_from from_boxes t.round (drop next.1.host b.hosts) next.1.times gone)

    after : (new : Boxes) → new ≡ gone → calm_left new next.1 ≡ later
    after new e =
        ap (λ (c : Boxes). calm_left c next.1) e
        ∙ ap (λ (hs : List Host). rest_of_calm round_of next.1.round next.1.rounds
        (takings_from from_boxes next.1.round (drop next.1.host hs) next.1.times gone))
        (taken_frame b h (next_for b h)).hosts
        ∙ ap (λ (n : ℕ). rest_of_calm round_of n next.1.rounds
        (takings_from from_boxes n (drop next.1.host b.hosts) next.1.times gone)) same_round
        ∙ ap (λ (n : ℕ). rest_of_calm round_of t.round n
        (takings_from from_boxes t.round (drop next.1.host b.hosts) next.1.times gone)) same_rounds

-- where a round is over, what is left is the next one and those after it
next_round : (b : Boxes) (t : Turn) → t.round < t.rounds → round_left b t ≡ no_course b
    → calm_left b t ≡ calm_left b (record { round = t.round + 1; rounds = t.rounds; host = 0; times = 16 })
next_round b t lt over =
    let one : t.rounds - t.round ≡ suc (t.rounds - (t.round + 1)) = omega (arith, lt) in
    let up : suc t.round ≡ t.round + 1 = omega arith in
    ap (λ (c : Course Boxes). rest_of_calm round_of t.round t.rounds c) over
    ∙ ap (λ (n : ℕ). (rounds_from round_of (suc t.round) n b).elements) one
    ∙ ap (λ (c : Course Boxes). (then_course c
    (rounds_from round_of (suc (suc t.round)) (t.rounds - (t.round + 1)))).elements)
    (takings_all from_boxes _ _ b)
    ∙ ap (λ (n : ℕ). (then_course (takings_from from_boxes n b.hosts 16 b)
    (rounds_from round_of (suc n) (t.rounds - (t.round + 1)))).elements) up

-- where nothing is left in a whole round, the calm is over
idle_calm : (b : Boxes) (round rounds : ℕ)
    → round_left b (record { round = round; rounds = rounds; host = 0; times = 16 }) ≡ no_course b
    → calm_left b (record { round = round; rounds = rounds; host = 0; times = 16 }) ≡ []
idle_calm b round rounds none =
    ap (λ (c : Course Boxes). rest_of_calm round_of round rounds c) none
    ∙ ap (λ (c : Course Boxes). c.elements)
    (idle_rounds round_of _ _ b
    (λ other. idle_takings from_boxes round other b.hosts b (takings_all from_boxes round _ b ∙ none)))

-- where a round is over, the calm continues as the next one does
pub in_next_round : (b : Boxes) (t : Turn) (next : Option (Element × Turn)) → t.round < t.rounds
    → round_left b t ≡ no_course b → IsNext b
    (record { round = t.round + 1; rounds = t.rounds; host = 0; times = 16 }) next
    → GoesOnWith plain_calls calm_left b t next
in_next_round b t None lt over h = next_round b t lt over ∙ idle_calm b _ _ h
in_next_round b t (Some next) lt over h =
    let goes : GoesOnWith plain_calls calm_left b
    (record { round = t.round + 1; rounds = t.rounds; host = 0; times = 16 }) (Some next) =
    goes_on_with b (record { round = t.round + 1; rounds = t.rounds; host = 0; times = 16 }) next h in
    (goes.0, goes.1, next_round b t lt over ∙ goes.2, goes.3)

-- ---- the next taking

waits : (answers : List WaitingAnswer) (messages : List HostMessage)
    → is_some (answer_first (first_of_list answers) (first_of_list messages)) ≡
    (nat_lt 0 (length answers) || nat_lt 0 (length messages))
waits [] [] = refl
waits [] (m ∷ messages) = sym (lt-ltb 0 (suc (length messages)) (omega arith))
waits (a ∷ answers) messages = ap (λ t. t || nat_lt 0 (length messages))
    (sym (lt-ltb 0 (suc (length answers)) (omega arith)))

pub given_is : (b : Boxes) (h : Host) → is_host b.hosts h ≡ true
    → is_given b h ≡ (not (is_host b.down h) &&
    (nat_lt 0 (length (for_host b.answers h)) || nat_lt 0 (length (for_host b.messages h))))
given_is b h there = ap (λ t. (t && not (is_host b.down h)) && is_some (next_for b h)) there
    ∙ ap (λ t. not (is_host b.down h) && t) (waits _ _)
