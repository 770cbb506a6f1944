-- A calm of a subnet continues.
use Rattle.subnet_trace.proofs.Common.{Host, CarrierFault, Inbound, NetEvent, Direction, Frame, State, Shown, GoesOn, Happens, IsOneCall, outcome_of, RawEvent, Kept, imp_is_up, GoesOnWith, Stage, Element}
use Rattle.std.proofs.Common.{◌≡◌, ℕ, suc, ◌+◌, ◌-◌, ◌<◌, ◌&&◌, nat_lt, not, is_none, is_some, Bool, List, [], if◌then◌else◌, length, Option, Some, None, Result, Ok, Err, slice_get, slice_set, refl, sym, ap, ◌∙◌, subst, arith, true, false}
use Rattle.std.proofs.lemmas.Bool.{ltb-false}
use Rattle.std.proofs.lemmas.List.{get_or_past, nil_from_length, set-get_or}
use Rattle.subnet.specs.Working.{SubnetStep, SubnetTake, subnet_calls}
use Rattle.subnet.specs.Events.{accepted, at_up, deliver, delivered, drop_frame, frame_refusal, gives, imp_refusal, is_imp, step_refusal, stepped, take_in, take_refusal, taken_by_host, first_of}
use Rattle.subnet.specs.Net.{Net, Wire, frames_on, imp_at, no_wire, wire_at, dropping, without_at}
use Rattle.trace.specs.Elements.{Course, no_course, rounds_from, then_course, rest_of_calm}
use Rattle.trace.proofs.lemmas.{or_first, idle_rounds}
use Rattle.subnet_trace.specs.Elements.{calm_left, is_working, round_left, round_of}
use Rattle.subnet_trace.specs.Steps.{IsNext, MayCall, MayCome, after}
use Rattle.interface.specs.declared.CarrierFault.TheVariants as fault
use Rattle.interface.specs.declared.NetEvent.TheVariants as net
use Rattle.interface.specs.declared.event.Direction.TheVariants as way
use Rattle.script.specs.declared.event.RawEvent.TheVariants as event
use Rattle.subnet_trace.specs.declared.place.Place.{Place}
use Rattle.subnet_trace.specs.declared.place.Stage.TheVariants as stage
use Rattle.subnet_trace.proofs.Calms.{refusal_is, refused}
use Rattle.subnet_trace.proofs.Rest.{not_some}

-- ---- what may come in a calm is not refused, or changes nothing

imp_accepts : (n : Net) (i : ℕ) → is_working n i ≡ true → imp_refusal n i ≡ None
imp_accepts n i works = by (is_imp n i) (imp_at n.imps i) works where
  by : (b : Bool) (o : Option State) → (b && imp_is_up o) ≡ true → first_of (not b) fault.NoSuch (at_up o accepted) ≡ None
  by true (Some s) h = refl
  by true None h = absurd (cc)
  by false o h = absurd (cc)

-- of a frame that is not there none is live
no_frame : (n : Net) (l : ℕ) (d : Direction) (f : CarrierFault) → frame_refusal n l d 0 ≡ Some f → frames_on d (wire_at n.lines l) ≡ []
no_frame n l d f refused = by (nat_lt l (length n.lines)) refl (nat_lt 0 (length (frames_on d (wire_at n.lines l)))) refl refused where
  empty : (d : Direction) → frames_on d no_wire ≡ []
  empty way.Forward = refl
  empty way.Back = refl

  by : (b : Bool) → nat_lt l (length n.lines) ≡ b → (c : Bool) → nat_lt 0 (length (frames_on d (wire_at n.lines l))) ≡ c → (if b && c then None else Some fault.NoSuch) ≡ Some f → frames_on d (wire_at n.lines l) ≡ []
  by true there true live h = absurd (not_some h)
  by true there false none h = let zero : length (frames_on d (wire_at n.lines l)) ≡ 0 = omega (arith, ltb-false 0 (length (frames_on d (wire_at n.lines l))) none) in nil_from_length (frames_on d (wire_at n.lines l)) zero
  by false past c live h = ap (frames_on d) (get_or_past n.lines l no_wire (ltb-false l (length n.lines) past)) ∙ empty d

none_delivered : (n : Net) (l : ℕ) (d : Direction) → frames_on d (wire_at n.lines l) ≡ [] → deliver n l d 0 ≡ n
none_delivered n l d none = ap (λ (fs : List Frame). delivered n l d (slice_get fs 0)) none

none_dropped : (n : Net) (l : ℕ) (d : Direction) → frames_on d (wire_at n.lines l) ≡ [] → drop_frame n l d 0 ≡ n
none_dropped n l d none = ap (λ (lines : List Wire). record n { lines = lines }) (ap (λ (w : Wire). slice_set n.lines l w) (same d (wire_at n.lines l) none) ∙ set-get_or n.lines l no_wire) where
  stays : (fs : List Frame) → fs ≡ [] → without_at 0 fs ≡ fs
  stays fs e = ap (without_at 0) e ∙ sym e

  same : (d : Direction) (w : Wire) → frames_on d w ≡ [] → dropping d 0 w ≡ w
  same way.Forward w e = ap (λ (fs : List Frame). record w { forward = fs }) (stays _ e)
  same way.Back w e = ap (λ (fs : List Frame). record w { back = fs }) (stays w.back e)

refused_call : (n : Net) (e : NetEvent) (f : CarrierFault) → MayCall n e → step_refusal n e ≡ Some f → stepped n e ≡ n
refused_call n (net.Route i) f may refused = absurd (not_some (sym (imp_accepts n i may) ∙ refused))
refused_call n (net.Resend i) f may refused = absurd (not_some (sym (imp_accepts n i may) ∙ refused))
refused_call n (net.Deliver l d k) f may refused =
    ap (λ (k : ℕ). deliver n l d k) may ∙ none_delivered n l d (no_frame n l d f (ap (λ (k : ℕ). frame_refusal n l d k) (sym may) ∙ refused))
refused_call n (net.Drop l d k) f may refused =
    ap (λ (k : ℕ). drop_frame n l d k) may ∙ none_dropped n l d (no_frame n l d f (ap (λ (k : ℕ). frame_refusal n l d k) (sym may) ∙ refused))
refused_call n e f may refused = absurd may

given_takes : (n : Net) (h : Host) → gives n h ≡ true → take_refusal n h ≡ None
given_takes n h given = by (take_refusal n h) given where
  by : (o : Option CarrierFault) → (is_none o && is_some (taken_by_host n h)) ≡ true → o ≡ None
  by None k = refl
  by (Some f) k = absurd (cc)

called : (old new : Kept) (e : NetEvent) (r : Result (Unit {0}) CarrierFault) → MayCall old.net e → GoesOn r → SubnetStep old e r new → new.net ≡ stepped old.net e
called old new e (Ok done) may goes k = ap (λ (k : Kept). k.net) k.1
called old new e (Err f) may goes k =
    let w = refused _ _ old new f k goes in
    ap (λ (k : Kept). k.net) w.1 ∙ sym (refused_call _ e f may (refusal_is _ _ f w.0 (or_first _ _ goes)))

took : (old new : Kept) (h : Host) (r : Result (Option Inbound) CarrierFault) → gives old.net h ≡ true → GoesOn (outcome_of r) → SubnetTake old h r new → new.net ≡ take_in old.net h
took old new h (Ok o) may goes k = ap (λ (k : Kept). k.net) k.1.1
took old new h (Err f) may goes k =
    let w = refused _ _ old new f k goes in
    absurd (not_some (sym (given_takes old.net h may) ∙ refusal_is _ _ f w.0 (or_first _ _ goes)))

-- so where it happens and the subnet continues, the subnet is as is said
came : (old new : Kept) (e : RawEvent) (shown : List Shown) → MayCome old.net e → Happens subnet_calls old e new shown → new.net ≡ after old.net e
came old new (event.Net e) shown may k = called old new e _ may k.goes_on k.gives
came old new (event.Take h) shown may k = took old new h _ may (subst GoesOn k.gives.2 k.goes_on) k.gives.1
came old new (event.Out m) shown may k = absurd may
came old new (event.Calm rounds) shown may k = absurd may

once : (n : Net) (e : RawEvent) → MayCome n e → IsOneCall e
once n (event.Net e) may = tt
once n (event.Take h) may = tt
once n (event.Out m) may = absurd may
once n (event.Calm rounds) may = absurd may

-- ---- a calm continues

abbrev left : Kept → Place → List Element
left k p = calm_left k.net p

-- this event in the round of a place, and the place after it
abbrev pub step_from : Place → RawEvent × Stage → Element × Place
step_from p next = (record { round = p.round; event = next.0 }, record p { stage = next.1 })

pub goes_on_with : (k : Kept) (p : Place) (next : RawEvent × Stage) → IsNext k.net (λ round. round_left round p.stage k.net) (Some next) → GoesOnWith subnet_calls left k p (Some (step_from p next))
goes_on_with k p next h = (
  later,
  once k.net next.0 h.0,
  ap (λ (c : Course Net). rest_of_calm round_of p.round p.rounds c) (h.1 p.round),
  λ new shown happens. ap (λ (n : Net). calm_left n (record p { stage = next.1 })) (came k new next.0 shown h.0 happens),
)
  where
    later : List Element
    later = calm_left (after k.net next.0) (record p { stage = next.1 })

-- the beginning of the round after a place
abbrev pub next_round : Place → Place
next_round p = record { round = p.round + 1; rounds = p.rounds; stage = stage.Refreshing 0 false }

-- where a round is over, what is left is the next one and those after it
round_over : (n : Net) (p : Place) → p.round < p.rounds → round_left p.round p.stage n ≡ no_course n → calm_left n p ≡ calm_left n (next_round p)
round_over n p lt over =
    let one : p.rounds - p.round ≡ suc (p.rounds - (p.round + 1)) = omega (arith, lt) in
    let up : suc p.round ≡ p.round + 1 = omega arith in
    ap (λ (c : Course Net). rest_of_calm round_of p.round p.rounds c) over
    ∙ ap (λ (k : ℕ). (rounds_from round_of (suc p.round) k n).elements) one
    ∙ ap (λ (r : ℕ). (then_course (round_of r n) (rounds_from round_of (suc r) (p.rounds - (p.round + 1)))).elements) up

-- where nothing comes in a whole round, the calm is over
idle_calm : (n : Net) (p : Place) → ((round : ℕ) → round_of round n ≡ no_course n) → calm_left n (next_round p) ≡ []
idle_calm n p none =
    ap (λ (c : Course Net). rest_of_calm round_of (p.round + 1) p.rounds c) (none (p.round + 1))
    ∙ ap (λ (c : Course Net). c.elements) (idle_rounds round_of _ _ n none)

pub calm_idle : (k : Kept) (p : Place) → p.round < p.rounds → IsNext k.net (λ round. round_left round p.stage k.net) None → IsNext k.net (λ round. round_of round k.net) None → left k p ≡ []
calm_idle k p lt over none = round_over k.net p lt (over p.round) ∙ idle_calm k.net p none

pub in_next_round : (k : Kept) (p : Place) (next : RawEvent × Stage) → p.round < p.rounds → IsNext k.net (λ round. round_left round p.stage k.net) None → IsNext k.net (λ round. round_of round k.net) (Some next)
    → GoesOnWith subnet_calls left k p (Some (step_from (next_round p) next))
in_next_round k p next lt over h =
    let goes : GoesOnWith subnet_calls left k (next_round p) (Some (step_from (next_round p) next)) = goes_on_with k (next_round p) next h in
    (goes.0, goes.1, round_over k.net p lt (over p.round) ∙ goes.2, goes.3)
