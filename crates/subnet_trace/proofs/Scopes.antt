-- What is outside of an event's scope stays, and the parts that are in it are put in their places.
use Rattle.subnet_trace.proofs.Common.{false≢true, nat_tests, get_or-set_other, length-map, Host, CarrierFault, Inbound, NetEvent, Crossing, Direction, Frame, ImpTurn, State, RawEvent, Kept, refusal_of, running, subnet_calls, named, OnlyIn, has_imp, has_line, IsOnlyIn, IsOneNetwork, ends_of, Scope, put_at, put_text, member, object, subnet_inside, AllParts}
use Rattle.subnet.specs.Calls.{step_grows, take_grows}
use Rattle.std.proofs.Common.{◌≡◌, ◌≢◌, inl, inr, ℕ, zero, suc, ◌<◌, ◌≤◌, ◌+◌, ◌==◌, ◌||◌, Bool, true, false, List, [], ◌∷◌, ◌++◌, codes, if◌then◌else◌, length, map, nat_lt, Option, Some, None, Result, Ok, Err, slice_get, refl, sym, ap, ap₂, subst, ◌∙◌, arith, is_ok}
use Rattle.replay.specs.Output.{Shown, shown_crossings, shown_refusal}
use Rattle.replay.specs.Replay.{GoesOn, Happens, IsOneCall, outcome_of, EventGives}
use Rattle.subnet.specs.Events.{at_imp, deliver, delivered, drop_frame, frame_refusal, imp_started, imp_stopped, is_imp, offer_out, offer_refusal, step_refusal, stepped, take_in, take_refusal, taken_by_host}
use Rattle.subnet.specs.Net.{Net, Wire, far_end, frames_on, imp_at, no_wire, wire_at, dropping}
use Rattle.subnet_trace.specs.Parts.{Imp, Line, all_parts, part_name, parts_members, scope_of, parts_of_net, scope_of_delivery}
use Rattle.subnet_trace.specs.Texts.{imp_text, line_text}
use Rattle.trace.specs.Traces.{HasHappened, change_text}
use Rattle.trace.proofs.lemmas.{PutSoFar, no_part_changed, happens, is_within, none_put, put_more}
use Rattle.interface.specs.declared.NetEvent.TheVariants as net
use Rattle.interface.specs.declared.event.Direction.TheVariants as way
use Rattle.script.specs.declared.event.RawEvent.TheVariants as event
use Rattle.subnet_trace.specs.declared.parts.Scope.TheVariants as scope
use Rattle.subnet_trace.proofs.AllMembers.{imps_left, imps_next, imps_over, lines_left, lines_next, none_listed}
use Rattle.subnet_trace.proofs.Rest.{Left, all_other, apart_from, frame_there, keeps, left_of, went}

-- ---- what is outside stays

pub record Stays (s : Scope) (old new : Net) : Type 0 where
  pub imps : (i : ℕ) → has_imp s i ≡ false → imp_at new.imps i ≡ imp_at old.imps i
  pub wires : (l : ℕ) → has_line s l (wire_at old.lines l) ≡ false → wire_at new.lines l ≡ wire_at old.lines l

all_stays : (s : Scope) (old new : Net) → new ≡ old → Stays s old new
all_stays s old new e = record { imps = λ i none. ap (λ (n : Net). imp_at n.imps i) e; wires = λ l none. ap (λ (n : Net). wire_at n.lines l) e }

other_than : (i j : ℕ) → (i == j) ≡ false → j ≢ i
other_than i j e same = grind (arith, nat_tests)

-- whatever crossed, which is no part
at_stays : (n : Net) (i : ℕ) (call : State → ImpTurn) (log : List Crossing) → Stays (scope.ImpAndLines i) n (record (at_imp (imp_at n.imps i) i call n) { log = log })
at_stays n i call log = by (imp_at n.imps i) where
  by : (o : Option State) → Stays (scope.ImpAndLines i) n (record (at_imp o i call n) { log = log })
  by None = record { imps = λ j none. refl; wires = λ l none. refl }
  by (Some s) = record {
    imps = λ j none. get_or-set_other n.imps i j (Some (call s).state) None (other_than i j none);
    wires = λ l none. all_other (call s).frames n.lines i l none;
  }

deliver_stays : (n : Net) (l : ℕ) (d : Direction) (k : ℕ) → frame_refusal n l d k ≡ None → Stays (scope_of_delivery n l d) n (deliver n l d k)
deliver_stays n l d k ok = by (slice_get (frames_on d (wire_at n.lines l)) k) where
  is : scope_of_delivery n l d ≡ scope.ImpAndLines (far_end d (wire_at n.lines l))
  is = ap (λ (b : Bool). if b then scope.ImpAndLines (far_end d (wire_at n.lines l)) else scope.Nothing) (frame_there n l d k ok)

  by : (o : Option Frame) → Stays (scope_of_delivery n l d) n (delivered n l d o)
  by None = all_stays (scope_of_delivery n l d) n n refl
  by (Some f) = subst (λ (s : Scope). Stays s n (delivered n l d (Some f))) (sym is) (at_stays n _ _ _)

drop_stays : (n : Net) (l : ℕ) (d : Direction) (k : ℕ) → Stays (scope.Line l) n (drop_frame n l d k)
drop_stays n l d k = record { imps = λ i none. refl; wires = λ m none. get_or-set_other n.lines l m (dropping d k (wire_at n.lines l)) no_wire (apart_from m l none) }

stop_stays : (n : Net) (i : ℕ) → Stays (scope.Imp i) n (imp_stopped n i)
stop_stays n i = record { imps = λ j none. get_or-set_other n.imps i j None None (other_than i j none); wires = λ l none. refl }

start_stays : (n : Net) (i : ℕ) → Stays (scope.Imp i) n (imp_started n i)
start_stays n i = record { imps = λ j none. get_or-set_other n.imps i j _ None (other_than i j none); wires = λ l none. refl }

step_stays : (n : Net) (e : NetEvent) → step_refusal n e ≡ None → Stays (scope_of n (event.Net e)) n (stepped n e)
step_stays n (net.Deliver l d k) ok = deliver_stays n l d k ok
step_stays n (net.Drop l d k) ok = drop_stays n l d k
step_stays n (net.Garble l d k) ok = drop_stays n l d k
step_stays n (net.ImpDown i) ok = stop_stays n i
step_stays n (net.ImpUp i) ok = start_stays n i
-- every other event is a call of one IMP
step_stays n e ok = at_stays n _ _ _

into : (s : Scope) (n left new : Net) → Stays s n left → new ≡ left → Stays s n new
into s n left new h e = subst (Stays s n) (sym e) h

left_stays : (old new : Kept) (e : RawEvent) → Left old new e → Stays (scope_of old.net e) old.net new.net
left_stays old new (event.Out m) (inl same) = all_stays _ _ _ (ap (λ (k : Kept). k.net) same)
left_stays old new (event.Out m) (inr left) =
    into _ _ _ _ (at_stays _ _ _ _) (ap (λ (k : Kept). k.net) left)
left_stays old new (event.Take h) (inl same) = all_stays _ _ _ (ap (λ (k : Kept). k.net) same)
left_stays old new (event.Take h) (inr left) =
    into _ _ _ _ (at_stays _ h.imp _ _) (ap (λ (k : Kept). k.net) left)
left_stays old new (event.Net e) (inl same) = all_stays _ _ _ (ap (λ (k : Kept). k.net) same)
left_stays old new (event.Net e) (inr left) = into _ _ _ _ (step_stays _ e left.0) (ap (λ (k : Kept). k.net) left.1)
left_stays old new (event.Calm rounds) left = absurd left

-- ---- by the network after it

ends_same : (ws vs : List Wire) (l : ℕ) → map ends_of ws ≡ map ends_of vs → ends_of (wire_at ws l) ≡ ends_of (wire_at vs l)
ends_same [] [] l e = refl
ends_same [] (v ∷ vs) l e = let long : 0 ≡ suc (length (map ends_of vs)) = ap length e in absurd (omega (arith, long))
ends_same (w ∷ ws) [] l e = let long : suc (length (map ends_of ws)) ≡ 0 = ap length e in absurd (omega (arith, long))
ends_same (w ∷ ws) (v ∷ vs) zero e = ap (first_of_ends (ends_of w)) e where
  first_of_ends : ℕ × ℕ → List (ℕ × ℕ) → ℕ × ℕ
  first_of_ends d [] = d
  first_of_ends d (x ∷ xs) = x
ends_same (w ∷ ws) (v ∷ vs) (suc l) e = ends_same ws vs l (ap rest_of_ends e) where
  rest_of_ends : List (ℕ × ℕ) → List (ℕ × ℕ)
  rest_of_ends [] = []
  rest_of_ends (x ∷ xs) = xs

far_of : (d : Direction) (w v : Wire) → ends_of w ≡ ends_of v → far_end d w ≡ far_end d v
far_of way.Forward w v e = ap (λ (x : ℕ × ℕ). x.1) e
far_of way.Back w v e = ap (λ (x : ℕ × ℕ). x.0) e

lines_same : (old new : Net) → IsOneNetwork old new → length new.lines ≡ length old.lines
lines_same old new one = sym (length-map new.lines ends_of) ∙ sym (ap length one.lines) ∙ length-map old.lines ends_of

scope_same : (old new : Net) (e : RawEvent) → IsOneNetwork old new → scope_of old e ≡ scope_of new e
scope_same old new (event.Net (net.Deliver l d k)) one =
    ap₂ (λ (n : ℕ) (i : ℕ). if nat_lt l n then scope.ImpAndLines i else scope.Nothing) (sym (lines_same old new one)) (far_of d _ _ (ends_same _ _ l one.lines))
scope_same old new e one = refl

has_same : (s : Scope) (l : ℕ) (w v : Wire) → ends_of w ≡ ends_of v → has_line s l w ≡ has_line s l v
has_same (scope.ImpAndLines i) l w v e = ap (λ (x : ℕ × ℕ). x.0 == i || x.1 == i) e
has_same (scope.Imp i) l w v e = refl
has_same (scope.Line k) l w v e = refl
has_same scope.Nothing l w v e = refl

-- ---- an event

abbrev parts_kept : Kept → AllParts
parts_kept k = parts_of_net k.net

pub only_in : (texts : AllParts) (e : RawEvent) (crossings : List Crossing) (r : Result (Unit {0}) CarrierFault) (new : Kept) → HasHappened subnet_calls parts_kept texts e crossings r new → OnlyIn texts (scope_of new.net e) new.net
only_in texts e crossings r new h =
    let old : Kept = h.old in
    let shown : List Shown = shown_crossings crossings ++ shown_refusal r in
    let k : Happens subnet_calls old e new shown = happens subnet_calls parts_kept texts e crossings r new h in
    let kept = keeps old new e shown h.one_call k in
    let stays : Stays (scope_of old.net e) old.net new.net = left_stays old new e (left_of old new e shown h.one_call k) in
    let same : scope_of old.net e ≡ scope_of new.net e = scope_same _ _ e kept.network in record {
      old = old.net;
      known = h.known;
      same = record {
        sites = sym kept.network.sites;
        places = kept.places;
        lines = lines_same _ _ kept.network;
        imps = λ i none. stays.imps i (ap (λ (s : Scope). has_imp s i) same ∙ none);
        wires = λ l none. stays.wires l (has_same _ l _ _ (ends_same _ _ l kept.network.lines) ∙ ap (λ (s : Scope). has_line s l (wire_at new.net.lines l)) same ∙ none);
      };
    }

-- a refused one
not_done : (r : Result (Unit {0}) CarrierFault) (f : CarrierFault) → r ≡ Err f → r ≡ Ok tt → ⊥
not_done r f is e = absurd (cc)

take_refused : (old new : Kept) (h : Host) (f : CarrierFault) (answer : Result (Option Inbound) CarrierFault) → subnet_calls.takes old h answer new → Err f ≡ outcome_of answer → GoesOn (Err f) → new ≡ old
take_refused old new h f (Ok taken) gives is goes = absurd (not_done _ f refl is)
take_refused old new h f (Err g) gives is goes =
    went {T = Option Inbound} (λ given. (given ≡ taken_by_host old.net h) × (new ≡ running (take_in old.net h))) (refusal_of old (λ n. take_refusal n h)) (take_grows old.net h) old new (Err g) gives (subst GoesOn is goes)

refused_same : (old new : Kept) (e : RawEvent) (f : CarrierFault) → IsOneCall e → EventGives subnet_calls old e (Err f) new → GoesOn (Err f) → new ≡ old
refused_same old new (event.Out m) f one gives goes = went {T = Unit {0}} (λ done. new ≡ running (offer_out old.net m)) (refusal_of old (λ n. offer_refusal n m)) true old new (Err f) gives goes
refused_same old new (event.Take h) f one gives goes = take_refused old new h f _ gives.1 gives.2 goes
refused_same old new (event.Net e) f one gives goes = went {T = Unit {0}} (λ done. new ≡ running (stepped old.net e)) (refusal_of old (λ n. step_refusal n e)) (step_grows old.net e) old new (Err f) gives goes
refused_same old new (event.Calm rounds) f one gives goes = absurd one

pub refused_texts : (texts : AllParts) (e : RawEvent) (crossings : List Crossing) (f : CarrierFault) (new : Kept) → HasHappened subnet_calls parts_kept texts e crossings (Err f) new → texts ≡ parts_kept new
refused_texts texts e crossings f new h = h.known ∙ ap parts_kept (sym (refused_same h.old new e f h.one_call h.gives h.goes_on))

pub refused_parts : (old new : Kept) (e : RawEvent) (shown : List Shown) → IsOneCall e → (h : Happens subnet_calls old e new shown) → is_ok h.outcome ≡ false → change_text subnet_inside old new ≡ codes "{}"
refused_parts old new e shown one h refused = by h.outcome h.gives h.goes_on refused where
  by : (r : Result (Unit {0}) CarrierFault) → EventGives subnet_calls old e r new → GoesOn r → is_ok r ≡ false → change_text subnet_inside old new ≡ codes "{}"
  by (Ok done) gives goes r_err = absurd (false≢true (sym r_err))
  by (Err f) gives goes r_err = ap (λ (k : Kept). change_text subnet_inside old k) (refused_same old new e f one gives goes) ∙ ap object (no_part_changed (parts_kept old))

-- ---- the parts one after the other

pub none_are : (texts : List (List ℕ)) (s : Scope) (new : Net) (r : IsOnlyIn s texts new) (text : List ℕ) → text ≡ [] → PutSoFar texts (parts_members new (all_parts new)) 0 texts text (imps_left r.0 0) (imps_left new 0)
none_are texts s new r text empty =
    subst (λ (t : List ℕ). PutSoFar texts (parts_members new (all_parts new)) 0 texts t (imps_left r.0 0) (imps_left new 0)) (sym empty)
    (subst (λ (os : List (List ℕ)). PutSoFar texts (parts_members new (all_parts new)) 0 texts [] os (imps_left new 0)) (r.1 ∙ sym (whole_left r.0))
    (subst (λ (ns : List (List ℕ)). PutSoFar texts (parts_members new (all_parts new)) 0 texts [] texts ns) (sym (whole_left new)) (none_put texts _))) where
      whole_left : (n : Net) → imps_left n 0 ≡ parts_members n (all_parts n)
      whole_left n = none_listed n

is_imp_of : (n : Net) (i : ℕ) (there : Bool) → is_imp n i ≡ there → i < length n.imps → imps_left n i ≡ (if there then named n (Imp i) ∷ [] else []) ++ imps_left n (i + 1)
is_imp_of n i there is lt = imps_next n i lt ∙ ap (λ (b : Bool). (if b then named n (Imp i) ∷ [] else []) ++ imps_left n (i + 1)) is

site_is : (texts : List (List ℕ)) (s : Scope) (new : Net) (r : IsOnlyIn s texts new) (i : ℕ) (there : Bool) → is_imp new i ≡ there → is_imp r.0 i ≡ there
site_is texts s new r i there is = ap (λ sites. is_imp (record r.0 { sites = sites }) i) (sym r.2.sites) ∙ is

-- an IMP
pub imp_put : (texts : List (List ℕ)) (s : Scope) (new : Net) (r : IsOnlyIn s texts new) (i place : ℕ) (may : Bool) (known later : List (List ℕ)) (text longer : List ℕ) → i < length new.imps → is_imp new i ≡ true → may ≡ has_imp s i
    → later ≡ put_at may known place (named new (Imp i)) → longer ≡ put_text may known place (named new (Imp i)) text
    → PutSoFar texts (parts_members new (all_parts new)) place known text (imps_left r.0 i) (imps_left new i) → PutSoFar texts (parts_members new (all_parts new)) (place + 1) later longer (imps_left r.0 (i + 1)) (imps_left new (i + 1))
imp_put texts s new r i place may known later text longer lt there test put added so =
    let was : i < length r.0.imps = omega (arith, lt, r.2.places) in
    put_more may texts _ place known later text longer _ _ _ _
    (λ none. ap (λ o. member (part_name (Imp i)) (imp_text o)) (r.2.imps i (sym test ∙ none))) put added
    (subst (λ (ns : List (List ℕ)). PutSoFar texts (parts_members new (all_parts new)) place known text (named r.0 (Imp i) ∷ imps_left r.0 (i + 1)) ns) (is_imp_of new i true there lt)
    (subst (λ (os : List (List ℕ)). PutSoFar texts (parts_members new (all_parts new)) place known text os (imps_left new i)) (is_imp_of r.0 i true (site_is texts s new r i true there) was) so))

-- where the network has none there is no part
pub none_there : (texts : List (List ℕ)) (s : Scope) (new : Net) (r : IsOnlyIn s texts new) (i place : ℕ) (known : List (List ℕ)) (text : List ℕ) → i < length new.imps → is_imp new i ≡ false
    → PutSoFar texts (parts_members new (all_parts new)) place known text (imps_left r.0 i) (imps_left new i) → PutSoFar texts (parts_members new (all_parts new)) place known text (imps_left r.0 (i + 1)) (imps_left new (i + 1))
none_there texts s new r i place known text lt there so =
    let was : i < length r.0.imps = omega (arith, lt, r.2.places) in
    subst (λ (ns : List (List ℕ)). PutSoFar texts (parts_members new (all_parts new)) place known text (imps_left r.0 (i + 1)) ns) (is_imp_of new i false there lt)
    (subst (λ (os : List (List ℕ)). PutSoFar texts (parts_members new (all_parts new)) place known text os (imps_left new i)) (is_imp_of r.0 i false (site_is texts s new r i false there) was) so)

-- after the IMPs come the lines
pub imps_put : (texts : List (List ℕ)) (s : Scope) (new : Net) (r : IsOnlyIn s texts new) (i place : ℕ) (known : List (List ℕ)) (text : List ℕ) → length new.imps ≤ i
    → PutSoFar texts (parts_members new (all_parts new)) place known text (imps_left r.0 i) (imps_left new i) → PutSoFar texts (parts_members new (all_parts new)) place known text (lines_left r.0 0) (lines_left new 0)
imps_put texts s new r i place known text past so =
    let was : length r.0.imps ≤ i = omega (arith, past, r.2.places) in
    subst (λ (ns : List (List ℕ)). PutSoFar texts (parts_members new (all_parts new)) place known text (lines_left r.0 0) ns) (imps_over new i past)
    (subst (λ (os : List (List ℕ)). PutSoFar texts (parts_members new (all_parts new)) place known text os (imps_left new i)) (imps_over r.0 i was) so)

-- a line
pub line_put : (texts : List (List ℕ)) (s : Scope) (new : Net) (r : IsOnlyIn s texts new) (l place : ℕ) (may : Bool) (known later : List (List ℕ)) (text longer : List ℕ) → l < length new.lines → may ≡ has_line s l (wire_at new.lines l)
    → later ≡ put_at may known place (named new (Line l)) → longer ≡ put_text may known place (named new (Line l)) text
    → PutSoFar texts (parts_members new (all_parts new)) place known text (lines_left r.0 l) (lines_left new l) → PutSoFar texts (parts_members new (all_parts new)) (place + 1) later longer (lines_left r.0 (l + 1)) (lines_left new (l + 1))
line_put texts s new r l place may known later text longer lt test put added so =
    let was : l < length r.0.lines = omega (arith, lt, r.2.lines) in
    put_more may texts _ place known later text longer _ _ _ _
    (λ none. ap (λ (w : Wire). member (part_name (Line l)) (line_text w)) (r.2.wires l (sym test ∙ none))) put added
    (subst (λ (ns : List (List ℕ)). PutSoFar texts (parts_members new (all_parts new)) place known text (named r.0 (Line l) ∷ lines_left r.0 (l + 1)) ns) (lines_next new l lt)
    (subst (λ (os : List (List ℕ)). PutSoFar texts (parts_members new (all_parts new)) place known text os (lines_left new l)) (lines_next r.0 l was) so))

-- there is a member at the place
pub imp_there : (texts : List (List ℕ)) (s : Scope) (new : Net) (r : IsOnlyIn s texts new) (i place : ℕ) (known : List (List ℕ)) (text : List ℕ) → i < length new.imps → is_imp new i ≡ true
    → PutSoFar texts (parts_members new (all_parts new)) place known text (imps_left r.0 i) (imps_left new i) → place < length known
imp_there texts s new r i place known text lt there so =
    let was : i < length r.0.imps = omega (arith, lt, r.2.places) in
    is_within texts _ place known text _ _ _
    (subst (λ (os : List (List ℕ)). PutSoFar texts (parts_members new (all_parts new)) place known text os (imps_left new i)) (is_imp_of r.0 i true (site_is texts s new r i true there) was) so)

pub line_there : (texts : List (List ℕ)) (s : Scope) (new : Net) (r : IsOnlyIn s texts new) (l place : ℕ) (known : List (List ℕ)) (text : List ℕ) → l < length new.lines
    → PutSoFar texts (parts_members new (all_parts new)) place known text (lines_left r.0 l) (lines_left new l) → place < length known
line_there texts s new r l place known text lt so =
    let was : l < length r.0.lines = omega (arith, lt, r.2.lines) in
    is_within texts _ place known text _ _ _
    (subst (λ (os : List (List ℕ)). PutSoFar texts (parts_members new (all_parts new)) place known text os (lines_left new l)) (lines_next r.0 l was) so)
