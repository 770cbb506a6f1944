-- What an event doesn't reach in plain mailboxes stays, and the parts that it reaches are put in their places.
use Rattle.trace.proofs.Common.{false≢true, is_memory, Host, Crossing, Shown, crossings_of, shown_crossings, shown_refusal, EventGives, GoesOn, Happens, IsOneCall, outcome_of, crossings_shown, RawEvent, put_at, put_text, OnlyReached, all_members, member, object, part_name, part_text, parts_members, queues_text, AllParts, HasHappened, change_text, plain_inside}
use Rattle.std.proofs.Common.{◌≡◌, ℕ, ◌<◌, ◌≤◌, ◌+◌, ◌∷◌, ◌++◌, Bool, true, false, List, [], drop, get_or, codes, is_ok, length, map, Option, None, Result, Ok, Err, refl, sym, ap, ap₂, subst, ◌∙◌}
use Rattle.std.proofs.lemmas.List.{drop_all, drop_more}
use Rattle.interface.specs.declared.CarrierFault.{CarrierFault}
use Rattle.interface.specs.declared.HostMessage.{HostMessage}
use Rattle.interface.specs.declared.Inbound.{Inbound}
use Rattle.leader1822.specs.Boxes.{Boxes, host_refusal, inbound_taken, next_for, offer_refusal, offered, plain_calls, step_grows, step_refusal, stepped, take_grows}
use Rattle.script.specs.declared.event.RawEvent.TheVariants as event
use Rattle.trace.specs.Parts.{Down, Waiting, SamePart, moves_host, reaches}
use Rattle.trace.proofs.Calling.{happens}
use Rattle.trace.proofs.Changes.Flowing.{no_part_changed}
use Rattle.trace.proofs.Each.{left_of, refused_leaves, went}
use Rattle.trace.proofs.Changes.Putting.{PutSoFar, none_put, put_more}
use Rattle.trace.proofs.Rest.{down_left, frame, queues_left}

-- ---- a refused event

not_done : (r : Result (Unit {0}) CarrierFault) (f : CarrierFault) → r ≡ Err f → r ≡ Ok tt → ⊥
not_done r f is e = absurd (cc)

take_refused : (old new : Boxes) (h : Host) (f : CarrierFault) (answer : Result (Option Inbound) CarrierFault) → plain_calls.takes old h answer new → Err f ≡ outcome_of answer → GoesOn (Err f) → new ≡ old
take_refused old new h f (Ok taken) gives is goes = absurd (not_done (Err f) f refl is)
take_refused old new h f (Err g) gives is goes = (went (host_refusal old h) (take_grows old h) (λ o. (o ≡ next_for old h) × (new ≡ inbound_taken old h o)) old (Err g) new gives (subst GoesOn is goes)).1

refused_same : (old new : Boxes) (e : RawEvent) (f : CarrierFault) → IsOneCall e → EventGives plain_calls old e (Err f) new → GoesOn (Err f) → new ≡ old
refused_same old new (event.Out m) f one gives goes = (went {T = Unit {0}} (offer_refusal old m.flow) true (λ done. new ≡ offered old m) old (Err f) new gives goes).1
refused_same old new (event.Take h) f one gives goes = take_refused old new h f gives.0 gives.1 gives.2 goes
refused_same old new (event.Net e) f one gives goes = (went {T = Unit {0}} (step_refusal old e) (step_grows old e) (λ done. new ≡ stepped old e) old (Err f) new gives goes).1
refused_same old new (event.Calm rounds) f one gives goes = absurd one

pub refused_texts : (texts : AllParts) (e : RawEvent) (crossings : List Crossing) (f : CarrierFault) (new : Boxes) → HasHappened plain_calls plain_inside.members texts e crossings (Err f) new → texts ≡ plain_inside.members new
refused_texts texts e crossings f new h = h.known ∙ ap plain_inside.members (sym (refused_same h.old new e f h.one_call h.gives h.goes_on))

pub refused_parts : (old new : Boxes) (e : RawEvent) (shown : List Shown) → IsOneCall e → (h : Happens plain_calls old e new shown) → is_ok h.outcome ≡ false → change_text plain_inside old new ≡ codes "{}"
refused_parts old new e shown one h refused = by h.outcome h.gives h.goes_on refused where
  by : (r : Result (Unit {0}) CarrierFault) → EventGives plain_calls old e r new → GoesOn r → is_ok r ≡ false → change_text plain_inside old new ≡ codes "{}"
  by (Ok done) gives goes r_err = absurd (false≢true (sym r_err))
  by (Err f) gives goes r_err = ap (λ (b : Boxes). change_text plain_inside old b) (refused_same old new e f one gives goes) ∙ ap object (no_part_changed (plain_inside.members old))

-- ---- calls that keep all parts

pub offer_keeps : (old new : Boxes) (m : HostMessage) (e : CarrierFault) → is_memory e ≡ false → plain_calls.offers old m (Err e) new → plain_inside.members new ≡ plain_inside.members old
offer_keeps old new m e lasts h = ap plain_inside.members (refused_leaves {T = Unit {0}} _ true (λ done. new ≡ offered old m) old e new lasts h)

pub take_keeps : (old new : Boxes) (h : Host) (e : CarrierFault) → is_memory e ≡ false → plain_calls.takes old h (Err e) new → plain_inside.members new ≡ plain_inside.members old
take_keeps old new h e lasts t = ap plain_inside.members (refused_leaves {T = Option Inbound} _ _ (λ o. (o ≡ next_for old h) × (new ≡ inbound_taken old h o)) old e new lasts t)

pub none_keeps : (old new : Boxes) (h : Host) → plain_calls.takes old h (Ok None) new → plain_inside.members new ≡ plain_inside.members old
none_keeps old new h t = ap plain_inside.members t.1.1

-- ---- any event

pub only_reached : (texts : AllParts) (e : RawEvent) (crossings : List Crossing) (r : Result (Unit {0}) CarrierFault) (new : Boxes) → HasHappened plain_calls plain_inside.members texts e crossings r new → OnlyReached texts.fixed e crossings new
only_reached texts e crossings r new h =
    let shown : List Shown = shown_crossings crossings ++ shown_refusal r in
    let k : Happens plain_calls h.old e new shown = happens plain_calls _ texts e crossings r new h in
    let crossed : crossings_of shown ≡ crossings = crossings_shown crossings r in
    let left = left_of h.old new e shown h.one_call k in record {
      old = h.old;
      known = ap (λ (p : AllParts). p.fixed) h.known;
      hosts = (frame h.old new e shown h.one_call k).hosts;
      down = down_left h.old new e left;
      waiting = λ g none. queues_left h.old new e shown g left k (ap (λ (cs : List Crossing). reaches e cs g) crossed ∙ none);
    }

-- ---- the parts one after the other

abbrev waiting_text : Boxes → Host → List ℕ
waiting_text b h = member (part_name (Waiting h)) (part_text b (Waiting h))

-- what waits for the hosts that are left
abbrev pub waiting_left : Boxes → List Host → ℕ → List (List ℕ)
waiting_left b hosts i = parts_members b (map (λ h. Waiting h) (drop i hosts))

one_left : (b : Boxes) (hosts : List Host) (i : ℕ) (h : Host) → i < length hosts → h ≡ get_or hosts i h → waiting_left b hosts i ≡ waiting_text b h ∷ waiting_left b hosts (i + 1)
one_left b hosts i h lt is = ap (λ (hs : List Host). parts_members b (map (λ g. Waiting g) hs)) (drop_more hosts i h lt ∙ ap (λ (g : Host). g ∷ drop (i + 1) hosts) (sym is))

waiting_same : (old new : Boxes) (h : Host) → SamePart (Waiting h) old new → waiting_text new h ≡ waiting_text old h
waiting_same old new h same = ap₂ (λ ms rs. member (part_name (Waiting h)) (queues_text ms rs)) same.0 same.1

pub down_same : (old new : Boxes) → SamePart Down old new → member (part_name Down) (part_text new Down) ≡ member (part_name Down) (part_text old Down)
down_same old new same = ap (λ hs. member (part_name Down) (part_text (record old { down = hs }) Down)) same

pub host_put : (old new : Boxes) (hosts : List Host) (i place : ℕ) (h : Host) (reached : Bool) (before now known later : List (List ℕ)) (text longer : List ℕ) → i < length hosts → h ≡ get_or hosts i h
    → (reached ≡ false → SamePart (Waiting h) old new) → later ≡ put_at reached known place (waiting_text new h) → longer ≡ put_text reached known place (waiting_text new h) text
    → PutSoFar before now place known text (waiting_left old hosts i) (waiting_left new hosts i) → PutSoFar before now (place + 1) later longer (waiting_left old hosts (i + 1)) (waiting_left new hosts (i + 1))
host_put old new hosts i place h reached before now known later text longer lt is rest put added so =
    put_more reached before now place known later text longer _ _ _ _
    (λ none. waiting_same old new h (rest none)) put added
    (subst (λ (news : List (List ℕ)). PutSoFar before now place known text (waiting_text old h ∷ waiting_left old hosts (i + 1)) news) (one_left new hosts i h lt is)
    (subst (λ (olds : List (List ℕ)). PutSoFar before now place known text olds (waiting_left new hosts i)) (one_left old hosts i h lt is) so))

-- and none is left
pub waiting_none : (b : Boxes) (hosts : List Host) (i : ℕ) → length hosts ≤ i → waiting_left b hosts i ≡ []
waiting_none b hosts i past = ap (λ (hs : List Host). parts_members b (map (λ h. Waiting h) hs)) (drop_all i hosts past)

-- the hosts that are down come first
abbrev down_text : Boxes → List ℕ
down_text b = member (part_name Down) (part_text b Down)

pub begin_put : (texts : List (List ℕ)) (e : RawEvent) (crossings : List Crossing) (new : Boxes) (r : OnlyReached texts e crossings new) (hosts : List Host) (later : List (List ℕ)) (room longer : List ℕ) → hosts ≡ new.hosts → room ≡ []
    → later ≡ put_at (moves_host e) texts 0 (down_text new) → longer ≡ put_text (moves_host e) texts 0 (down_text new) room → PutSoFar texts (all_members new) 1 later longer (waiting_left r.old hosts 0) (waiting_left new hosts 0)
begin_put texts e crossings new r hosts later room longer are empty put added =
    let olds : texts ≡ down_text r.old ∷ waiting_left r.old hosts 0 = r.known ∙ ap (λ (hs : List Host). down_text r.old ∷ parts_members r.old (map (λ h. Waiting h) hs)) (sym r.hosts ∙ sym are) in
    let news : all_members new ≡ down_text new ∷ waiting_left new hosts 0 = ap (λ (hs : List Host). down_text new ∷ parts_members new (map (λ h. Waiting h) hs)) (sym are) in
    let so : PutSoFar texts (all_members new) 0 texts room (down_text r.old ∷ waiting_left r.old hosts 0) (down_text new ∷ waiting_left new hosts 0) =
    subst (λ (text : List ℕ). PutSoFar texts (all_members new) 0 texts text (down_text r.old ∷ waiting_left r.old hosts 0) (down_text new ∷ waiting_left new hosts 0)) (sym empty)
    (subst (λ (ns : List (List ℕ)). PutSoFar texts (all_members new) 0 texts [] (down_text r.old ∷ waiting_left r.old hosts 0) ns) news
    (subst (λ (os : List (List ℕ)). PutSoFar texts (all_members new) 0 texts [] os (all_members new)) olds (none_put texts _))) in
    put_more _ texts _ 0 texts later room longer _ _ _ _ (λ none. down_same r.old new (r.down none)) put added so
