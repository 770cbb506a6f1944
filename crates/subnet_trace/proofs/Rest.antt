-- What an event's parts do not name is as before.
use Rattle.subnet_trace.proofs.Common.{false≢true, eqb-true, nat_tests, get_or-set_other, length-set, range_with_len, is_halt, is_memory, Host, CarrierFault, HostMessage, Inbound, NetEvent, Crossing, Direction, Frame, ImpTurn, State, Outgoing, Shown, GoesOn, Happens, IsOneCall, outcome_of, RawEvent, Fails, Kept, running, Decided, Ends, subnet_calls, IsOneNetwork, IsPlaced, ends_of}
use Rattle.std.proofs.Common.{◌≡◌, ◌≢◌, ℕ, zero, suc, ◌+◌, ◌-◌, ◌<◌, ◌≤◌, ◌==◌, ◌&&◌, ◌||◌, ◌⊎◌, inl, inr, nat_lt, not, Bool, false, List, [], ◌∷◌, if◌then◌else◌, filter, length, map, Option, Some, None, Result, Ok, Err, is_some, slice_get, slice_set, refl, sym, ap, ◌∙◌, subst, arith, true, slice_index_or}
use Rattle.interface.proofs.lemmas.{or_false, and_first}
use Rattle.subnet.specs.Events.{at_imp, deliver, delivered, drop_frame, frame_refusal, imp_refusal, imp_started, imp_stopped, is_imp, offer_out, site_at, step_refusal, stepped, take_in, first_of, starting_refusal}
use Rattle.subnet.specs.Net.{Net, Wire, ends_at, far_end, followed_by, frames_on, imp_at, line_from, no_wire, put_all, put_on, put_one, wire_at, with_frame, with_turn, dropping}
use Rattle.subnet.specs.Opening.{opened_from, opened_imp, opening_subnet}
use Rattle.subnet_trace.specs.Parts.{Imp, Line, is_part, Part, SamePart, imp_alone, imp_and_lines, is_named, line_alone, lines_at, parts_in, parts_of}
use Rattle.std.proofs.Math.Seq.{map-set_same}
use Rattle.interface.specs.declared.CarrierFault.TheVariants as fault
use Rattle.interface.specs.declared.NetEvent.TheVariants as net
use Rattle.interface.specs.declared.event.Direction.TheVariants as way
use Rattle.script.specs.declared.event.RawEvent.TheVariants as event
use Rattle.subnet_trace.specs.declared.parts.Scope.TheVariants as scope

-- ---- frames that an IMP puts on lines

-- a line that was found at a port ends at the IMP
record IsFound (a k i : ℕ) (ws : List Wire) : Type 0 where
  place : ℕ
  is : k ≡ a + place
  ends : ends_at i (wire_at ws place) ≡ true

pub some_is : {X : Type 0} {x y : X} → Some x ≡ Some y → x ≡ y
some_is e = cc

pub not_some : {X : Type 0} {x : X} → None ≡ Some x → ⊥
not_some e = absurd (cc)

further_found : (a k i : ℕ) (w : Wire) (ws : List Wire) → IsFound (a + 1) k i ws → IsFound a k i (w ∷ ws)
further_found a k i w ws f = record { place = suc f.place; is = omega (arith, f.is); ends = f.ends }

line_found : (a : ℕ) (ws : List Wire) (i p k : ℕ) → line_from a ws i p ≡ Some k → IsFound a k i ws
line_found a [] i p k e = absurd (not_some e)
line_found a (w ∷ ws) i p k e = by (λ q h. line_found (a + 1) ws i q k h) (ends_at i w) refl (p == 0) e where
  by : ((q : ℕ) → line_from (a + 1) ws i q ≡ Some k → IsFound (a + 1) k i ws) → (b : Bool) → ends_at i w ≡ b → (c : Bool)
      → (if b then (if c then Some a else line_from (a + 1) ws i (p - 1)) else line_from (a + 1) ws i p) ≡ Some k → IsFound a k i (w ∷ ws)
  by more true t true h = let same : a ≡ k = some_is h in record { place = 0; is = omega (arith, same); ends = t }
  by more true t false h = further_found a k i w ws (more (p - 1) h)
  by more false t c h = further_found a k i w ws (more p h)

-- a line that does not end at the IMP gets no frame of it
put_other : (lines : List Wire) (i : ℕ) (f : Frame) (l : ℕ) (o : Option ℕ) → ((k : ℕ) → o ≡ Some k → ends_at i (wire_at lines k) ≡ true) → ends_at i (wire_at lines l) ≡ false → wire_at (put_on lines i f o) l ≡ wire_at lines l
put_other lines i f l None found apart = refl
put_other lines i f l (Some k) found apart =
    get_or-set_other lines k l (with_frame i f (wire_at lines k)) no_wire (λ same. false≢true (sym apart ∙ ap (λ (j : ℕ). ends_at i (wire_at lines j)) same ∙ found k refl))

one_other : (lines : List Wire) (i : ℕ) (out : Outgoing) (l : ℕ) → ends_at i (wire_at lines l) ≡ false → wire_at (put_one lines i out) l ≡ wire_at lines l
one_other lines i out l apart = put_other lines i _ l _ found apart where
  found : (k : ℕ) → line_from 0 lines i out.port ≡ Some k → ends_at i (wire_at lines k) ≡ true
  found k e =
      let f : IsFound 0 k i lines = line_found 0 lines i _ k e in
      let here : f.place ≡ k = omega (arith, f.is) in
      ap (λ (j : ℕ). ends_at i (wire_at lines j)) (sym here) ∙ f.ends

pub all_other : (outs : List Outgoing) (lines : List Wire) (i l : ℕ) → ends_at i (wire_at lines l) ≡ false → wire_at (put_all lines i outs) l ≡ wire_at lines l
all_other [] lines i l apart = refl
all_other (out ∷ outs) lines i l apart =
    let one : wire_at (put_one lines i out) l ≡ wire_at lines l = one_other lines i out l apart in
    all_other outs (put_one lines i out) i l (ap (ends_at i) one ∙ apart) ∙ one

-- ---- what is not named

line_named : (test : ℕ → Bool) (a n l : ℕ) → a ≤ l → l < a + n → test l ≡ true → is_named (Line l) (map (λ k. Line k) (filter test (range_with_len a n))) ≡ true
line_named test a zero l low high passes = absurd (omega (arith, low, high))
line_named test a (suc n) l low high passes = by (λ next. line_named test (a + 1) n l next (omega (arith, high)) passes) (l == a) refl (test a) refl where
  by : (a + 1 ≤ l → is_named (Line l) (map (λ k. Line k) (filter test (range_with_len (a + 1) n))) ≡ true) → (b : Bool) → (l == a) ≡ b → (c : Bool) → test a ≡ c
      → is_named (Line l) (map (λ k. Line k) (filter test (range_with_len a (suc n)))) ≡ true
  by more true e true t = rw t (rw e refl)
  by more true e false t = absurd (false≢true (sym t ∙ ap test (sym (eqb-true l a e)) ∙ passes))
  by more false e true t = rw t (rw e (more (grind (arith, nat_tests, e, low))))
  by more false e false t = rw t (more (grind (arith, nat_tests, e, low)))

not_at : (n : Net) (i l : ℕ) → nat_lt l (length n.lines) ≡ true → is_named (Line l) (map (λ k. Line k) (lines_at n i)) ≡ false → ends_at i (wire_at n.lines l) ≡ false
not_at n i l there none = by (ends_at i (wire_at n.lines l)) refl where
  by : (b : Bool) → ends_at i (wire_at n.lines l) ≡ b → ends_at i (wire_at n.lines l) ≡ false
  by false e = e
  by true e = absurd (false≢true (sym none ∙ line_named _ 0 (length n.lines) l (omega arith) (grind (arith, nat_tests, there)) e))

pub apart_from : (j i : ℕ) → (j == i) ≡ false → j ≢ i
apart_from j i e same = grind (arith, nat_tests)

-- ---- a call of one IMP

-- where the network has no such IMP none is up
pub is_there : (n : Net) (i : ℕ) (s : State) → IsPlaced n → imp_at n.imps i ≡ Some s → is_imp n i ≡ true
is_there n i s placed up = by (site_at n i) refl where
  by : (o : Option ℕ) → site_at n i ≡ o → is_imp n i ≡ true
  by None none = absurd (not_some (sym (placed i none) ∙ up))
  by (Some count) some = ap is_some some

turn_rest : (n : Net) (i : ℕ) (turn : ImpTurn) (p : Part) → is_part n p ≡ true → is_named p (Imp i ∷ map (λ l. Line l) (lines_at n i)) ≡ false → SamePart p n (with_turn i turn n)
turn_rest n i turn (Imp j) there none =
    get_or-set_other n.imps i j (Some turn.state) None (apart_from j i (or_false (j == i) _ none).0)
turn_rest n i turn (Line l) there none = all_other turn.frames _ i l (not_at n i l there none)

-- whatever crossed, which is no part
imp_rest : (n : Net) (i : ℕ) (call : State → ImpTurn) (log : List Crossing) (p : Part) → IsPlaced n → is_part n p ≡ true → is_named p (imp_and_lines n i) ≡ false → SamePart p n (record (at_imp (imp_at n.imps i) i call n) { log = log })
imp_rest n i call log p placed there none = by (imp_at n.imps i) refl where
  same : (q : Part) → SamePart q n (record n { log = log })
  same (Imp j) = refl
  same (Line l) = refl

  logged : (q : Part) (m : Net) → SamePart q n m → SamePart q n (record m { log = log })
  logged (Imp j) m s = s
  logged (Line l) m s = s

  by : (o : Option State) → imp_at n.imps i ≡ o → SamePart p n (record (at_imp o i call n) { log = log })
  by None down = same p
  by (Some s) up =
      logged p _ (turn_rest n i (call s) p there (ap (λ (b : Bool). is_named p (if b then Imp i ∷ map (λ l. Line l) (lines_at n i) else [])) (sym (is_there n i s placed up)) ∙ none))

-- ---- the other events

same_all : (q : Part) (n m : Net) → m ≡ n → SamePart q n m
same_all (Imp j) n m e = ap (λ (x : Net). imp_at x.imps j) e
same_all (Line l) n m e = ap (λ (x : Net). wire_at x.lines l) e

pub frame_there : (n : Net) (l : ℕ) (d : Direction) (k : ℕ) → frame_refusal n l d k ≡ None → nat_lt l (length n.lines) ≡ true
frame_there n l d k ok = by (nat_lt l (length n.lines) && nat_lt k (length (frames_on d (wire_at n.lines l)))) refl ok where
  by : (b : Bool) → (nat_lt l (length n.lines) && nat_lt k (length (frames_on d (wire_at n.lines l)))) ≡ b → (if b then None else Some fault.NoSuch) ≡ None → nat_lt l (length n.lines) ≡ true
  by true e h = and_first (nat_lt l (length n.lines)) (nat_lt k (length (frames_on d (wire_at n.lines l)))) e
  by false e h = absurd (not_some (sym h))

deliver_rest : (n : Net) (l : ℕ) (d : Direction) (k : ℕ) (p : Part) → IsPlaced n → frame_refusal n l d k ≡ None → is_part n p ≡ true → is_named p (parts_of n (event.Net (net.Deliver l d k))) ≡ false → SamePart p n (deliver n l d k)
deliver_rest n l d k p placed ok there none = by (slice_get (frames_on d (wire_at n.lines l)) k) where
  i : ℕ
  i = far_end d (wire_at n.lines l)

  at_end : is_named p (imp_and_lines n i) ≡ false
  at_end = ap (λ (b : Bool). is_named p (parts_in n (if b then scope.ImpAndLines i else scope.Nothing))) (sym (frame_there n l d k ok)) ∙ none

  by : (o : Option Frame) → SamePart p n (delivered n l d o)
  by None = same_all p n n refl
  by (Some f) = imp_rest n i _ _ p placed there at_end

drop_rest : (n : Net) (l : ℕ) (d : Direction) (k : ℕ) (p : Part) → frame_refusal n l d k ≡ None → is_named p (line_alone n l) ≡ false → SamePart p n (drop_frame n l d k)
drop_rest n l d k (Imp j) ok none = refl
drop_rest n l d k (Line m) ok none =
    let alone : is_named (Line m) (Line l ∷ []) ≡ false = ap (λ (b : Bool). is_named (Line m) (if b then Line l ∷ [] else [])) (sym (frame_there n l d k ok)) ∙ none in
    get_or-set_other n.lines l m (dropping d k (wire_at n.lines l)) no_wire (apart_from m l (or_false (m == l) false alone).0)

-- nothing is refused of an IMP that isn't there
refused_none : (b : Bool) (o : Option CarrierFault) → first_of (not b) fault.NoSuch o ≡ None → b ≡ true
refused_none true o h = refl
refused_none false o h = absurd (not_some (sym h))

alone_named : (n : Net) (i : ℕ) (p : Part) → is_imp n i ≡ true → is_named p (imp_alone n i) ≡ false → is_named p (Imp i ∷ []) ≡ false
alone_named n i p there none = ap (λ (b : Bool). is_named p (if b then Imp i ∷ [] else [])) (sym there) ∙ none

set_rest : (n : Net) (i : ℕ) (o : Option State) (j : ℕ) → is_named (Imp j) (Imp i ∷ []) ≡ false → imp_at (slice_set n.imps i o) j ≡ imp_at n.imps j
set_rest n i o j none = get_or-set_other n.imps i j o None (apart_from j i (or_false (j == i) false none).0)

stop_rest : (n : Net) (i : ℕ) (p : Part) → imp_refusal n i ≡ None → is_named p (imp_alone n i) ≡ false → SamePart p n (imp_stopped n i)
stop_rest n i (Imp j) ok none = set_rest n i None j (alone_named n i (Imp j) (refused_none _ _ ok) none)
stop_rest n i (Line l) ok none = refl

start_rest : (n : Net) (i : ℕ) (p : Part) → starting_refusal n i ≡ None → is_named p (imp_alone n i) ≡ false → SamePart p n (imp_started n i)
start_rest n i (Imp j) ok none = set_rest n i _ j (alone_named n i (Imp j) (refused_none _ _ ok) none)
start_rest n i (Line l) ok none = refl

-- ---- all events

step_rest : (n : Net) (e : NetEvent) (p : Part) → IsPlaced n → step_refusal n e ≡ None → is_part n p ≡ true → is_named p (parts_of n (event.Net e)) ≡ false → SamePart p n (stepped n e)
step_rest n (net.Deliver l d k) p placed ok there none = deliver_rest n l d k p placed ok there none
step_rest n (net.Drop l d k) p placed ok there none = drop_rest n l d k p ok none
step_rest n (net.Garble l d k) p placed ok there none = drop_rest n l d k p ok none
step_rest n (net.ImpDown i) p placed ok there none = stop_rest n i p ok none
step_rest n (net.ImpUp i) p placed ok there none = start_rest n i p ok none
-- every other event is a call of one IMP
step_rest n e p placed ok there none = imp_rest n _ _ _ p placed there none

-- ---- a call that continued

-- it succeeded, or was refused and changed nothing
abbrev pub Went : {T : Type 0} → (T → Type 0) → Option CarrierFault → Kept → Kept → Result T CarrierFault → Type 0
Went Gives refusal old new (Ok x) = (refusal ≡ None) × Gives x
Went Gives refusal old new (Err f) = new ≡ old

abbrev pub GoesOnAfter : {T : Type 0} → Result T CarrierFault → Type 0
GoesOnAfter (Ok x) = Unit {0}
GoesOnAfter (Err f) = (is_halt f || is_memory f) ≡ false

pub went : {T : Type 0} (Gives : T → Type 0) (refusal : Option CarrierFault) (grows : Bool) (old new : Kept) (r : Result T CarrierFault) → Decided refusal grows Gives old new r → GoesOnAfter r → Went Gives refusal old new r
went Gives refusal grows old new (Ok x) h goes = h
went Gives refusal grows old new (Err f) h goes =
    let whole : is_memory f ≡ false = (or_false (is_halt f) _ goes).1 in
    (subst (λ (b : Bool). Fails refusal grows b f old new) whole h).1

pub goes_after : (r : Result (Unit {0}) CarrierFault) → GoesOn r → GoesOnAfter r
goes_after (Ok done) goes = tt
goes_after (Err f) goes = goes

pub goes_after_take : (r : Result (Option Inbound) CarrierFault) → GoesOn (outcome_of r) → GoesOnAfter r
goes_after_take (Ok taken) goes = tt
goes_after_take (Err f) goes = goes

-- while it runs, a call is refused as the subnet refuses it
pub runs : (b : Bool) (o : Option CarrierFault) → first_of b fault.Stopped o ≡ None → o ≡ None
runs true o h = absurd (not_some (sym h))
runs false o h = h

-- the subnet as it was, or after what an event asks for
abbrev pub Left : Kept → Kept → RawEvent → Type 0
Left old new (event.Out m) = (new ≡ old) ⊎ (new ≡ running (offer_out old.net m))
Left old new (event.Take h) = (new ≡ old) ⊎ (new ≡ running (take_in old.net h))
Left old new (event.Net e) = (new ≡ old) ⊎ ((step_refusal old.net e ≡ None) × (new ≡ running (stepped old.net e)))
Left old new (event.Calm rounds) = ⊥

offered : (old new : Kept) (m : HostMessage) (refusal : Option CarrierFault) (r : Result (Unit {0}) CarrierFault) → Went (λ done. new ≡ running (offer_out old.net m)) refusal old new r → Left old new (event.Out m)
offered old new m refusal (Ok done) w = inr w.1
offered old new m refusal (Err f) w = inl w

took : (old new : Kept) (h : Host) (refusal : Option CarrierFault) (given : Option Inbound) (r : Result (Option Inbound) CarrierFault) → Went (λ o. (o ≡ given) × (new ≡ running (take_in old.net h))) refusal old new r → Left old new (event.Take h)
took old new h refusal given (Ok o) w = inr w.1.1
took old new h refusal given (Err f) w = inl w

happened : (old new : Kept) (e : NetEvent) (r : Result (Unit {0}) CarrierFault) → Went (λ done. new ≡ running (stepped old.net e)) (first_of old.stopped fault.Stopped (step_refusal old.net e)) old new r → Left old new (event.Net e)
happened old new e (Ok done) w = inr (runs _ _ w.0, w.1)
happened old new e (Err f) w = inl w

pub left_of : (old new : Kept) (e : RawEvent) (shown : List Shown) → IsOneCall e → Happens subnet_calls old e new shown → Left old new e
left_of old new (event.Out m) shown one k = offered old new m _ _ (went _ _ _ old new _ k.gives (goes_after _ k.goes_on))
left_of old new (event.Take h) shown one k =
    let r : Result (Option Inbound) CarrierFault = k.gives.0 in
    took old new h _ _ r (went _ _ _ old new r k.gives.1 (goes_after_take r (subst GoesOn k.gives.2 k.goes_on)))
left_of old new (event.Net e) shown one k = happened old new e _ (went _ _ _ old new _ k.gives (goes_after _ k.goes_on))
left_of old new (event.Calm rounds) shown one k = absurd one

-- as the part is in what is left
as_left : (p : Part) (old left new : Net) → SamePart p old left → new ≡ left → SamePart p old new
as_left (Imp i) old left new s e = ap (λ (x : Net). imp_at x.imps i) e ∙ s
as_left (Line l) old left new s e = ap (λ (x : Net). wire_at x.lines l) e ∙ s

rest_left : (old new : Kept) (e : RawEvent) (p : Part) → IsPlaced old.net → Left old new e → is_part old.net p ≡ true → is_named p (parts_of old.net e) ≡ false → SamePart p old.net new.net
rest_left old new (event.Out m) p placed (inl same) there none = same_all p _ _ (ap (λ (k : Kept). k.net) same)
rest_left old new (event.Out m) p placed (inr left) there none = as_left p _ _ _ (imp_rest _ _ _ _ p placed there none) (ap (λ (k : Kept). k.net) left)
rest_left old new (event.Take h) p placed (inl same) there none = same_all p _ _ (ap (λ (k : Kept). k.net) same)
rest_left old new (event.Take h) p placed (inr left) there none = as_left p _ _ _ (imp_rest _ h.imp _ _ p placed there none) (ap (λ (k : Kept). k.net) left)
rest_left old new (event.Net e) p placed (inl same) there none = same_all p _ _ (ap (λ (k : Kept). k.net) same)
rest_left old new (event.Net e) p placed (inr left) there none = as_left p _ _ _ (step_rest _ e p placed left.0 there none) (ap (λ (k : Kept). k.net) left.1)
rest_left old new (event.Calm rounds) p placed left there none = absurd left

pub rest : (old new : Kept) (e : RawEvent) (shown : List Shown) (p : Part) → IsPlaced old.net → IsOneCall e → Happens subnet_calls old e new shown → is_part old.net p ≡ true → is_named p (parts_of old.net e) ≡ false → SamePart p old.net new.net
rest old new e shown p placed one k there none = rest_left old new e p placed (left_of old new e shown one k) there none

-- ---- the network stays

ends_alike : (i : ℕ) (f : Frame) (w : Wire) → ends_of (with_frame i f w) ≡ ends_of w
ends_alike i f w = by (w.a == i) where
  by : (b : Bool) → ends_of (if b then record w { forward = followed_by w.forward f } else record w { back = followed_by w.back f }) ≡ ends_of w
  by true = refl
  by false = refl

put_ends : (lines : List Wire) (i : ℕ) (f : Frame) (o : Option ℕ) → map ends_of (put_on lines i f o) ≡ map ends_of lines
put_ends lines i f None = refl
put_ends lines i f (Some k) = map-set_same ends_of lines k (with_frame i f (wire_at lines k)) no_wire (ends_alike i f (wire_at lines k))

pub all_ends : (outs : List Outgoing) (lines : List Wire) (i : ℕ) → map ends_of (put_all lines i outs) ≡ map ends_of lines
all_ends [] lines i = refl
all_ends (out ∷ outs) lines i = all_ends outs (put_one lines i out) i ∙ put_ends lines i _ _

-- another IMP in the place of one of the network's
one_placed : (n : Net) (i : ℕ) (o : Option State) → is_imp n i ≡ true → IsPlaced n → (j : ℕ) → site_at n j ≡ None → imp_at (slice_set n.imps i o) j ≡ None
one_placed n i o there placed j none = get_or-set_other n.imps i j o None other ∙ placed j none where
  other : j ≢ i
  other same = false≢true (sym (ap is_some none) ∙ ap (is_imp n) same ∙ there)

-- the network is the same, and has no more IMPs than before
pub record Keeps (n m : Net) : Type 0 where
  pub network : IsOneNetwork n m
  pub placed : IsPlaced n → IsPlaced m
  pub places : length m.imps ≡ length n.imps

unchanged : (n m : Net) → m ≡ n → Keeps n m
unchanged n m e = record {
  network = record { hosts = ap (λ (x : Net). x.hosts) (sym e); sites = ap (λ (x : Net). x.sites) (sym e); lines = ap (λ (x : Net). map ends_of x.lines) (sym e) };
  placed = λ placed. subst IsPlaced (sym e) placed;
  places = ap (λ (x : Net). length x.imps) e;
}

pub at_keeps : (n : Net) (i : ℕ) (call : State → ImpTurn) (log : List Crossing) → Keeps n (record (at_imp (imp_at n.imps i) i call n) { log = log })
at_keeps n i call log = by (imp_at n.imps i) refl where
  by : (o : Option State) → imp_at n.imps i ≡ o → Keeps n (record (at_imp o i call n) { log = log })
  by None down = record { network = record { hosts = refl; sites = refl; lines = refl }; placed = λ placed. placed; places = refl }
  by (Some s) up = record {
    network = record { hosts = refl; sites = refl; lines = sym (all_ends (call s).frames _ i) };
    placed = λ placed. one_placed n i (Some (call s).state) (is_there n i s placed up) placed;
    places = length-set n.imps i (Some (call s).state);
  }

deliver_keeps : (n : Net) (l : ℕ) (d : Direction) (o : Option Frame) → Keeps n (delivered n l d o)
deliver_keeps n l d None = unchanged n n refl
deliver_keeps n l d (Some f) = at_keeps n _ _ _

dropping_ends : (d : Direction) (k : ℕ) (w : Wire) → ends_of (dropping d k w) ≡ ends_of w
dropping_ends way.Forward k w = refl
dropping_ends way.Back k w = refl

pub drop_keeps : (n : Net) (l : ℕ) (d : Direction) (k : ℕ) → Keeps n (drop_frame n l d k)
drop_keeps n l d k = record {
  network = record { hosts = refl; sites = refl; lines = sym (map-set_same ends_of n.lines l (dropping d k (wire_at n.lines l)) no_wire (dropping_ends d k _)) };
  placed = λ placed. placed;
  places = refl;
}

pub step_keeps : (n : Net) (e : NetEvent) → step_refusal n e ≡ None → Keeps n (stepped n e)
step_keeps n (net.Deliver l d k) ok = deliver_keeps n l d _
step_keeps n (net.Drop l d k) ok = drop_keeps n l d k
step_keeps n (net.Garble l d k) ok = drop_keeps n l d k
step_keeps n (net.ImpDown i) ok = record {
  network = record { hosts = refl; sites = refl; lines = refl };
  placed = λ placed. one_placed n i None (refused_none _ _ ok) placed;
  places = length-set n.imps i None;
}
step_keeps n (net.ImpUp i) ok = record {
  network = record { hosts = refl; sites = refl; lines = refl };
  placed = λ placed. one_placed n i _ (refused_none _ _ ok) placed;
  places = length-set n.imps i _;
}
-- every other event is a call of one IMP
step_keeps n e ok = at_keeps n _ _ _

into : (n left new : Net) → Keeps n left → new ≡ left → Keeps n new
into n left new k e = subst (Keeps n) (sym e) k

kept_left : (old new : Kept) (e : RawEvent) → Left old new e → Keeps old.net new.net
kept_left old new (event.Out m) (inl same) = unchanged old.net new.net (ap (λ (k : Kept). k.net) same)
kept_left old new (event.Out m) (inr left) = into _ _ _ (at_keeps _ _ _ _) (ap (λ (k : Kept). k.net) left)
kept_left old new (event.Take h) (inl same) = unchanged old.net new.net (ap (λ (k : Kept). k.net) same)
kept_left old new (event.Take h) (inr left) = into _ _ _ (at_keeps _ h.imp _ _) (ap (λ (k : Kept). k.net) left)
kept_left old new (event.Net e) (inl same) = unchanged old.net new.net (ap (λ (k : Kept). k.net) same)
kept_left old new (event.Net e) (inr left) = into _ _ _ (step_keeps _ e left.0) (ap (λ (k : Kept). k.net) left.1)
kept_left old new (event.Calm rounds) left = absurd left

pub keeps : (old new : Kept) (e : RawEvent) (shown : List Shown) → IsOneCall e → Happens subnet_calls old e new shown → Keeps old.net new.net
keeps old new e shown one k = kept_left old new e (left_of old new e shown one k)

pub network : (old new : Kept) (e : RawEvent) (shown : List Shown) → IsOneCall e → Happens subnet_calls old e new shown → IsOneNetwork old.net new.net
network old new e shown one k = (keeps old new e shown one k).network

pub placed : (old new : Kept) (e : RawEvent) (shown : List Shown) → IsPlaced old.net → IsOneCall e → Happens subnet_calls old e new shown → IsPlaced new.net
placed old new e shown is one k = (keeps old new e shown one k).placed is

-- and at the opening
opened_none : (i k : ℕ) (sites : List (Option ℕ)) (ports : ℕ → ℕ) → slice_index_or sites k None ≡ None → imp_at (opened_from i sites ports) k ≡ None
opened_none i zero [] ports none = refl
opened_none i (suc k) [] ports none = refl
opened_none i zero (site ∷ sites) ports none = ap (λ (o : Option ℕ). opened_imp i o (ports i)) none
opened_none i (suc k) (site ∷ sites) ports none = opened_none (i + 1) k sites ports none

pub opening : (hosts : List Host) (sites : List (Option ℕ)) (ends : List Ends) → IsPlaced (opening_subnet hosts sites ends)
opening hosts sites ends = λ i none. opened_none 0 i sites _ none
