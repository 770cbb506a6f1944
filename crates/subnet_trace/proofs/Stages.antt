-- Stages of a round: what is left at one, and at the next.
use Rattle.subnet_trace.proofs.Common.{◌≡◌, ℕ, zero, suc, ◌+◌, ◌-◌, ◌<◌, ◌≤◌, nat_lt, ◌⊎◌, inl, inr, Bool, true, false, List, [], ◌∷◌, ◌++◌, drop, if◌then◌else◌, length, get_or, Option, Some, None, refl, sym, ap, ◌∙◌, subst, arith, length-set, range_with_len, Host, Direction, Frame, ImpTurn, State, Outgoing, RawEvent, Stage}
use Rattle.std.proofs.lemmas.Bool.{false≢true, lt-ltb, ltb-false, ltb-true}
use Rattle.subnet.specs.Events.{at_imp, gives, delivered, drop_frame, stepped, take_in}
use Rattle.subnet.specs.Net.{Net, Wire, imp_at, put_all, put_on, put_one, wire_at, with_frame, dropping}
use Rattle.trace.specs.Elements.{Course, no_course, takings_from, then_course, one_event, taking}
use Rattle.trace.proofs.lemmas.{then_twice, passes, takes_here, takings_all}
use Rattle.subnet_trace.specs.Elements.{all_refreshing, all_turning, calling, can_resend, carrying, delivering, from_subnet, imp_left, is_heard, is_working, live_frames, numbers_from, refreshing, round_from_line, round_left, round_of_hosts, sending, telling, turning, after_turn, round_from_imp, turn_left}
use Rattle.subnet_trace.specs.Steps.{IsNext, call_of, turn_begun, frame_moved, other_turn_begun}
use Rattle.std.proofs.Math.ListN.{drop_of_length-le}
use Rattle.interface.specs.declared.NetEvent.TheVariants as net
use Rattle.interface.specs.declared.event.Direction.TheVariants as way
use Rattle.script.specs.declared.event.RawEvent.TheVariants as event
use Rattle.subnet_trace.specs.Elements as elements
use Rattle.subnet_trace.specs.declared.place.Stage.TheVariants as stage
use Rattle.subnet_trace.proofs.Rest.{not_some, some_is}

-- ---- what calls leave as large as it was

record SameSize (n m : Net) : Type 0 where
  hosts : m.hosts ≡ n.hosts
  imps : length m.imps ≡ length n.imps
  lines : length m.lines ≡ length n.lines

same_size : (n : Net) → SameSize n n
same_size n = record { hosts = refl; imps = refl; lines = refl }

size_then : (n m o : Net) → SameSize n m → SameSize m o → SameSize n o
size_then n m o h k = record { hosts = k.hosts ∙ h.hosts; imps = k.imps ∙ h.imps; lines = k.lines ∙ h.lines }

length_put_on : (lines : List Wire) (i : ℕ) (f : Frame) (o : Option ℕ) → length (put_on lines i f o) ≡ length lines
length_put_on lines i f None = refl
length_put_on lines i f (Some l) = length-set lines l (with_frame i f (wire_at lines l))

length_put_all : (lines : List Wire) (i : ℕ) (outs : List Outgoing) → length (put_all lines i outs) ≡ length lines
length_put_all lines i [] = refl
length_put_all lines i (out ∷ outs) = length_put_all (put_one lines i out) i outs ∙ length_put_on lines i _ _

at_imp_size : (n : Net) (i : ℕ) (o : Option State) (call : State → ImpTurn) → SameSize n (at_imp o i call n)
at_imp_size n i None call = same_size n
at_imp_size n i (Some s) call = record { hosts = refl; imps = length-set n.imps i (Some (call s).state); lines = length_put_all _ i (call s).frames }

delivered_size : (n : Net) (l : ℕ) (d : Direction) (o : Option Frame) → SameSize n (delivered n l d o)
delivered_size n l d None = same_size n
delivered_size n l d (Some f) = at_imp_size n _ _ _

dropped_size : (n : Net) (l : ℕ) (d : Direction) → SameSize n (drop_frame n l d 0)
dropped_size n l d = record { hosts = refl; imps = refl; lines = length-set n.lines l (dropping d 0 (wire_at n.lines l)) }

taken_hosts : (n : Net) (h : Host) → (take_in n h).hosts ≡ n.hosts
taken_hosts n h = (at_imp_size n h.imp (imp_at n.imps h.imp) _).hosts

-- ---- courses

-- what follows matters only in the state that it begins in
same_next : {S : Type 0} (first : Course S) (f g : S → Course S) → f first.left ≡ g first.left → then_course first f ≡ then_course first g
same_next {S} first f g e = ap (λ (c : Course S). record { elements = first.elements ++ c.elements; left = c.left }) e

then_thrice : {S : Type 0} (first : Course S) (f g last : S → Course S)
    → then_course (then_course (then_course first f) g) last ≡ then_course first (λ s. then_course (f s) (λ t. then_course (g t) last))
then_thrice {S} first f g last =
    then_twice _ g last ∙ then_twice first f (λ t. then_course (g t) last)

-- ---- numbers one after another

numbers_here : (i count : ℕ) → i < count → numbers_from i count ≡ i ∷ numbers_from (i + 1) count
numbers_here i count lt = let one : count - i ≡ suc (count - (i + 1)) = omega (arith, lt) in ap (λ (k : ℕ). range_with_len i k) one

numbers_past : (i count : ℕ) → count ≤ i → numbers_from i count ≡ []
numbers_past i count le = let none : count - i ≡ 0 = omega (arith, le) in ap (λ (k : ℕ). range_with_len i k) none

-- ---- IMPs

idle : (n : Net) (i : ℕ) → is_working n i ≡ false → can_resend n i ≡ false
idle n i e = rw e refl

resender_works : (n : Net) (i : ℕ) → can_resend n i ≡ true → is_working n i ≡ true
resender_works n i can = by (is_working n i) refl where
  by : (b : Bool) → is_working n i ≡ b → is_working n i ≡ true
  by true e = e
  by false e = absurd (false≢true (sym (idle n i e) ∙ can))

sending_size : (round i : ℕ) (n : Net) → SameSize n (sending round i n).left
sending_size round i n = by (can_resend n i) where
  by : (b : Bool) → SameSize n (if b then calling round (net.Resend i) n else no_course n).left
  by true = at_imp_size n i _ _
  by false = same_size n

-- what is left where an IMP is first
imps_from : (round i : ℕ) (n : Net) → i < length n.imps
    → round_from_imp round i n ≡ then_course (telling round i n) (λ m. then_course (sending round i m) (λ o. then_course (all_refreshing round (numbers_from (i + 1) (length n.imps)) o) (round_from_line round 0)))
imps_from round i n lt =
    ap (λ is. then_course (all_refreshing round is n) (round_from_line round 0)) (numbers_here i _ lt)
    ∙ then_thrice (telling round i n) (sending round i) (all_refreshing round (numbers_from (i + 1) (length n.imps))) (round_from_line round 0)

imp_tells : (round i : ℕ) (n : Net) → i < length n.imps → is_working n i ≡ true
    → imp_left round i false n ≡ then_course (one_event round (event.Net (net.Route i)) (stepped n (net.Route i))) (round_left round (stage.Refreshing i true))
imp_tells round i n lt works =
    imps_from round i n lt
    ∙ ap (λ (b : Bool). then_course (if b then calling round (net.Route i) n else no_course n) (λ m. then_course (sending round i m) (λ o. then_course (all_refreshing round (numbers_from (i + 1) (length n.imps)) o) (round_from_line round 0)))) works
    ∙ ap (λ (count : ℕ). then_course (calling round (net.Route i) n) (λ m. then_course (sending round i m) (λ o. then_course (all_refreshing round (numbers_from (i + 1) count) o) (round_from_line round 0)))) (sym same)
    ∙ same_next (calling round (net.Route i) n) (λ m. then_course (sending round i m) (λ o. then_course (all_refreshing round (numbers_from (i + 1) (length last.imps)) o) (round_from_line round 0))) (imp_left round i true) refl
  where
    told : Net
    told = stepped n (net.Route i)

    last : Net
    last = (sending round i told).left

    same : length last.imps ≡ length n.imps
    same = (sending_size round i told).imps ∙ (at_imp_size n i (imp_at n.imps i) _).imps

imp_sends : (round i : ℕ) (n : Net) → can_resend n i ≡ true
    → imp_left round i true n ≡ then_course (one_event round (event.Net (net.Resend i)) (stepped n (net.Resend i))) (round_left round (stage.Refreshing (i + 1) false))
imp_sends round i n can = ap (λ (b : Bool). then_course (if b then calling round (net.Resend i) n else no_course n) (round_from_imp round (i + 1))) can

-- an IMP that does nothing is passed over
imp_told : (round i : ℕ) (n : Net) → can_resend n i ≡ false → imp_left round i true n ≡ imp_left round (i + 1) false n
imp_told round i n cannot = ap (λ (b : Bool). then_course (if b then calling round (net.Resend i) n else no_course n) (round_from_imp round (i + 1))) cannot

imp_idle : (round i : ℕ) (n : Net) → i < length n.imps → is_working n i ≡ false → imp_left round i false n ≡ imp_left round (i + 1) false n
imp_idle round i n lt none =
    imps_from round i n lt
    ∙ ap (λ (b : Bool). then_course (if b then calling round (net.Route i) n else no_course n) (λ m. then_course (sending round i m) (λ o. then_course (all_refreshing round (numbers_from (i + 1) (length n.imps)) o) (round_from_line round 0)))) none
    ∙ ap (λ (b : Bool). then_course (if b then calling round (net.Resend i) n else no_course n) (λ o. then_course (all_refreshing round (numbers_from (i + 1) (length n.imps)) o) (round_from_line round 0))) (idle n i none)

-- ---- lines

carrying_size : (round l : ℕ) (d : Direction) (frames : ℕ) (n : Net) → SameSize n (carrying round l d frames n).left
carrying_size round l d zero n = same_size n
carrying_size round l d (suc frames) n = by (λ m. carrying_size round l d frames m) (nat_lt 0 (live_frames n l d)) where
  delivering_size : (b : Bool) → SameSize n (if b then calling round (net.Deliver l d 0) n else no_course n).left
  delivering_size true = delivered_size n l d _
  delivering_size false = same_size n

  by : ((m : Net) → SameSize m (carrying round l d frames m).left) → (b : Bool)
      → SameSize n (if b then then_course (then_course (delivering round l d n) (elements.dropping round l d)) (carrying round l d frames) else no_course n).left
  by more true =
      let m : Net = (delivering round l d n).left in
      let o : Net = drop_frame m l d 0 in
      size_then n m (carrying round l d frames o).left (delivering_size _) (size_then m o _ (dropped_size m l d) (more o))
  by more false = same_size n

-- what is left where a line is first is its turn forward, and what follows that
lines_from : (round l : ℕ) (n : Net) → l < length n.lines → round_from_line round l n ≡ round_left round (stage.Carrying l way.Forward (live_frames n l way.Forward) false) n
lines_from round l n lt =
    ap (λ ls. then_course (all_turning round ls n) (round_of_hosts round)) (numbers_here l _ lt)
    ∙ then_thrice (turning round l way.Forward n) (turning round l way.Back) (all_turning round (numbers_from (l + 1) (length n.lines))) (round_of_hosts round)
    ∙ ap (λ (count : ℕ). then_course (turning round l way.Forward n) (λ m. then_course (turning round l way.Back m) (λ o. then_course (all_turning round (numbers_from (l + 1) count) o) (round_of_hosts round)))) (sym same)
    ∙ same_next (turning round l way.Forward n) (λ m. then_course (turning round l way.Back m) (λ o. then_course (all_turning round (numbers_from (l + 1) (length last.lines)) o) (round_of_hosts round))) (after_turn round l way.Forward) refl
  where
    there : Net
    there = (turning round l way.Forward n).left

    last : Net
    last = (turning round l way.Back there).left

    same : length last.lines ≡ length n.lines
    same = (carrying_size round l way.Back (live_frames there l way.Back) there).lines ∙ (carrying_size round l way.Forward (live_frames n l way.Forward) n).lines

-- a turn of which nothing is left, or in which nothing is live, is over
none_left : (round l : ℕ) (d : Direction) (frames : ℕ) (n : Net) → (frames ≡ 0) ⊎ (live_frames n l d ≡ 0) → carrying round l d frames n ≡ no_course n
none_left round l d zero n none = refl
none_left round l d (suc frames) n (inl none) = absurd (omega (arith, none))
none_left round l d (suc frames) n (inr none) = ap (λ (k : ℕ). if nat_lt 0 k then then_course (then_course (delivering round l d n) (elements.dropping round l d)) (carrying round l d frames) else no_course n) none

turn_over : (round l : ℕ) (d : Direction) (frames : ℕ) (n : Net) → (frames ≡ 0) ⊎ (live_frames n l d ≡ 0) → round_left round (stage.Carrying l d frames false) n ≡ after_turn round l d n
turn_over round l d frames n none = ap (λ c. then_course c (after_turn round l d)) (none_left round l d frames n none)

-- a frame is carried
frame_first : (round l : ℕ) (d : Direction) (frames : ℕ) (n : Net) → 0 < live_frames n l d
    → round_left round (stage.Carrying l d (frames + 1) false) n ≡ then_course (delivering round l d n) (round_left round (stage.Carrying l d frames true))
frame_first round l d frames n live =
    let more : frames + 1 ≡ suc frames = omega arith in
    ap (λ (k : ℕ). then_course (carrying round l d k n) (after_turn round l d)) more
    ∙ ap (λ (b : Bool). then_course (if b then then_course (then_course (delivering round l d n) (elements.dropping round l d)) (carrying round l d frames) else no_course n) (after_turn round l d)) (lt-ltb 0 (live_frames n l d) live)
    ∙ then_thrice (delivering round l d n) (elements.dropping round l d) (carrying round l d frames) (after_turn round l d)
    ∙ same_next (delivering round l d n) (λ m. then_course (elements.dropping round l d m) (λ o. then_course (carrying round l d frames o) (after_turn round l d))) (round_left round (stage.Carrying l d frames true))
    (sym (then_twice (elements.dropping round l d (delivering round l d n).left) (carrying round l d frames) (after_turn round l d)))

frame_dropped : (round l : ℕ) (d : Direction) (frames : ℕ) (n : Net)
    → round_left round (stage.Carrying l d frames true) n ≡ then_course (one_event round (event.Net (net.Drop l d 0)) (stepped n (net.Drop l d 0))) (round_left round (stage.Carrying l d frames false))
frame_dropped round l d frames n = then_twice (elements.dropping round l d n) (carrying round l d frames) (after_turn round l d)

-- after the last line come the hosts
lines_past : (round l : ℕ) (n : Net) → length n.lines ≤ l → round_from_line round l n ≡ takings_from from_subnet round (drop 0 n.hosts) 16 n
lines_past round l n le =
    ap (λ ls. then_course (all_turning round ls n) (round_of_hosts round)) (numbers_past l _ le) ∙ takings_all from_subnet round _ n

-- ---- what comes next

-- what is left may be said in another way
pub next_as : (n : Net) (f g : ℕ → Course Net) (r : Option (RawEvent × Stage)) → ((round : ℕ) → g round ≡ f round) → IsNext n f r → IsNext n g r
next_as n f g None same h = λ round. same round ∙ h round
next_as n f g (Some next) same h = (h.0, λ round. same round ∙ h.1 round)

-- IMPs
pub imp_next : (n : Net) (i : ℕ) (told : Bool) (next : RawEvent × Stage) → i < length n.imps → call_of n i told ≡ Some next → IsNext n (λ round. imp_left round i told n) (Some next)
imp_next n i false next lt is = by (is_working n i) refl is where
  by : (b : Bool) → is_working n i ≡ b → (if b then Some (event.Net (net.Route i), stage.Refreshing i true) else None) ≡ Some next → IsNext n (λ round. imp_left round i false n) (Some next)
  by true works e = subst (λ (next : RawEvent × Stage). IsNext n (λ round. imp_left round i false n) (Some next)) (some_is e) (works, λ round. imp_tells round i n lt works)
  by false none e = absurd (not_some e)
imp_next n i true next lt is = by (can_resend n i) refl is where
  by : (b : Bool) → can_resend n i ≡ b → (if b then Some (event.Net (net.Resend i), stage.Refreshing (i + 1) false) else None) ≡ Some next → IsNext n (λ round. imp_left round i true n) (Some next)
  by true can e = subst (λ (next : RawEvent × Stage). IsNext n (λ round. imp_left round i true n) (Some next)) (some_is e) (resender_works n i can, λ round. imp_sends round i n can)
  by false cannot e = absurd (not_some e)

pub imp_passed : (n : Net) (i : ℕ) (told : Bool) → i < length n.imps → call_of n i told ≡ None → (round : ℕ) → imp_left round (i + 1) false n ≡ imp_left round i told n
imp_passed n i false lt is round = by (is_working n i) refl is where
  next : RawEvent × Stage
  next = (event.Net (net.Route i), stage.Refreshing i true)

  by : (b : Bool) → is_working n i ≡ b → (if b then Some next else None) ≡ None → imp_left round (i + 1) false n ≡ imp_left round i false n
  by true works e = absurd (not_some (sym e))
  by false none e = sym (imp_idle round i n lt none)
imp_passed n i true lt is round = by (can_resend n i) refl is where
  next : RawEvent × Stage
  next = (event.Net (net.Resend i), stage.Refreshing (i + 1) false)

  by : (b : Bool) → can_resend n i ≡ b → (if b then Some next else None) ≡ None → imp_left round (i + 1) false n ≡ imp_left round i true n
  by true can e = absurd (not_some (sym e))
  by false cannot e = sym (imp_told round i n cannot)

-- frames
pub frame_next : (n : Net) (l : ℕ) (d : Direction) (frames : ℕ) → 0 < frames → 0 < live_frames n l d
    → IsNext n (λ round. round_left round (stage.Carrying l d frames false) n) (Some (frame_moved n l d (frames - 1)))
frame_next n l d frames some live = by (is_heard n l d) refl where
  rest : ℕ
  rest = frames - 1

  first : (round : ℕ) → round_left round (stage.Carrying l d frames false) n ≡ then_course (delivering round l d n) (round_left round (stage.Carrying l d rest true))
  first round =
      let more : frames ≡ rest + 1 = omega (arith, some) in
      ap (λ (k : ℕ). round_left round (stage.Carrying l d k false) n) more ∙ frame_first round l d rest n live

  by : (b : Bool) → is_heard n l d ≡ b
      → IsNext n (λ round. round_left round (stage.Carrying l d frames false) n) (Some (if b then (event.Net (net.Deliver l d 0), stage.Carrying l d rest true) else (event.Net (net.Drop l d 0), stage.Carrying l d rest false)))
  by true heard =
      (refl, λ round. first round ∙ ap (λ (b : Bool). then_course (if b then calling round (net.Deliver l d 0) n else no_course n) (round_left round (stage.Carrying l d rest true))) heard)
  by false unheard = (
    refl,
    λ round. first round ∙ ap (λ (b : Bool). then_course (if b then calling round (net.Deliver l d 0) n else no_course n) (round_left round (stage.Carrying l d rest true))) unheard
        ∙ frame_dropped round l d rest n,
  )

pub turn_left_over : (n : Net) (l : ℕ) (d : Direction) (frames : ℕ) (r : Option (RawEvent × Stage)) → (frames ≡ 0) ⊎ (live_frames n l d ≡ 0) → IsNext n (λ round. after_turn round l d n) r
    → IsNext n (λ round. round_left round (stage.Carrying l d frames false) n) r
turn_left_over n l d frames r none h = next_as n _ _ r (λ round. turn_over round l d frames n none) h

-- turns
turn_next : (n : Net) (l : ℕ) (d : Direction) (next : RawEvent × Stage) → turn_begun n l d ≡ Some next → IsNext n (λ round. round_left round (stage.Carrying l d (live_frames n l d) false) n) (Some next)
turn_next n l d next is = by (nat_lt 0 (live_frames n l d)) refl is where
  by : (b : Bool) → nat_lt 0 (live_frames n l d) ≡ b → (if b then Some (frame_moved n l d (live_frames n l d - 1)) else None) ≡ Some next → IsNext n (λ round. round_left round (stage.Carrying l d (live_frames n l d) false) n) (Some next)
  by true live e =
      let some : 0 < live_frames n l d = ltb-true 0 (live_frames n l d) live in
      subst (λ (next : RawEvent × Stage). IsNext n (λ round. round_left round (stage.Carrying l d (live_frames n l d) false) n) (Some next)) (some_is e) (frame_next n l d _ some some)
  by false none e = absurd (not_some e)

no_turn : (n : Net) (l : ℕ) (d : Direction) → turn_begun n l d ≡ None → live_frames n l d ≡ 0
no_turn n l d is = by (nat_lt 0 (live_frames n l d)) refl is where
  by : (b : Bool) → nat_lt 0 (live_frames n l d) ≡ b → (if b then Some (frame_moved n l d (live_frames n l d - 1)) else None) ≡ None → live_frames n l d ≡ 0
  by true live e = absurd (not_some (sym e))
  by false none e = omega (arith, ltb-false 0 (live_frames n l d) none)

-- after the turn forward comes the turn back, and after that the next line
no_back : (round l : ℕ) (n : Net) → turn_begun n l way.Back ≡ None → after_turn round l way.Forward n ≡ round_from_line round (l + 1) n
no_back round l n none = turn_over round l way.Back (live_frames n l way.Back) n (inr (no_turn n l way.Back none))

pub other_next : (n : Net) (l : ℕ) (d : Direction) (next : RawEvent × Stage) → other_turn_begun n l d ≡ Some next → IsNext n (λ round. after_turn round l d n) (Some next)
other_next n l way.Forward next is = turn_next n l way.Back next is
other_next n l way.Back next is = absurd (not_some is)

pub line_over : (n : Net) (l : ℕ) (d : Direction) (r : Option (RawEvent × Stage)) → other_turn_begun n l d ≡ None → IsNext n (λ round. round_from_line round (l + 1) n) r → IsNext n (λ round. after_turn round l d n) r
line_over n l way.Forward r none h = next_as n _ _ r (λ round. no_back round l n none) h
line_over n l way.Back r none h = h

pub forward_next : (n : Net) (l : ℕ) (next : RawEvent × Stage) → l < length n.lines → turn_begun n l way.Forward ≡ Some next → IsNext n (λ round. round_from_line round l n) (Some next)
forward_next n l next lt is =
    next_as n _ _ (Some next) (λ round. lines_from round l n lt) (turn_next n l way.Forward next is)

no_forward : (round l : ℕ) (n : Net) → l < length n.lines → turn_begun n l way.Forward ≡ None → round_from_line round l n ≡ after_turn round l way.Forward n
no_forward round l n lt none = lines_from round l n lt ∙ turn_over round l way.Forward (live_frames n l way.Forward) n (inr (no_turn n l way.Forward none))

pub back_first : (n : Net) (l : ℕ) (next : RawEvent × Stage) → l < length n.lines → turn_begun n l way.Forward ≡ None → turn_begun n l way.Back ≡ Some next → IsNext n (λ round. round_from_line round l n) (Some next)
back_first n l next lt none is = next_as n _ _ (Some next) (λ round. no_forward round l n lt none) (turn_next n l way.Back next is)

pub line_passed : (n : Net) (l : ℕ) → l < length n.lines → turn_begun n l way.Forward ≡ None → turn_begun n l way.Back ≡ None → (round : ℕ) → round_from_line round (l + 1) n ≡ round_from_line round l n
line_passed n l lt forward back round = sym (no_forward round l n lt forward ∙ no_back round l n back)

pub lines_over : (n : Net) (l : ℕ) (r : Option (RawEvent × Stage)) → length n.lines ≤ l → IsNext n (λ round. takings_from from_subnet round (drop 0 n.hosts) 16 n) r → IsNext n (λ round. round_from_line round l n) r
lines_over n l r le h = next_as n _ _ r (λ round. lines_past round l n le) h

-- hosts
pub taking_next : (n : Net) (i left times : ℕ) (h : Host) → i < length n.hosts → h ≡ get_or n.hosts i h → times ≡ suc left → gives n h ≡ true
    → IsNext n (λ round. takings_from from_subnet round (drop i n.hosts) times n) (Some (event.Take h, stage.Taking i left))
taking_next n i left times h lt is more given =
    (given, λ round. takes_here from_subnet round i left times n.hosts h n lt is more given ∙ same_next (taking from_subnet round h n) (λ m. takings_from from_subnet round (drop i n.hosts) left m) (round_left round (stage.Taking i left)) (ap (λ (hosts : List Host). takings_from from_subnet round (drop i hosts) left (take_in n h)) (sym (taken_hosts n h))))

pub taking_passed : (n : Net) (i times : ℕ) (h : Host) → i < length n.hosts → h ≡ get_or n.hosts i h → ((k : ℕ) → times ≡ suc k → gives n h ≡ false) → (round : ℕ)
    → takings_from from_subnet round (drop (i + 1) n.hosts) 16 n ≡ takings_from from_subnet round (drop i n.hosts) times n
taking_passed n i times h lt is none round = sym (passes from_subnet round i times _ h n lt is none)

pub hosts_over : (n : Net) (i times : ℕ) → length n.hosts ≤ i → IsNext n (λ round. takings_from from_subnet round (drop i n.hosts) times n) None
hosts_over n i times le = λ round. ap (λ (hosts : List Host). takings_from from_subnet round hosts times n) (drop_of_length-le n.hosts le)
