-- A calm of a subnet is its elementary events one after another.
use Rattle.subnet_trace.proofs.Common.{nat_tests, get_or_past, length-map, All-cons, All-nil, All-weaker, All, range_with_len, Host, CarrierFault, Inbound, NetEvent, Crossing, Direction, Frame, resend, route, holds_packet, ImpTurn, State, RawEvent, imp_is_up, Net, Wire, far_end, frames_on, imp_at, no_wire, port_of, wire_at, subnet_calls, IsPlaced}
use Rattle.imp_node.specs.Taking.{to_host}
use Rattle.imp_node.specs.Arrival.{from_line}
use Rattle.std.proofs.Common.{◌≡◌, ◌<◌, ◌≤◌, ◌-◌, ◌&&◌, ◌||◌, ℕ, zero, suc, nat_lt, Bool, false, List, [], ◌∷◌, ◌++◌, if◌then◌else◌, length, Option, Some, None, Result, Ok, Err, is_none, is_some, refl, sym, ap, ◌∙◌, subst, arith, true}
use Rattle.std.proofs.lemmas.Bool.{false≢true, lt-ltb}
use Rattle.interface.specs.Calls.{is_halt, is_memory, crossing_of}
use Rattle.replay.specs.Output.{Shown, shown_crossings, Crossed}
use Rattle.replay.specs.Replay.{GoesOn, Happens, IsOneCall, Quiet, Replays, calmly, outcome_of}
use Rattle.subnet.specs.Calls.{Fails, Kept, running}
use Rattle.subnet.specs.Events.{all_refreshed, all_turns, at_imp, carried, crossings_of, deliver, delivered, drop_frame, frame_refusal, imp_refusal, is_imp, quiet_round, refreshed, step_refusal, stepped, take_refusal, taken_by_host, turn_of, first_of}
use Rattle.subnet_trace.specs.Elements.{all_refreshing, all_turning, calling, can_resend, carrying, delivering, from_subnet, is_heard, is_working, live_frames, numbers_from, refreshing, round_from_line, round_of, round_of_hosts, sending, telling, turning, IsOfRound, dropping, elements_of}
use Rattle.trace.specs.Elements.{Course, no_course, then_course, all_takings, events_of}
use Rattle.trace.proofs.lemmas.{goes_calmly, or_first, then_twice, AllRoundsGo, Goes, Traced, AllEvents, AllTakeSo, TakesSo, all_takings_events, calm_holds, crossings_are, elementary_of, goes_all, goes_chain, goes_none, goes_then, none_events, one_events, rounds_events, run_one, then_events}
use Rattle.subnet.proofs.lemmas.{round_log}
use Rattle.interface.specs.declared.CarrierFault.TheVariants as fault
use Rattle.interface.specs.declared.NetEvent.TheVariants as net
use Rattle.interface.specs.declared.event.Direction.TheVariants as way
use Rattle.script.specs.declared.event.RawEvent.TheVariants as event
use Rattle.subnet.specs.Alive.{says}
use Rattle.subnet_trace.proofs.Rest.{is_there, network, not_some, placed, some_is}
use Rattle.subnet_trace.proofs.Settled.{IsSettled, quiet_settled, take_settled}
use Rattle.subnet_trace.proofs.Nothing.{none_carried, none_resent, none_taken, still_live}

-- ---- what holds all the while

-- no IMP is where the network has none, and hosts and lines stay as many as they were
pub record Held (hosts : List Host) (lines : ℕ) (n : Net) : Type 0 where
  pub placed : IsPlaced n
  pub same_hosts : n.hosts ≡ hosts
  pub as_many : length n.lines ≡ lines

-- a subnet in a calm, and in one whose quiet round is over
abbrev pub traced : List Host → ℕ → Traced Kept Net
traced hosts lines = record { calls = subnet_calls; view = λ k. k.net; Holds = λ k. Held hosts lines k.net; giving = from_subnet }

abbrev quieted : List Host → ℕ → Traced Kept Net
quieted hosts lines = record { calls = subnet_calls; view = λ k. k.net; Holds = λ k. Held hosts lines k.net × IsSettled k.net; giving = from_subnet }

goes_on : (hosts : List Host) (lines : ℕ) (old : Kept) (c : Course Net) (r : Result (Unit {0}) CarrierFault) (new : Kept) → Goes (quieted hosts lines) old c r new → Goes (traced hosts lines) old c r new
goes_on hosts lines old c r new g = record { ok = g.ok; left = g.left; holds = g.holds.0; run = g.run }

-- an event that is one call leaves it so
held_after : (hosts : List Host) (lines : ℕ) (old new : Kept) (e : RawEvent) (shown : List Shown) → IsOneCall e → Happens subnet_calls old e new shown → Held hosts lines old.net → Held hosts lines new.net
held_after hosts lines old new e shown one k h =
    let same = network old new e shown one k in
    record {
      placed = placed old new e shown h.placed one k;
      same_hosts = sym same.hosts ∙ h.same_hosts;
      as_many = sym (ap (λ ends. length ends) same.lines ∙ length-map new.net.lines _) ∙ length-map old.net.lines _ ∙ h.as_many;
    }

-- ---- the parts of a quiet round

-- the subnet goes from one state to the other by the events of this course
abbrev Does : List Host → ℕ → Net → Course Net → Net → Type 0
Does hosts lines n c m = Held hosts lines n → Goes (traced hosts lines) (running n) c (Ok tt) (running m)

does_none : (hosts : List Host) (lines : ℕ) (n : Net) → Does hosts lines n (no_course n) n
does_none hosts lines n = λ h. goes_none (traced hosts lines) (running n) (Ok tt) (running n) h refl refl

does_then : (hosts : List Host) (lines : ℕ) (n m o : Net) (first : Course Net) (next : Net → Course Net) → Does hosts lines n first m → Does hosts lines m (next m) o → Does hosts lines n (then_course first next) o
does_then hosts lines n m o first next one more = λ h.
    let g : Goes (traced hosts lines) (running n) first (Ok tt) (running m) = one h in
    goes_then _ _ _ _ first next _ _ g (more g.holds)

-- as a call that changes nothing, which is no event
does_nothing : (hosts : List Host) (lines : ℕ) (n m : Net) → m ≡ n → Does hosts lines n (no_course n) m
does_nothing hosts lines n m same = subst (λ (m : Net). Does hosts lines n (no_course n) m) (sym same) (does_none hosts lines n)

-- a call that nothing refuses, and in which nothing crosses
does_call : (hosts : List Host) (lines : ℕ) (round : ℕ) (n : Net) (e : NetEvent) → step_refusal n e ≡ None → (stepped n e).log ≡ n.log → Does hosts lines n (calling round e n) (stepped n e)
does_call hosts lines round n e free log = λ h.
    let once : Happens subnet_calls (running n) (event.Net e) (running (stepped n e)) [] = record {
      outcome = Ok tt;
      gives = (free, refl);
      goes_on = tt;
      crossings = [];
      grown = log;
      lines = refl;
    } in
    record {
      ok = refl;
      left = refl;
      holds = held_after hosts lines _ _ _ [] tt once h;
      run = run_one subnet_calls _ _ _ [] once log;
    }

-- a call of an IMP crosses nothing
at_log : (n : Net) (i : ℕ) (o : Option State) (call : State → ImpTurn) → (at_imp o i call n).log ≡ n.log
at_log n i None call = refl
at_log n i (Some s) call = refl

delivered_log : (n : Net) (l : ℕ) (d : Direction) (o : Option Frame) → (delivered n l d o).log ≡ n.log
delivered_log n l d None = refl
delivered_log n l d (Some f) = at_log n _ _ _

-- ---- IMPs send their distances and send again

-- an IMP of the network that is up, or none that is up
data Standing (n : Net) (i : ℕ) : Type 0 where
  Up : (s : State) → imp_at n.imps i ≡ Some s → is_imp n i ≡ true → is_working n i ≡ true → Standing n i
  Down : imp_at n.imps i ≡ None → is_working n i ≡ false → Standing n i

standing : (n : Net) (i : ℕ) → IsPlaced n → Standing n i
standing n i placed = by (imp_at n.imps i) refl where
  no_imp : (b : Bool) → (b && false) ≡ false
  no_imp true = refl
  no_imp false = refl

  by : (o : Option State) → imp_at n.imps i ≡ o → Standing n i
  by None down = Down down (ap (λ (o : Option State). is_imp n i && imp_is_up o) down ∙ no_imp _)
  by (Some s) up =
      let there : is_imp n i ≡ true = is_there n i s placed up in
      Up s up there (ap (λ (b : Bool). b && imp_is_up (imp_at n.imps i)) there ∙ ap (λ (o : Option State). imp_is_up o) up)

imp_free : (n : Net) (i : ℕ) (s : State) → imp_at n.imps i ≡ Some s → is_imp n i ≡ true → imp_refusal n i ≡ None
imp_free n i s up there = rw (there, up) refl

does_tell : (hosts : List Host) (lines round i : ℕ) (n : Net) → Does hosts lines n (telling round i n) (at_imp (imp_at n.imps i) i route n)
does_tell hosts lines round i n = λ h. by h (standing n i h.placed) where
  by : Held hosts lines n → Standing n i → Goes (traced hosts lines) (running n) (telling round i n) (Ok tt) (running (at_imp (imp_at n.imps i) i route n))
  by h (Up s up there works) =
      subst (λ (b : Bool). Goes (traced hosts lines) (running n) (if b then calling round (net.Route i) n else no_course n) (Ok tt) (running (at_imp (imp_at n.imps i) i route n))) (sym works)
      (does_call hosts lines round n _ (imp_free n i s up there) (at_log n i _ route) h)
  by h (Down down idle) =
      subst (λ (b : Bool). Goes (traced hosts lines) (running n) (if b then calling round (net.Route i) n else no_course n) (Ok tt) (running (at_imp (imp_at n.imps i) i route n))) (sym idle)
      (does_nothing hosts lines n _ (ap (λ (o : Option State). at_imp o i route n) down) h)

does_send : (hosts : List Host) (lines round i : ℕ) (n : Net) → Does hosts lines n (sending round i n) (at_imp (imp_at n.imps i) i resend n)
does_send hosts lines round i n = λ h. by h (standing n i h.placed) where
  m : Net
  m = at_imp (imp_at n.imps i) i resend n

  sent : Held hosts lines n → (b : Bool) → can_resend n i ≡ b → Goes (traced hosts lines) (running n) (if b then calling round (net.Resend i) n else no_course n) (Ok tt) (running m) → Goes (traced hosts lines) (running n) (sending round i n) (Ok tt) (running m)
  sent h b e k = subst (λ (b : Bool). Goes (traced hosts lines) (running n) (if b then calling round (net.Resend i) n else no_course n) (Ok tt) (running m)) (sym e) k

  holding : Held hosts lines n → (s : State) → imp_at n.imps i ≡ Some s → is_imp n i ≡ true → (b : Bool) → holds_packet s ≡ b → can_resend n i ≡ b → Goes (traced hosts lines) (running n) (sending round i n) (Ok tt) (running m)
  holding h s up there true e can = sent h true can (does_call hosts lines round n _ (imp_free n i s up there) (at_log n i _ resend) h)
  holding h s up there false e can = sent h false can (does_nothing hosts lines n m (ap (λ (o : Option State). at_imp o i resend n) up ∙ none_resent n i s up e) h)

  by : Held hosts lines n → Standing n i → Goes (traced hosts lines) (running n) (sending round i n) (Ok tt) (running m)
  by h (Up s up there works) = holding h s up there _ refl (ap (λ (b : Bool). b && says holds_packet (imp_at n.imps i)) works ∙ ap (λ (o : Option State). says holds_packet o) up)
  by h (Down down idle) =
      sent h false (ap (λ (b : Bool). b && says holds_packet (imp_at n.imps i)) idle)
      (does_nothing hosts lines n m (ap (λ (o : Option State). at_imp o i resend n) down) h)

does_refresh : (hosts : List Host) (lines round i : ℕ) (n : Net) → Does hosts lines n (refreshing round i n) (refreshed n i)
does_refresh hosts lines round i n =
    let told : Net = at_imp (imp_at n.imps i) i route n in
    does_then hosts lines n told _ _ (sending round i) (does_tell hosts lines round i n) (does_send hosts lines round i told)

does_refresh_all : (hosts : List Host) (lines round : ℕ) (numbers : List ℕ) (n : Net) → Does hosts lines n (all_refreshing round numbers n) (all_refreshed numbers n)
does_refresh_all hosts lines round [] n = does_none hosts lines n
does_refresh_all hosts lines round (i ∷ numbers) n =
    does_then hosts lines n _ _ _ (all_refreshing round numbers) (does_refresh hosts lines round i n) (does_refresh_all hosts lines round numbers (refreshed n i))

-- ---- lines deliver

no_frames_there : (d : Direction) → length (frames_on d no_wire) ≡ 0
no_frames_there way.Forward = refl
no_frames_there way.Back = refl

-- where a frame is live, the line is there
frame_free : (n : Net) (l : ℕ) (d : Direction) → 0 < live_frames n l d → frame_refusal n l d 0 ≡ None
frame_free n l d live = by (nat_lt l (length n.lines)) refl where
  by : (b : Bool) → nat_lt l (length n.lines) ≡ b → frame_refusal n l d 0 ≡ None
  by true there = rw (there, lt-ltb 0 (live_frames n l d) live) refl
  by false none =
      let past : length n.lines ≤ l = grind (arith, nat_tests, none) in
      let away : wire_at n.lines l ≡ no_wire = get_or_past n.lines l no_wire past in
      let empty : live_frames n l d ≡ 0 = ap (λ (w : Wire). length (frames_on d w)) away ∙ no_frames_there d in
      absurd (omega (arith, live, empty))

-- a frame to an IMP that is down changes nothing
none_heard : (n : Net) (l : ℕ) (d : Direction) (o : Option Frame) → imp_at n.imps (far_end d (wire_at n.lines l)) ≡ None → delivered n l d o ≡ n
none_heard n l d None down = refl
none_heard n l d (Some f) down = ap (λ (s : Option State). at_imp s (far_end d (wire_at n.lines l)) (λ s. from_line s (port_of n.lines (far_end d (wire_at n.lines l)) l) f) n) down

does_deliver : (hosts : List Host) (lines round l : ℕ) (d : Direction) (n : Net) → 0 < live_frames n l d → Does hosts lines n (delivering round l d n) (deliver n l d 0)
does_deliver hosts lines round l d n live = λ h. by h (imp_at n.imps (far_end d (wire_at n.lines l))) refl where
  m : Net
  m = deliver n l d 0

  by : Held hosts lines n → (o : Option State) → imp_at n.imps (far_end d (wire_at n.lines l)) ≡ o → Goes (traced hosts lines) (running n) (delivering round l d n) (Ok tt) (running m)
  by h None down =
      subst (λ (b : Bool). Goes (traced hosts lines) (running n) (if b then calling round (net.Deliver l d 0) n else no_course n) (Ok tt) (running m)) (sym (ap (λ (o : Option State). imp_is_up o) down))
      (does_nothing hosts lines n m (none_heard n l d _ down) h)
  by h (Some s) up =
      subst (λ (b : Bool). Goes (traced hosts lines) (running n) (if b then calling round (net.Deliver l d 0) n else no_course n) (Ok tt) (running m)) (sym (ap (λ (o : Option State). imp_is_up o) up))
      (does_call hosts lines round n _ (frame_free n l d live) (delivered_log n l d _) h)

does_drop : (hosts : List Host) (lines round l : ℕ) (d : Direction) (n : Net) → 0 < live_frames n l d → Does hosts lines n (dropping round l d n) (drop_frame n l d 0)
does_drop hosts lines round l d n live = does_call hosts lines round n _ (frame_free n l d live) refl

does_carry : (hosts : List Host) (lines round l : ℕ) (d : Direction) (frames : ℕ) (n : Net) → Does hosts lines n (carrying round l d frames n) (carried frames l d n)
does_carry hosts lines round l d zero n = does_none hosts lines n
does_carry hosts lines round l d (suc frames) n = by (λ k. does_carry hosts lines round l d frames k) (nat_lt 0 (live_frames n l d)) refl where
  m : Net
  m = deliver n l d 0

  o : Net
  o = drop_frame m l d 0

  by : ((k : Net) → Does hosts lines k (carrying round l d frames k) (carried frames l d k)) → (b : Bool) → nat_lt 0 (live_frames n l d) ≡ b → Does hosts lines n (carrying round l d (suc frames) n) (carried frames l d o)
  by more true e =
      let live : 0 < live_frames n l d = grind (arith, nat_tests, e) in
      let one : Does hosts lines n (then_course (delivering round l d n) (dropping round l d)) o =
      does_then hosts lines n m o _ (dropping round l d) (does_deliver hosts lines round l d n live) (does_drop hosts lines round l d m (still_live n l d _ live)) in
      subst (λ (b : Bool). Does hosts lines n (if b then then_course (then_course (delivering round l d n) (dropping round l d)) (carrying round l d frames) else no_course n) (carried frames l d o)) (sym e)
      (does_then hosts lines n o _ _ (carrying round l d frames) one (more o))
  by more false e =
      let none : live_frames n l d ≡ 0 = grind (arith, nat_tests, e) in
      subst (λ (b : Bool). Does hosts lines n (if b then then_course (then_course (delivering round l d n) (dropping round l d)) (carrying round l d frames) else no_course n) (carried frames l d o)) (sym e)
      (does_nothing hosts lines n (carried frames l d o) (none_carried (suc frames) n l d none))

does_turns : (hosts : List Host) (lines round : ℕ) (numbers : List ℕ) (n : Net) → Does hosts lines n (all_turning round numbers n) (all_turns numbers n)
does_turns hosts lines round [] n = does_none hosts lines n
does_turns hosts lines round (l ∷ numbers) n =
    let there : Net = turn_of l way.Forward n in
    let back : Net = turn_of l way.Back there in
    let one : Does hosts lines n (then_course (turning round l way.Forward n) (turning round l way.Back)) back =
    does_then hosts lines n there back _ (turning round l way.Back) (does_carry hosts lines round l way.Forward (live_frames n l way.Forward) n) (does_carry hosts lines round l way.Back (live_frames there l way.Back) there) in
    does_then hosts lines n back _ _ (all_turning round numbers) one (does_turns hosts lines round numbers back)

-- a quiet round
lines_part : ℕ → Net → Course Net
lines_part round n = all_turning round (numbers_from 0 (length n.lines)) n

numbers_all : (count : ℕ) → numbers_from 0 count ≡ range_with_len 0 count
numbers_all count = let same : count - 0 ≡ count = omega arith in ap (λ k. range_with_len 0 k) same

does_quiet : (hosts : List Host) (lines round : ℕ) (n : Net) → Does hosts lines n (then_course (all_refreshing round (numbers_from 0 (length n.imps)) n) (lines_part round)) (quiet_round n)
unfolding lines_part
does_quiet hosts lines round n =
    let m : Net = all_refreshed (range_with_len 0 (length n.imps)) n in
    let one : Does hosts lines n (all_refreshing round (numbers_from 0 (length n.imps)) n) m =
    subst (λ (is : List ℕ). Does hosts lines n (all_refreshing round is n) m) (sym (numbers_all _)) (does_refresh_all hosts lines round _ n) in
    λ h.
    let g : Goes (traced hosts lines) (running n) (all_refreshing round (numbers_from 0 (length n.imps)) n) (Ok tt) (running m) = one h in
    let many : numbers_from 0 (length m.lines) ≡ range_with_len 0 (length n.lines) = ap (λ k. numbers_from 0 k) (g.holds.as_many ∙ sym h.as_many) ∙ numbers_all _ in
    goes_then _ _ _ _ _ (lines_part round) _ _ g
    (subst (λ (ls : List ℕ). Goes (traced hosts lines) (running m) (all_turning round ls m) (Ok tt) (running (quiet_round n))) (sym many) (does_turns hosts lines round _ m g.holds))

-- ---- takings

-- a call that was refused, in a calm that continues
pub refused : (refusal : Option CarrierFault) (grows : Bool) (old new : Kept) (f : CarrierFault) → Fails refusal grows (is_memory f) f old new → (is_halt f || is_memory f) ≡ false → (refusal ≡ Some f) × (new ≡ old)
refused refusal grows old new f k calm = by (is_memory f) (or_second _ _ calm) k where
  or_second : (a b : Bool) → (a || b) ≡ false → b ≡ false
  or_second true b h = absurd (cc)
  or_second false b h = h

  by : (b : Bool) → b ≡ false → Fails refusal grows b f old new → (refusal ≡ Some f) × (new ≡ old)
  by true e k = absurd (cc)
  by false e k = k

-- which the subnet itself refuses
pub refusal_is : (stopped : Bool) (o : Option CarrierFault) (f : CarrierFault) → first_of stopped fault.Stopped o ≡ Some f → is_halt f ≡ false → o ≡ Some f
refusal_is true o f e apart = let is : fault.Stopped ≡ f = some_is e in absurd (false≢true (sym apart ∙ ap is_halt (sym is)))
refusal_is false o f e apart = e

-- and which is accepted only while it runs
accepts : (stopped : Bool) (o : Option CarrierFault) → first_of stopped fault.Stopped o ≡ None → (stopped ≡ false) × (o ≡ None)
accepts true o e = absurd (not_some (sym e))
accepts false o e = (refl, e)

as_running : (k : Kept) → k.stopped ≡ false → running k.net ≡ k
as_running k e = ap (λ (b : Bool). record { net = k.net; stopped = b }) (sym e)

takes_so : (hosts : List Host) (lines : ℕ) → AllTakeSo (quieted hosts lines)
takes_so hosts lines old h answer new held t goes = by answer t goes where
  no_gift : (b : Bool) → (b && false) ≡ false
  no_gift true = refl
  no_gift false = refl

  by : (a : Result (Option Inbound) CarrierFault) → subnet_calls.takes old h a new → GoesOn (calmly (outcome_of a)) → TakesSo (quieted hosts lines) old h a new
  by (Ok (Some i)) t goes =
      let run : (old.stopped ≡ false) × (take_refusal old.net h ≡ None) = accepts _ _ t.0 in
      let log : new.net.log ≡ crossing_of i ∷ old.net.log =
      ap (λ (k : Kept). k.net.log) t.1.1 ∙ ap (λ o. crossings_of o ++ (at_imp (imp_at old.net.imps h.imp) h.imp (λ s. to_host s h.host) old.net).log) (sym t.1.0)
      ∙ ap (λ (log : List Crossing). crossing_of i ∷ log) (at_log _ h.imp _ _) in
      let once : Happens subnet_calls old (event.Take h) new (Crossed (crossing_of i) ∷ []) = record {
        outcome = Ok tt;
        gives = (Ok (Some i), t, refl);
        goes_on = tt;
        crossings = crossing_of i ∷ [];
        grown = log;
        lines = refl;
      } in (
        ap (λ o. is_none o && is_some (taken_by_host old.net h)) run.1 ∙ ap (λ (o : Option Inbound). is_some o) (sym t.1.0),
        λ round. record {
          ok = refl;
          left = ap (λ (k : Kept). k.net) t.1.1;
          holds = (
            held_after hosts lines old new _ _ tt once held.0,
            subst (λ (k : Kept). IsSettled k.net) (sym t.1.1) (take_settled _ h held.1),
          );
          run = run_one subnet_calls old new _ (crossing_of i ∷ []) once log;
        },
      )
  by (Ok None) t goes =
      let run : (old.stopped ≡ false) × (take_refusal old.net h ≡ None) = accepts _ _ t.0 in (
        ap (λ (o : Option Inbound). is_none (take_refusal old.net h) && is_some o) (sym t.1.0) ∙ no_gift _,
        t.1.1 ∙ ap (λ (n : Net). running n) (none_taken _ h held.1 (sym t.1.0)) ∙ as_running old run.0,
      )
  by (Err f) t goes =
      let calm : (is_halt f || is_memory f) ≡ false = goes_calmly f goes in
      let w = refused _ _ old new f t calm in
      let some : take_refusal old.net h ≡ Some f = refusal_is _ _ f w.0 (or_first _ _ calm) in
      (ap (λ o. is_none o && is_some (taken_by_host old.net h)) some, w.1)

-- ---- rounds

goes_quiet : (hosts : List Host) (lines round : ℕ) (old : Kept) (q : Result (Unit {0}) CarrierFault) (mid : Kept) → Held hosts lines old.net → Quiet subnet_calls old q mid → GoesOn q
    → Goes (traced hosts lines) old (then_course (all_refreshing round (numbers_from 0 (length old.net.imps)) old.net) (lines_part round)) q mid
goes_quiet hosts lines round old q mid held (Ok done, rounds, is) goes =
    let run : (old.stopped ≡ false) × (None ≡ None) = accepts _ None rounds.0 in
    let course : Course Net = then_course (all_refreshing round (numbers_from 0 (length old.net.imps)) old.net) (lines_part round) in
    let quiet : Goes (traced hosts lines) (running old.net) course (Ok tt) (running (quiet_round old.net)) = does_quiet hosts lines round _ held in
    subst (λ (r : Result (Unit {0}) CarrierFault). Goes (traced hosts lines) old course r mid) (sym is)
    (subst (λ (k : Kept). Goes (traced hosts lines) old course (Ok tt) k) (sym rounds.1)
    (subst (λ (k : Kept). Goes (traced hosts lines) k course (Ok tt) (running (quiet_round old.net))) (as_running old run.0) quiet))
goes_quiet hosts lines round old q mid held (Err f, rounds, is) goes =
    let calm : (is_halt f || is_memory f) ≡ false = goes_calmly f (subst GoesOn is goes) in
    let w = refused _ _ old mid f rounds calm in
    let bad : None ≡ Some f = refusal_is _ None f w.0 (or_first _ _ calm) in
    absurd (not_some bad)

pub goes_round : (hosts : List Host) (lines : ℕ) → AllRoundsGo (traced hosts lines) round_of
unfolding lines_part
goes_round hosts lines round old r new held (q, mid, first, more) goes =
    let imps : Course Net = all_refreshing round (numbers_from 0 (length old.net.imps)) old.net in
    let course : Course Net = then_course imps (lines_part round) in
    let quiet : Goes (traced hosts lines) (running old.net) course (Ok tt) (running (quiet_round old.net)) = does_quiet hosts lines round _ held in
    subst (λ (c : Course Net). Goes (traced hosts lines) old c r new) (then_twice imps (lines_part round) (round_of_hosts round))
    (goes_chain _ (Quiet subnet_calls) _ course _ old new r
    (λ q mid k g. goes_quiet hosts lines round old q mid held k g)
    (λ q mid m k g.
    let settled : IsSettled mid.net = subst IsSettled (quiet.left ∙ sym m.left) (quiet_settled old.net) in
    subst (λ (hs : List Host). Goes (traced hosts lines) mid (all_takings from_subnet round hs mid.net) r new) (held.same_hosts ∙ sym m.holds.same_hosts)
    (goes_on hosts lines mid _ r new
    (goes_all _ (takes_so hosts lines) round _ mid r new (m.holds, settled) k g)))
    q mid first more goes)

-- ---- the law

pub held_by : (n : Net) → IsPlaced n → Held n.hosts (length n.lines) n
held_by n placed = record { placed = placed; same_hosts = refl; as_many = refl }

pub elementary : (old new : Kept) (e : RawEvent) (shown : List Shown) → IsPlaced old.net → Happens subnet_calls old e new shown → Replays subnet_calls old (events_of (elements_of old.net e)) new shown
elementary old new e shown placed k =
    elementary_of _ round_of (goes_round _ _) old new e shown (held_by _ placed) k

pub placed_after : (old new : Kept) (e : RawEvent) (shown : List Shown) → IsPlaced old.net → Happens subnet_calls old e new shown → IsPlaced new.net
placed_after old new (event.Out m) shown is k = placed old new _ shown is tt k
placed_after old new (event.Take h) shown is k = placed old new _ shown is tt k
placed_after old new (event.Net e) shown is k = placed old new _ shown is tt k
placed_after old new (event.Calm rounds) shown is k =
    let held : Held old.net.hosts (length old.net.lines) new.net =
    calm_holds _ round_of (goes_round _ _) old new rounds shown (held_by _ is) k in
    held.placed

pub placed_later : (events : List RawEvent) (old new : Kept) (shown : List Shown) → IsPlaced old.net → Replays subnet_calls old events new shown → IsPlaced new.net
placed_later [] old new shown is k = subst (λ (b : Kept). IsPlaced b.net) (sym k.0) is
placed_later (e ∷ events) old new shown is (mid, first, rest, one, more, whole) = placed_later events mid new rest (placed_after old mid e first is one) more

-- ---- each is one call

abbrev Once : RawEvent → Type 0
Once e = IsOneCall e

pub once : (e : RawEvent) → IsOfRound e → IsOneCall e
once (event.Out m) is = tt
once (event.Take h) is = tt
once (event.Net e) is = tt
once (event.Calm rounds) is = absurd is

-- those of a quiet round are calls of IMPs and of lines

if_quiet : (b : Bool) (c : Course Net) (n : Net) → AllEvents IsOfRound c → AllEvents IsOfRound (if b then c else no_course n)
if_quiet true c n h = h
if_quiet false c n h = none_events IsOfRound n

call_quiet : (round : ℕ) (e : NetEvent) (n : Net) → IsOfRound (event.Net e) → AllEvents IsOfRound (calling round e n)
call_quiet round e n is = one_events IsOfRound round _ (stepped n e) is

refresh_quiet : (round : ℕ) (numbers : List ℕ) (n : Net) → AllEvents IsOfRound (all_refreshing round numbers n)
refresh_quiet round [] n = none_events IsOfRound n
refresh_quiet round (i ∷ numbers) n =
    then_events IsOfRound _ (all_refreshing round numbers)
    (then_events IsOfRound (telling round i n) (sending round i) (if_quiet (is_working n i) _ n (call_quiet round (net.Route i) n tt)) (λ m. if_quiet (can_resend m i) _ m (call_quiet round (net.Resend i) m tt)))
    (λ m. refresh_quiet round numbers m)

carry_quiet : (round l : ℕ) (d : Direction) (frames : ℕ) (n : Net) → AllEvents IsOfRound (carrying round l d frames n)
carry_quiet round l d zero n = none_events IsOfRound n
carry_quiet round l d (suc frames) n =
    if_quiet (nat_lt 0 (live_frames n l d)) (then_course (then_course (delivering round l d n) (dropping round l d)) (carrying round l d frames)) n
    (then_events IsOfRound (then_course (delivering round l d n) (dropping round l d)) (carrying round l d frames)
    (then_events IsOfRound (delivering round l d n) (dropping round l d) (if_quiet (is_heard n l d) _ n (call_quiet round (net.Deliver l d 0) n tt)) (λ m. call_quiet round (net.Drop l d 0) m tt))
    (λ m. carry_quiet round l d frames m))

turns_quiet : (round : ℕ) (lines : List ℕ) (n : Net) → AllEvents IsOfRound (all_turning round lines n)
turns_quiet round [] n = none_events IsOfRound n
turns_quiet round (l ∷ lines) n =
    then_events IsOfRound _ (all_turning round lines)
    (then_events IsOfRound (turning round l way.Forward n) (turning round l way.Back) (carry_quiet round l way.Forward (live_frames n l way.Forward) n) (λ m. carry_quiet round l way.Back (live_frames m l way.Back) m))
    (λ m. turns_quiet round lines m)

refresh_once : (round : ℕ) (numbers : List ℕ) (n : Net) → AllEvents Once (all_refreshing round numbers n)
refresh_once round numbers n = All-weaker IsOfRound Once once (events_of (all_refreshing round numbers n).elements) (refresh_quiet round numbers n)

turns_once : (round : ℕ) (lines : List ℕ) (n : Net) → AllEvents Once (all_turning round lines n)
turns_once round lines n = All-weaker IsOfRound Once once (events_of (all_turning round lines n).elements) (turns_quiet round lines n)

round_once : (round : ℕ) (n : Net) → AllEvents Once (round_of round n)
round_once round n =
    then_events Once (all_refreshing round (numbers_from 0 (length n.imps)) n) (round_from_line round 0) (refresh_once round (numbers_from 0 (length n.imps)) n)
    (λ m. then_events Once (all_turning round (numbers_from 0 (length m.lines)) m) (round_of_hosts round) (turns_once round _ m) (λ o. all_takings_events Once from_subnet (λ h. tt) round o.hosts o))

pub all_one_call : (n : Net) (e : RawEvent) → All IsOneCall (events_of (elements_of n e))
all_one_call n (event.Out m) = All-cons IsOneCall (event.Out m) [] tt (All-nil IsOneCall)
all_one_call n (event.Take h) = All-cons IsOneCall (event.Take h) [] tt (All-nil IsOneCall)
all_one_call n (event.Net e) = All-cons IsOneCall (event.Net e) [] tt (All-nil IsOneCall)
all_one_call n (event.Calm rounds) = rounds_events Once round_of (λ round m. round_once round m) 1 rounds n

-- ---- a quiet round by itself

-- is calls of IMPs and of lines, by which nothing crosses
pub quiet_replays : (n : Net) → IsPlaced n → (events : List RawEvent) × All IsOfRound events × Replays subnet_calls (running n) events (running (quiet_round n)) []
unfolding lines_part
quiet_replays n placed =
    let imps : Course Net = all_refreshing 0 (numbers_from 0 (length n.imps)) n in
    let course : Course Net = then_course imps (lines_part 0) in
    let g : Goes (traced n.hosts (length n.lines)) (running n) course (Ok tt) (running (quiet_round n)) = does_quiet n.hosts _ 0 n (held_by n placed) in
    let none : g.run.crossings ≡ [] = crossings_are _ [] n.log _ g.run.grown (round_log n) in (
      events_of course.elements,
      then_events IsOfRound imps (lines_part 0) (refresh_quiet 0 _ n) (λ m. turns_quiet 0 (numbers_from 0 (length m.lines)) m),
      subst (λ (cs : List Crossing). Replays subnet_calls (running n) (events_of course.elements) (running (quiet_round n)) (shown_crossings cs)) none g.run.replays,
    )
