-- The book has what crossed, after every list of events.
use Rattle.net_sim.proofs.Common.{◌≡◌, ℕ, Bool, true, false, if◌then◌else◌, List, [], ◌∷◌, ◌++◌, length, Ok, refl, ap, sym, subst, ◌∙◌, Calls, Seen, ShowsRefusal, ShowsCrossings, halted, is_memory, crossing_of, step_crossings, Host, SafeMessages, CarrierFault, Crossing, run_below, safe_messages, NcpState, served, served_notices, offered, accepted, Notice, Request, ServiceDeskState, ServicesState, opening_desk, server_begun, user_begun, Kept, crossed, all_crossed, book_told, all_told, asked, all_asked, shown, AreOfOneEvent, WorldState, opening_world, services_of, noticed, tended, with_carrier, world_moved, served_at, Halts, StepGives, TurnGives, RunGives, CalmGives}
use Rattle.interface.specs.Mailboxes.{IsRun}
use Rattle.interface.specs.declared.crossing.Crossing.TheVariants as crossing
use Rattle.net_sim.specs.Carriers.{IsBooked}
use Rattle.net_sim.proofs.Books.Always.{all_named, calm_keeps, run_keeps}
use Rattle.net_sim.proofs.Books.EachEvent.{Answered, Shows, Ways, turn_way}
use Rattle.net_sim.proofs.Books.Strangers.{each_way}
use Rattle.net_sim.specs.Steps.{opening_among}
use Rattle.net_sim.specs.World.{Event, turn_of, changed}

-- ---- the crossings of what is kept

pub told_crossings : (h : Host) (ns : List Notice) (k : Kept) → (all_told h ns k).book.crossings ≡ k.book.crossings
told_crossings h [] k = refl
told_crossings h (n ∷ ns) k = told_crossings h ns (book_told h n k)

pub crossed_crossings : (cs : List Crossing) (k : Kept) → (all_crossed cs k).book.crossings ≡ cs ++ k.book.crossings
crossed_crossings [] k = refl
crossed_crossings (c ∷ cs) k = ap (λ (xs : List Crossing). c ∷ xs) (crossed_crossings cs k)

pub asked_crossings : (h : Host) (rs : List Request) (k : Kept) → (all_asked h rs k).book.crossings ≡ k.book.crossings
asked_crossings h [] k = refl
asked_crossings h (r ∷ rs) k = asked_crossings h rs (asked h r k)

-- what a program reported, and what its host's services did then
pub heard_crossings : (h : Host) (ns : List Notice) (rs : List Request) (k : Kept) → (all_asked h rs (all_told h ns k)).book.crossings ≡ k.book.crossings
heard_crossings h ns rs k = asked_crossings h rs (all_told h ns k) ∙ told_crossings h ns k

-- a refusal crosses nothing
same_log : (b : Bool) (s : Seen) → (if b then halted s else s).log ≡ s.log
same_log true s = refl
same_log false s = refl

refused_log : (old : Seen) (e : CarrierFault) (new : Seen) → ShowsRefusal old e new → new.log ≡ old.log
refused_log old e new s = ap (λ (x : Seen). x.log) s.shown ∙ same_log (is_memory e) old

grown_log : (old : Seen) (cs : List Crossing) (new : Seen) → ShowsCrossings old cs new → new.log ≡ cs ++ old.log
grown_log old cs new s = ap (λ (x : Seen). x.log) s.shown

-- ---- the messages

-- where the carrier's log is a run of the mailboxes, a message answered by RFNM was taken exactly once, and none is taken twice
pub booked_messages : {C : Type 0} (seen : C → Seen) (w : WorldState C) → IsBooked seen w → IsRun (seen w.carrier).hosts (seen w.carrier).log → SafeMessages w.kept.book.crossings
booked_messages seen w b is =
    let hosts : List Host = (seen w.carrier).hosts in
    let run : IsRun hosts (b.unbooked ++ w.kept.book.crossings) = subst (λ (log : List Crossing). IsRun hosts log) b.book is in
    safe_messages hosts w.kept.book.crossings (run_below hosts b.unbooked w.kept.book.crossings run)

-- ---- one event

module _ {C : Type 0} (own : Calls C) where
  abbrev calls : Calls C
  calls = shown own

  -- what crossed by a call is on the log
  abbrev Logged : C → C → List Crossing → Type 0
  Logged c d cs = (own.seen d).log ≡ cs ++ (own.seen c).log

  log_shown : Shows (shown own) Logged
  log_shown = record {
    none = λ c. refl;
    offered = λ c d m done k. grown_log (own.seen c) (crossing.Out m ∷ []) (own.seen d) k.1;
    unoffered = λ c d m e k. refused_log (own.seen c) e (own.seen d) k.1;
    took = λ c d h i k. grown_log (own.seen c) (crossing_of i ∷ []) (own.seen d) k.1.0;
    took_none = λ c d h k. grown_log (own.seen c) [] (own.seen d) k.1;
    untaken = λ c d h e k. refused_log (own.seen c) e (own.seen d) k.1;
    stepped = λ c d e done k. grown_log (own.seen c) (step_crossings (own.seen c) e) (own.seen d) k.1;
    unstepped = λ c d e f k. refused_log (own.seen c) f (own.seen d) k.1;
    quiet = λ c d done k. grown_log (own.seen c) [] (own.seen d) k.1;
    unquiet = λ c d f k. refused_log (own.seen c) f (own.seen d) k.1;
  }

  abbrev Books : WorldState C → Answered → WorldState C → Type 0
  Books old r new = IsBooked own.seen old → IsBooked own.seen new

  -- before the event the book has all of the log
  mine : (old : WorldState C) → IsBooked own.seen old → old.stopped ≡ false → (own.seen old.carrier).log ≡ old.kept.book.crossings
  mine old b running = b.book ∙ ap (λ (xs : List Crossing). xs ++ old.kept.book.crossings) (b.all running)

  -- what is done books what crossed
  done_books : (old : WorldState C) (c : C) (cs : List Crossing) (done : WorldState C) → IsBooked own.seen old → old.stopped ≡ false → Logged old.carrier c cs
      → done.carrier ≡ c → done.kept.book.crossings ≡ cs ++ old.kept.book.crossings → IsBooked own.seen done
  done_books old c cs done b running log carrier kept = record {
    unbooked = [];
    book = ap (λ (x : C). (own.seen x).log) carrier ∙ log ∙ ap (λ (xs : List Crossing). cs ++ xs) (mine old b running) ∙ sym kept;
    all = λ running. refl;
    one = tt;
  }

  -- memory runs out after this crossed
  halt_books : (c : C) (cs : List Crossing) (old : WorldState C) (r : Answered) (new : WorldState C) → old.stopped ≡ false → Logged old.carrier c cs
      → AreOfOneEvent cs → Halts c old r new → IsBooked own.seen old → IsBooked own.seen new
  halt_books c cs old r new running log one h b = record {
    unbooked = cs;
    book = ap (λ (x : C). (own.seen x).log) h.carrier ∙ log ∙ ap (λ (xs : List Crossing). cs ++ xs) (mine old b running) ∙ ap (λ (k : Kept). cs ++ k.book.crossings) (sym h.kept);
    all = λ on. absurd (let t : true ≡ false = sym h.stopped ∙ on in cc);
    one = one;
  }

  -- a host's program did something, by which this crossed
  moved_books : (c : C) (h : Host) (x : Crossing) (turn : NcpState × List Notice) (old : WorldState C) → old.stopped ≡ false → Logged old.carrier c (x ∷ [])
      → IsBooked own.seen old → IsBooked own.seen (world_moved c h x turn old)
  moved_books c h x turn old running log b =
      done_books old c (x ∷ []) (world_moved c h x turn old) b running log refl
      (heard_crossings h turn.1 (turn_of h (noticed old) (services_of h old.services) turn).1.asked (crossed x old.kept))

  -- services began, and asked for something
  tended_books : (h : Host) (t : ServicesState × ServiceDeskState) (old : WorldState C) → old.stopped ≡ false → IsBooked own.seen old → IsBooked own.seen (tended h t old)
  tended_books h t old running b = done_books old old.carrier [] (tended h t old) b running refl refl (asked_crossings h t.1.asked old.kept)

  books_ways : Ways (shown own) Logged Books
  books_ways = record {
    left = λ r w own b. b;
    halted = halt_books;
    passed = λ e c old running log b. record { unbooked = []; book = log ∙ mine old b running; all = λ on. refl; one = tt };
    quiet = λ c old running log b. done_books old c [] (with_carrier c old) b running log refl refl;
    sent = λ c h s m old running has next log b. moved_books c h (crossing.Out m) (offered s (length old.kept.book.crossings)) old running log b;
    took = λ c h s i old running has log b. moved_books c h (crossing_of i) (accepted s i (length old.kept.book.crossings)) old running log b;
    turned = λ c e old running log b. done_books old c (step_crossings (own.seen old.carrier) e) (changed c (step_crossings (own.seen old.carrier) e) old) b running log refl (crossed_crossings (step_crossings (own.seen old.carrier) e) old.kept);
    served = λ h q s old running has is b. done_books old old.carrier [] (served_at h q s old) b running refl refl
        (heard_crossings h (served_notices s q) (turn_of h (noticed old) (services_of h old.services) (served s q, served_notices s q)).1.asked (asked h q old.kept));
    server = λ h listen base s old running has b. tended_books h (server_begun listen base (services_of h old.services) (opening_desk h (noticed old) s)) old running b;
    user = λ h peer listen socket s old running has b. tended_books h (user_begun peer listen socket (services_of h old.services) (opening_desk h (noticed old) s)) old running b;
  }

  pub turn_books : (e : Event) (old : WorldState C) (r : Answered) (new : WorldState C) → IsBooked own.seen old → TurnGives calls old e r new → IsBooked own.seen new
  turn_books e old r new b h = turn_way (shown own) Logged log_shown Books books_ways e (λ is w k. k) old r new h b

  -- what a stranger sends or takes
  strange_books : (c : C) (x : Crossing) (old : WorldState C) → old.stopped ≡ false → Logged old.carrier c (x ∷ []) → Books old (Ok tt) (changed c (x ∷ []) old)
  strange_books c x old running log b = done_books old c (x ∷ []) (changed c (x ∷ []) old) b running log refl refl

  pub step_books : (e : Event) (old : WorldState C) (r : Answered) (new : WorldState C) → IsBooked own.seen old → StepGives calls old e r new → IsBooked own.seen new
  step_books e old r new b h = each_way (shown own) Logged log_shown Books books_ways strange_books (λ f w of k. k) e old r new h b

  -- ---- several events

  pub run_books : (events : List Event) (old : WorldState C) (r : Answered) (new : WorldState C) → IsBooked own.seen old → RunGives calls old events r new → IsBooked own.seen new
  run_books events old r new b h = run_keeps calls (IsBooked own.seen) (λ e. Unit {0}) (λ e v q w n. step_books e v q w) events old r new (all_named events) b h

  pub calm_books : (times : ℕ) (old : WorldState C) (r : Answered) (new : WorldState C) → IsBooked own.seen old → CalmGives calls times old r new → IsBooked own.seen new
  calm_books times old r new b h = calm_keeps calls (IsBooked own.seen) (λ e. Unit {0}) tt (λ x. tt) (λ x. tt) (λ e v q w n. turn_books e v q w) times old r new b h

  -- ---- the opening

  pub among_booked : (strangers : List Host) (c : C) → (own.seen c).log ≡ [] → IsBooked own.seen (opening_among calls strangers c)
  among_booked strangers c none = record { unbooked = []; book = none; all = λ running. refl; one = tt }

  pub opening_booked : (c : C) → (own.seen c).log ≡ [] → IsBooked own.seen (opening_world calls c)
  opening_booked c none = record { unbooked = []; book = none; all = λ running. refl; one = tt }
