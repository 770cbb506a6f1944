-- After any replay among strangers, the lives of a world's book are those that its crossings and notices make.
use Rattle.command_line.proofs.Common.{Crossing, Host, WorldEvent, Notice, Reported, Request, AreLived, EndsIn, Replays, StopsIn}
use Rattle.world_replay.specs.Replay.{EventGives}
use Rattle.std.proofs.Common.{ℕ, List, [], ◌∷◌, sym, subst, length}
use Rattle.interface.specs.Calls.{Calls, crossing_of, step_crossings}
use Rattle.net_sim.specs.World.{WorldState, CalmGives, TurnGives, done_by, noticed, services_of, turn_of, world_moved}
use Rattle.net_sim.specs.declared.event.Event.{Event}
use Rattle.interface.specs.declared.crossing.Crossing.TheVariants as crossing
use Rattle.host_services.specs.Services.{ServiceDeskState, opening_desk}
use Rattle.host_services.specs.Turns as services
use Rattle.sockets.specs.Accepting.{accepted}
use Rattle.sockets.specs.Pairs.{NcpState}
use Rattle.sockets.specs.Requests.{served, served_notices}
use Rattle.sockets.specs.Sending.{offered}
use Rattle.net_sim.proofs.lemmas.{Answered, Ways, calm_keeps, each_way, turn_way, unshown}
use Rattle.net_sim.specs.Book.{Kept, all_asked, all_crossed, all_reported, all_told, asked, crossed}
use Rattle.net_sim.specs.Steps.{StepGives, opening_mixed}
use Rattle.world_replay.specs.Output.{Shown}
use Rattle.world_script.specs.declared.event.WorldEvent.TheVariants as script
use Rattle.command_line.proofs.Lived.{Lived, all_lived, asked_lived, crossed_lived, kept_lived}

-- ---- what is done to a book

all_cross : (cs : List Crossing) (k : Kept) → Lived k → Lived (all_crossed cs k)
all_cross [] k l = l
all_cross (c ∷ cs) k l = crossed_lived c (all_crossed cs k) (all_cross cs k l)

all_ask : (h : Host) (rs : List Request) (k : Kept) → Lived k → Lived (all_asked h rs k)
all_ask h [] k l = l
all_ask h (r ∷ rs) k l = all_ask h rs (asked h r k) (asked_lived h r k l)

report : (rs : List Reported) (k : Kept) → Lived k → Lived (all_reported rs k)
report rs k l = record { placed = l.placed; lived = l.lived }

done : (h : Host) (d : ServiceDeskState) (k : Kept) → Lived k → Lived (done_by h d k)
done h d k l = report d.reports (all_asked h d.asked k) (all_ask h d.asked k l)

module _ {C : Type 0} (calls : Calls C) where
  heard : (h : Host) (turn : NcpState × List Notice) (w : WorldState C) (k : Kept) → Lived k
      → Lived (done_by h (turn_of h (noticed w) (services_of h w.services) turn).1 (all_told h turn.1 k))
  heard h turn w k l = done h (turn_of h (noticed w) (services_of h w.services) turn).1 (all_told h turn.1 k)
      (all_lived h turn.1 k l)

  moved : (c : C) (h : Host) (x : Crossing) (turn : NcpState × List Notice) (w : WorldState C) → Lived w.kept
      → Lived (world_moved c h x turn w).kept
  moved c h x turn w l = heard h turn w (crossed x w.kept) (crossed_lived x w.kept l)

  -- ---- one event of hosts with programs, and quiet rounds

  abbrev Keeps : WorldState C → Answered → WorldState C → Type 0
  Keeps old r new = Lived old.kept → Lived new.kept

  ways : Ways calls (λ c d cs. Unit {0}) Keeps
  ways = record {
    left = λ r w own l. l;
    halted = λ c cs old r new running cross one h l. subst Lived (sym h.kept) l;
    passed = λ e c old running cross l. l;
    quiet = λ c old running cross l. l;
    sent = λ c h s m old running has next cross l.
        moved c h (crossing.Out m) (offered s (length old.kept.book.crossings)) old l;
    took = λ c h s i old running has cross l.
        moved c h (crossing_of i) (accepted s i (length old.kept.book.crossings)) old l;
    turned = λ c e old running cross l. all_cross (step_crossings (calls.seen old.carrier) e) old.kept l;
    served = λ h q s old running has is l.
        heard h (served s q, served_notices s q) old (asked h q old.kept) (asked_lived h q old.kept l);
    server = λ h listen base s old running has l.
        done h (services.server_begun listen base (services_of h old.services) (opening_desk h (noticed old) s)).1
        old.kept l;
    user = λ h peer listen own s old running has l.
        done h (services.user_begun peer listen own (services_of h old.services) (opening_desk h (noticed old) s)).1
        old.kept l;
  }

  turn : (e : Event) (old : WorldState C) (r : Answered) (new : WorldState C) → TurnGives calls old e r new
      → Lived old.kept → Lived new.kept
  turn e old r new h l = turn_way calls (λ c d cs. Unit {0}) (unshown calls) Keeps ways e (λ is w k. k) old r new h l

  calm : (rounds : ℕ) (old : WorldState C) (r : Answered) (new : WorldState C) → CalmGives calls rounds old r new
      → Lived old.kept → Lived new.kept
  calm rounds old r new h l = calm_keeps calls (λ w. Lived w.kept) (λ e. Unit {0}) tt (λ x. tt) (λ x. tt)
      (λ e v q w named k g. turn e v q w g k) rounds old r new l h

  -- ---- one event, of strangers as well

  step : (e : Event) (old : WorldState C) (r : Answered) (new : WorldState C) → StepGives calls old e r new
      → Lived old.kept → Lived new.kept
  step e old r new h l = each_way calls (λ c d cs. Unit {0}) (unshown calls) Keeps ways
      (λ c x w on cross k. crossed_lived x w.kept k) (λ f w of k. k) e old r new h l

  one : (e : WorldEvent) (old : WorldState C) (r : Answered) (new : WorldState C) → EventGives calls old e r new
      → Lived old.kept → Lived new.kept
  one (script.Happen e) old r new h = step e old r new h
  one (script.Calm rounds) old r new h = calm rounds old r new h

  -- ---- several

  all : (events : List WorldEvent) (old new : WorldState C) (shows : List Shown)
      → Replays calls old events new shows → Lived old.kept → Lived new.kept
  all [] old new shows h l = subst (λ (s : WorldState C). Lived s.kept) (sym h.0) l
  all (e ∷ events) old new shows (mid, first, rest, happens, turn, lines) l =
      all events mid new rest turn (one e old happens.outcome mid happens.gives l)

  -- from a world's opening, to the end of a script or to where memory ran out
  pub replayed_lived : (c : C) (named : List Host) (events : List WorldEvent) (last : WorldState C)
      (shows : List Shown) → Replays calls (opening_mixed calls c named) events last shows
      → AreLived last.kept.book.crossings last.kept.book.notices last.kept.book.lives
  replayed_lived c named events last shows h =
      (all events (opening_mixed calls c named) last shows h (kept_lived [])).lived

  pub stopped_lived : (c : C) (named : List Host) (events : List WorldEvent) (last : WorldState C)
      (shows : List Shown) → EndsIn calls (StopsIn calls) (opening_mixed calls c named) events last shows
      → AreLived last.kept.book.crossings last.kept.book.notices last.kept.book.lives
  stopped_lived c named events last shows h =
      (one h.last h.mid h.goes.outcome last h.goes.gives
      (all h.done (opening_mixed calls c named) h.mid h.front h.before (kept_lived []))).lived
