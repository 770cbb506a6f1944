-- After every event of a world, what services have reported is so, and all that runs is as its host was notified.
use Rattle.net_sim.proofs.Common.{◌≡◌, ℕ, Bool, true, false, if◌then◌else◌, find, List, [], ◌∷◌, ◌++◌, length, Option, Some, Ok, refl, sym, subst, ◌∙◌, All-cons, All-head, All-nil, All-tail, Calls, is_host, crossing_of, step_crossings, is_memory, Host, same_host, Crossing, Notice, accepted, NcpState, served, served_notices, offered, Request, ServiceDeskState, ServicesState, no_services, opening_desk, server_begun, user_begun, Reported, Kept, all_asked, all_crossed, all_told, asked, book_told, crossed, IsBacked, IsRunning, told_to, WorldState, ServiceSeat, all_emptied, noticed, opening_services, opening_world, served_at, serviced, services_in, services_of, tended, with_services, world_heard, world_moved, CalmGives, Halts, RunGives, StepGives, TurnGives}
use Rattle.std.proofs.Common.{All}
use Rattle.std.proofs.lemmas.List.Elements.{All-append}
use Rattle.interface.specs.declared.crossing.Crossing.TheVariants as crossing
use Rattle.interface.proofs.lemmas.{same_host-true}
use Rattle.promise.specs.declared.book.Told.{Told}
use Rattle.net_sim.specs.Reports.{AreReported, AreRunning}
use Rattle.net_sim.specs.Steps.{opening_among, with_programs}
use Rattle.net_sim.specs.World.{Event, changed, turn_of}
use Rattle.net_sim.proofs.Books.Always.{all_named, calm_keeps, run_keeps}
use Rattle.net_sim.proofs.Books.EachEvent.{Answered, Ways, turn_way, unshown}
use Rattle.net_sim.proofs.Books.Strangers.{each_way}
use Rattle.net_sim.proofs.Books.Machines.{AreLeft, backed_more, server_left, told_away, told_left, user_left}
use Rattle.net_sim.proofs.Hosts.Seats.{same_host-sym}

-- ---- what else is kept changes neither notices nor reports

asked_notices : (h : Host) (rs : List Request) (k : Kept) → (all_asked h rs k).book.notices ≡ k.book.notices
asked_notices h [] k = refl
asked_notices h (r ∷ rs) k = asked_notices h rs (asked h r k)

asked_reports : (h : Host) (rs : List Request) (k : Kept) → (all_asked h rs k).book.reports ≡ k.book.reports
asked_reports h [] k = refl
asked_reports h (r ∷ rs) k = asked_reports h rs (asked h r k)

crossed_notices : (cs : List Crossing) (k : Kept) → (all_crossed cs k).book.notices ≡ k.book.notices
crossed_notices [] k = refl
crossed_notices (c ∷ cs) k = crossed_notices cs k

crossed_reports : (cs : List Crossing) (k : Kept) → (all_crossed cs k).book.reports ≡ k.book.reports
crossed_reports [] k = refl
crossed_reports (c ∷ cs) k = crossed_reports cs k

told_reports : (h : Host) (ns : List Notice) (k : Kept) → (all_told h ns k).book.reports ≡ k.book.reports
told_reports h [] k = refl
told_reports h (n ∷ ns) k = told_reports h ns (book_told h n k)

-- ---- what a host is notified of, another isn't

told_others : (h : Host) (ns : List Notice) (k : Kept) (g : Host) → same_host g h ≡ false → told_to g (all_told h ns k).book.notices ≡ told_to g k.book.notices
told_others h [] k g away = refl
told_others h (n ∷ ns) k g away =
    told_others h ns (book_told h n k) g away ∙ told_away g k.book.notices (record { host = h; place = length k.book.crossings; notice = n }) away

-- reports stay so
told_backed : (h : Host) (ns : List Notice) (k : Kept) (rs : List Reported) → All (IsBacked k.book.notices) rs → All (IsBacked (all_told h ns k).book.notices) rs
told_backed h [] k rs all = all
told_backed h (n ∷ ns) k rs all =
    told_backed h ns (book_told h n k) rs (backed_more k.book.notices (record { host = h; place = length k.book.crossings; notice = n }) rs all)

-- ---- the services of all hosts

abbrev Runs : List Told → ServiceSeat → Type 0
Runs told s = All (IsRunning (told_to s.host told)) s.services.running

found_runs : (h : Host) (told : List Told) (b : Bool) (s : ServiceSeat) (rest : Option ServiceSeat) → same_host h s.host ≡ b → Runs told s → All (IsRunning (told_to h told)) (services_in rest).running
    → All (IsRunning (told_to h told)) (services_in (if b then Some s else rest)).running
found_runs h told true s rest e here later = subst (λ (g : Host). All (IsRunning (told_to g told)) s.services.running) (sym (same_host-true h s.host e)) here
found_runs h told false s rest e here later = later

runs_of : (h : Host) (told : List Told) (all : List ServiceSeat) → AreRunning told all → All (IsRunning (told_to h told)) (services_of h all).running
runs_of h told [] old = All-nil (IsRunning (told_to h told))
runs_of h told (s ∷ all) old =
    found_runs h told (same_host h s.host) s (find (λ (x : ServiceSeat). same_host h x.host) all) refl (All-head (Runs told) s all old) (runs_of h told all (All-tail (Runs told) s all old))

-- a host's services are now these, where the others were notified of nothing more
module _ (h : Host) (x : ServicesState) (old new : List Told) (mine : All (IsRunning (told_to h new)) x.running) (others : (g : Host) → same_host g h ≡ false → told_to g new ≡ told_to g old) where
  one_runs : (s : ServiceSeat) (b c : Bool) → same_host h s.host ≡ b → same_host s.host h ≡ c → Runs old s → Runs new (with_services b x s)
  one_runs s true c e f here = subst (λ (g : Host). All (IsRunning (told_to g new)) x.running) (same_host-true h s.host e) mine
  one_runs s false true e f here = absurd (let no : true ≡ false = sym f ∙ same_host-sym s.host h ∙ e in cc)
  one_runs s false false e f here = subst (λ (ns : List Notice). All (IsRunning ns) s.services.running) (sym (others s.host f)) here

  all_run : (all : List ServiceSeat) → AreRunning old all → AreRunning new (serviced h x all)
  all_run [] before = All-nil (Runs new)
  all_run (s ∷ all) before =
      All-cons (Runs new) (with_services (same_host h s.host) x s) (serviced h x all) (one_runs s (same_host h s.host) (same_host s.host h) refl refl (All-head (Runs old) s all before))
      (all_run all (All-tail (Runs old) s all before))

emptied_run : (told : List Told) (cs : List Crossing) (all : List ServiceSeat) → AreRunning told all → AreRunning told (all_emptied cs all)
emptied_run told [] all old = old
emptied_run told (crossing.Down h ∷ cs) all old =
    all_run h no_services told told (All-nil (IsRunning (told_to h told))) (λ g away. refl) (all_emptied cs all) (emptied_run told cs all old)
emptied_run told (crossing.Up h ∷ cs) all old = emptied_run told cs all old
emptied_run told (crossing.Out m ∷ cs) all old = emptied_run told cs all old
emptied_run told (crossing.In m ∷ cs) all old = emptied_run told cs all old
emptied_run told (crossing.Answer kind f ∷ cs) all old = emptied_run told cs all old

opening_run : (hosts : List Host) → AreRunning [] (opening_services hosts)
opening_run [] = All-nil (Runs [])
opening_run (h ∷ hosts) = All-cons (Runs []) (record { host = h; services = no_services }) (opening_services hosts) (All-nil (IsRunning (told_to h []))) (opening_run hosts)

-- ---- what is done

-- the services of a host had their turns, where the notices were these before
tended_reported : {C : Type 0} (h : Host) (t : ServicesState × ServiceDeskState) (before : List Told) (w : WorldState C) → AreLeft h w.kept.book.notices t
    → ((g : Host) → same_host g h ≡ false → told_to g w.kept.book.notices ≡ told_to g before) → All (IsBacked w.kept.book.notices) w.kept.book.reports → AreRunning before w.services → AreReported (tended h t w)
tended_reported h t before w left others backed old =
    let now : List Told = w.kept.book.notices in
    let k : Kept = all_asked h t.1.asked w.kept in
    let same : now ≡ k.book.notices = sym (asked_notices h t.1.asked w.kept) in
    let both : All (IsBacked now) (w.kept.book.reports ++ t.1.reports) = All-append (IsBacked now) w.kept.book.reports t.1.reports backed left.backed in
    let mine : All (IsBacked now) (k.book.reports ++ t.1.reports) = subst (λ (rs : List Reported). All (IsBacked now) (rs ++ t.1.reports)) (sym (asked_reports h t.1.asked w.kept)) both in
    record {
      reports = subst (λ (told : List Told). All (IsBacked told) (k.book.reports ++ t.1.reports)) same mine;
      services = λ running. subst (λ (told : List Told). AreRunning told (serviced h t.0 w.services)) same (all_run h t.0 before now left.runs others w.services old);
    }

-- a program reported this
heard_reported : {C : Type 0} (h : Host) (turn : NcpState × List Notice) (w : WorldState C) → AreReported w → w.stopped ≡ false → AreReported (world_heard h turn w)
heard_reported {C} h turn w old running =
    let k : Kept = all_told h turn.1 w.kept in
    let mid : WorldState C = record w { kept = all_told h turn.1 w.kept } in
    let left : AreLeft h k.book.notices (turn_of h (noticed w) (services_of h w.services) turn) =
    told_left h turn.1 w.kept (services_of h w.services) turn.0 (runs_of h w.kept.book.notices w.services (old.services running)) in
    let backed : All (IsBacked k.book.notices) k.book.reports =
    subst (λ (rs : List Reported). All (IsBacked k.book.notices) rs) (sym (told_reports h turn.1 w.kept)) (told_backed h turn.1 w.kept w.kept.book.reports old.reports) in
    tended_reported h (turn_of h (noticed w) (services_of h w.services) turn) w.kept.book.notices mid left (λ g away. told_others h turn.1 w.kept g away) backed (old.services running)

-- ---- one event

module _ {C : Type 0} (calls : Calls C) where
  abbrev Reports : WorldState C → Answered → WorldState C → Type 0
  Reports old r new = AreReported old → AreReported new

  halt_reported : (c : C) (old : WorldState C) (r : Answered) (new : WorldState C) → Halts c old r new → AreReported old → AreReported new
  halt_reported c old r new h b = record {
    reports = subst (λ (k : Kept). All (IsBacked k.book.notices) k.book.reports) (sym h.kept) b.reports;
    services = λ running. absurd (let t : true ≡ false = sym h.stopped ∙ running in cc);
  }

  -- where nothing is kept anew, what runs stays as it is
  carried_reported : (c : C) (stops : Bool) (old : WorldState C) → old.stopped ≡ false → AreReported old → AreReported (record old { carrier = c; stopped = stops })
  carried_reported c stops old running b = record { reports = b.reports; services = λ on. b.services running }

  moved_reported : (c : C) (h : Host) (x : Crossing) (turn : NcpState × List Notice) (old : WorldState C) → old.stopped ≡ false → AreReported old → AreReported (world_moved c h x turn old)
  moved_reported c h x turn old running b =
      let mid : WorldState C = record old { carrier = c; kept = crossed x old.kept } in heard_reported h turn mid (record { reports = b.reports; services = λ on. b.services running }) running

  -- the network's own crossings
  changed_reported : (c : C) (cs : List Crossing) (old : WorldState C) → old.stopped ≡ false → AreReported old → AreReported (changed c cs old)
  changed_reported c cs old running b =
      let k : Kept = all_crossed cs old.kept in
      let kept : All (IsBacked old.kept.book.notices) k.book.reports = subst (λ (rs : List Reported). All (IsBacked old.kept.book.notices) rs) (sym (crossed_reports cs old.kept)) b.reports in
      record {
        reports = subst (λ (told : List Told). All (IsBacked told) k.book.reports) (sym (crossed_notices cs old.kept)) kept;
        services = λ on. subst (λ (told : List Told). AreRunning told (all_emptied cs old.services)) (sym (crossed_notices cs old.kept)) (emptied_run old.kept.book.notices cs old.services (b.services running));
      }

  served_reported : (h : Host) (q : Request) (s : NcpState) (old : WorldState C) → old.stopped ≡ false → AreReported old → AreReported (served_at h q s old)
  served_reported h q s old running b =
      let mid : WorldState C = record old { kept = asked h q old.kept } in
      heard_reported h (served s q, served_notices s q) mid (record { reports = b.reports; services = λ on. b.services running }) running

  begun_reported : (h : Host) (t : ServicesState × ServiceDeskState) (old : WorldState C) → old.stopped ≡ false → AreLeft h old.kept.book.notices t → AreReported old → AreReported (tended h t old)
  begun_reported h t old running left b = tended_reported h t old.kept.book.notices old left (λ g away. refl) b.reports (b.services running)

  -- what runs on a host is as it was notified
  runs_at : (h : Host) (old : WorldState C) → old.stopped ≡ false → AreReported old → All (IsRunning (told_to h old.kept.book.notices)) (services_of h old.services).running
  runs_at h old running b = runs_of h old.kept.book.notices old.services (b.services running)

  reports_ways : Ways calls (λ c d cs. Unit {0}) Reports
  reports_ways = record {
    left = λ r w own b. b;
    halted = λ c cs old r new running crossed one h b. halt_reported c old r new h b;
    passed = λ e c old running crossed b. carried_reported c (is_memory e) old running b;
    quiet = λ c old running crossed b. carried_reported c old.stopped old running b;
    sent = λ c h s m old running has next crossed b. moved_reported c h (crossing.Out m) (offered s (length old.kept.book.crossings)) old running b;
    took = λ c h s i old running has crossed b. moved_reported c h (crossing_of i) (accepted s i (length old.kept.book.crossings)) old running b;
    turned = λ c e old running crossed b. changed_reported c (step_crossings (calls.seen old.carrier) e) old running b;
    served = λ h q s old running has is b. served_reported h q s old running b;
    server = λ h listen base s old running has b. begun_reported h (server_begun listen base (services_of h old.services) (opening_desk h (noticed old) s)) old running
        (server_left h old.kept.book.notices listen base (services_of h old.services) s (runs_at h old running b)) b;
    user = λ h peer listen own s old running has b. begun_reported h (user_begun peer listen own (services_of h old.services) (opening_desk h (noticed old) s)) old running
        (user_left h old.kept.book.notices peer listen own (services_of h old.services) s (runs_at h old running b)) b;
  }

  pub turn_reported : (e : Event) (old : WorldState C) (r : Answered) (new : WorldState C) → AreReported old → TurnGives calls old e r new → AreReported new
  turn_reported e old r new b h = turn_way calls (λ c d cs. Unit {0}) (unshown calls) Reports reports_ways e (λ is w k. k) old r new h b

  -- what a stranger sends or takes
  strange_reported : (c : C) (x : Crossing) (old : WorldState C) → old.stopped ≡ false → Unit {0} → Reports old (Ok tt) (changed c (x ∷ []) old)
  strange_reported c x old running crossed b = changed_reported c (x ∷ []) old running b

  pub step_reported : (e : Event) (old : WorldState C) (r : Answered) (new : WorldState C) → AreReported old → StepGives calls old e r new → AreReported new
  step_reported e old r new b h = each_way calls (λ c d cs. Unit {0}) (unshown calls) Reports reports_ways strange_reported (λ f w of k. k) e old r new h b

  -- ---- several events, and none

  pub run_reported : (events : List Event) (old : WorldState C) (r : Answered) (new : WorldState C) → AreReported old → RunGives calls old events r new → AreReported new
  run_reported events old r new b h = run_keeps calls AreReported (λ e. Unit {0}) (λ e v q w n. step_reported e v q w) events old r new (all_named events) b h

  pub calm_reported : (times : ℕ) (old : WorldState C) (r : Answered) (new : WorldState C) → AreReported old → CalmGives calls times old r new → AreReported new
  calm_reported times old r new b h = calm_keeps calls AreReported (λ e. Unit {0}) tt (λ x. tt) (λ x. tt) (λ e v q w n. turn_reported e v q w) times old r new b h

  pub opening_reported : (c : C) → AreReported (opening_world calls c)
  opening_reported c = record { reports = All-nil (IsBacked []); services = λ running. opening_run (calls.seen c).hosts }

  pub among_reported : (strangers : List Host) (c : C) → AreReported (opening_among calls strangers c)
  among_reported strangers c = record { reports = All-nil (IsBacked []); services = λ running. opening_run (with_programs (λ h. is_host strangers h) (calls.seen c).hosts) }
