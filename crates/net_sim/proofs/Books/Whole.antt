-- After every event of a world some of whose hosts may be strangers its book still describes one list of mixed moments.
use Rattle.net_sim.proofs.Common.{◌≡◌, ◌⊎◌, inl, inr, ℕ, Bool, true, false, not, filter, ◌||◌, if◌then◌else◌, List, [], ◌∷◌, ◌++◌, map, length, Option, Some, None, Ok, Err, refl, ap, sym, subst, ◌∙◌, MatchBool, fold, Calls, Seen, ShowsOffer, ShowsTake, ShowsRefusal, ShowsCrossings, halted, is_memory, step_crossings, Host, IsAddress, same_host, is_host, same_host-refl, CarrierFault, Crossing, Inbound, NetEvent, HostMessage, accepted, NcpState, refusal, served, served_notices, next_out, offered, NcpFault, Notice, Request, MayAsk, NamePeers, NoneRefused, ServiceDeskState, ServicesState, opening_desk, server_begun, user_begun, line_bits, Called, Kept, contacts_asked, crossed, all_crossed, book_told, all_told, asked, shown, Moment, Crossed, Asked, places, Happens, IsAddressed, contacts_of, crossings_of, host_in, notices_by, without_reports, AreServed, IsNamed, seat_in, WorldState, WorldFault, Carrier, Program, Net, Quiet, Offer, Ask, Server, User, Typed, Seat, seat_of, seated, all_turned, services_of, noticed, world_heard, tended, with_server, with_user, DoesOrHalts, TypeGives, with_program, with_carrier, world_moved, Refuses, Does, Halts, OfferEnds, OfferGives, TakeEnds, TakeGives, NetEnds, QuietEnds, AskGives, AtProgram, AtSeat, EventGives, TurnGives, CalmGives, opening_seats}
use Rattle.std.proofs.Common.{All, Result}
use Rattle.interface.specs.Calls.{ShowsStep, ShowsRound}
use Rattle.interface.specs.Mailboxes as mail
use Rattle.interface.specs.declared.carrier.CarrierFault.TheVariants as fault
use Rattle.interface.specs.declared.crossing.Crossing.TheVariants as crossing
use Rattle.interface.specs.declared.crossing.Inbound.TheVariants as inbound
use Rattle.ncp_control.specs.Command.{IsWord}
use Rattle.sockets.specs.declared.fault.NcpFault.TheVariants as problem
use Rattle.sockets.specs.declared.request.Request.TheVariants as request
use Rattle.host_services.proofs.lemmas.{server_asked_all, server_named_all, told_asked, user_asked_all, user_named_all}
use Rattle.host_services.specs.Named.{HasAsked}
use Rattle.net_sim.specs.Story.{program}
use Rattle.net_sim.specs.Timeline.{IsAsked}
use Rattle.net_sim.specs.Mixed.{AreMixed, mixed_kept}
use Rattle.net_sim.specs.Steps.{FetchEnds, FetchGives, OutEnds, OutGives, opening_among, with_programs}
use Rattle.net_sim.specs.Whole.{IsWholeAmong}
use Rattle.net_sim.specs.World.{Event, Out, Take, turn_of, changed, unsaid, Passes}
use Rattle.interface.proofs.lemmas.{same_host-true}
use Rattle.net_sim.proofs.Books.Always.{calm_keeps}
use Rattle.net_sim.proofs.Hosts.Asks.{after_each, asks_contacts, asks_crossings, asks_each, asks_mixed, asks_of, emptied_served, named_of, opening_served, same_each, still_served}
use Rattle.net_sim.proofs.Books.Booked.{asked_crossings, told_crossings, crossed_crossings}
use Rattle.net_sim.proofs.Resets.Bridge.{places_same}
use Rattle.net_sim.proofs.Resets.Coupled.{Said, said}
use Rattle.net_sim.proofs.Hosts.Seats.{AreTurns, IsStrangers, all_seated, found_plain, found_seat, plain_seats, seated_at, step_turns, turned_contacts, turned_crossings, turned_mixed, turned_seats, with_crossings}
use Rattle.net_sim.proofs.Resets.StoryLemmas.{program_own}
use Rattle.net_sim.proofs.Hosts.Telling.{kept_asked, kept_more, kept_strange, kept_turned}

-- ---- the contacts of what is kept

told_contacts : (h : Host) (ns : List Notice) (k : Kept) → (all_told h ns k).book.contacts ≡ k.book.contacts
told_contacts h [] k = refl
told_contacts h (n ∷ ns) k = told_contacts h ns (book_told h n k)

crossed_contacts : (cs : List Crossing) (k : Kept) → (all_crossed cs k).book.contacts ≡ k.book.contacts
crossed_contacts [] k = refl
crossed_contacts (c ∷ cs) k = crossed_contacts cs k

-- ---- the hosts of the network are the same

same_hosts : (b : Bool) (s : Seen) → (if b then halted s else s).hosts ≡ s.hosts
same_hosts true s = refl
same_hosts false s = refl

refused_hosts : (old : Seen) (e : CarrierFault) (new : Seen) → ShowsRefusal old e new → new.hosts ≡ old.hosts
refused_hosts old e new s = ap (λ (x : Seen). x.hosts) s.shown ∙ same_hosts (is_memory e) old

grown_hosts : (old : Seen) (cs : List Crossing) (new : Seen) → ShowsCrossings old cs new → new.hosts ≡ old.hosts
grown_hosts old cs new s = ap (λ (x : Seen). x.hosts) s.shown

-- ---- one event

pub program_is : (up : Bool) (p s : NcpState) → (if up then Some p else None) ≡ Some s → (up ≡ true) × (p ≡ s)
program_is true p s e = (refl, ap (program_or p) e) where
  program_or : NcpState → Option NcpState → NcpState
  program_or d None = d
  program_or d (Some x) = x
program_is false p s e = absurd (let no : None ≡ Some s = e in cc)

module _ {C : Type 0} (own : Calls C) (strange : Host → Bool) (hosts : List Host) where
  abbrev calls : Calls C
  calls = shown own

  abbrev Whole : WorldState C → Type 0
  Whole w = IsWholeAmong strange own.seen hosts w

  -- the hosts with programs
  abbrev some : List Host
  some = with_programs strange hosts

  -- a host with a program that is up, and its program
  record IsUp (moments : List Moment) (h : Host) (s : NcpState) : Type 0 where
    plain : strange h ≡ false
    up : mail.is_up hosts h (crossings_of moments) ≡ true
    program : program h moments ≡ s

  done_whole : (moments : List Moment) (done : WorldState C) (r : Result (Unit {0}) WorldFault) (new : WorldState C) → AreMixed strange hosts moments → (own.seen done.carrier).hosts ≡ hosts
      → done.kept.book.crossings ≡ crossings_of moments → done.kept.book.contacts ≡ contacts_of moments → without_reports done.kept ≡ mixed_kept strange moments → done.seats ≡ map (seat_in hosts moments) some → AreServed some done.services → Does done r new → Whole new
  done_whole moments done r new mixed network crossings contacts kept seats served d =
      subst Whole (sym d.1) (record { moments = moments; mixed = mixed; network = network; crossings = crossings; contacts = contacts; kept = kept; seats = λ running. seats; services = λ running. served })

  refused_whole : (f : WorldFault) (old : WorldState C) (r : Result (Unit {0}) WorldFault) (new : WorldState C) → Whole old → Refuses f old r new → Whole new
  refused_whole f old r new w h = subst Whole (sym h.1) w

  halt_whole : (old : WorldState C) (c : C) (r : Result (Unit {0}) WorldFault) (new : WorldState C) → Whole old → (own.seen c).hosts ≡ hosts → Halts c old r new → Whole new
  halt_whole old c r new w network h = record {
    moments = w.moments;
    mixed = w.mixed;
    network = ap (λ (x : C). (own.seen x).hosts) h.carrier ∙ network;
    crossings = ap (λ (k : Kept). k.book.crossings) h.kept ∙ w.crossings;
    contacts = ap (λ (k : Kept). k.book.contacts) h.kept ∙ w.contacts;
    kept = ap (λ (k : Kept). without_reports k) h.kept ∙ w.kept;
    seats = λ running. absurd (let t : true ≡ false = sym h.stopped ∙ running in cc);
    services = λ running. absurd (let t : true ≡ false = sym h.stopped ∙ running in cc);
  }

  passed_whole : (e : CarrierFault) (c : C) (old : WorldState C) (r : Result (Unit {0}) WorldFault) (new : WorldState C) → Whole old → old.stopped ≡ false → (own.seen c).hosts ≡ hosts → Passes e c old r new → Whole new
  passed_whole e c old r new w running network h =
      let now : Whole (record old { carrier = c; stopped = is_memory e }) =
      record { moments = w.moments; mixed = w.mixed; network = network; crossings = w.crossings; contacts = w.contacts; kept = w.kept; seats = λ on. w.seats running; services = λ on. w.services running } in
      subst Whole (sym h.1) now

  -- services had their turns at a host that is up: what they asked for comes as one moment after the other
  tended_whole : (h : Host) (d : ServiceDeskState) (t : ServicesState × ServiceDeskState) (before moments : List Moment) (mid : WorldState C) (r : Result (Unit {0}) WorldFault) (new : WorldState C) → AreMixed strange hosts moments
      → (own.seen mid.carrier).hosts ≡ hosts → mid.kept.book.crossings ≡ crossings_of moments → mid.kept.book.contacts ≡ contacts_of moments → without_reports mid.kept ≡ mixed_kept strange moments → IsUp moments h d.program
      → mid.seats ≡ map (seat_in hosts before) some → ((g : Host) → with_program (same_host h g) (Some d.program) (seat_in hosts before g) ≡ seat_in hosts moments g)
      → AreServed some mid.services → d.asked ≡ [] → HasAsked d t.1 → NamePeers t.0 → Does (tended h t mid) r new → Whole new
  tended_whole h d t before moments mid r new mixed network crossings contacts kept u seats each served_here none asks named does =
      let rs : List Request = t.1.asked in
      let more : t.1.asked ≡ asks.more = asks.asked ∙ ap (λ (xs : List Request). xs ++ asks.more) none in
      let may : All MayAsk t.1.asked = subst (All MayAsk) (sym more) asks.each in
      let none_refused : NoneRefused d.program t.1.asked = subst (NoneRefused d.program) (sym more) asks.unrefused in
      let made : t.1.program ≡ fold served d.program t.1.asked = asks.program ∙ ap (λ (xs : List Request). fold served d.program xs) (sym more) in
      let place : length mid.kept.book.crossings ≡ places moments = ap (λ (xs : List Crossing). length xs) crossings ∙ sym (places_same moments) in
      let all : (g : Host) → with_program (same_host h g) (Some (fold served d.program t.1.asked)) (seat_in hosts before g) ≡ seat_in hosts (asks_of h t.1.asked moments) g =
      after_each hosts h d.program (fold served d.program t.1.asked) before moments (asks_of h t.1.asked moments) each (asks_each hosts h t.1.asked moments d.program u.up u.program) in
      done_whole (asks_of h t.1.asked moments) (tended h t mid) r new (asks_mixed strange hosts h t.1.asked moments d.program u.up u.program may none_refused mixed) network
      (asked_crossings h t.1.asked mid.kept ∙ crossings ∙ sym (asks_crossings h t.1.asked moments))
      (asks_contacts h t.1.asked mid.kept moments place contacts)
      (kept_asked strange h t.1.asked mid.kept moments u.plain may kept)
      (ap (λ (ss : List Seat). seated h (Some t.1.program) ss) seats ∙ ap (λ (x : NcpState). seated h (Some x) (map (seat_in hosts before) some)) made
      ∙ all_seated hosts some before (asks_of h t.1.asked moments) h (Some (fold served d.program t.1.asked)) all)
      (still_served some h t.0 mid.services named served_here) does

  -- a host whose seat has this program after a moment is up then
  up_by : (h : Host) (s : NcpState) (before moments : List Moment) → strange h ≡ false → ((g : Host) → with_program (same_host h g) (Some s) (seat_in hosts before g) ≡ seat_in hosts moments g) → IsUp moments h s
  up_by h s before moments plain each =
      let here : with_program (same_host h h) (Some s) (seat_in hosts before h) ≡ seat_in hosts moments h = each h in
      let mine : record { host = h; program = Some s } ≡ seat_in hosts moments h = subst (λ (b : Bool). with_program b (Some s) (seat_in hosts before h) ≡ seat_in hosts moments h) (same_host-refl h) here in
      let x : (mail.is_up hosts h (crossings_of moments) ≡ true) × (program h moments ≡ s) = program_is (mail.is_up hosts h (crossings_of moments)) (program h moments) s (ap (λ (y : Seat). y.program) (sym mine)) in
      record { plain = plain; up = x.0; program = x.1 }

  -- a program reported this of a moment, and then its services had their turns
  heard_whole : (h : Host) (plain : strange h ≡ false) (turn : NcpState × List Notice) (before moments : List Moment) (old : WorldState C) (mid : WorldState C) (r : Result (Unit {0}) WorldFault) (new : WorldState C) → AreMixed strange hosts moments
      → (own.seen mid.carrier).hosts ≡ hosts → mid.kept.book.crossings ≡ crossings_of moments → mid.kept.book.contacts ≡ contacts_of moments → without_reports (all_told h turn.1 mid.kept) ≡ mixed_kept strange moments
      → mid.seats ≡ map (seat_in hosts before) some → ((g : Host) → with_program (same_host h g) (Some turn.0) (seat_in hosts before g) ≡ seat_in hosts moments g)
      → AreServed some mid.services → Does (world_heard h turn mid) r new → Whole new
  heard_whole h plain turn before moments old mid r new mixed network crossings contacts kept seats each served_here does =
      let d : ServiceDeskState = opening_desk h (noticed mid) turn.0 in
      let asks : HasAsked (opening_desk h (noticed mid) turn.0) (turn_of h (noticed mid) (services_of h mid.services) turn).1 × NamePeers (turn_of h (noticed mid) (services_of h mid.services) turn).0 =
      told_asked turn.1 (services_of h mid.services) (opening_desk h (noticed mid) turn.0) (named_of h mid.services served_here.named) in
      tended_whole h (opening_desk h (noticed mid) turn.0) (turn_of h (noticed mid) (services_of h mid.services) turn) before moments (record mid { kept = all_told h turn.1 mid.kept }) r new mixed network
      (told_crossings h turn.1 mid.kept ∙ crossings) (told_contacts h turn.1 mid.kept ∙ contacts) kept (up_by h turn.0 before moments plain each) seats each served_here refl asks.0 asks.1 does

  -- what crosses for a host that is up, and what it is notified of
  crossed_whole : (h : Host) (plain : strange h ≡ false) (x : Crossing) (c : C) (turn : NcpState × List Notice) (old : WorldState C) (r : Result (Unit {0}) WorldFault) (new : WorldState C) → (w : Whole old) → old.stopped ≡ false
      → (own.seen c).hosts ≡ hosts → Happens hosts (Crossed x) w.moments → host_in (Crossed x) ≡ h → turn.1 ≡ notices_by (Crossed x) w.moments
      → ((g : Host) → with_program (same_host h g) (Some turn.0) (seat_in hosts w.moments g) ≡ seat_in hosts (Crossed x ∷ w.moments) g)
      → Does (world_moved c h x turn old) r new ⊎ Halts c old r new → Whole new
  crossed_whole h plain x c turn old r new w running network happens its notices each (inl d) =
      heard_whole h plain turn w.moments (Crossed x ∷ w.moments) old (record old { carrier = c; kept = crossed x old.kept }) r new ((λ off. happens), w.mixed) network
      (ap (λ (xs : List Crossing). x ∷ xs) w.crossings) w.contacts (kept_more strange (Crossed x) h turn.1 old.kept w.moments plain its notices w.kept) (w.seats running) each (w.services running) d
  crossed_whole h plain x c turn old r new w running network happens its notices each (inr k) = halt_whole old c r new w network k

  place_is : (old : WorldState C) (w : Whole old) → length old.kept.book.crossings ≡ places w.moments
  place_is old w = ap (λ (xs : List Crossing). length xs) w.crossings ∙ sym (places_same w.moments)

  -- a call of the program of a host that is up
  called_is : (old : WorldState C) (w : Whole old) (h : Host) (s : NcpState) → IsUp w.moments h s → (call : NcpState → ℕ → NcpState × List Notice) → call s (length old.kept.book.crossings) ≡ call (program h w.moments) (places w.moments)
  called_is old w h s u call = ap (λ (n : ℕ). call s n) (place_is old w) ∙ ap (λ (x : NcpState). call x (places w.moments)) (sym u.program)

  offer_ends : (h : Host) (s : NcpState) (m : HostMessage) (answer : Result (Unit {0}) CarrierFault) (c : C) (old : WorldState C) (r : Result (Unit {0}) WorldFault) (new : WorldState C) → (w : Whole old)
      → old.stopped ≡ false → IsUp w.moments h s → next_out s ≡ Some m → ShowsOffer (own.seen old.carrier) m answer (own.seen c) → OfferEnds h s m answer c old r new → Whole new
  offer_ends h s m (Ok done) c old r new w running u next shows ends =
      let x : Said s m = said s m next in
      let from : m.flow.source ≡ h = ap (λ (y : HostMessage). y.flow.source) x.message ∙ ap (λ (y : NcpState). y.own) (sym u.program) ∙ program_own h w.moments in
      let happens : next_out (program m.flow.source w.moments) ≡ Some m = ap (λ (y : Host). next_out (program y w.moments)) from ∙ ap next_out u.program ∙ next in
      let made : offered s (length old.kept.book.crossings) ≡ offered (program h w.moments) (places w.moments) = called_is old w h s u (λ y n. offered y n) in
      crossed_whole h u.plain (crossing.Out m) c (offered s (length old.kept.book.crossings)) old r new w running (grown_hosts (own.seen old.carrier) (crossing.Out m ∷ []) (own.seen c) shows ∙ w.network) happens
      from (ap (λ (t : NcpState × List Notice). t.1) made ∙ ap (λ (y : Host). (offered (program y w.moments) (places w.moments)).1) (sym from))
      (seated_at hosts w.moments h m.flow.source (λ g. (offered (program g w.moments) (places w.moments)).0) (offered s (length old.kept.book.crossings)).0 from u.up (ap (λ (t : NcpState × List Notice). t.0) made)) ends
  offer_ends h s m (Err e) c old r new w running u next shows ends = passed_whole e c old r new w running (refused_hosts (own.seen old.carrier) e (own.seen c) shows ∙ w.network) ends

  offer_whole : (h : Host) (s : NcpState) (o : Option HostMessage) (old : WorldState C) (r : Result (Unit {0}) WorldFault) (new : WorldState C) → (w : Whole old) → old.stopped ≡ false → IsUp w.moments h s
      → next_out s ≡ o → OfferGives calls h s o old r new → Whole new
  offer_whole h s None old r new w running u next gives = subst Whole (sym gives.1) w
  offer_whole h s (Some m) old r new w running u next (inl x) = halt_whole old old.carrier r new w w.network x
  offer_whole h s (Some m) old r new w running u next (inr t) = offer_ends h s m t.0 t.1 old r new w running u next t.2.1 t.3

  quiet_by : (c : C) (old : WorldState C) (r : Result (Unit {0}) WorldFault) (new : WorldState C) → (w : Whole old) → old.stopped ≡ false → (own.seen c).hosts ≡ hosts → Does (with_carrier c old) r new → Whole new
  quiet_by c old r new w running network d = done_whole w.moments (with_carrier c old) r new w.mixed network w.crossings w.contacts w.kept (w.seats running) (w.services running) d

  take_ends : (h : Host) (s : NcpState) (answer : Result (Option Inbound) CarrierFault) (c : C) (old : WorldState C) (r : Result (Unit {0}) WorldFault) (new : WorldState C) → (w : Whole old)
      → old.stopped ≡ false → IsUp w.moments h s → ShowsTake (own.seen old.carrier) h answer (own.seen c) → TakeEnds h s answer c old r new → Whole new
  take_ends h s (Ok None) c old r new w running u shows ends = quiet_by c old r new w running (grown_hosts (own.seen old.carrier) [] (own.seen c) shows ∙ w.network) ends
  take_ends h s (Ok (Some (inbound.Message m))) c old r new w running u shows ends =
      let made : accepted s (inbound.Message m) (length old.kept.book.crossings) ≡ accepted (program h w.moments) (inbound.Message m) (places w.moments) = called_is old w h s u (λ y n. accepted y (inbound.Message m) n) in
      crossed_whole h u.plain (crossing.In m) c (accepted s (inbound.Message m) (length old.kept.book.crossings)) old r new w running (grown_hosts (own.seen old.carrier) (crossing.In m ∷ []) (own.seen c) shows.0 ∙ w.network) tt
      shows.1 (ap (λ (t : NcpState × List Notice). t.1) made ∙ ap (λ (y : Host). (accepted (program y w.moments) (inbound.Message m) (places w.moments)).1) (sym shows.1))
      (seated_at hosts w.moments h m.flow.destination (λ g. (accepted (program g w.moments) (inbound.Message m) (places w.moments)).0) (accepted s (inbound.Message m) (length old.kept.book.crossings)).0 shows.1 u.up
      (ap (λ (t : NcpState × List Notice). t.0) made)) ends
  take_ends h s (Ok (Some (inbound.Answer kind f))) c old r new w running u shows ends =
      let made : accepted s (inbound.Answer kind f) (length old.kept.book.crossings) ≡ accepted (program h w.moments) (inbound.Answer kind f) (places w.moments) = called_is old w h s u (λ y n. accepted y (inbound.Answer kind f) n) in
      crossed_whole h u.plain (crossing.Answer kind f) c (accepted s (inbound.Answer kind f) (length old.kept.book.crossings)) old r new w running (grown_hosts (own.seen old.carrier) (crossing.Answer kind f ∷ []) (own.seen c) shows.0 ∙ w.network) tt
      shows.1 (ap (λ (t : NcpState × List Notice). t.1) made ∙ ap (λ (y : Host). (accepted (program y w.moments) (inbound.Answer kind f) (places w.moments)).1) (sym shows.1))
      (seated_at hosts w.moments h f.source (λ g. (accepted (program g w.moments) (inbound.Answer kind f) (places w.moments)).0) (accepted s (inbound.Answer kind f) (length old.kept.book.crossings)).0 shows.1 u.up
      (ap (λ (t : NcpState × List Notice). t.0) made)) ends
  take_ends h s (Err e) c old r new w running u shows ends = passed_whole e c old r new w running (refused_hosts (own.seen old.carrier) e (own.seen c) shows ∙ w.network) ends

  net_ends : (e : NetEvent) (answer : Result (Unit {0}) CarrierFault) (c : C) (old : WorldState C) (r : Result (Unit {0}) WorldFault) (new : WorldState C) → (w : Whole old)
      → old.stopped ≡ false → ShowsStep (own.seen old.carrier) e answer (own.seen c) → NetEnds (own.seen old.carrier) e answer c old r new → Whole new
  net_ends e (Ok done) c old r new w running shows (inl d) =
      let cs : List Crossing = step_crossings (own.seen old.carrier) e in
      let turns : AreTurns (step_crossings (own.seen old.carrier) e) = step_turns (own.seen old.carrier) e in
      done_whole (with_crossings (step_crossings (own.seen old.carrier) e) w.moments) (changed c (step_crossings (own.seen old.carrier) e) old) r new
      (turned_mixed strange hosts (step_crossings (own.seen old.carrier) e) w.moments turns w.mixed)
      (grown_hosts (own.seen old.carrier) (step_crossings (own.seen old.carrier) e) (own.seen c) shows ∙ w.network)
      (crossed_crossings cs old.kept ∙ ap (λ (xs : List Crossing). step_crossings (own.seen old.carrier) e ++ xs) w.crossings ∙ sym (turned_crossings cs w.moments))
      (crossed_contacts cs old.kept ∙ w.contacts ∙ sym (turned_contacts cs w.moments))
      (kept_turned strange cs old.kept w.moments turns w.kept)
      (ap (λ (seats : List Seat). all_turned (step_crossings (own.seen old.carrier) e) seats) (w.seats running) ∙ turned_seats hosts some cs w.moments turns)
      (emptied_served some cs old.services (w.services running)) d
  net_ends e (Ok done) c old r new w running shows (inr k) =
      halt_whole old c r new w (grown_hosts (own.seen old.carrier) (step_crossings (own.seen old.carrier) e) (own.seen c) shows ∙ w.network) k.1
  net_ends e (Err f) c old r new w running shows ends = passed_whole f c old r new w running (refused_hosts (own.seen old.carrier) f (own.seen c) shows ∙ w.network) ends

  quiet_ends : (answer : Result (Unit {0}) CarrierFault) (c : C) (old : WorldState C) (r : Result (Unit {0}) WorldFault) (new : WorldState C) → (w : Whole old)
      → old.stopped ≡ false → ShowsRound (own.seen old.carrier) answer (own.seen c) → QuietEnds answer c old r new → Whole new
  quiet_ends (Ok done) c old r new w running shows ends = quiet_by c old r new w running (grown_hosts (own.seen old.carrier) [] (own.seen c) shows ∙ w.network) ends
  quiet_ends (Err e) c old r new w running shows ends = passed_whole e c old r new w running (refused_hosts (own.seen old.carrier) e (own.seen c) shows ∙ w.network) ends

  ask_whole : (h : Host) (q : Request) (s : NcpState) (o : Option NcpFault) (old : WorldState C) (r : Result (Unit {0}) WorldFault) (new : WorldState C) → IsAddressed q × IsAsked q → refusal s q ≡ o → (w : Whole old)
      → old.stopped ≡ false → IsUp w.moments h s → AskGives h q s o old r new → Whole new
  ask_whole h q s (Some f) old r new named e w running u gives = refused_whole (Program f) old r new w gives
  ask_whole h q s None old r new named e w running u (inl d) =
      let called : old.kept.book.contacts ++ contacts_asked h (length old.kept.book.crossings) q ≡ contacts_of w.moments ++ contacts_asked h (places w.moments) q =
      ap (λ (xs : List Called). xs ++ contacts_asked h (length old.kept.book.crossings) q) w.contacts ∙ ap (λ (n : ℕ). contacts_of w.moments ++ contacts_asked h n q) (place_is old w) in
      let made : (served s q, served_notices s q) ≡ (served (program h w.moments) q, served_notices (program h w.moments) q) = called_is old w h s u (λ y n. (served y q, served_notices y q)) in
      heard_whole h u.plain (served s q, served_notices s q) w.moments (Asked h q ∷ w.moments) old (record old { kept = asked h q old.kept }) r new ((λ off. (u.up, named.0, ap (λ (x : NcpState). refusal x q) u.program ∙ e, named.1)), w.mixed) w.network
      w.crossings called (kept_more strange (Asked h q) h (served_notices s q) old.kept w.moments u.plain refl (ap (λ (t : NcpState × List Notice). t.1) made) w.kept)
      (w.seats running) (seated_at hosts w.moments h h (λ g. served (program g w.moments) q) (served s q) refl u.up (ap (λ (t : NcpState × List Notice). t.0) made)) (w.services running) d
  ask_whole h q s None old r new named e w running u (inr k) = halt_whole old old.carrier r new w w.network k

  type_whole : (h : Host) (line : List ℕ) (s : NcpState) (o : Option ℕ) (old : WorldState C) (r : Result (Unit {0}) WorldFault) (new : WorldState C) → (w : Whole old)
      → old.stopped ≡ false → IsUp w.moments h s → TypeGives h line s o old r new → Whole new
  type_whole h line s None old r new w running u gives = refused_whole (Program problem.NotOpen) old r new w gives
  type_whole h line s (Some socket) old r new w running u gives =
      ask_whole h (request.Send socket (line_bits line)) s (refusal s (request.Send socket (line_bits line))) old r new (tt, tt) refl w running u gives

  -- a service begins
  begun_whole : (h : Host) (s : NcpState) (t : ServicesState × ServiceDeskState) (old : WorldState C) (r : Result (Unit {0}) WorldFault) (new : WorldState C) → (w : Whole old) → old.stopped ≡ false → IsUp w.moments h s
      → HasAsked (opening_desk h (noticed old) s) t.1 → NamePeers t.0 → DoesOrHalts (tended h t old) old r new → Whole new
  begun_whole h s t old r new w running u asks named (inl d) =
      tended_whole h (opening_desk h (noticed old) s) t w.moments w.moments old r new w.mixed w.network w.crossings w.contacts w.kept u (w.seats running) (same_each hosts w.moments h s u.up u.program)
      (w.services running) refl asks named d
  begun_whole h s t old r new w running u asks named (inr k) = halt_whole old old.carrier r new w w.network k

  server_whole : (h : Host) (listen base : ℕ) (s : NcpState) (old : WorldState C) (r : Result (Unit {0}) WorldFault) (new : WorldState C) → (w : Whole old) → old.stopped ≡ false → IsUp w.moments h s
      → DoesOrHalts (with_server h listen base s old) old r new → Whole new
  server_whole h listen base s old r new w running u g =
      begun_whole h s (server_begun listen base (services_of h old.services) (opening_desk h (noticed old) s)) old r new w running u
      (server_asked_all listen base (services_of h old.services) (opening_desk h (noticed old) s))
      (server_named_all listen base (services_of h old.services) (opening_desk h (noticed old) s) (named_of h old.services (w.services running).named)) g

  user_whole : (h peer : Host) (listen mine : ℕ) (s : NcpState) (old : WorldState C) (r : Result (Unit {0}) WorldFault) (new : WorldState C) → IsAddress peer × IsWord listen → (w : Whole old) → old.stopped ≡ false
      → IsUp w.moments h s → DoesOrHalts (with_user h peer listen mine s old) old r new → Whole new
  user_whole h peer listen mine s old r new is w running u g =
      begun_whole h s (user_begun peer listen mine (services_of h old.services) (opening_desk h (noticed old) s)) old r new w running u
      (user_asked_all peer listen mine (services_of h old.services) (opening_desk h (noticed old) s) is.0 is.1)
      (user_named_all peer listen mine (services_of h old.services) (opening_desk h (noticed old) s) is.0 is.1 (named_of h old.services (w.services running).named)) g

  -- ---- the program that an event names

  at_program : (Gives : NcpState → Type 0) (o : Option NcpState) (h : Host) (old : WorldState C) (r : Result (Unit {0}) WorldFault) (new : WorldState C) → (w : Whole old) → strange h ≡ false
      → (if mail.is_up hosts h (crossings_of w.moments) then Some (program h w.moments) else None) ≡ o → ((s : NcpState) → IsUp w.moments h s → Gives s → Whole new) → AtProgram Gives o old r new → Whole new
  at_program Gives None h old r new w plain is k g = refused_whole (Carrier fault.IsDown) old r new w g
  at_program Gives (Some s) h old r new w plain is k g =
      let u : (mail.is_up hosts h (crossings_of w.moments) ≡ true) × (program h w.moments ≡ s) = program_is (mail.is_up hosts h (crossings_of w.moments)) (program h w.moments) s is in
      k s (record { plain = plain; up = u.0; program = u.1 }) g

  at_seat : (Gives : NcpState → Type 0) (o : Option Seat) (h : Host) (old : WorldState C) (r : Result (Unit {0}) WorldFault) (new : WorldState C) → (w : Whole old) → old.stopped ≡ false
      → seat_of h old.seats ≡ o → ((s : NcpState) → IsUp w.moments h s → Gives s → Whole new) → AtSeat Gives o old r new → Whole new
  at_seat Gives None h old r new w running is k g = refused_whole (Carrier fault.NoSuch) old r new w g
  at_seat Gives (Some seat) h old r new w running is k g =
      let found : seat_of h (map (seat_in hosts w.moments) some) ≡ Some seat = ap (λ (seats : List Seat). seat_of h seats) (sym (w.seats running)) ∙ is in
      let there : seat ≡ seat_in hosts w.moments h = found_seat hosts some w.moments h seat found in
      at_program Gives seat.program h old r new w (found_plain strange hosts hosts w.moments h seat found) (ap (λ (x : Seat). x.program) (sym there)) k g

  pub event_among : (e : Event) (old : WorldState C) (r : Result (Unit {0}) WorldFault) (new : WorldState C) → IsNamed e → (w : Whole old) → old.stopped ≡ false → EventGives calls old e r new → Whole new
  event_among (Net e) old r new named w running t = net_ends e t.0 t.1 old r new w running t.2.1 t.3
  event_among Quiet old r new named w running t = quiet_ends t.0 t.1 old r new w running t.2.1 t.3
  event_among (Offer h) old r new named w running t = at_seat (λ s. OfferGives calls h s (next_out s) old r new) (seat_of h old.seats) h old r new w running refl (λ s u g. offer_whole h s (next_out s) old r new w running u refl g) t
  event_among (Take h) old r new named w running t = at_seat (λ s. TakeGives calls h s old r new) (seat_of h old.seats) h old r new w running refl (λ s u g. take_ends h s g.0 g.1 old r new w running u g.2.1 g.3) t
  event_among (Ask h q) old r new named w running t = at_seat (λ s. AskGives h q s (refusal s q) old r new) (seat_of h old.seats) h old r new w running refl (λ s u g. ask_whole h q s (refusal s q) old r new named refl w running u g) t
  event_among (Server h listen base) old r new named w running t =
      at_seat (λ s. DoesOrHalts (with_server h listen base s old) old r new) (seat_of h old.seats) h old r new w running refl (λ s u g. server_whole h listen base s old r new w running u g) t
  event_among (User h peer listen mine) old r new named w running t =
      at_seat (λ s. DoesOrHalts (with_user h peer listen mine s old) old r new) (seat_of h old.seats) h old r new w running refl (λ s u g. user_whole h peer listen mine s old r new named w running u g) t
  event_among (Typed h line) old r new named w running t =
      at_seat (λ s. TypeGives h line s (services_of h old.services).typing old r new) (seat_of h old.seats) h old r new w running refl (λ s u g. type_whole h line s (services_of h old.services).typing old r new w running u g) t
  event_among (Out m) old r new named w running t = refused_whole (unsaid m old.seats) old r new w t

  if_stopped : (P : Type 0) (old : WorldState C) (r : Result (Unit {0}) WorldFault) (new : WorldState C) → Whole old → (old.stopped ≡ false → P → Whole new) → (b : Bool) → old.stopped ≡ b
      → MatchBool b (Refuses (Carrier fault.Stopped) old r new) P → Whole new
  if_stopped P old r new w k true e h = refused_whole (Carrier fault.Stopped) old r new w h
  if_stopped P old r new w k false e h = k e h

  pub turn_among : (e : Event) (old : WorldState C) (r : Result (Unit {0}) WorldFault) (new : WorldState C) → IsNamed e → Whole old → TurnGives calls old e r new → Whole new
  turn_among e old r new named w h = if_stopped (EventGives calls old e r new) old r new w (λ running g. event_among e old r new named w running g) old.stopped refl h

  -- ---- a calm

  pub calm_among : (times : ℕ) (old : WorldState C) (r : Result (Unit {0}) WorldFault) (new : WorldState C) → Whole old → CalmGives calls times old r new → Whole new
  calm_among times old r new w h = calm_keeps calls Whole IsNamed tt (λ x. tt) (λ x. tt) turn_among times old r new w h

  -- ---- strangers

  -- what a stranger does changes no program of others
  apart : (g h : Host) → strange g ≡ false → strange h ≡ true → same_host g h ≡ false
  apart g h plain on = by (same_host g h) refl where
    by : (b : Bool) → same_host g h ≡ b → b ≡ false
    by true e = absurd (let no : false ≡ true = sym plain ∙ ap strange (same_host-true g h e) ∙ on in cc)
    by false e = refl

  seat_stays : (c : Crossing) (moments : List Moment) → IsStrangers c → strange (host_in (Crossed c)) ≡ true → (g : Host) → strange g ≡ false → seat_in hosts moments g ≡ seat_in hosts (Crossed c ∷ moments) g
  seat_stays (crossing.Out m) moments does on g plain = rw (apart g m.flow.source plain on) refl
  seat_stays (crossing.In m) moments does on g plain = rw (apart g m.flow.destination plain on) refl
  seat_stays (crossing.Answer kind f) moments does on g plain = rw (apart g f.source plain on) refl
  seat_stays (crossing.Down h) moments does on g plain = absurd does
  seat_stays (crossing.Up h) moments does on g plain = absurd does

  seats_still : (c : Crossing) (seats : List Seat) → IsStrangers c → all_turned (c ∷ []) seats ≡ seats
  seats_still (crossing.Out m) seats does = refl
  seats_still (crossing.In m) seats does = refl
  seats_still (crossing.Answer kind f) seats does = refl
  seats_still (crossing.Down h) seats does = absurd does
  seats_still (crossing.Up h) seats does = absurd does

  -- a message of a stranger goes out, or something comes in for it
  strange_whole : (x : Crossing) (c : C) (old : WorldState C) (r : Result (Unit {0}) WorldFault) (new : WorldState C) → (w : Whole old) → old.stopped ≡ false → (own.seen c).hosts ≡ hosts → IsStrangers x
      → strange (host_in (Crossed x)) ≡ true → Does (changed c (x ∷ []) old) r new ⊎ Halts c old r new → Whole new
  strange_whole x c old r new w running network does on (inl d) =
      done_whole (Crossed x ∷ w.moments) (changed c (x ∷ []) old) r new ((λ off. absurd (let no : false ≡ true = sym off ∙ on in cc)), w.mixed) network
      (ap (λ (xs : List Crossing). x ∷ xs) w.crossings) w.contacts (kept_strange strange x old.kept w.moments on w.kept)
      (seats_still x old.seats does ∙ w.seats running ∙ plain_seats strange hosts hosts w.moments (Crossed x ∷ w.moments) (seat_stays x w.moments does on))
      (emptied_served some (x ∷ []) old.services (w.services running)) d
  strange_whole x c old r new w running network does on (inr k) = halt_whole old c r new w network k

  out_ends : (m : HostMessage) (answer : Result (Unit {0}) CarrierFault) (c : C) (old : WorldState C) (r : Result (Unit {0}) WorldFault) (new : WorldState C) → (w : Whole old) → old.stopped ≡ false
      → strange m.flow.source ≡ true → ShowsOffer (own.seen old.carrier) m answer (own.seen c) → OutEnds m answer c old r new → Whole new
  out_ends m (Ok done) c old r new w running on shows ends =
      strange_whole (crossing.Out m) c old r new w running (grown_hosts (own.seen old.carrier) (crossing.Out m ∷ []) (own.seen c) shows ∙ w.network) tt on ends
  out_ends m (Err e) c old r new w running on shows ends = passed_whole e c old r new w running (refused_hosts (own.seen old.carrier) e (own.seen c) shows ∙ w.network) ends

  pub out_among : (m : HostMessage) (old : WorldState C) (r : Result (Unit {0}) WorldFault) (new : WorldState C) → (w : Whole old) → old.stopped ≡ false → strange m.flow.source ≡ true → OutGives calls m old r new → Whole new
  out_among m old r new w running on t = out_ends m t.0 t.1 old r new w running on t.2.1 t.3

  fetch_ends : (h : Host) (answer : Result (Option Inbound) CarrierFault) (c : C) (old : WorldState C) (r : Result (Unit {0}) WorldFault) (new : WorldState C) → (w : Whole old) → old.stopped ≡ false
      → strange h ≡ true → ShowsTake (own.seen old.carrier) h answer (own.seen c) → FetchEnds answer c old r new → Whole new
  fetch_ends h (Ok None) c old r new w running on shows ends = quiet_by c old r new w running (grown_hosts (own.seen old.carrier) [] (own.seen c) shows ∙ w.network) ends
  fetch_ends h (Ok (Some (inbound.Message m))) c old r new w running on shows ends =
      strange_whole (crossing.In m) c old r new w running (grown_hosts (own.seen old.carrier) (crossing.In m ∷ []) (own.seen c) shows.0 ∙ w.network) tt (ap strange shows.1 ∙ on) ends
  fetch_ends h (Ok (Some (inbound.Answer kind f))) c old r new w running on shows ends =
      strange_whole (crossing.Answer kind f) c old r new w running (grown_hosts (own.seen old.carrier) (crossing.Answer kind f ∷ []) (own.seen c) shows.0 ∙ w.network) tt (ap strange shows.1 ∙ on) ends
  fetch_ends h (Err e) c old r new w running on shows ends = passed_whole e c old r new w running (refused_hosts (own.seen old.carrier) e (own.seen c) shows ∙ w.network) ends

  pub fetch_among : (h : Host) (old : WorldState C) (r : Result (Unit {0}) WorldFault) (new : WorldState C) → (w : Whole old) → old.stopped ≡ false → strange h ≡ true → FetchGives calls h old r new → Whole new
  fetch_among h old r new w running on t = fetch_ends h t.0 t.1 old r new w running on t.2.1 t.3

-- a host that is among some is one of them
host_by : (hs : List Host) (h : Host) → (rest : Bool) → (same_host h h || rest) ≡ true
host_by hs h rest = rw (same_host-refl h) refl

later_host : (g h : Host) (b : Bool) → (same_host h g || true) ≡ true
later_host g h b = by (same_host h g) where
  by : (c : Bool) → (c || true) ≡ true
  by true = refl
  by false = refl

-- the opening seats
opening_by : (hosts hs : List Host) → ((h : Host) → is_host hs h ≡ true → is_host hosts h ≡ true) → opening_seats hs ≡ map (seat_in hosts []) hs
opening_by hosts [] all = refl
opening_by hosts (h ∷ hs) all =
    let here : is_host hosts h ≡ true = all h (host_by hs h (is_host hs h)) in
    let seat : record { host = h; program = Some (program h []) } ≡ seat_in hosts [] h = rw here refl in
    ap (λ (s : Seat). s ∷ opening_seats hs) seat ∙ ap (λ (ss : List Seat). seat_in hosts [] h ∷ ss) (opening_by hosts hs (λ g is. all g (rw is (later_host h g true))))

-- some of the hosts are hosts
pub some_hosts : (test : Host → Bool) (hosts : List Host) (h : Host) → is_host (filter test hosts) h ≡ true → is_host hosts h ≡ true
some_hosts test [] h is = is
some_hosts test (g ∷ hosts) h is = by (λ later. some_hosts test hosts h later) (test g) refl where
  more : (is_host (filter test hosts) h ≡ true → is_host hosts h ≡ true) → (b : Bool) → same_host h g ≡ b → is_host (g ∷ filter test hosts) h ≡ true → is_host (g ∷ hosts) h ≡ true
  more rest true same here = rw same refl
  more rest false same here = rw same (rest (rw same at here))

  by : (is_host (filter test hosts) h ≡ true → is_host hosts h ≡ true) → (b : Bool) → test g ≡ b → is_host (g ∷ hosts) h ≡ true
  by rest true e = more rest (same_host h g) refl (rw e at is)
  by rest false e = let there : is_host hosts h ≡ true = rest (rw e at is) in rw there (later_host g h true)

pub opening_among_whole : {C : Type 0} (own : Calls C) (strangers : List Host) (c : C) → IsWholeAmong (λ h. is_host strangers h) own.seen (own.seen c).hosts (opening_among (shown own) strangers c)
opening_among_whole own strangers c = record {
  moments = [];
  mixed = tt;
  network = refl;
  crossings = refl;
  contacts = refl;
  kept = refl;
  seats = λ running. opening_by (own.seen c).hosts (with_programs (λ h. is_host strangers h) (own.seen c).hosts) (some_hosts (λ h. not (is_host strangers h)) (own.seen c).hosts);
  services = λ running. opening_served (with_programs (λ h. is_host strangers h) (own.seen c).hosts);
}
