-- Calls of a program leave it its host's, and memory lasts in it; so do its services.
use Rattle.world_trace.proofs.Common.{All-append, All-cons, All-head, All-nil, All-tail, All, Notice, Service, Host, NcpState, refusal, served, NcpFault, Request, ProgramLasts, ServiceLasts, accepted, offered}
use Rattle.std.proofs.Common.{◌≡◌, ℕ, Bool, true, false, if◌then◌else◌, List, [], ◌∷◌, ◌++◌, length, nat_lt, take, Option, Some, None, refl, ◌∙◌, ◌&&◌}
use Rattle.host_services.specs.Services.{ServiceDeskState, ServicesState, noticing, reporting, serving, typing_on}
use Rattle.icp.specs.Server.{ServerState, opening_server, server_by, server_failure, server_requests, server_turn}
use Rattle.icp.specs.User.{UserState, opening_user, user_by, user_failure, user_heard, user_met, user_requests, user_stage, user_turn}
use Rattle.terminal.specs.Machines.{EchoState, TerminalState, echo_by, echo_turn, terminal_by, terminal_heard, terminal_turn}
use Rattle.host_services.specs.Turns as turns
use Rattle.host_services.specs.Turns.{Turned, all_heard, asked_by, asks, heard_by, line_told, lines_told, notice_heard, server_asked, server_asks, server_begins, server_begun, server_ends, services_told, tried, tried_by, tries, user_asked, user_asks, user_begins, user_begun, user_ends}
use Rattle.host_services.specs.declared.report.Report.TheVariants as report
use Rattle.host_services.specs.declared.service.Service.TheVariants as service
use Rattle.icp.specs.Notices.{arrived_on, is_opened}
use Rattle.icp.specs.Outcomes.{IcpTurn}
use Rattle.icp.specs.Sockets.{server_fault, socket_of, user_fault}
use Rattle.icp.specs.declared.fault.StartFault.{StartFault}
use Rattle.icp.specs.declared.outcome.Failure.{Failure}
use Rattle.icp.specs.declared.outcome.Outcome.{Outcome}
use Rattle.icp.specs.declared.outcome.Outcome.TheVariants as outcome
use Rattle.interface.specs.declared.Inbound.{Inbound}
use Rattle.ncp_control.specs.Numbers.{is_receive_socket}
use Rattle.net_sim.proofs.lemmas.{Stays, accepted_stays, offered_stays, served_stays}
use Rattle.terminal.specs.Ends as ends

-- ---- programs

still_lasts : (h : Host) (s t : NcpState) → Stays s t → ProgramLasts h s → ProgramLasts h t
still_lasts h s t stays is = record { own = stays.own ∙ is.own; unspent = stays.spent ∙ is.unspent }

module _ (h : Host) where
  pub served_lasts : (s : NcpState) (r : Request) → ProgramLasts h s → ProgramLasts h (served s r)
  served_lasts s r is = still_lasts h s (served s r) (served_stays s r) is

  pub offered_lasts : (s : NcpState) (stamp : ℕ) → ProgramLasts h s → ProgramLasts h (offered s stamp).0
  offered_lasts s stamp is = still_lasts h s (offered s stamp).0 (offered_stays s stamp) is

  pub accepted_lasts : (s : NcpState) (i : Inbound) (stamp : ℕ) → ProgramLasts h s → ProgramLasts h (accepted s i stamp).0
  accepted_lasts s i stamp is = still_lasts h s (accepted s i stamp).0 (accepted_stays s i stamp) is

-- ---- servers, users, echo services and terminals

server_by_unspent : (s : ServerState) (n : Notice) (o : Option Failure) → (server_by s n o).0.spent ≡ s.spent
server_by_unspent s n None = refl
server_by_unspent s n (Some f) = refl

server_unspent : (s : ServerState) (n : Notice) → (server_turn s n).0.spent ≡ s.spent
unfolding server_turn
server_unspent s n = by s.over where
  by : (b : Bool) → (if b then (s, [], None) else server_by s n (server_failure s n)).0.spent ≡ s.spent
  by true = refl
  by false = server_by_unspent s n (server_failure s n)

-- a turn of a user leaves it as unspent as it was
abbrev UserStays : UserState → IcpTurn UserState → Type 0
UserStays u t = t.0.spent ≡ u.spent

user_if : (b : Bool) (u : UserState) (t v : IcpTurn UserState) → UserStays u t → UserStays u v → UserStays u (if b then t else v)
user_if true u t v k l = k
user_if false u t v k l = l

user_heard_stays : (u : UserState) (o : Option (List Bool)) → UserStays u (user_heard u o)
user_heard_stays u None = refl
user_heard_stays u (Some bits) =
    user_if (nat_lt (length (u.bits ++ bits)) 32) u _ _ refl (user_if (is_receive_socket (socket_of (take 32 (u.bits ++ bits)))) u _ _ refl refl)

user_stage_stays : (u : UserState) (n : Notice) (o : Option ℕ) → UserStays u (user_stage u n o)
user_stage_stays u n None = user_if u.opened u _ _ (user_heard_stays u (arrived_on u.own n)) (user_if (is_opened u.own u.peer u.listen n) u _ _ refl refl)
user_stage_stays u n (Some base) = user_if ((user_met u base n).receiving && (user_met u base n).sending) u _ _ refl refl

user_by_stays : (u : UserState) (n : Notice) (o : Option Failure) → UserStays u (user_by u n o)
user_by_stays u n None = user_stage_stays u n u.base
user_by_stays u n (Some f) = refl

user_unspent : (u : UserState) (n : Notice) → UserStays u (user_turn u n)
unfolding user_turn
user_unspent u n = user_if u.over u _ _ refl (user_by_stays u n (user_failure u n))

echo_by_unspent : (e : EchoState) (o : Option (List Bool)) (closes : List Request) → (echo_by e o closes).0.spent ≡ e.spent
echo_by_unspent e None closes = refl
echo_by_unspent e (Some bits) closes = refl

echo_unspent : (e : EchoState) (n : Notice) → (echo_turn e n).0.spent ≡ e.spent
unfolding echo_turn
echo_unspent e n = echo_by_unspent e (ends.arrived_on e.receive n) (ends.closed_by e.receive e.send n)

terminal_by_unspent : (t : TerminalState) (o : Option (List Bool)) (closes : List Request) → (terminal_by t o closes).state.spent ≡ t.spent
unfolding terminal_heard
terminal_by_unspent t None closes = refl
terminal_by_unspent t (Some bits) closes = refl

terminal_unspent : (t : TerminalState) (n : Notice) → (terminal_turn t n).state.spent ≡ t.spent
unfolding terminal_turn
terminal_unspent t n = terminal_by_unspent t (ends.arrived_on t.receive n) (ends.closed_by t.receive t.send n)

-- ---- turns of services

-- memory lasts in a service after its turn, and in the program at the desk
record TurnLasts (h : Host) (t : Turned) : Type 0 where
  itself : ServiceLasts t.0
  desk : ProgramLasts h t.1.program

-- in all services after a notice
record AllLast (h : Host) (t : List Service × ServiceDeskState) : Type 0 where
  services : All ServiceLasts t.0
  desk : ProgramLasts h t.1.program

-- and in what a call leaves
pub record BothLast (h : Host) (t : ServicesState × ServiceDeskState) : Type 0 where
  pub services : All ServiceLasts t.0.running
  pub desk : ProgramLasts h t.1.program

module _ (h : Host) where
  abbrev DeskLasts : ServiceDeskState → Type 0
  DeskLasts d = ProgramLasts h d.program

  tried_lasts : (d : ServiceDeskState) (r : Request) → DeskLasts d → DeskLasts (tried d r)
  tried_lasts d r is = by (refusal d.program r) where
    by : (o : Option NcpFault) → DeskLasts (tried_by o r d)
    by None = served_lasts h d.program r is
    by (Some f) = is

  tries_last : (rs : List Request) (d : ServiceDeskState) → DeskLasts d → DeskLasts (tries d rs)
  tries_last [] d is = is
  tries_last (r ∷ rs) d is = tries_last rs (tried d r) (tried_lasts d r is)

  asks_last : (rs : List Request) (d : ServiceDeskState) → DeskLasts d → DeskLasts (asks d rs).0
  asks_last [] d is = is
  asks_last (r ∷ rs) d is = by (refusal d.program r) (asks_last rs (serving r d) (served_lasts h d.program r is)) where
    by : (o : Option NcpFault) → DeskLasts (asks (serving r d) rs).0 → DeskLasts (asked_by o d (asks (serving r d) rs)).0
    by None later = later
    by (Some f) later = is

  lines_last : (lines : List (List ℕ)) (d : ServiceDeskState) → DeskLasts d → DeskLasts (lines_told d lines)
  lines_last [] d is = is
  lines_last (line ∷ lines) d is = lines_last lines (line_told d line) is

  server_became : (s : ServerState) (d : ServiceDeskState) (o : Option Outcome) → s.spent ≡ false → DeskLasts d → TurnLasts h (turns.became (service.Server s) (server_ends d o))
  server_became s d None unspent is = record { itself = unspent; desk = is }
  server_became s d (Some (outcome.Failed f)) unspent is = record { itself = unspent; desk = is }
  server_became s d (Some (outcome.Done receive send)) unspent is = record { itself = refl; desk = tries_last (ends.first_requests receive) (reporting (report.Server (outcome.Done receive send)) d) is }

  server_asked_lasts : (s : ServerState) (o : Option Outcome) (t : ServiceDeskState × Option NcpFault) → s.spent ≡ false → DeskLasts t.0 → TurnLasts h (server_asked s o t)
  server_asked_lasts s o (d, None) unspent is = server_became s d o unspent is
  server_asked_lasts s o (d, Some f) unspent is = server_became _ d _ unspent is

  server_asks_last : (t : IcpTurn ServerState) (d : ServiceDeskState) → t.0.spent ≡ false → DeskLasts d → TurnLasts h (server_asks t d)
  server_asks_last t d unspent is = server_asked_lasts t.0 t.2 (asks d t.1) unspent (asks_last t.1 d is)

  user_became : (u : UserState) (d : ServiceDeskState) (o : Option Outcome) → u.spent ≡ false → DeskLasts d → TurnLasts h (turns.became (service.User u) (user_ends d o))
  user_became u d None unspent is = record { itself = unspent; desk = is }
  user_became u d (Some (outcome.Failed f)) unspent is = record { itself = unspent; desk = is }
  user_became u d (Some (outcome.Done receive send)) unspent is =
      record { itself = refl; desk = tries_last (ends.first_requests receive) (typing_on (Some send) (reporting (report.User (outcome.Done receive send)) d)) is }

  user_asked_lasts : (u : UserState) (o : Option Outcome) (t : ServiceDeskState × Option NcpFault) → u.spent ≡ false → DeskLasts t.0 → TurnLasts h (user_asked u o t)
  user_asked_lasts u o (d, None) unspent is = user_became u d o unspent is
  user_asked_lasts u o (d, Some f) unspent is = user_became _ d _ unspent is

  user_asks_last : (t : IcpTurn UserState) (d : ServiceDeskState) → t.0.spent ≡ false → DeskLasts d → TurnLasts h (user_asks t d)
  user_asks_last t d unspent is = user_asked_lasts t.0 t.2 (asks d t.1) unspent (asks_last t.1 d is)

  heard_lasts : (n : Notice) (s : Service) (d : ServiceDeskState) → ServiceLasts s → DeskLasts d → TurnLasts h (heard_by n s d)
  heard_lasts n (service.Server s) d unspent is = server_asks_last (server_turn s n) d (server_unspent s n ∙ unspent) is
  heard_lasts n (service.User u) d unspent is = user_asks_last (user_turn u n) d (user_unspent u n ∙ unspent) is
  heard_lasts n (service.Echo e) d unspent is = record { itself = echo_unspent e n ∙ unspent; desk = tries_last (echo_turn e n).1 d is }
  heard_lasts n (service.Terminal t) d unspent is = record {
    itself = terminal_unspent t n ∙ unspent;
    desk = lines_last (terminal_turn t n).lines (tries d (terminal_turn t n).requests) (tries_last (terminal_turn t n).requests d is);
  }

  notice_lasts : (n : Notice) (running : List Service) (d : ServiceDeskState) → All ServiceLasts running → DeskLasts d → AllLast h (notice_heard n running d)
  notice_lasts n [] d all is = record { services = All-nil ServiceLasts; desk = is }
  notice_lasts n (s ∷ running) d all is =
      let one : TurnLasts h (heard_by n s d) = heard_lasts n s d (All-head ServiceLasts s running all) is in
      let others : AllLast h (notice_heard n running (heard_by n s d).1) = notice_lasts n running (heard_by n s d).1 (All-tail ServiceLasts s running all) one.desk in
      record { services = All-cons ServiceLasts (heard_by n s d).0 (notice_heard n running (heard_by n s d).1).0 one.itself others.services; desk = others.desk }

  notices_last : (ns : List Notice) (running : List Service) (d : ServiceDeskState) → All ServiceLasts running → DeskLasts d → AllLast h (all_heard ns running d)
  notices_last [] running d all is = record { services = all; desk = is }
  notices_last (n ∷ ns) running d all is =
      let one : AllLast h (notice_heard n running (noticing d)) = notice_lasts n running (noticing d) all is in
      notices_last ns (notice_heard n running (noticing d)).0 (notice_heard n running (noticing d)).1 one.services one.desk

  -- ---- what a call leaves

  pub told_last : (ns : List Notice) (s : ServicesState) (d : ServiceDeskState) → All ServiceLasts s.running → ProgramLasts h d.program → BothLast h (services_told ns s d)
  unfolding services_told
  told_last ns s d all is = let after : AllLast h (all_heard ns s.running (typing_on s.typing d)) = notices_last ns s.running (typing_on s.typing d) all is in record { services = after.services; desk = after.desk }

  joined_last : (running : List Service) (t : Turned) → All ServiceLasts running → TurnLasts h t → AllLast h (turns.service_joined running t)
  joined_last running t all one = record { services = All-append ServiceLasts running (t.0 ∷ []) all (All-cons ServiceLasts t.0 [] one.itself (All-nil ServiceLasts)); desk = one.desk }

  server_begins_last : (listen base : ℕ) (running : List Service) (d : ServiceDeskState) (o : Option StartFault) → All ServiceLasts running → DeskLasts d → AllLast h (server_begins listen base running d o)
  server_begins_last listen base running d (Some f) all is = record { services = all; desk = is }
  server_begins_last listen base running d None all is =
      joined_last running (server_asks (opening_server listen base, server_requests listen base, None) d) all (server_asks_last (opening_server listen base, server_requests listen base, None) d refl is)

  pub server_last : (listen base : ℕ) (s : ServicesState) (d : ServiceDeskState) → All ServiceLasts s.running → ProgramLasts h d.program → BothLast h (server_begun listen base s d)
  unfolding server_begun
  server_last listen base s d all is =
      let after : AllLast h (server_begins listen base s.running (typing_on s.typing d) (server_fault listen base)) = server_begins_last listen base s.running (typing_on s.typing d) (server_fault listen base) all is in
      record { services = after.services; desk = after.desk }

  user_begins_last : (peer : Host) (listen own : ℕ) (running : List Service) (d : ServiceDeskState) (o : Option StartFault) → All ServiceLasts running → DeskLasts d → AllLast h (user_begins peer listen own running d o)
  user_begins_last peer listen own running d (Some f) all is = record { services = all; desk = is }
  user_begins_last peer listen own running d None all is =
      joined_last running (user_asks (opening_user peer listen own, user_requests peer listen own, None) d) all (user_asks_last (opening_user peer listen own, user_requests peer listen own, None) d refl is)

  pub user_last : (peer : Host) (listen own : ℕ) (s : ServicesState) (d : ServiceDeskState) → All ServiceLasts s.running → ProgramLasts h d.program → BothLast h (user_begun peer listen own s d)
  unfolding user_begun
  user_last peer listen own s d all is =
      let after : AllLast h (user_begins peer listen own s.running (typing_on s.typing d) (user_fault listen own)) = user_begins_last peer listen own s.running (typing_on s.typing d) (user_fault listen own) all is in
      record { services = after.services; desk = after.desk }
