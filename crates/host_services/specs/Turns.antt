-- The turns of a host's services: each is notified of a notice, in the order of their events, and what it asks for is asked of the
-- host's control program before the next one has its turn.
use Rattle.std.specs.Prelude.{ℕ, ◌+◌, List, [], ◌∷◌, ◌++◌, length, Option, Some, None}
use Rattle.std.specs.List.{fold}
use Rattle.std.specs.Option.{option_or}
use Rattle.interface.specs.Host.{Host}
use Rattle.icp.specs.Outcomes.{IcpTurn}
use Rattle.icp.specs.Server.{ServerState, opening_server, server_local, server_requests, server_turn}
use Rattle.icp.specs.Sockets.{server_fault, user_fault}
use Rattle.icp.specs.User.{UserState, opening_user, user_local, user_requests, user_turn}
use Rattle.icp.specs.declared.fault.StartFault.{StartFault}
use Rattle.icp.specs.declared.outcome.Failure.TheVariants as failure
use Rattle.icp.specs.declared.outcome.Outcome.{Outcome}
use Rattle.icp.specs.declared.outcome.Outcome.TheVariants as outcome
use Rattle.terminal.specs.Ends.{first_requests}
use Rattle.terminal.specs.Machines.{EchoState, TerminalTurn, echo_turn, opening_echo, opening_terminal, terminal_turn}
use Rattle.host_pairs.specs.declared.notice.Notice.{Notice}
use Rattle.sockets.specs.Requests.{refusal}
use Rattle.sockets.specs.declared.fault.NcpFault.{NcpFault}
use Rattle.sockets.specs.declared.request.Request.{Request}
use Rattle.host_services.specs.Services.{Service, ServicesState, ServiceDeskState, typing_on, noticing, serving, reporting}
use Rattle.host_services.specs.declared.report.Report.TheVariants as report
use Rattle.host_services.specs.declared.service.Service.TheVariants as service

-- ---- requests

-- a request that is refused is ignored
abbrev pub tried_by : Option NcpFault → Request → ServiceDeskState → ServiceDeskState
tried_by None r d = serving r d
tried_by (Some f) r d = d

abbrev pub tried : ServiceDeskState → Request → ServiceDeskState
tried d r = tried_by (refusal d.program r) r d

-- an echo service and a terminal keep asking, whatever is refused
abbrev pub tries : ServiceDeskState → List Request → ServiceDeskState
tries d requests = fold tried d requests

-- a server and a user ask until they are refused: what was served before is, and what follows is ignored
abbrev pub asked_by : Option NcpFault → ServiceDeskState → ServiceDeskState × Option NcpFault → ServiceDeskState × Option NcpFault
asked_by None d rest = rest
asked_by (Some f) d rest = (d, Some f)

abbrev pub asks : ServiceDeskState → List Request → ServiceDeskState × Option NcpFault
asks d [] = (d, None)
asks d (r ∷ requests) = asked_by (refusal d.program r) d (asks (serving r d) requests)

-- ---- initial connections

-- a service after its turn, and the desk
abbrev pub Turned : Type 0
Turned = Service × ServiceDeskState

-- what follows a service, if anything does, takes its place
abbrev pub became : Service → Option Service × ServiceDeskState → Turned
became s (None, d) = (s, d)
became s (Some next, d) = (next, d)

-- a server that is done becomes an echo service on its two connections, and one that fails stays as it is
abbrev pub server_ends : ServiceDeskState → Option Outcome → Option Service × ServiceDeskState
server_ends d None = (None, d)
server_ends d (Some (outcome.Failed f)) = (None, reporting (report.Server (outcome.Failed f)) d)
server_ends d (Some (outcome.Done receive send)) =
    (Some (service.Echo (opening_echo receive send)), tries (reporting (report.Server (outcome.Done receive send)) d) (first_requests receive))

-- it learns of a refused request
abbrev pub server_asked : ServerState → Option Outcome → ServiceDeskState × Option NcpFault → Turned
server_asked s o (d, None) = became (service.Server s) (server_ends d o)
server_asked s o (d, Some f) = became (service.Server (server_local s f).0) (server_ends d (option_or o (server_local s f).1))

-- it asks for all this, and comes to this outcome
abbrev pub server_asks : IcpTurn ServerState → ServiceDeskState → Turned
server_asks t d = server_asked t.0 t.2 (asks d t.1)

-- a user that is done becomes a terminal on its two connections, and what is typed goes there from now on
abbrev pub user_ends : ServiceDeskState → Option Outcome → Option Service × ServiceDeskState
user_ends d None = (None, d)
user_ends d (Some (outcome.Failed f)) = (None, reporting (report.User (outcome.Failed f)) d)
user_ends d (Some (outcome.Done receive send)) = (
  Some (service.Terminal (opening_terminal receive send)),
  tries (typing_on (Some send) (reporting (report.User (outcome.Done receive send)) d)) (first_requests receive),
)

abbrev pub user_asked : UserState → Option Outcome → ServiceDeskState × Option NcpFault → Turned
user_asked s o (d, None) = became (service.User s) (user_ends d o)
user_asked s o (d, Some f) = became (service.User (user_local s f).0) (user_ends d (option_or o (user_local s f).1))

abbrev pub user_asks : IcpTurn UserState → ServiceDeskState → Turned
user_asks t d = user_asked t.0 t.2 (asks d t.1)

-- ---- what follows them

abbrev pub echo_asks : EchoState × List Request → ServiceDeskState → Turned
echo_asks t d = (service.Echo t.0, tries d t.1)

-- lines are reported one by one
abbrev pub line_told : ServiceDeskState → List ℕ → ServiceDeskState
line_told d line = reporting (report.Line line) d

abbrev pub lines_told : ServiceDeskState → List (List ℕ) → ServiceDeskState
lines_told d lines = fold line_told d lines

abbrev pub terminal_asks : TerminalTurn → ServiceDeskState → Turned
terminal_asks t d = (service.Terminal t.state, lines_told (tries d t.requests) t.lines)

-- ---- a notice

-- one service is notified of a notice
abbrev pub heard_by : Notice → Service → ServiceDeskState → Turned
heard_by n (service.Server s) d = server_asks (server_turn s n) d
heard_by n (service.User s) d = user_asks (user_turn s n) d
heard_by n (service.Echo s) d = echo_asks (echo_turn s n) d
heard_by n (service.Terminal s) d = terminal_asks (terminal_turn s n) d

-- all of them, one after another
abbrev pub notice_heard : Notice → List Service → ServiceDeskState → List Service × ServiceDeskState
notice_heard n [] d = ([], d)
notice_heard n (s ∷ services) d =
    let t : Turned = heard_by n s d in
    let rest : List Service × ServiceDeskState = notice_heard n services t.1 in
    (t.0 ∷ rest.0, rest.1)

-- several notices, one after another
abbrev pub all_heard : List Notice → List Service → ServiceDeskState → List Service × ServiceDeskState
all_heard [] services d = (services, d)
all_heard (n ∷ notices) services d =
    let t : List Service × ServiceDeskState = notice_heard n services (noticing d) in
    all_heard notices t.0 t.1

-- ---- what a call leaves: the services, and the desk

abbrev pub services_left : List Service × ServiceDeskState → ServicesState × ServiceDeskState
services_left t = (record { running = t.0; typing = t.1.typing }, t.1)

-- a host is notified of all this
unfoldable pub services_told : List Notice → ServicesState → ServiceDeskState → ServicesState × ServiceDeskState
services_told notices s d = services_left (all_heard notices s.running (typing_on s.typing d))

-- services that hear none of this: they are counted, and nothing else happens
abbrev pub passed_by : List Notice → ServicesState → ServiceDeskState → ServicesState × ServiceDeskState
passed_by notices s d = (s, record d { notices = d.notices + length notices; typing = s.typing })

-- ---- new services

-- a service is the last now
abbrev pub service_joined : List Service → Turned → List Service × ServiceDeskState
service_joined running t = (running ++ t.0 ∷ [], t.1)

-- a server begins. One that can't has failed, and is none of the services
abbrev pub server_begins : ℕ → ℕ → List Service → ServiceDeskState → Option StartFault → List Service × ServiceDeskState
server_begins listen base running d (Some f) = (running, reporting (report.Server (outcome.Failed failure.BadSocket)) d)
server_begins listen base running d None = service_joined running (server_asks (opening_server listen base, server_requests listen base, None) d)

unfoldable pub server_begun : ℕ → ℕ → ServicesState → ServiceDeskState → ServicesState × ServiceDeskState
server_begun listen base s d = services_left (server_begins listen base s.running (typing_on s.typing d) (server_fault listen base))

-- a user begins
abbrev pub user_begins : Host → ℕ → ℕ → List Service → ServiceDeskState → Option StartFault → List Service × ServiceDeskState
user_begins peer listen own running d (Some f) = (running, reporting (report.User (outcome.Failed failure.BadSocket)) d)
user_begins peer listen own running d None = service_joined running (user_asks (opening_user peer listen own, user_requests peer listen own, None) d)

unfoldable pub user_begun : Host → ℕ → ℕ → ServicesState → ServiceDeskState → ServicesState × ServiceDeskState
user_begun peer listen own s d = services_left (user_begins peer listen own s.running (typing_on s.typing d) (user_fault listen own))
