-- What services report of initial connections, and what their hosts heard until then (RFC 165).
use Rattle.std.specs.Prelude.{◌≡◌, ◌⊎◌, ℕ, ◌+◌, ◌≤◌, true, false, List, ◌++◌, map, filter, length, take, None, All}
use Rattle.interface.specs.Host.{Host, same_host}
use Rattle.host_pairs.specs.declared.notice.Notice.{Notice}
use Rattle.icp.specs.Played.{IsConnected, IsServed, server_played, user_played}
use Rattle.icp.specs.Server.{opening_server}
use Rattle.icp.specs.Sockets.{server_fault, user_fault}
use Rattle.icp.specs.User.{opening_user}
use Rattle.icp.specs.declared.outcome.Outcome.TheVariants as outcome
use Rattle.host_services.specs.declared.report.Report.{Report}
use Rattle.host_services.specs.declared.report.Report.TheVariants as report
use Rattle.host_services.specs.declared.service.Service.{Service}
use Rattle.host_services.specs.declared.service.Service.TheVariants as service
use Rattle.promise.specs.declared.book.Told.{Told}
use Rattle.host_services.specs.declared.report.Reported.{Reported}
use Rattle.net_sim.specs.World.{ServiceSeat, WorldState}

-- the notices to a host, by the notices of all hosts
abbrev pub told_to : Host → List Told → List Notice
told_to h told = map (λ x. x.notice) (filter (λ x. same_host h x.host) told)

-- ---- machines that may have begun

-- sockets with which a server can begin, and the notices after some one of those that its host heard
pub record BegunServer (notices : List Notice) : Type 0 where
  pub listen : ℕ
  pub base : ℕ
  pub can : server_fault listen base ≡ None
  pub earlier : List Notice
  pub since : List Notice
  pub parts : notices ≡ earlier ++ since

-- and of a user
pub record BegunUser (notices : List Notice) : Type 0 where
  pub peer : Host
  pub listen : ℕ
  pub own : ℕ
  pub can : user_fault listen own ≡ None
  pub earlier : List Notice
  pub since : List Notice
  pub parts : notices ≡ earlier ++ since

-- ---- what is reported

-- a server is done with these two sockets, its base and the one above it: from some notice on its host was informed that a user asks, and
-- that both were opened with sockets of that user, crosswise
pub record ServerIsDone (notices : List Notice) (receive send : ℕ) : Type 0 where
  pub began : BegunServer notices
  pub receives : receive ≡ began.base
  pub sends : send ≡ began.base + 1
  pub served : IsServed began.listen began.base began.since

-- a user is done with these two sockets, two and three above its own: from some notice on its host was informed that the server says an
-- even base, and that both were opened with the base and the socket above it, crosswise
pub record UserIsDone (notices : List Notice) (receive send : ℕ) : Type 0 where
  pub began : BegunUser notices
  pub receives : receive ≡ began.own + 2
  pub sends : send ≡ began.own + 3
  pub connected : IsConnected began.peer began.listen began.own began.since

-- a report is true of a host that got these notices: a machine that is reported done is done. Of other reports nothing is asked
abbrev pub IsSo : List Notice → Report → Type 0
IsSo notices (report.Server (outcome.Done receive send)) = ServerIsDone notices receive send
IsSo notices (report.User (outcome.Done receive send)) = UserIsDone notices receive send
IsSo notices r = Unit {0}

-- a report is true at its place in the book: of what its host heard until then
pub record IsBacked (told : List Told) (r : Reported) : Type 0 where
  pub within : r.notices ≤ length told
  pub so : IsSo (told_to r.host (take r.notices told)) r.report

-- ---- what runs

-- a server or a user has had its outcome, or is as the notices from some one on have left it
abbrev pub IsRunning : List Notice → Service → Type 0
IsRunning notices (service.Server s) = (s.over ≡ true) ⊎ ((b : BegunServer notices) × (s ≡ (server_played (opening_server b.listen b.base) b.since).0))
IsRunning notices (service.User s) = (s.over ≡ true) ⊎ ((b : BegunUser notices) × (s ≡ (user_played (opening_user b.peer b.listen b.own) b.since).0))
IsRunning notices s = Unit {0}

-- the same of all services of all these hosts
abbrev pub AreRunning : List Told → List ServiceSeat → Type 0
AreRunning told all = All (λ s. All (IsRunning (told_to s.host told)) s.services.running) all

-- each report in the book is true at its place; and until memory runs out all that runs is as its host heard
pub record AreReported {C : Type 0} (w : WorldState C) : Type 0 where
  pub reports : All (IsBacked w.kept.book.notices) w.kept.book.reports
  pub services : w.stopped ≡ false → AreRunning w.kept.book.notices w.services
