-- What runs on a host beside its network control program, and the host while it has its turn.
use Rattle.std.specs.Prelude.{ℕ, ◌+◌, List, [], ◌∷◌, ◌++◌, Option, None}
use Rattle.interface.specs.Host.{Host}
use Rattle.sockets.specs.Pairs.{NcpState}
use Rattle.sockets.specs.Requests.{served}
use Rattle.sockets.specs.declared.request.Request.{Request}
pub use Rattle.host_services.specs.declared.report.Report.{Report}
pub use Rattle.host_services.specs.declared.report.Reported.{Reported}
pub use Rattle.host_services.specs.declared.service.Service.{Service}

-- the services of a host, in the order of their events, and the socket on which the terminal that came last sends
pub record ServicesState : Type 0 where
  pub running : List Service
  pub typing : Option ℕ

abbrev pub no_services : ServicesState
no_services = record { running = []; typing = None }

-- a host while its services have their turns: how many notices are in the book, the one that they are notified of among them; its
-- control program; where what is typed goes; which of their requests were served; and what they have reported
pub record ServiceDeskState : Type 0 where
  pub host : Host
  pub notices : ℕ
  pub program : NcpState
  pub typing : Option ℕ
  pub asked : List Request
  pub reports : List Reported

-- nothing was asked and reported yet
abbrev pub opening_desk : Host → ℕ → NcpState → ServiceDeskState
opening_desk host notices program = record { host = host; notices = notices; program = program; typing = None; asked = []; reports = [] }

-- what is typed goes there
abbrev pub typing_on : Option ℕ → ServiceDeskState → ServiceDeskState
typing_on typing d = record d { typing = typing }

-- they are notified of one notice more
abbrev pub noticing : ServiceDeskState → ServiceDeskState
noticing d = record d { notices = d.notices + 1 }

-- a request is served
abbrev pub serving : Request → ServiceDeskState → ServiceDeskState
serving r d = record d { program = served d.program r; asked = d.asked ++ r ∷ [] }

-- something is reported
abbrev pub reporting : Report → ServiceDeskState → ServiceDeskState
reporting report d = record d { reports = d.reports ++ record { host = d.host; notices = d.notices; report = report } ∷ [] }
