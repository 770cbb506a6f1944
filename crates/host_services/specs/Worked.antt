-- What the worked rows speak of: a host with a program that has just come up, and its services.
use Rattle.std.specs.Prelude.{ℕ}
use Rattle.interface.specs.Host.{Host}
use Rattle.sockets.specs.Pairs.{opening_state}
use Rattle.host_services.specs.Services.{ServiceDeskState, opening_desk}
use Rattle.host_services.specs.declared.report.Report.{Report}
use Rattle.host_services.specs.declared.report.Reported.{Reported}

abbrev pub first : Host
first = record { imp = 1; host = 0 }

abbrev pub second : Host
second = record { imp = 2; host = 0 }

-- the second host, with six notices in its book
abbrev pub fresh : ServiceDeskState
fresh = opening_desk second 6 (opening_state second)

-- a report of the second host, with this many notices before it
abbrev pub of_second : ℕ → Report → Reported
of_second notices report = record { host = second; notices = notices; report = report }
