-- The notices to two hosts while a user of the second connects with a server of the first: words for worked examples.
use Rattle.std.specs.Prelude.{ℕ, List, [], ◌∷◌}
use Rattle.interface.specs.Host.{Host}
use Rattle.host_pairs.specs.declared.notice.Notice.{Notice}
use Rattle.host_pairs.specs.declared.notice.Notice.TheVariants as notice
use Rattle.host_services.specs.declared.report.Report.{Report}
use Rattle.icp.specs.Sockets.{socket_bits}
use Rattle.promise.specs.declared.book.Told.{Told}
use Rattle.host_services.specs.declared.report.Reported.{Reported}
use Rattle.sockets.specs.Worked.{first, second}

abbrev pub said_to : Host → Notice → Told
said_to h n = record { host = h; place = 0; notice = n }

-- the server listens on socket 7 with the base 100, and the user has socket 16. The server's ends open before the user's
abbrev pub connecting : List Told
connecting =
    said_to first (notice.Opened 7 second 16 0 0) ∷ said_to second (notice.Opened 16 first 7 0 0) ∷ said_to second (notice.Arrived 16 (socket_bits 100))
    ∷ said_to first (notice.Opened 101 second 18 0 0) ∷ said_to first (notice.Opened 100 second 19 0 0)
    ∷ said_to second (notice.Opened 18 first 101 0 0) ∷ said_to second (notice.Opened 19 first 100 0 0) ∷ []

-- a report of a host, where this many notices was in the book
abbrev pub said_by : Host → ℕ → Report → Reported
said_by h notices what = record { host = h; notices = notices; report = what }
