-- A finished initial connection in a book: what the two machines reported, and the four ends (RFC 165).
use Rattle.std.specs.Prelude.{◌≡◌, ℕ, ◌+◌, false, List}
use Rattle.std.specs.List.{Contains}
use Rattle.interface.specs.Host.{Host}
use Rattle.icp.specs.declared.outcome.Outcome.TheVariants as outcome
use Rattle.host_services.specs.declared.report.Report.{Report}
use Rattle.host_services.specs.declared.report.Report.TheVariants as report
use Rattle.host_services.specs.declared.report.Reported.{Reported}
use Rattle.promise.specs.Book.{Book}
use Rattle.promise.specs.Safe.{Match}
use Rattle.promise.specs.declared.life.Life.{Life}

-- a service of this host has reported this
pub record HasReported (host : Host) (what : Report) (reports : List Reported) : Type 0 where
  pub entry : Reported
  pub there : Contains reports entry
  pub by : entry.host ≡ host
  pub report : entry.report ≡ what

-- a life of the book that continues: a host's end on this socket of its own, which opened with that socket of the peer
pub record IsEnd (book : Book) (holder : Host) (own : ℕ) (partner : Host) (other : ℕ) (x : Life) : Type 0 where
  pub there : Contains book.lives x
  pub host : x.host ≡ holder
  pub socket : x.socket ≡ own
  pub peer : x.peer ≡ partner
  pub foreign : x.foreign ≡ other
  pub live : x.ended ≡ false

-- a server with the base `s` and a user with the socket `u` are both done. The server's two ends opened with the user's, crosswise, and
-- all four continue: it receives on `s` from `u` + 3, and the user receives on `u` + 2 from `s` + 1
pub record IsConnected (book : Book) (server user : Host) (s u : ℕ) (server_receives server_sends user_receives user_sends : Life) : Type 0 where
  pub served : HasReported server (report.Server (outcome.Done s (s + 1))) book.reports
  pub asked : HasReported user (report.User (outcome.Done (u + 2) (u + 3))) book.reports
  pub server_hears : IsEnd book server s user (u + 3) server_receives
  pub server_speaks : IsEnd book server (s + 1) user (u + 2) server_sends
  pub user_hears : IsEnd book user (u + 2) server (s + 1) user_receives
  pub user_speaks : IsEnd book user (u + 3) server s user_sends

-- a book is joined where each finished initial connection pairs the right four sockets: the user's receiving end matches the server's
-- sending one, and the server's receiving end the user's sending one
abbrev pub JoinedBook : Book → Type 0
JoinedBook book =
    (server user : Host) (s u : ℕ) (server_receives server_sends user_receives user_sends : Life) → IsConnected book server user s u server_receives server_sends user_receives user_sends
    → Match book.crossings user_receives server_sends × Match book.crossings server_receives user_sends
