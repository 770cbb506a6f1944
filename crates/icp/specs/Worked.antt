-- What the worked rows speak of: a user at 0/1 with socket 16, and a server at 0/2 with socket 7 and base 100.
use Rattle.std.specs.Prelude.{ℕ, List}
use Rattle.interface.specs.Host.{Host}
use Rattle.icp.specs.Played.{server_played, user_played}
use Rattle.icp.specs.Server.{opening_server}
use Rattle.icp.specs.User.{opening_user}
use Rattle.icp.specs.declared.outcome.Outcome.{Outcome}
use Rattle.host_pairs.specs.declared.notice.Notice.{Notice}
use Rattle.host_pairs.specs.declared.notice.Notice.TheVariants as notice
use Rattle.sockets.specs.declared.request.Request.{Request}

abbrev pub first : Host
first = record { imp = 1; host = 0 }

abbrev pub second : Host
second = record { imp = 2; host = 0 }

abbrev pub third : Host
third = record { imp = 3; host = 0 }

-- a connection was opened; the stamps don't matter
abbrev pub opened_notice : ℕ → Host → ℕ → Notice
opened_notice own peer foreign = notice.Opened own peer foreign 6 8

-- what the server says of these notices
abbrev pub server_asks : List Notice → List Request
server_asks ns = (server_played (opening_server 7 100) ns).1

abbrev pub server_ends : List Notice → List Outcome
server_ends ns = (server_played (opening_server 7 100) ns).2

-- what the user says of these notices
abbrev pub user_asks : List Notice → List Request
user_asks ns = (user_played (opening_user second 7 16) ns).1

abbrev pub user_ends : List Notice → List Outcome
user_ends ns = (user_played (opening_user second 7 16) ns).2
