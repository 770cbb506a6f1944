-- A small book in which an initial connection is finished: words for worked examples.
use Rattle.std.specs.Prelude.{[], ◌∷◌}
use Rattle.host_pairs.specs.declared.notice.Notice.TheVariants as notice
use Rattle.host_services.specs.declared.report.Report.TheVariants as report
use Rattle.icp.specs.Sockets.{socket_bits}
use Rattle.icp.specs.declared.outcome.Outcome.TheVariants as outcome
use Rattle.promise.specs.Book.{Book}
use Rattle.net_sim.specs.Book.{Kept, all_crossed, all_reported, new_life, opening_kept, book_told}
use Rattle.promise.specs.declared.life.Life.{Life}
use Rattle.net_sim.specs.Worked.{crossings}
use Rattle.sockets.specs.Worked.{first, second}

-- the user has asked, and learns the base
abbrev pub asked_kept : Kept
asked_kept =
    book_told second (notice.Arrived 16 (socket_bits 100)) (book_told second (notice.Opened 16 first 7 2 1) (book_told first (notice.Opened 7 second 16 0 4) (all_crossed crossings opening_kept)))

-- the first host is the server, with socket 7 and base 100, and the second the user, with socket 16. The server's requests went out at
-- place 0, and were taken at place 1; the user's went out at place 2, and were taken at place 4
abbrev pub joined_kept : Kept
joined_kept =
    all_reported (record { host = first; notices = 5; report = report.Server (outcome.Done 100 101) } ∷ record { host = second; notices = 7; report = report.User (outcome.Done 18 19) } ∷ [])
    (book_told second (notice.Opened 19 first 100 2 1) (book_told second (notice.Opened 18 first 101 2 1)
    (book_told first (notice.Opened 101 second 18 0 4) (book_told first (notice.Opened 100 second 19 0 4) asked_kept))))

-- the four ends
abbrev pub server_receives : Life
server_receives = new_life first 100 second 19 0 4

abbrev pub server_sends : Life
server_sends = new_life first 101 second 18 0 4

abbrev pub user_receives : Life
user_receives = new_life second 18 first 101 2 1

abbrev pub user_sends : Life
user_sends = new_life second 19 first 100 2 1

-- the same, though the user's receiving end opened with a request that came in before the server's went out
abbrev pub older : Life
older = record user_receives { partner_stamp = 0 }

abbrev pub unjoined_book : Book
unjoined_book = record joined_kept.book { lives = server_receives ∷ server_sends ∷ older ∷ user_sends ∷ [] }

-- or though the server's receiving end opened with one that came in before the user's went out
abbrev pub older_at_server : Life
older_at_server = record server_receives { partner_stamp = 2 }

abbrev pub unserved_book : Book
unserved_book = record joined_kept.book { lives = older_at_server ∷ server_sends ∷ user_receives ∷ user_sends ∷ [] }
