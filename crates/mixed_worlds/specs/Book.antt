-- The book of a network with strangers: only hosts with programs have users, notices and lives (NIC 8246).
use Rattle.std.specs.Prelude.{Bool, List, filter, not}
use Rattle.interface.specs.Host.{Host}
use Rattle.host_services.specs.declared.report.Reported.{Reported}
use Rattle.promise.specs.Book.{Book}
pub use Rattle.net_sim.specs.Among.{beside_among, contacts_among, is_among, lives_among}
pub use Rattle.net_sim.specs.Mixed.{crossed_only, mixed_kept}
use Rattle.net_sim.specs.Story.{Moment}
use Rattle.sockets.specs.Pairs.{NcpState}

-- the book with these lives only, and with what services reported
abbrev pub book_among : (Host → Bool) → List Moment → List Reported → Book
book_among strange moments reports = record (mixed_kept strange moments).book {
  reports = reports;
  lives = lives_among strange (mixed_kept strange moments).book.lives;
}

-- the program of a host, if it had nothing with any stranger (a host keeps a table of its own for each other host)
abbrev pub without_strangers : (Host → Bool) → NcpState → NcpState
without_strangers strange s = record s { peers = filter (λ p. not (strange p.host)) s.peers }
