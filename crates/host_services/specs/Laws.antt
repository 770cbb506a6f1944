-- The laws of src/ that are longer than a line: each is a record, and its fields are the clauses.
use Rattle.std.specs.Prelude.{None, Some, [], ◌∷◌, ◌≡◌}
use Rattle.bit_messages.specs.Octets.{bits_of}
use Rattle.host_pairs.specs.declared.notice.Notice.TheVariants as notice
use Rattle.icp.specs.declared.outcome.Failure.TheVariants as failure
use Rattle.icp.specs.declared.outcome.Outcome.TheVariants as outcome
use Rattle.sockets.specs.declared.fault.NcpFault.TheVariants as ncp
use Rattle.sockets.specs.declared.request.Request.TheVariants as request
use Rattle.terminal.specs.Machines.{opening_terminal}
use Rattle.host_services.specs.Services.{no_services}
use Rattle.host_services.specs.Turns.{server_begun, services_told, user_begun}
use Rattle.host_services.specs.Worked.{first, fresh, of_second}
use Rattle.host_services.specs.declared.report.Report.TheVariants as report
use Rattle.host_services.specs.declared.service.Service.TheVariants as service

-- How services begin, on a host whose program has just come up and with six notices in the book.
pub record WorkedBeginnings : Type 0 where
  -- a server listens on three sockets, and has nothing to report yet
  pub server_asks :
      (server_begun 7 100 no_services fresh).1.asked
      ≡ request.Listen 7 32 ∷ request.Listen 100 8 ∷ request.Listen 101 8 ∷ []
  pub server_waits : (server_begun 7 100 no_services fresh).1.reports ≡ []
  -- one with an odd base, or an even socket to listen on, fails at once: it asks for nothing and is none of the
  -- services
  pub odd_base :
      (server_begun 7 101 no_services fresh).1.reports
      ≡ of_second 6 (report.Server (outcome.Failed failure.BadSocket)) ∷ []
  pub even_listen :
      server_begun 8 100 no_services fresh
      ≡ (no_services, record fresh { reports = of_second 6 (report.Server (outcome.Failed failure.BadSocket)) ∷ [] })
  -- the sockets of the first server are taken: a second one is refused its first request, and asks no more
  pub second_server :
      (server_begun 7 102 (server_begun 7 100 no_services fresh).0 (server_begun 7 100 no_services fresh).1).1.asked
      ≡ request.Listen 7 32 ∷ request.Listen 100 8 ∷ request.Listen 101 8 ∷ []
  pub second_fails :
      (server_begun 7 102 (server_begun 7 100 no_services fresh).0 (server_begun 7 100 no_services fresh).1).1.reports
      ≡ of_second 6 (report.Server (outcome.Failed (failure.Local ncp.InUse))) ∷ []
  -- a user asks a host with which there was no contact
  pub user_fails :
      (user_begun first 7 16 no_services fresh).1.reports
      ≡ of_second 6 (report.User (outcome.Failed (failure.Local ncp.NotContacted))) ∷ []
  pub nothing_typed : (user_begun first 7 16 no_services fresh).0.typing ≡ None

-- What services do at notices.
pub record WorkedNotices : Type 0 where
  -- an end that is refused fails the server: its report counts the notices up to and with that one
  pub refused :
      (services_told (notice.Ready first ∷ notice.Ended 100 first 19 ∷ notice.Ready first ∷ [])
      (server_begun 7 100 no_services fresh).0 fresh).1.reports
      ≡ of_second 8 (report.Server (outcome.Failed failure.Refused)) ∷ []
  -- a line is reported with the notice that brings its end, and the grant that is asked for is ignored where it is
  -- refused
  pub line :
      (services_told (notice.Arrived 18 (bits_of (72 ∷ 73 ∷ 13 ∷ [])) ∷ notice.Arrived 18 (bits_of (10 ∷ [])) ∷ [])
      (record { running = service.Terminal (opening_terminal 18 19) ∷ []; typing = Some 19 }) fresh).1.reports
      ≡ of_second 8 (report.Line (72 ∷ 73 ∷ [])) ∷ []
  pub grant :
      (services_told (notice.Arrived 18 (bits_of (72 ∷ [])) ∷ [])
      (record { running = service.Terminal (opening_terminal 18 19) ∷ []; typing = Some 19 }) fresh).1.asked
      ≡ []
