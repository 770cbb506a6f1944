-- What a world writes down of its hosts: the crossings, the notices to each user, the contacts, what services reported, and a life for
-- each opened end of a connection (NIC 8246).
use Rattle.std.specs.Prelude.{List}
use Rattle.interface.specs.declared.crossing.Crossing.{Crossing}
use Rattle.promise.specs.declared.book.Called.{Called}
use Rattle.promise.specs.declared.book.Told.{Told}
use Rattle.promise.specs.declared.life.Life.{Life}
use Rattle.host_services.specs.declared.report.Reported.{Reported}

-- the crossings newest first; all else oldest first
pub record Book : Type 0 where
  pub crossings : List Crossing
  pub notices : List Told
  pub contacts : List Called
  pub reports : List Reported
  pub lives : List Life
