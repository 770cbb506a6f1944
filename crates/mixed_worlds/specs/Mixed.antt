-- What happens in a network some of whose hosts are strangers. Lists are read newest first.
use Rattle.std.specs.Prelude.{◌≡◌, Bool, true, List}
use Rattle.interface.specs.Host.{Host, is_host}
use Rattle.interface.specs.Mailboxes.{IsRun}
use Rattle.net_sim.specs.Clean.{HaveAddresses}
pub use Rattle.net_sim.specs.Mixed.{AreMixed}
use Rattle.net_sim.specs.Story.{Moment}
use Rattle.net_sim.specs.Timeline.{crossings_of}

-- strangers are hosts of the network, and like all others they have addresses and cross by its mailboxes. Nothing
-- else is asked of them
pub record IsMixed (strange : Host → Bool) (hosts : List Host) (moments : List Moment) : Type 0 where
  pub addresses : HaveAddresses hosts
  pub strangers : (h : Host) → strange h ≡ true → is_host hosts h ≡ true
  pub run : IsRun hosts (crossings_of moments)
  pub happen : AreMixed strange hosts moments
