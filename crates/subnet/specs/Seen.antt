-- What hosts see of a subnet.
use Rattle.std.specs.Prelude.{◌≡◌, false}
use Rattle.interface.specs.Calls.{Seen}
use Rattle.subnet.specs.Net.{Net}
use Rattle.subnet.specs.Opening.{hosts_from}

-- its hosts and its log, while running out of memory has not stopped it
abbrev pub seen : Net → Seen
seen n = record { hosts = n.hosts; log = n.log; stopped = false }

-- its hosts are listed as its IMPs have them
abbrev pub IsListed : Net → Type 0
IsListed n = n.hosts ≡ hosts_from 0 n.sites

-- a call changes neither the hosts of the network nor its sites
pub record SameNetwork (old new : Net) : Type 0 where
  pub hosts : new.hosts ≡ old.hosts
  pub sites : new.sites ≡ old.sites
