-- A flow as its hosts and its link can name it.
use Rattle.std.specs.Prelude.{◌≤◌}
use Rattle.interface.specs.Host.{IsAddress}
use Rattle.interface.specs.declared.address.Flow.{Flow}

-- the destination has an address, and the link is an octet
pub record IsNamed (f : Flow) : Type 0 where
  pub destination : IsAddress f.destination
  pub link : f.link.0 ≤ 255
