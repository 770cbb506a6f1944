-- Hosts and flows that a trace names: their numbers are not too long for a decimal.
use Rattle.std.specs.Prelude.{ℕ, ◌<◌, ◌^◌}
use Rattle.interface.specs.Host.{Host}
use Rattle.interface.specs.declared.address.Flow.{Flow}

-- a number of at most 64 digits: a decimal has no more
abbrev pub IsShort : ℕ → Type 0
IsShort n = n < 10 ^ 64

pub record IsHostNamed (h : Host) : Type 0 where
  pub imp : IsShort h.imp
  pub host : IsShort h.host

pub record IsFlowNamed (f : Flow) : Type 0 where
  pub source : IsHostNamed f.source
  pub destination : IsHostNamed f.destination
  pub link : IsShort f.link.0
