-- A packet as a frame carries it.
use Rattle.std.specs.Prelude.{ℕ, Bool}
use Rattle.packetiser.specs.PacketFields.{PacketFields}

-- the channel that it is on, its bit there, and the packet itself
pub record Carriage : Type 0 where
  pub channel : ℕ
  pub bit : Bool
  pub packet : PacketFields
