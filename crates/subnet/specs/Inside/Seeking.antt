-- What is looked for in a subnet, in one form for all questions.
use Rattle.std.specs.Prelude.{Bool}
use Rattle.std.specs.List.{list_any}
use Rattle.packetiser.specs.PacketFields.{PacketFields}
use Rattle.imp_channel.specs.Holding.{carried_by}
use Rattle.imp_channel.specs.declared.frame.Frame.{Frame}
use Rattle.imp_node.specs.State.{State}
use Rattle.imp_node.specs.Queries.{holds, packet_has, holds_data, is_request_between, touches, packet_touches}
use Rattle.subnet.specs.declared.seeking.Sought.{Sought}
use Rattle.subnet.specs.declared.seeking.Sought.TheVariants as sought
use Rattle.subnet.specs.Net.{Net}
use Rattle.subnet.specs.Alive.{anywhere}

-- what is sought is in an IMP
abbrev pub imp_has : Sought → State → Bool
imp_has (sought.Message f n) s = holds s f n
imp_has (sought.Between from to) s = holds_data s from to
imp_has (sought.Touching i) s = touches s i

-- a packet is what is sought
abbrev pub packet_is : Sought → PacketFields → Bool
packet_is (sought.Message f n) p = packet_has f n p
packet_is (sought.Between from to) p = is_request_between from to p
packet_is (sought.Touching i) p = packet_touches i p

abbrev pub frame_has : Sought → Frame → Bool
frame_has q f = list_any (packet_is q) (carried_by f.content)

-- what is sought is anywhere in the subnet
abbrev pub found : Sought → Net → Bool
found q n = anywhere n (imp_has q) (packet_is q)
