-- What is looked for among the packets and messages of an IMP, in one form for all questions.
use Rattle.std.specs.Prelude.{ℕ, Bool, true, ◌==◌, ◌&&◌, ◌||◌}
use Rattle.std.specs.List.{list_any}
use Rattle.interface.specs.Flow.{same_flow}
use Rattle.interface.specs.declared.address.Flow.{Flow}
use Rattle.packetiser.specs.PacketFields.{PacketFields, flow_of}
use Rattle.imp_node.specs.State.{State}
use Rattle.imp_node.specs.Contents.{packets, messages}
use Rattle.imp_node.specs.Queries.{goes_between, is_at_end, is_request}
use Rattle.imp_node.specs.declared.seeking.Sought.{Sought}
use Rattle.imp_node.specs.declared.seeking.Sought.TheVariants as sought
use Rattle.imp_node.specs.declared.waiting.Message.{Message}

-- whether a message or packet of this flow and number is sought; the Bool says whether it travels to the destination
abbrev pub is_sought : Sought → Bool → Flow → ℕ → Bool
is_sought (sought.Message f n) request g m = same_flow f g && m == n
is_sought (sought.Between from to) request g m = request && goes_between from to g
is_sought (sought.Touching imp) request g m = is_at_end imp g

abbrev pub packet_is : Sought → PacketFields → Bool
packet_is q p = is_sought q (is_request p.kind) (flow_of p) p.number

abbrev pub message_is : Sought → Message → Bool
message_is q m = is_sought q true m.flow m.number

abbrev pub found : Sought → State → Bool
found q s = list_any (packet_is q) (packets s) || list_any (message_is q) (messages s)
