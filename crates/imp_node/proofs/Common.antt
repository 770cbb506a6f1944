-- The names that several files of these proofs take from elsewhere, passed on from one place.
pub use Rattle.imp_channel.proofs.lemmas.{fresh_carried}
pub use Rattle.imp_channel.specs.Holding.{carried_by, packet_of, packets_in}
pub use Rattle.imp_channel.specs.Line.{acknowledgement, answer_to}
pub use Rattle.imp_channel.specs.declared.channel.Channel.{Channel}
pub use Rattle.imp_channel.specs.declared.fault.ChannelFault.{ChannelFault}
pub use Rattle.imp_channel.specs.declared.frame.Content.{Content}
pub use Rattle.imp_channel.specs.declared.frame.Frame.{Frame}
pub use Rattle.imp_channel.specs.declared.line.Received.{Received}
pub use Rattle.imp_node.specs.Asking.{ask, asked_by}
pub use Rattle.imp_node.specs.Contents.{messages, packets, packets_in_channels}
pub use Rattle.imp_node.specs.Examples.{flow, host}
pub use Rattle.imp_node.specs.Inside.Arriving.{lost_by}
pub use Rattle.imp_node.specs.Inside.Parts.{IsPacketFlow}
pub use Rattle.imp_node.specs.Lines.{claim, end_down, end_up, on_port, resend, resent_by, resent_from, route, told_from}
pub use Rattle.imp_node.specs.Offering.{Away, Here, Nowhere, Way, from_host, offered}
pub use Rattle.imp_node.specs.Pump.{pump}
pub use Rattle.imp_node.specs.Queries.{is_request, last, outstanding}
pub use Rattle.imp_node.specs.Room.{has_route}
pub use Rattle.imp_node.specs.State.{HostState, ImpTurn, State, host_at, is_up, no_host, number, opening_node, port_at, up_host, up_port, with_host}
pub use Rattle.imp_node.specs.Stopping.{all_returned}
pub use Rattle.imp_node.specs.Taking.{is_from_here, replied, reply_has_room, taken_by, to_host}
pub use Rattle.imp_node.specs.declared.outgoing.Outgoing.{Outgoing}
pub use Rattle.imp_node.specs.declared.port.Port.{Port}
pub use Rattle.imp_node.specs.declared.waiting.Message.{Message}
pub use Rattle.imp_node.specs.declared.waiting.Told.{Told}
pub use Rattle.interface.specs.Flow.{flow_cmp, same_flow}
pub use Rattle.interface.specs.declared.address.Flow.{Flow}
pub use Rattle.interface.specs.declared.crossing.Answer.{Answer}
pub use Rattle.interface.specs.declared.message.HostMessage.{HostMessage}
pub use Rattle.link_table.specs.declared.destination.Fate.{Fate}
pub use Rattle.link_table.specs.declared.destination.Noted.{Noted}
pub use Rattle.link_table.specs.declared.source.Release.{Release}
pub use Rattle.link_table.specs.declared.source.Standing.{Standing}
pub use Rattle.packetiser.specs.PacketFields.{PacketFields, flow_of}
pub use Rattle.packetiser.specs.declared.packet.PacketKind.{PacketKind}
pub use Rattle.routing.specs.RouteTable.{Table, next_of, vector_of}
pub use Rattle.std.proofs.Common.{Option, Some, ap, drop, refl, replicate, ℕ, ◌++◌, ◌∙◌, ◌≡◌}
pub use Rattle.std.proofs.lemmas.Bool.{cases_Bool}
pub use Rattle.std.proofs.lemmas.Bool.Decides.{nat_tests}
pub use Rattle.std.proofs.lemmas.List.Elements.{All-drop}
pub use Rattle.std.specs.FinMap.{empty, get, get-empty}
pub use Rattle.std.specs.List.{flat_map, list_any}
