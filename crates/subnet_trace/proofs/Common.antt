-- The names that several files of these proofs take from elsewhere, passed on from one place.
pub use Rattle.bit_messages.specs.Octets.{octets_of}
pub use Rattle.hex.specs.Hex.{encode_upper}
pub use Rattle.imp_channel.specs.Carriage.{Carriage}
pub use Rattle.imp_channel.specs.Holding.{carried_by}
pub use Rattle.imp_channel.specs.declared.channel.Channel.{Channel}
pub use Rattle.imp_channel.specs.declared.fault.ChannelFault.{ChannelFault}
pub use Rattle.imp_channel.specs.declared.frame.Content.{Content}
pub use Rattle.imp_channel.specs.declared.frame.Frame.{Frame}
pub use Rattle.imp_channel.specs.declared.line.Received.{Received}
pub use Rattle.imp_node.specs.Lines.{resend, route}
pub use Rattle.imp_node.specs.Pump.{pump}
pub use Rattle.imp_node.specs.Queries.{holds_packet}
pub use Rattle.imp_node.specs.State.{ImpTurn, State}
pub use Rattle.imp_node.specs.declared.outgoing.Outgoing.{Outgoing}
pub use Rattle.imp_node.specs.declared.port.Port.{Port}
pub use Rattle.imp_node.specs.declared.waiting.Message.{Message}
pub use Rattle.imp_node.specs.declared.waiting.Told.{Told}
pub use Rattle.interface.specs.Calls.{is_halt, is_memory}
pub use Rattle.interface.specs.Host.{Host, most_imps}
pub use Rattle.interface.specs.Printed.{host_text}
pub use Rattle.interface.specs.declared.CarrierFault.{CarrierFault}
pub use Rattle.interface.specs.declared.HostMessage.{HostMessage}
pub use Rattle.interface.specs.declared.Inbound.{Inbound}
pub use Rattle.interface.specs.declared.NetEvent.{NetEvent}
pub use Rattle.interface.specs.declared.address.Flow.{Flow}
pub use Rattle.interface.specs.declared.crossing.Crossing.{Crossing}
pub use Rattle.interface.specs.declared.event.Direction.{Direction}
pub use Rattle.link_table.specs.Keys.{flow_cmp}
pub use Rattle.link_table.specs.declared.destination.Fate.{Fate}
pub use Rattle.link_table.specs.declared.destination.Noted.{Noted}
pub use Rattle.link_table.specs.declared.source.Standing.{Standing}
pub use Rattle.packetiser.specs.PacketFields.{PacketFields, flow_of}
pub use Rattle.packetiser.specs.declared.packet.PacketKind.{PacketKind}
pub use Rattle.replay.proofs.lemmas.{on_ok}
pub use Rattle.replay.specs.Output.{Shown}
pub use Rattle.replay.specs.Replay.{GoesOn, Happens, IsOneCall, outcome_of}
pub use Rattle.routing.specs.RouteTable.{Table, next_of, vector_of}
pub use Rattle.script.specs.declared.event.RawEvent.{RawEvent}
pub use Rattle.std.proofs.Common.{Bool, Err, IfSome, List, None, Ok, Option, Result, Some, [], ap, ap₂, arith, codes, drop, false, filter, get_or, if◌then◌else◌, inl, inr, length, map, nat_lt, refl, rules, slice_get, slice_set, subst, suc, sym, take, true, zero, ℕ, ◌++◌, ◌+◌, ◌-◌, ◌<◌, ◌==◌, ◌||◌, ◌∙◌, ◌∷◌, ◌≡◌, ◌≤◌, ◌⊎◌}
pub use Rattle.std.proofs.KnownBytes.{Appends-trans}
pub use Rattle.std.proofs.lemmas.Bool.{and_parts, eqb-true, false≢true}
pub use Rattle.std.proofs.lemmas.Bool.Decides.{nat_tests}
pub use Rattle.std.proofs.lemmas.List.{get_or-set_other, get_or_past, get_or_read, length-map, length-set, take_all, take_more}
pub use Rattle.std.proofs.lemmas.List.Elements.{All-append, All-cons, All-head, All-nil, All-tail, All-weaker}
pub use Rattle.std.proofs.lemmas.Result.{IfOk-weaker}
pub use Rattle.std.specs.Fmt.{decimal}
pub use Rattle.std.specs.Io.KnownBytes.{Appends}
pub use Rattle.std.specs.List.{All, flat_map, range_with_len}
pub use Rattle.std.specs.declared.cmp.Ordering.{Ordering}
pub use Rattle.std.specs.declared.cmp.Ordering.TheVariants.{Equal, Greater, Less}
pub use Rattle.subnet.specs.Calls.{Decided, Fails, Kept, refusal_of, running}
pub use Rattle.subnet.specs.Events.{is_imp}
pub use Rattle.subnet.specs.Flows.{imp_is_up}
pub use Rattle.subnet.specs.Net.{Net, Wire, far_end, frames_on, imp_at, no_wire, port_of, wire_at}
pub use Rattle.subnet.specs.Opening.{opening_subnet}
pub use Rattle.subnet.specs.Working.{subnet_calls}
pub use Rattle.subnet.specs.declared.Ends.{Ends}
pub use Rattle.subnet_trace.specs.Parts.{Imp, Line, all_flows, all_parts, part_name, parts_members, parts_of_net}
pub use Rattle.subnet_trace.specs.Printing.{concluded_text, heard_list, known_part, named}
pub use Rattle.subnet_trace.specs.Scopes.{HasFlowsIn, IsOnlyIn, OnlyIn, has_imp, has_line}
pub use Rattle.subnet_trace.specs.Steps.{IsNext}
pub use Rattle.subnet_trace.specs.Texts.{channel_text, kept_of, kept_part, line_text, next_text, sources_of}
pub use Rattle.subnet_trace.specs.Told.{IsOneNetwork, IsPlaced, IsReached, IsTold, SameTexts, ends_of}
pub use Rattle.subnet_trace.specs.Traced.{subnet_inside}
pub use Rattle.subnet_trace.specs.declared.parts.Scope.{Scope}
pub use Rattle.subnet_trace.specs.declared.place.Stage.{Stage}
pub use Rattle.trace.proofs.lemmas.{Remains, five, three}
pub use Rattle.trace.specs.Changes.{changed_flows, changed_lists, put_at, put_text}
pub use Rattle.trace.specs.Flows.{told}
pub use Rattle.trace.specs.Joined.{extended, mark}
pub use Rattle.trace.specs.Texts.{array, bool_text, further, member, object, quoted}
pub use Rattle.trace.specs.Traces.{GoesOnWith}
pub use Rattle.trace.specs.declared.all_parts.AllParts.{AllParts}
pub use Rattle.trace.specs.declared.element.Element.{Element}
pub use Rattle.trace.specs.declared.element.Spot.{Spot}
pub use Rattle.trace.specs.declared.flow_part.FlowPart.{FlowPart}
