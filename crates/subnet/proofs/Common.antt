-- The names that several files of these proofs take from elsewhere, passed on from one place.
pub use Rattle.flow_law.proofs.lemmas.{makes_one, sound_run}
pub use Rattle.flow_law.specs.Follows.{AllFollow, Follows, passed_over}
pub use Rattle.flow_law.specs.Invariant.{Invariant}
pub use Rattle.flow_law.specs.Moves.{Move, after_all, shown_by}
pub use Rattle.flow_law.specs.View.{Kind, Packet, Queued, View, is_request}
pub use Rattle.imp_channel.proofs.lemmas.{ContentHas}
pub use Rattle.imp_channel.specs.Holding.{carried_by, packets_in}
pub use Rattle.imp_channel.specs.Line.{answer_to}
pub use Rattle.imp_channel.specs.declared.channel.Channel.{Channel}
pub use Rattle.imp_channel.specs.declared.fault.ChannelFault.{ChannelFault}
pub use Rattle.imp_channel.specs.declared.frame.Content.{Content}
pub use Rattle.imp_channel.specs.declared.frame.Frame.{Frame}
pub use Rattle.imp_channel.specs.declared.line.Received.{Received}
pub use Rattle.imp_node.proofs.lemmas.{at_set, same_at}
pub use Rattle.imp_node.specs.Arrival.{from_line, ignored}
pub use Rattle.imp_node.specs.Asking.{ask, ask_refusal, asked_by}
pub use Rattle.imp_node.specs.Flows.{answer_packet, answered_by, fated, freed, given, is_idle, next_number}
pub use Rattle.imp_node.specs.Lines.{claim, end_down, end_up, on_port, resend, resent_by, resent_from, route, told_by, told_from}
pub use Rattle.imp_node.specs.Offering.{Away, Here, Nowhere, Way, from_host, from_host_refusal, is_own, offered, way_has_room, way_of}
pub use Rattle.imp_node.specs.Pump.{pump, stored}
pub use Rattle.imp_node.specs.Queries.{outstanding}
pub use Rattle.imp_node.specs.Room.{has_room_to}
pub use Rattle.imp_node.specs.Sides.{AllUnmoved, IsImp, Moved, Receiver, Sender, Unmoved, answers_of, begun_with, ended_with, fated_with, messages_of, noted_with, queued_with, receiver, sender}
pub use Rattle.imp_node.specs.State.{HostState, ImpTurn, State, down_port, host_at, no_host, number, port_at}
pub use Rattle.imp_node.specs.Stopping.{abandon, all_returned, forget, give_up, give_up_refusal, host_down, host_down_refusal, host_up_refusal, message_returned, own_host, stopped}
pub use Rattle.imp_node.specs.Taking.{is_from_here, replied, taken_by, to_host, to_host_refusal}
pub use Rattle.imp_node.specs.declared.outgoing.Outgoing.{Outgoing}
pub use Rattle.imp_node.specs.declared.port.Port.{Port}
pub use Rattle.imp_node.specs.declared.waiting.Message.{Message}
pub use Rattle.imp_node.specs.declared.waiting.Told.{Told}
pub use Rattle.interface.proofs.lemmas.{and_true, guard, not_false, or_false, same_flow-refl, same_flow-true, same_host-true}
pub use Rattle.interface.specs.Flow.{flow_cmp, same_flow}
pub use Rattle.interface.specs.Host.{Host, is_host, most_imps, same_host}
pub use Rattle.interface.specs.Mailboxes.{Box, IsRun, box_of}
pub use Rattle.interface.specs.declared.address.Flow.{Flow}
pub use Rattle.interface.specs.declared.carrier.CarrierFault.{CarrierFault}
pub use Rattle.interface.specs.declared.crossing.Answer.{Answer}
pub use Rattle.interface.specs.declared.crossing.Crossing.{Crossing}
pub use Rattle.interface.specs.declared.crossing.Inbound.{Inbound}
pub use Rattle.interface.specs.declared.event.Direction.{Direction}
pub use Rattle.interface.specs.declared.event.NetEvent.{NetEvent}
pub use Rattle.interface.specs.declared.message.HostMessage.{HostMessage}
pub use Rattle.link_table.proofs.lemmas.{asked, get_begun, outstanding_to_none, outstanding_to_one}
pub use Rattle.link_table.specs.Flows.{has_outstanding, last_in, outstanding_in, release_in}
pub use Rattle.link_table.specs.Keys.{has_from}
pub use Rattle.link_table.specs.declared.destination.Fate.{Fate}
pub use Rattle.link_table.specs.declared.destination.Noted.{Noted}
pub use Rattle.link_table.specs.declared.source.Release.{Release}
pub use Rattle.link_table.specs.declared.source.Standing.{Standing}
pub use Rattle.packetiser.proofs.lemmas.{All_left, All_right}
pub use Rattle.packetiser.specs.PacketFields.{IsPacket, PacketFields, flow_of}
pub use Rattle.packetiser.specs.declared.packet.PacketKind.{PacketKind}
pub use Rattle.routing.specs.RouteTable.{vector_of}
pub use Rattle.std.proofs.Common.{All, Bool, Contains, Err, Global, List, None, Ok, Option, Result, Some, Vec, [], ap, arith, drop, false, length, refl, rules, set, subst, suc, sym, true, zero, ℕ, ◌&&◌, ◌++◌, ◌+◌, ◌-◌, ◌<◌, ◌∙◌, ◌∷◌, ◌≡◌, ◌≤◌}
pub use Rattle.std.proofs.lemmas.Bool.{and_from, cases_Bool, or_right}
pub use Rattle.std.proofs.lemmas.Bool.Decides.{nat_tests}
pub use Rattle.std.proofs.lemmas.List.{get_or-set_other, get_or_default, map-append, set-get_or}
pub use Rattle.std.proofs.lemmas.List.Elements.{All-append, All-cons, All-contains, All-contains_itself, All-head, All-nil, All-push, All-set, All-tail, All-weaker, Contains-append_cases, Contains-append_left, Contains-append_right}
pub use Rattle.std.proofs.lemmas.List.Sums.{sum_by-cons}
pub use Rattle.std.proofs.lemmas.Result.{err_from_is_err_and}
pub use Rattle.std.specs.FinMap.{empty, get, get-empty, insert}
pub use Rattle.std.specs.List.{AllByRecursion, flat_map, list_all, list_any, range_with_len}
pub use Rattle.std.specs.Prelude.{IfSome, slice_set}
pub use Rattle.subnet.specs.Alive.{carries, has_data, has_flow, is_alive, is_awaited, is_awaited_at, is_remembered, messages, messages_at_imp, packets, packets_at_imp, packets_on, packets_on_wire, says}
pub use Rattle.subnet.specs.Calls.{grows_at, round_grows}
pub use Rattle.subnet.specs.Events.{accepted, at_host_refusal, at_imp, at_up, crossings_of, deliver, delivered, downs_at, downs_from, drop_frame, given_at, host_started, host_stopped, hosts_at, imp_refusal, imp_started, imp_stopped, is_imp, logging, offer_out, quiet_round, refreshed, site_at, started_imp, step_refusal, stepped, take_in, taken_by_host}
pub use Rattle.subnet.specs.Examples.{ours}
pub use Rattle.subnet.specs.Flows.{Alive, imp_is_up, kind_of, packet_of, queued_of, receiver_at, sender_at, view, view_of}
pub use Rattle.subnet.specs.Inside.Calling.{AreLive, CallEnds, IsLive, SameLog, call_grows, call_refusal, call_turn, carried_first, downs_in_order, frames_by, imp_by, imps_by}
pub use Rattle.subnet.specs.Inside.Joined.{lines_from, ports_from}
pub use Rattle.subnet.specs.Making.{NothingNew, OnlyNew, made_at}
pub use Rattle.subnet.specs.Net.{Net, Wire, dropping, ends_at, far_end, followed_by, frames_on, imp_at, line_from, no_wire, port_of, put_all, put_on, put_one, wire_at, with_frame, with_turn, without_at}
pub use Rattle.subnet.specs.Offers.{CanGo, CanGoFrom, IsCarriable}
pub use Rattle.subnet.specs.Opening.{AreHosts, Ends, empty_wire, host_there, hosts_from, hosts_of_one, opened_from, opened_imp, opening_subnet}
pub use Rattle.subnet.specs.Sound.{IsAt, IsSound}
pub use Rattle.subnet.specs.Working.{SubnetRound, SubnetTake}
pub use Rattle.subnet.specs.declared.imp_call.ImpCall.{ImpCall}
