-- The names that several files of these proofs take from elsewhere, passed on from one place.
pub use Rattle.hex.specs.Hex.{encode_upper}
pub use Rattle.host_pairs.specs.declared.notice.Notice.{Notice}
pub use Rattle.host_services.specs.Ears.{all_in}
pub use Rattle.host_services.specs.Services.{ServiceDeskState, ServicesState, no_services, opening_desk}
pub use Rattle.host_services.specs.TypedLines.{line_bits}
pub use Rattle.host_services.specs.declared.service.Service.{Service}
pub use Rattle.interface.specs.Calls.{Calls, Seen}
pub use Rattle.interface.specs.Host.{Host, same_host}
pub use Rattle.interface.specs.Printed.{host_text}
pub use Rattle.interface.specs.declared.crossing.Crossing.{Crossing}
pub use Rattle.ncp_control.specs.declared.command.Command.{Command}
pub use Rattle.net_sim.specs.Book.{all_told, asked, crossed}
pub use Rattle.net_sim.specs.Carriers.{shown}
pub use Rattle.net_sim.specs.WorkedStrangers.{beside_third}
pub use Rattle.net_sim.specs.World.{WorldState, opening_world, up_in}
pub use Rattle.net_sim.specs.declared.event.Event.{Event}
pub use Rattle.net_sim.specs.declared.event.Event.TheVariants.{Offer, Out, Quiet, Take}
pub use Rattle.net_sim.specs.declared.event.WorldFault.{WorldFault}
pub use Rattle.net_sim.specs.declared.seat.Seat.{Seat}
pub use Rattle.net_sim.specs.declared.seat.ServiceSeat.{ServiceSeat}
pub use Rattle.replay.proofs.lemmas.{crossings_shown, on_ok}
pub use Rattle.replay.specs.InTurn.{InTurn}
pub use Rattle.replay.specs.Seen.{IsSeen, RoundsPass}
pub use Rattle.replay.specs.declared.events.ReplayFault.{ReplayFault}
pub use Rattle.replay.specs.declared.print.Detail.TheVariants.{Sizes}
pub use Rattle.script.proofs.lemmas.{unmarked_where}
pub use Rattle.script.specs.Input.{ended_line}
pub use Rattle.script.specs.Steps.{Lacks}
pub use Rattle.script.specs.declared.event.RawEvent.{RawEvent}
pub use Rattle.sockets.specs.Accepting.{accepted}
pub use Rattle.sockets.specs.Pairs.{NcpState, opening_state}
pub use Rattle.sockets.specs.Requests.{refusal, served, served_notices}
pub use Rattle.sockets.specs.Sending.{next_out, offered}
pub use Rattle.sockets.specs.Worked.{first, second}
pub use Rattle.sockets.specs.declared.fault.NcpFault.{NcpFault}
pub use Rattle.sockets.specs.declared.peer.Peer.{Peer}
pub use Rattle.sockets.specs.declared.request.Request.{Request}
pub use Rattle.std.proofs.Common.{Bool, Err, IfSome, List, None, Ok, Option, Result, Some, [], ap, ap₂, arith, codes, drop, false, inl, inr, length, map, refl, reverse, rules, subst, sym, take, true, ℕ, ◌++◌, ◌+◌, ◌<◌, ◌∙◌, ◌∷◌, ◌≡◌, ◌≤◌, ◌⊎◌}
pub use Rattle.std.proofs.Output.{has_written_append, has_written_of_eq}
pub use Rattle.std.proofs.lemmas.Bool.{false≢true}
pub use Rattle.std.proofs.lemmas.List.{append-nil, append_assoc, length-append}
pub use Rattle.std.proofs.lemmas.List.Elements.{All-append, All-cons, All-head, All-nil, All-same, All-tail}
pub use Rattle.std.proofs.lemmas.Result.{IfOk-weaker}
pub use Rattle.std.specs.Bool.{MatchBool}
pub use Rattle.std.specs.Fmt.{HasWritten, IsPlainFormatter, decimal}
pub use Rattle.std.specs.Io.KnownBytes.{Appends}
pub use Rattle.std.specs.List.{All, flat_map}
pub use Rattle.std.specs.Str.{bytes_eq}
pub use Rattle.subnet_trace.specs.Elements.{IsOfRound}
pub use Rattle.topology.specs.Topology.{TopologyFields}
pub use Rattle.trace.proofs.lemmas.{no_part_changed, none_changed}
pub use Rattle.trace.specs.Changes.{members_of}
pub use Rattle.trace.specs.Named.{IsHostNamed, IsShort}
pub use Rattle.trace.specs.Texts.{array, bits_members, bool_text, carrier_word, ends_text, member, object, quoted, site_text}
pub use Rattle.trace.specs.Traces.{WritesTrace, numbered_from}
pub use Rattle.trace.specs.declared.all_parts.AllParts.{AllParts}
pub use Rattle.trace.specs.declared.element.Spot.{Spot}
pub use Rattle.world_replay.specs.Printed.{kind_text}
pub use Rattle.world_script.specs.declared.event.WorldEvent.{WorldEvent}
pub use Rattle.world_trace.specs.Lasting.{Lasts, ProgramLasts, SeatLasts, ServiceLasts, ServicesLast}
pub use Rattle.world_trace.specs.MixedTraces.{AtSpot}
pub use Rattle.world_trace.specs.Reached.{IsReached, IsSaid}
pub use Rattle.world_trace.specs.Steps.{AreTextsOf, EventEnds, RoundEnds, mark_after, marked, turn}
pub use Rattle.world_trace.specs.Texts.{event_text, line_of, seat_member, service_object, services_member}
pub use Rattle.world_trace.specs.Told.{IsWorldTold}
pub use Rattle.world_trace.specs.Traces.{MayTell, TellsInCalm, TellsRound, change_of}
pub use Rattle.world_trace.specs.declared.calm.CalmEvent.{CalmEvent}
pub use Rattle.world_trace.specs.declared.line.Passed.{Passed}
pub use Rattle.world_trace.specs.declared.texts.Texts.{Texts}
