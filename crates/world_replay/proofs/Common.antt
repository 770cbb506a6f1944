-- The names that several files of these proofs take from elsewhere, passed on from one place.
pub use Rattle.host_pairs.specs.declared.notice.Notice.{Notice}
pub use Rattle.host_services.specs.Services.{ServiceDeskState, ServicesState, opening_desk}
pub use Rattle.host_services.specs.TypedLines.{line_bits}
pub use Rattle.host_services.specs.declared.report.Reported.{Reported}
pub use Rattle.interface.specs.Calls.{Calls, crossing_of}
pub use Rattle.interface.specs.Host.{Host, same_host}
pub use Rattle.interface.specs.declared.crossing.Crossing.{Crossing}
pub use Rattle.net_sim.proofs.lemmas.{calm_keeps}
pub use Rattle.net_sim.specs.Book.{Kept, all_asked, all_crossed, all_told, asked, book_told, crossed}
pub use Rattle.net_sim.specs.Carriers.{shown}
pub use Rattle.net_sim.specs.Worked.{any_carrier, message}
pub use Rattle.net_sim.specs.WorkedStrangers.{beside_third}
pub use Rattle.net_sim.specs.World.{CalmGives, Calms, Does, QuietEnds, Refuses, Repeats, TurnGives, TurnsOf, WorldState, stops, up_in, with_carrier}
pub use Rattle.net_sim.specs.declared.event.Event.{Event}
pub use Rattle.net_sim.specs.declared.event.Event.TheVariants.{Ask, Net, Offer, Out, Quiet, Server, Take, Typed, User}
pub use Rattle.net_sim.specs.declared.event.WorldFault.{WorldFault}
pub use Rattle.net_sim.specs.declared.event.WorldFault.TheVariants.{Carrier, HasProgram, NoProgram}
pub use Rattle.net_sim.specs.declared.seat.Seat.{Seat}
pub use Rattle.net_sim.specs.declared.seat.ServiceSeat.{ServiceSeat}
pub use Rattle.promise.specs.declared.book.Told.{Told}
pub use Rattle.replay.proofs.lemmas.{in_turn_once}
pub use Rattle.replay.specs.InTurn.{Happening, HappensOnce, InTurn, ShowsFront, text_of}
pub use Rattle.replay.specs.Output.{crossing_line}
pub use Rattle.replay.specs.declared.print.Detail.{Detail}
pub use Rattle.script.specs.Input.{ended_line}
pub use Rattle.sockets.specs.Accepting.{accepted}
pub use Rattle.sockets.specs.Pairs.{NcpState, opening_state}
pub use Rattle.sockets.specs.Requests.{refusal, served, served_notices}
pub use Rattle.sockets.specs.Sending.{next_out, offered}
pub use Rattle.sockets.specs.Worked.{first, second, third}
pub use Rattle.sockets.specs.declared.fault.NcpFault.{NcpFault}
pub use Rattle.sockets.specs.declared.request.Request.{Request}
pub use Rattle.std.proofs.Common.{Bool, Err, List, None, Ok, Option, Result, Some, [], ap, ap₂, arith, drop, false, inl, inr, length, refl, reverse, rules, subst, suc, sym, take, true, zero, ℕ, ◌++◌, ◌+◌, ◌∙◌, ◌∷◌, ◌≡◌, ◌≤◌}
pub use Rattle.std.proofs.KnownBytes.{Appends-nil, Appends-trans}
pub use Rattle.std.proofs.lemmas.Bool.{false≢true}
pub use Rattle.std.proofs.lemmas.List.{append-nil, length-reverse, take_all}
pub use Rattle.std.specs.Bool.{MatchBool}
pub use Rattle.std.specs.Io.KnownBytes.{Appends}
pub use Rattle.std.specs.List.{All}
pub use Rattle.world_replay.specs.Gains.{Gains, gained}
pub use Rattle.world_replay.specs.Output.{shown_notices}
pub use Rattle.world_replay.specs.Replay.{IsOfCalm}
pub use Rattle.world_replay.specs.Seen.{RoundPrints}
pub use Rattle.world_replay.specs.Steps.{EventEnds, Fronts}
pub use Rattle.world_replay.specs.Worked.{tally}
pub use Rattle.world_script.specs.declared.event.WorldEvent.{WorldEvent}
pub use Rattle.world_script.specs.declared.event.WorldEvent.TheVariants.{Calm, Happen}
