-- The names that several files of these proofs take from elsewhere, passed on from one place.
pub use Rattle.command_line.proofs.lemmas.{stays, told_memory, told_write}
pub use Rattle.command_line.specs.Carriers.{plain_of, subnet_of}
pub use Rattle.command_line.specs.Events.{Asked, AsksFor, Raw, World, are_some, asked_of}
pub use Rattle.command_line.specs.Options.{detail_of}
pub use Rattle.command_line.specs.declared.fault.ScriptFault.{ScriptFault}
pub use Rattle.command_line.specs.declared.options.Options.{Options}
pub use Rattle.command_line.specs.declared.verdict.Verdict.{Verdict}
pub use Rattle.interface.specs.Calls.{Calls}
pub use Rattle.interface.specs.Host.{Host}
pub use Rattle.interface.specs.declared.crossing.Crossing.{Crossing}
pub use Rattle.leader1822.specs.Boxes.{plain_calls}
pub use Rattle.net_sim.specs.Carriers.{shown}
pub use Rattle.net_sim.specs.Steps.{opening_mixed}
pub use Rattle.net_sim.specs.World.{WorldState, opening_world}
pub use Rattle.net_sim.specs.declared.event.Event.{Event}
pub use Rattle.replay.proofs.lemmas.{ends_front, in_turn_once}
pub use Rattle.replay.specs.InTurn.{HappensOnce, ShowsFront, text_of}
pub use Rattle.replay.specs.Settled.{AreSettled}
pub use Rattle.replay.specs.declared.print.Detail.TheVariants.{Sizes}
pub use Rattle.script.proofs.lemmas.{parted_once}
pub use Rattle.script.specs.Input.{ended_line}
pub use Rattle.script.specs.declared.event.RawEvent.{RawEvent}
pub use Rattle.simulator.specs.Traced.{TraceStops, TracesInput}
pub use Rattle.std.proofs.Common.{Err, List, OnOk, ap, inr, rules, subst, ℕ, ◌∙◌, ◌≡◌, ◌⊎◌}
pub use Rattle.std.specs.Io.KnownBytes.{Appends, Keeps}
pub use Rattle.subnet.specs.Working.{subnet_calls}
pub use Rattle.subnet_trace.proofs.lemmas.{subnet_settled}
pub use Rattle.subnet_trace.specs.Traced.{subnet_inside}
pub use Rattle.topology.specs.Topology.{TopologyFields}
pub use Rattle.topology.specs.declared.network.CarrierKind.{CarrierKind}
pub use Rattle.trace.specs.Changes.{members_of}
pub use Rattle.trace.specs.Texts.{object, opening_line}
pub use Rattle.trace.specs.declared.all_parts.AllParts.{AllParts}
pub use Rattle.trace.specs.declared.element.Spot.{Spot}
pub use Rattle.world_replay.proofs.lemmas.Once.{happens_once}
pub use Rattle.world_replay.proofs.lemmas.Replays.{SameGains, gains_once, shown_settled}
pub use Rattle.world_script.specs.declared.event.WorldEvent.{WorldEvent}
pub use Rattle.world_trace.specs.Texts.{opening_text, world_line}
