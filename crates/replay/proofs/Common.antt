-- The names that several files of these proofs take from elsewhere, passed on from one place.
pub use Rattle.interface.specs.Calls.{Calls}
pub use Rattle.interface.specs.Host.{Host}
pub use Rattle.interface.specs.declared.crossing.Crossing.{Crossing}
pub use Rattle.interface.specs.declared.message.HostMessage.{HostMessage}
pub use Rattle.replay.specs.Output.{Shown, output, shown_crossings, shown_refusal}
pub use Rattle.replay.specs.Steps.{EventEnds, Grew, PrintEnds}
pub use Rattle.replay.specs.declared.events.ReplayFault.{ReplayFault}
pub use Rattle.replay.specs.declared.print.Detail.{Detail}
pub use Rattle.script.specs.Input.{ended_line}
pub use Rattle.script.specs.declared.event.RawEvent.{RawEvent}
pub use Rattle.std.proofs.Common.{false, refl, take, ◌≡◌}
pub use Rattle.std.proofs.KnownBytes.{Appends-nil, Appends-trans}
pub use Rattle.std.proofs.lemmas.Grind.{flat_map-append}
pub use Rattle.std.specs.Fmt.{decimal}
pub use Rattle.std.specs.Io.KnownBytes.{Appends}
