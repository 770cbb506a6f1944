-- The names that several files of these proofs take from elsewhere, passed on from one place.
pub use Rattle.command_line.specs.Steps.{IsReadFault}
pub use Rattle.command_line.specs.declared.fault.ScriptFault.{ScriptFault}
pub use Rattle.headline.specs.Promise.{WorldKeeps}
pub use Rattle.net_sim.specs.Carriers.{shown}
pub use Rattle.replay.specs.declared.print.Detail.TheVariants.{Texts}
pub use Rattle.script.specs.Input.{ended_line}
pub use Rattle.session.specs.Hearing.{IsLine}
pub use Rattle.session.specs.Networks.{KeepsAll, KeepsRun, ReplaysWith}
pub use Rattle.std.proofs.lemmas.List.{append_assoc, length-append}
pub use Rattle.std.proofs.lemmas.List.Elements.{All-append}
pub use Rattle.std.specs.Io.KnownBytes.{Keeps, prepend_known}
pub use Rattle.world_replay.specs.Replay.{Happens}
