-- The names that several files of these proofs take from elsewhere, passed on from one place.
pub use Rattle.interface.specs.Host.{Host, same_host}
pub use Rattle.interface.specs.declared.crossing.Answer.{Answer}
pub use Rattle.ncp_control.specs.declared.phase.Phase.{Phase}
pub use Rattle.ncp_control.specs.declared.phase.Phase.TheVariants.{Closed, Gone, Heard, Ready, Want}
pub use Rattle.reset_law.specs.Boxes.{Box, ClearAll, Empty, Fetch, Fits, Post, Put, Taken, Waiting, WaitsWith, at_link, boxes, fetched, posted}
pub use Rattle.reset_law.specs.Network.{AreOurs, Network}
pub use Rattle.reset_law.specs.Runs.{IsRun}
pub use Rattle.std.specs.Prelude.{is_some}
