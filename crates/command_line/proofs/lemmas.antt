-- The lemmas of this crate that others may use: the proofs of session and simulator do. All others in proofs/ are its own.
pub use Rattle.command_line.proofs.Faults.{input_wants, told_memory, told_write, unwritten}
pub use Rattle.command_line.proofs.Joined.{said_kept}
pub use Rattle.command_line.proofs.OneInput.{OneInput, input_once}
pub use Rattle.command_line.proofs.Printed.{no_lives}
pub use Rattle.command_line.proofs.Reading.{reads_none}
pub use Rattle.command_line.proofs.Replayed.Known.{as_script, at_known, input_fault, is_read, read_as, unread}
pub use Rattle.command_line.proofs.Replayed.Strangers.{among_writes_all, strangers_there}
pub use Rattle.command_line.proofs.Replayed.Written.{world_writes_all, writes_all}
pub use Rattle.command_line.proofs.Sites.{same_hosts}
pub use Rattle.command_line.proofs.Verdicts.Judged.{stays}
