-- The lemmas of this crate that others may use: the proofs of command_line, session, trace and world_script do. All others in proofs/ are its own.
pub use Rattle.script.proofs.Digits.{spelled_digits}
pub use Rattle.script.proofs.Hosts.{host_unmarked}
pub use Rattle.script.proofs.Keywords.{differs, keyword, made, operand, plain, spelled, text_of, unmarked_where}
pub use Rattle.script.proofs.Lines.{ask_next, ask_none, ask_past, drop_next, first_bad, length_next, line_count, ran_out, take_next, take_whole}
pub use Rattle.script.proofs.Numbers.{All-unmarked_decimal}
pub use Rattle.script.proofs.OneReading.{SameInput, asked_once, asked_once_as, event_once, flow_once, host_once, message_once, parted_once, text_once}
pub use Rattle.script.proofs.Texts.{octets_are_small}
pub use Rattle.script.proofs.Words.{SameCut, not_back, not_cut, not_front, same_cut, uncut}
