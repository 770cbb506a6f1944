-- The lemmas of this crate that others may use: the proofs of net_sim, pairing_law, world_keeps_pairing and world_keeps_streams do. All others in proofs/ are its own.
pub use Rattle.reset_law.proofs.Fresh.{clean_run, not_waiting, ready_taken, still_ready, turned_about}
pub use Rattle.reset_law.proofs.Joint.{NoPlain, contradicts, owed_begin, owed_call, owed_sent, owed_told, phase_ready, plain_alone, plain_cleared, plain_fetched, plain_if, plain_put, ready_phase, reset_unready, sends_signal}
pub use Rattle.reset_law.proofs.Links.{at}
pub use Rattle.reset_law.proofs.Runs.{alone_run, carry, down_pair, empty_kind, ready_up, sound_run}
pub use Rattle.reset_law.proofs.Stays.{begin_quiet, begins_either, heard_front, joint_stays, reply_from, stays_on, stays_ready, unready_phase}
