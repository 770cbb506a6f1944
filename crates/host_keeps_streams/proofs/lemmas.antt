-- The lemmas of this crate that others may use: the proofs of pair_keeps_streams, world_keeps_lives and world_keeps_streams do. All others in proofs/ are its own.
pub use Rattle.host_keeps_streams.proofs.Asks.{link_is}
pub use Rattle.host_keeps_streams.proofs.Chain.{Holds, IsAhead, holds_now, is_there, name_of, numbered_tells, same_numbers, step_box, step_holds, step_received, step_sent}
pub use Rattle.host_keeps_streams.proofs.Ending.{not_called, shut_one, stays}
pub use Rattle.host_keeps_streams.proofs.Firsts.{closed_first}
pub use Rattle.host_keeps_streams.proofs.Known.{known_found}
pub use Rattle.host_keeps_streams.proofs.Leaving.{due_open}
pub use Rattle.host_keeps_streams.proofs.Lists.{away, find_passes, first_is, none_is, not_received, other_receives, received_is, unlike}
pub use Rattle.host_keeps_streams.proofs.Lists.{unchanged}
pub use Rattle.host_keeps_streams.proofs.Names.{apart_changed, found_among, numbers_changed, numbers_mapped, or_right}
pub use Rattle.host_keeps_streams.proofs.ReceiverHears.{odd_is, own_name, own_parity}
pub use Rattle.host_keeps_streams.proofs.Receivers.{accept_same, at_link, back_same, bits_there, closed_found, open_found, open_same, own_receiver}
pub use Rattle.host_keeps_streams.proofs.SenderShuts.{due_cls}
pub use Rattle.host_keeps_streams.proofs.Senders
pub use Rattle.host_keeps_streams.proofs.Senders.{leaving_shut, open_same as open_same_senders, unopened}
