-- The lemmas of this crate that others may use: the proofs of command_line and subnet_trace do. All others in proofs/ are its own.
pub use Rattle.subnet.proofs.Calls.Rounds.{Keeps, round_keeps}
pub use Rattle.subnet.proofs.Calls.Showing.{round_log, take_log}
pub use Rattle.subnet.proofs.Calls.Working.{offer_working, opening_working, round_working, step_working, take_working}
pub use Rattle.subnet.proofs.Moves.Deliveries.{deliver_sound}
pub use Rattle.subnet.proofs.Moves.QuietCalls.{drop_sound, resend_sound, route_sound}
pub use Rattle.subnet.proofs.Packets.Having.{FrameHas, GotHas, ImpHas, NetHas, WireHas, got_has, imp_has, packets_net}
pub use Rattle.subnet.proofs.Packets.OnLines.{WireHolds, dropped_holds, put_all_holds, way_holds, wire_holds}
