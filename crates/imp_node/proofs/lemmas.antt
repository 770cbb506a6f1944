-- The lemmas of this crate that others may use: the proofs of subnet and subnet_trace do. All others in proofs/ are its own.
pub use Rattle.imp_node.proofs.Queried.{not_found}
pub use Rattle.imp_node.proofs.Held.{Has, OutgoingHas, TurnHas, has_packets, packets_has, pump_has, quiet_has}
pub use Rattle.imp_node.proofs.HeldByCalls.{abandon_has, ask_has, claim_has, end_down_has, end_up_has, forget_has, from_host_has, from_line_has, give_up_has, host_down_has, host_up_has, resend_has, returned_number, route_has, start_has, taken_has, to_host_has}
pub use Rattle.imp_node.proofs.Pumping.{stays, stuck_rests}
pub use Rattle.imp_node.proofs.Reading.{freed_with}
pub use Rattle.imp_node.proofs.RestingLemmas.{IsIdle, Rests, hears_again, none_resent, pump_rests, pump_still, pump_with, quiet_down, resending_rests, routes_again, taking_still, telling_rests}
pub use Rattle.imp_node.proofs.Sending.{resent_some}
pub use Rattle.imp_node.proofs.SideLemmas.{fated_moved, noted_moved, same_at, same_receiver, same_sender}
pub use Rattle.imp_node.proofs.SidesOfCalls.{abandon_unmoved, answer_taken, arrival_says, ask_unmoved, claim_unmoved, end_down_unmoved, end_up_unmoved, forget_becomes, from_host_moves, from_line_moves, give_up_moves, host_up_becomes, message_taken, nothing_taken, resend_unmoved, returned_moves, route_unmoved, stopped_becomes}
pub use Rattle.imp_node.proofs.Sound.{abandon_imp, ask_imp, at_set, claim_imp, end_down_imp, end_up_imp, forget_imp, from_host_imp, from_line_imp, give_up_imp, here_imp, host_down_imp, host_up_imp, opening_answers, opening_imp, opening_queue, resend_imp, route_imp, to_host_imp}
