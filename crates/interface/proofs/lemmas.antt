-- The lemmas of this crate that others may use: the proofs of command_line, flow_law, host_keeps_pairing, host_keeps_ranges, host_keeps_streams, icp, imp_node, leader1822, link_table, net_sim, packetiser, pair_keeps_streams, replay, reset_law, session, sockets, subnet, topology, world_keeps_connections, world_keeps_lives, world_keeps_pairing and world_keeps_streams do. All others in proofs/ are its own.
pub use Rattle.interface.proofs.FlowByFlow.{each_is_run, mail_is}
pub use Rattle.interface.proofs.FlowMap.{eq_flow, get_flow, is_equal, one_removed, one_set, value_at}
pub use Rattle.interface.proofs.Lists.{and_first, and_none, and_second, and_true, and_turned, both_ways, contains_head, contains_none, contains_tail, guard, not_false, not_true, or_false, or_first, or_nothing, or_second, read_at, same_flow-refl, same_flow-sym, same_flow-true, same_host-refl, same_host-true, unlike, waits_with}
pub use Rattle.interface.proofs.MessageLaw.{run_below, safe_messages}
pub use Rattle.interface.proofs.Order.{before_from_numbers, exact_flows, exact_hosts, flow_before_else, flow_before_never, flow_before_trans, flows_total, host_before_never, host_before_trans, hosts_total}
