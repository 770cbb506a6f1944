-- The lemmas of this crate that others may use: the proofs of flow_law, imp_node, subnet and subnet_trace do. All others in proofs/ are its own.
pub use Rattle.link_table.proofs.AnswerLemmas.{answered_frees, answered_last, given_up_frees, given_up_last, handed_last, handed_outstanding}
pub use Rattle.link_table.proofs.EntryLemmas.{outstanding_none, outstanding_one, outstanding_to_none, outstanding_to_one}
pub use Rattle.link_table.proofs.FlowLemmas.{get_answered, get_begun, get_dropped, get_ended, get_given_up, get_handed, get_put, number_begun}
pub use Rattle.link_table.proofs.KeyLemmas.{asked}
pub use Rattle.link_table.proofs.NumberLemmas.{near_next, near_old, near_same, new_again, next_below, next_in, next_last, next_new, not_next, some_ahead, two, wide}
