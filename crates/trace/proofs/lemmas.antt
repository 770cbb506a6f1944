-- The lemmas of this crate that others may use: the proofs of command_line, subnet_trace and world_trace do. All others in proofs/ are its own.
pub use Rattle.trace.proofs.Calling.{happens}
pub use Rattle.trace.proofs.Calms.{elementary}
pub use Rattle.trace.proofs.Changes.Changed.{none_changed}
pub use Rattle.trace.proofs.Changes.Extending.{ended_object, extended_twice}
pub use Rattle.trace.proofs.Changes.FlowTexts.{IsFlowPartNamed, part_once}
pub use Rattle.trace.proofs.Changes.Flowing.{no_flow_changed, no_part_changed, none_changed_now}
pub use Rattle.trace.proofs.Courses.{AllEvents, all_takings_events, idle_rounds, none_events, one_events, passes, rounds_events, takes_here, takings_all, then_events, then_twice}
pub use Rattle.trace.proofs.Going.{AllRoundsGo, AllTakeSo, Goes, TakesSo, Traced, calm_holds, crossings_are, elementary_of, goes_all, goes_calmly, goes_chain, goes_none, goes_then, or_first, run_one}
pub use Rattle.trace.proofs.Each.{left_of}
pub use Rattle.trace.proofs.Keeping.{reached}
pub use Rattle.trace.proofs.Rest.{frame}
pub use Rattle.trace.proofs.Decimals.{decimal_closed, decimal_lacks, digits_lack, octets_lack, short_once}
pub use Rattle.trace.proofs.Closed.{AreClosed, IsClosed, Spelled, Words, also_closed, array_closed, array_once, first_same, is_plain, lists_spelled, member_closed, member_once, none_closed, object_closed, object_once, other_first, plain_closed, quoted_once, rest_same, string_closed, strings_spelled}
pub use Rattle.trace.proofs.Left.{Remains, end_printed, left, maybe_printed, more_printed, next_printed, text_at}
pub use Rattle.trace.proofs.Printed.{five, three}
pub use Rattle.trace.proofs.Changes.Putting.{AllPut, PutSoFar, all_put, is_within, none_put, put_more}
pub use Rattle.trace.proofs.Named.{SameThen, answer_spelled, bits_closed, bits_same, flow_closed, flow_named, flow_same, host_named, host_spelled, host_words}
pub use Rattle.trace.proofs.PlainWords.{Any, bool_spelled, word_closed}
pub use Rattle.trace.proofs.Rounds.Listed.{AllIn}
pub use Rattle.trace.proofs.Rounds.Numbered.{IsIn, all_takings_in, then_in}
pub use Rattle.trace.proofs.Rounds.Once.{event_front, event_once}
pub use Rattle.trace.proofs.Rounds.Plain.{told}
pub use Rattle.trace.proofs.Rounds.Settled.{Continues, IsDecided, goes_as, goes_back, plain_settled, same_answer, same_step}
pub use Rattle.trace.proofs.Rounds.Whole.{AreRounds, Opened, none_told, opened_rounds, says_all}
