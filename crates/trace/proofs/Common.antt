-- The names that several files of these proofs take from elsewhere, passed on from one place.
pub use Rattle.bit_messages.specs.Octets.{octets_of}
pub use Rattle.hex.specs.Hex.{encode_upper}
pub use Rattle.interface.specs.Calls.{Calls, is_halt, is_memory}
pub use Rattle.interface.specs.Host.{Host, is_host, same_host}
pub use Rattle.interface.specs.Printed.{host_text}
pub use Rattle.interface.specs.declared.NetEvent.{NetEvent}
pub use Rattle.interface.specs.declared.address.Flow.{Flow}
pub use Rattle.interface.specs.declared.crossing.Crossing.{Crossing}
pub use Rattle.leader1822.specs.Boxes.{Boxes, WaitingAnswer, for_host}
pub use Rattle.replay.proofs.lemmas.{appends_more, appends_none, crossings_shown, last_shown, last_written, on_ok, one_written}
pub use Rattle.replay.specs.Output.{Crossed, Shown, crossings_of, shown_crossings, shown_refusal, shown_text}
pub use Rattle.replay.specs.Replay.{EventGives, GoesOn, Happens, IsOneCall, Replays, outcome_of}
pub use Rattle.replay.specs.Settled.{AreSettled}
pub use Rattle.replay.specs.declared.print.Detail.TheVariants.{Sizes}
pub use Rattle.script.proofs.lemmas.{SameCut, same_cut, unmarked_where}
pub use Rattle.script.specs.Input.{ended_line}
pub use Rattle.script.specs.Steps.{Lacks}
pub use Rattle.script.specs.declared.event.RawEvent.{RawEvent}
pub use Rattle.std.proofs.Common.{Bool, Err, IfSome, List, None, Ok, Option, Result, Some, [], ap, ap₂, arith, codes, drop, false, filter, get_or, if◌then◌else◌, inl, inr, is_some, length, lit<, map, nat_eq, nat_lt, not, refl, reverse, rules, slice_set, subst, suc, sym, take, true, zero, ℕ, ◌&&◌, ◌++◌, ◌+◌, ◌-◌, ◌<◌, ◌==◌, ◌||◌, ◌∙◌, ◌∷◌, ◌≡◌, ◌≤◌, ◌⊎◌}
pub use Rattle.std.proofs.lemmas.Bool.{and_parts, eqb-true, false≢true, lt-ltb}
pub use Rattle.std.proofs.lemmas.Bool.Decides.{nat_tests}
pub use Rattle.std.proofs.lemmas.List.{map-set}
pub use Rattle.std.proofs.lemmas.List.Elements.{All-append, All-cons, All-head, All-nil, All-same, All-tail, All-weaker}
pub use Rattle.std.proofs.lemmas.Option.{slice_get_read}
pub use Rattle.std.proofs.lemmas.Result.{IfOk-weaker}
pub use Rattle.std.specs.Cmp.Lexicographic.{bytes_decides, pointwise}
pub use Rattle.std.specs.FinMap.{empty}
pub use Rattle.std.specs.Fmt.{decimal}
pub use Rattle.std.specs.Io.KnownBytes.{Appends}
pub use Rattle.std.specs.List.{All, list_all, list_any}
pub use Rattle.std.specs.Ordering.{is_lt}
pub use Rattle.std.specs.Prelude.{slice_index_or}
pub use Rattle.std.specs.Str.{bytes_eq}
pub use Rattle.topology.specs.Topology.{TopologyFields}
pub use Rattle.trace.specs.Changes.{altered, changed, changed_lists, changed_parts, is_at, is_told, members_of, put_at, put_text}
pub use Rattle.trace.specs.Elements.{Course, Giving, all_takings, begins_in, by_round, elements_in, elements_of, events_of, from_boxes, is_given, no_course, round_of, rounds_from, taking, takings, then_course}
pub use Rattle.trace.specs.Flows.{gone, same_flow_part, same_name, same_side, same_state, told}
pub use Rattle.trace.specs.Joined.{extended, mark}
pub use Rattle.trace.specs.Kept.{AreQueues, IsTold, IsValidAnswer}
pub use Rattle.trace.specs.Named.{IsFlowNamed, IsHostNamed, IsShort}
pub use Rattle.trace.specs.Parts.{Down, Waiting}
pub use Rattle.trace.specs.Steps.{Called, EventEnds, OnlyReached, RoundEnds}
pub use Rattle.trace.specs.Texts.{all_members, further, listed, member, object, part_name, part_text, parts_members, queues_text, quoted, trace_line}
pub use Rattle.trace.specs.Traces.{EndsEvent, EndsRound, GoesOnWith, HasHappened, Inside, IsStill, MayTell, SaysAll, StopsElement, TellsElement, TellsEvent, TellsMoving, TellsRound, TellsRounds, WritesTrace, change_text, numbered_from, plain_inside}
pub use Rattle.trace.specs.declared.all_parts.AllParts.{AllParts}
pub use Rattle.trace.specs.declared.element.Element.{Element}
pub use Rattle.trace.specs.declared.element.Spot.{Spot}
pub use Rattle.trace.specs.declared.fate.Fate.{Fate}
pub use Rattle.trace.specs.declared.flow_part.FlowPart.{FlowPart}
pub use Rattle.trace.specs.declared.flow_part.FlowState.{FlowState}
pub use Rattle.trace.specs.declared.flow_part.Side.{Side}
