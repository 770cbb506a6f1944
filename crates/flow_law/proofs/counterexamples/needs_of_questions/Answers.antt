use Rattle.flow_law.proofs.QuestionLemmas.{asks_anything_breaks, replies_to_nothing_breaks, replies_to_any_breaks, replies_falsely_breaks, never_of_waiting_breaks, never_of_taken_breaks, never_unnoted_breaks}
use Rattle.flow_law.proofs.counterexamples.needs_of_questions.Goals as goal

pub returns-clause-asks_anything : goal.returns-clause-asks_anything
returns-clause-asks_anything c = asks_anything_breaks

pub returns-clause-replies_to_nothing : goal.returns-clause-replies_to_nothing
returns-clause-replies_to_nothing c = replies_to_nothing_breaks

pub returns-clause-replies_to_any : goal.returns-clause-replies_to_any
returns-clause-replies_to_any c = replies_to_any_breaks

pub returns-clause-replies_falsely : goal.returns-clause-replies_falsely
returns-clause-replies_falsely c = replies_falsely_breaks

pub returns-clause-never_of_waiting : goal.returns-clause-never_of_waiting
returns-clause-never_of_waiting c = never_of_waiting_breaks

pub returns-clause-never_of_taken : goal.returns-clause-never_of_taken
returns-clause-never_of_taken c = never_of_taken_breaks

pub returns-clause-never_unnoted : goal.returns-clause-never_unnoted
returns-clause-never_unnoted c = never_unnoted_breaks
