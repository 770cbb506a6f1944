use Rattle.interface.proofs.UnsafeLogs.{untaken, twice, other_text, early, taken_and_told, told_and_taken, taken_below, taken_and_dead, dead_and_taken}
use Rattle.interface.proofs.law.unsafe_logs.Goals as goal

pub returns-clause-untaken : goal.returns-clause-untaken
returns-clause-untaken c = untaken

pub returns-clause-twice : goal.returns-clause-twice
returns-clause-twice c = twice

pub returns-clause-other_text : goal.returns-clause-other_text
returns-clause-other_text c = other_text

pub returns-clause-early : goal.returns-clause-early
returns-clause-early c = early

pub returns-clause-taken_and_told : goal.returns-clause-taken_and_told
returns-clause-taken_and_told c = taken_and_told

pub returns-clause-told_and_taken : goal.returns-clause-told_and_taken
returns-clause-told_and_taken c = told_and_taken

pub returns-clause-taken_below : goal.returns-clause-taken_below
returns-clause-taken_below c = taken_below

pub returns-clause-taken_and_dead : goal.returns-clause-taken_and_dead
returns-clause-taken_and_dead c = taken_and_dead

pub returns-clause-dead_and_taken : goal.returns-clause-dead_and_taken
returns-clause-dead_and_taken c = dead_and_taken
