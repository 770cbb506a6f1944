use Rattle.interface.proofs.WorkedBoxes.{waits, taken, place, left, stranger, emptied, one_outstanding, taken_once, early_rfnm, late_dead, late_not_taken, answered_once, up_twice, down_twice}
use Rattle.interface.proofs.law.worked_boxes.Goals as goal

pub returns-clause-waits : goal.returns-clause-waits
returns-clause-waits c = waits

pub returns-clause-taken : goal.returns-clause-taken
returns-clause-taken c = taken

pub returns-clause-emptied : goal.returns-clause-emptied
returns-clause-emptied c = emptied

pub returns-clause-one_outstanding : goal.returns-clause-one_outstanding
returns-clause-one_outstanding c = one_outstanding

pub returns-clause-taken_once : goal.returns-clause-taken_once
returns-clause-taken_once c = taken_once

pub returns-clause-early_rfnm : goal.returns-clause-early_rfnm
returns-clause-early_rfnm c = early_rfnm

pub returns-clause-late_dead : goal.returns-clause-late_dead
returns-clause-late_dead c = late_dead

pub returns-clause-late_not_taken : goal.returns-clause-late_not_taken
returns-clause-late_not_taken c = late_not_taken

pub returns-clause-answered_once : goal.returns-clause-answered_once
returns-clause-answered_once c = answered_once

pub returns-clause-up_twice : goal.returns-clause-up_twice
returns-clause-up_twice c = up_twice

pub returns-clause-down_twice : goal.returns-clause-down_twice
returns-clause-down_twice c = down_twice

pub returns-clause-place : goal.returns-clause-place
returns-clause-place c = place

pub returns-clause-left : goal.returns-clause-left
returns-clause-left c = left

pub returns-clause-stranger : goal.returns-clause-stranger
returns-clause-stranger c = stranger
