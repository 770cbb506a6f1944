use Rattle.std.proofs.Common.{◌≡◌, [], arith}
use Rattle.replay.specs.Worked.{counting}
use Rattle.world_replay.proofs.Driving.{no_calm, not_booked, not_crossed, one_call, one_line, one_taking, quiet_silent, taken, taken_by_another, two_calls, two_takings, uncalled, untaken}
use Rattle.world_replay.proofs.worked_drives.worked_drives.Goals as goal

pub returns-clause-raw_once : goal.returns-clause-raw_once
returns-clause-raw_once c = one_taking

pub returns-clause-raw_twice : goal.returns-clause-raw_twice
returns-clause-raw_twice c = two_takings

pub returns-clause-quiet : goal.returns-clause-quiet
returns-clause-quiet c = quiet_silent

pub returns-clause-offered : goal.returns-clause-offered
returns-clause-offered c = λ h. let lengths : 0 ≡ 1 = one_line (counting.seen 3) [] h.1 in omega (arith, lengths)

pub returns-clause-event : goal.returns-clause-event
returns-clause-event c = taken

pub returns-clause-left_out : goal.returns-clause-left_out
returns-clause-left_out c = untaken

pub returns-clause-another : goal.returns-clause-another
returns-clause-another c = taken_by_another

pub returns-clause-uncalled : goal.returns-clause-uncalled
returns-clause-uncalled c = uncalled

pub returns-clause-not_crossed : goal.returns-clause-not_crossed
returns-clause-not_crossed c = not_crossed

pub returns-clause-all : goal.returns-clause-all
returns-clause-all c = two_calls

pub returns-clause-too_few : goal.returns-clause-too_few
returns-clause-too_few c = one_call

pub returns-clause-not_in_the_book : goal.returns-clause-not_in_the_book
returns-clause-not_in_the_book c = not_booked

pub returns-clause-calm : goal.returns-clause-calm
returns-clause-calm c = no_calm
