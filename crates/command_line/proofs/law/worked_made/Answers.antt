use Rattle.command_line.proofs.WorkedLines.{any_grant, given_back, made, other_bits, other_count, other_stamp, other_stopped, over, still_alive, stopped}
use Rattle.command_line.proofs.law.worked_made.Goals as goal

pub returns-clause-made : goal.returns-clause-made
returns-clause-made c = made

pub returns-clause-granted : goal.returns-clause-granted
returns-clause-granted c = any_grant

pub returns-clause-other_bits : goal.returns-clause-other_bits
returns-clause-other_bits c = other_bits

pub returns-clause-other_count : goal.returns-clause-other_count
returns-clause-other_count c = other_count

pub returns-clause-other_stamp : goal.returns-clause-other_stamp
returns-clause-other_stamp c = other_stamp

pub returns-clause-returned : goal.returns-clause-returned
returns-clause-returned c = given_back

pub returns-clause-over : goal.returns-clause-over
returns-clause-over c = over

pub returns-clause-stopped : goal.returns-clause-stopped
returns-clause-stopped c = stopped

pub returns-clause-other_stopped : goal.returns-clause-other_stopped
returns-clause-other_stopped c = other_stopped

pub returns-clause-still_alive : goal.returns-clause-still_alive
returns-clause-still_alive c = still_alive
