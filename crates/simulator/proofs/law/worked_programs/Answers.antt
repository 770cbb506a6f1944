use Rattle.simulator.proofs.WorkedPrograms.{audit_memory, check_memory, held_back, left, left_written, log_memory, no_help, no_log, no_trace, not_ok, not_refused}
use Rattle.simulator.proofs.WorkedSessions.{answered_first, no_input, no_session, unanswered}
use Rattle.simulator.proofs.law.worked_programs.Goals as goal

pub returns-clause-log_memory : goal.returns-clause-log_memory
returns-clause-log_memory c = log_memory

pub returns-clause-audit_memory : goal.returns-clause-audit_memory
returns-clause-audit_memory c = audit_memory

pub returns-clause-check_memory : goal.returns-clause-check_memory
returns-clause-check_memory c = check_memory

pub returns-clause-not_ok : goal.returns-clause-not_ok
returns-clause-not_ok c = not_ok

pub returns-clause-no_log : goal.returns-clause-no_log
returns-clause-no_log c = no_log

pub returns-clause-no_trace : goal.returns-clause-no_trace
returns-clause-no_trace c = no_trace

pub returns-clause-left : goal.returns-clause-left
returns-clause-left c = left

pub returns-clause-no_help : goal.returns-clause-no_help
returns-clause-no_help c = no_help

pub returns-clause-not_refused : goal.returns-clause-not_refused
returns-clause-not_refused c = not_refused

pub returns-clause-held_back : goal.returns-clause-held_back
returns-clause-held_back c = held_back

pub returns-clause-left_written : goal.returns-clause-left_written
returns-clause-left_written c = left_written

pub returns-clause-no_input : goal.returns-clause-no_input
returns-clause-no_input c = no_input

pub returns-clause-no_session : goal.returns-clause-no_session
returns-clause-no_session c = no_session

pub returns-clause-unanswered : goal.returns-clause-unanswered
returns-clause-unanswered c = unanswered

pub returns-clause-answered_first : goal.returns-clause-answered_first
returns-clause-answered_first c = answered_first
