use Rattle.simulator.proofs.Traces.LeftOut.{left_out, one_each}
use Rattle.simulator.proofs.Recorded.{none, swallowed}
use Rattle.simulator.proofs.law.worked_traces.Goals as goal

pub returns-clause-swallowed : goal.returns-clause-swallowed
returns-clause-swallowed c = swallowed

pub returns-clause-none : goal.returns-clause-none
returns-clause-none c = none

pub returns-clause-left_out : goal.returns-clause-left_out
returns-clause-left_out c = left_out

pub returns-clause-one_each : goal.returns-clause-one_each
returns-clause-one_each c = one_each
