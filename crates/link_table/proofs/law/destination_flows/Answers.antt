use Rattle.link_table.proofs.FlowLemmas.{get_put, get_ended, get_dropped, kept_none, kept_one}
use Rattle.link_table.proofs.law.destination_flows.Goals as goal

pub returns-clause-noted : goal.returns-clause-noted
returns-clause-noted c = λ m f g n new. get_put m f g (record { number = n; fate = new })

pub returns-clause-ended : goal.returns-clause-ended
returns-clause-ended c = get_ended

pub returns-clause-forgotten : goal.returns-clause-forgotten
returns-clause-forgotten c = λ m imp g. get_dropped m imp g

pub returns-clause-keeps_none : goal.returns-clause-keeps_none
returns-clause-keeps_none c = λ m imp none g from. kept_none m imp none g from

pub returns-clause-keeps_one : goal.returns-clause-keeps_one
returns-clause-keeps_one c = λ m imp some. kept_one m imp some
