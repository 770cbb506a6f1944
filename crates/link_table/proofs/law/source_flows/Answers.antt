use Rattle.link_table.proofs.FlowLemmas.{get_begun, get_answered, get_given_up, get_handed, number_begun}
use Rattle.link_table.proofs.EntryLemmas.{outstanding_none, outstanding_one, outstanding_to_none, outstanding_to_one}
use Rattle.link_table.proofs.law.source_flows.Goals as goal

pub returns-clause-begun : goal.returns-clause-begun
returns-clause-begun c = get_begun

pub returns-clause-answered : goal.returns-clause-answered
returns-clause-answered c = get_answered

pub returns-clause-given_up : goal.returns-clause-given_up
returns-clause-given_up c = get_given_up

pub returns-clause-handed : goal.returns-clause-handed
returns-clause-handed c = get_handed

pub returns-clause-number : goal.returns-clause-number
returns-clause-number c = number_begun

pub returns-clause-outstanding_none : goal.returns-clause-outstanding_none
returns-clause-outstanding_none c = outstanding_none

pub returns-clause-outstanding_one : goal.returns-clause-outstanding_one
returns-clause-outstanding_one c = outstanding_one

pub returns-clause-outstanding_to_none : goal.returns-clause-outstanding_to_none
returns-clause-outstanding_to_none c = outstanding_to_none

pub returns-clause-outstanding_to_one : goal.returns-clause-outstanding_to_one
returns-clause-outstanding_to_one c = outstanding_to_one
