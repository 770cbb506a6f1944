use Rattle.link_table.proofs.AnswerLemmas.{answered_last, given_up_last, handed_last, answered_frees, answered_stale, given_up_frees, answered_idle, given_up_idle, handed_idle, handed_outstanding}
use Rattle.link_table.proofs.law.numbers_of_sources.Goals as goal

pub returns-clause-answered_last : goal.returns-clause-answered_last
returns-clause-answered_last c = answered_last

pub returns-clause-given_up_last : goal.returns-clause-given_up_last
returns-clause-given_up_last c = given_up_last

pub returns-clause-handed_last : goal.returns-clause-handed_last
returns-clause-handed_last c = handed_last

pub returns-clause-answered_frees : goal.returns-clause-answered_frees
returns-clause-answered_frees c = answered_frees

pub returns-clause-answered_stale : goal.returns-clause-answered_stale
returns-clause-answered_stale c = answered_stale

pub returns-clause-given_up_frees : goal.returns-clause-given_up_frees
returns-clause-given_up_frees c = given_up_frees

pub returns-clause-answered_idle : goal.returns-clause-answered_idle
returns-clause-answered_idle c = answered_idle

pub returns-clause-given_up_idle : goal.returns-clause-given_up_idle
returns-clause-given_up_idle c = given_up_idle

pub returns-clause-handed_idle : goal.returns-clause-handed_idle
returns-clause-handed_idle c = handed_idle

pub returns-clause-handed_outstanding : goal.returns-clause-handed_outstanding
returns-clause-handed_outstanding c = handed_outstanding
