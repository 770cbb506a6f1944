use Rattle.world_keeps_lives.proofs.NoticesRows.{row_another_host, row_another_link, row_both, row_early, row_nothing_crossed, row_other_bits, row_told, row_twice, row_unsent, row_untaken}
use Rattle.world_keeps_lives.proofs.law.worked_notices.Goals as goal

pub returns-clause-both : goal.returns-clause-both
returns-clause-both c = row_both

pub returns-clause-told : goal.returns-clause-told
returns-clause-told c = row_told

pub returns-clause-untaken : goal.returns-clause-untaken
returns-clause-untaken c = row_untaken

pub returns-clause-unsent : goal.returns-clause-unsent
returns-clause-unsent c = row_unsent

pub returns-clause-other_bits : goal.returns-clause-other_bits
returns-clause-other_bits c = row_other_bits

pub returns-clause-nothing_crossed : goal.returns-clause-nothing_crossed
returns-clause-nothing_crossed c = row_nothing_crossed

pub returns-clause-early : goal.returns-clause-early
returns-clause-early c = row_early

pub returns-clause-twice : goal.returns-clause-twice
returns-clause-twice c = row_twice

pub returns-clause-another_host : goal.returns-clause-another_host
returns-clause-another_host c = row_another_host

pub returns-clause-another_link : goal.returns-clause-another_link
returns-clause-another_link c = row_another_link
