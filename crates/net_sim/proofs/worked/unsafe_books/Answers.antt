use Rattle.net_sim.proofs.Books.Unsafe as unsafe
use Rattle.net_sim.proofs.worked.unsafe_books.Goals as goal

pub returns-clause-twice : goal.returns-clause-twice
returns-clause-twice c = unsafe.twice

pub returns-clause-granted_bits : goal.returns-clause-granted_bits
returns-clause-granted_bits c = unsafe.granted_bits

pub returns-clause-granted_messages : goal.returns-clause-granted_messages
returns-clause-granted_messages c = unsafe.granted_messages

pub returns-clause-sent_bits : goal.returns-clause-sent_bits
returns-clause-sent_bits c = unsafe.sent_bits

pub returns-clause-own_twice : goal.returns-clause-own_twice
returns-clause-own_twice c = unsafe.own_twice

pub returns-clause-partner_twice : goal.returns-clause-partner_twice
returns-clause-partner_twice c = unsafe.partner_twice

pub returns-clause-one_way : goal.returns-clause-one_way
returns-clause-one_way c = unsafe.one_way

pub returns-clause-from_nobody : goal.returns-clause-from_nobody
returns-clause-from_nobody c = unsafe.from_nobody

pub returns-clause-other_bits : goal.returns-clause-other_bits
returns-clause-other_bits c = unsafe.other_bits

pub returns-clause-unanswered : goal.returns-clause-unanswered
returns-clause-unanswered c = unsafe.unanswered

pub returns-clause-another_host : goal.returns-clause-another_host
returns-clause-another_host c = unsafe.another_host

pub returns-clause-taken_messages : goal.returns-clause-taken_messages
returns-clause-taken_messages c = unsafe.taken_messages

pub returns-clause-sent_messages : goal.returns-clause-sent_messages
returns-clause-sent_messages c = unsafe.sent_messages

pub returns-clause-other_taken : goal.returns-clause-other_taken
returns-clause-other_taken c = unsafe.other_taken

pub returns-clause-other_handed : goal.returns-clause-other_handed
returns-clause-other_handed c = unsafe.other_handed
