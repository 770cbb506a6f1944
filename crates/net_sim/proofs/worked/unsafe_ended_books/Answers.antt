use Rattle.net_sim.proofs.Books.UnsafeEnded as unsafe
use Rattle.net_sim.proofs.worked.unsafe_ended_books.Goals as goal

pub returns-clause-own_twice : goal.returns-clause-own_twice
returns-clause-own_twice c = unsafe.own_twice

pub returns-clause-partner_twice : goal.returns-clause-partner_twice
returns-clause-partner_twice c = unsafe.partner_twice

pub returns-clause-unanswered : goal.returns-clause-unanswered
returns-clause-unanswered c = unsafe.unanswered

pub returns-clause-another_host : goal.returns-clause-another_host
returns-clause-another_host c = unsafe.another_host

pub returns-clause-one_way : goal.returns-clause-one_way
returns-clause-one_way c = unsafe.one_way

pub returns-clause-unhanded : goal.returns-clause-unhanded
returns-clause-unhanded c = unsafe.unhanded

pub returns-clause-from_nobody : goal.returns-clause-from_nobody
returns-clause-from_nobody c = unsafe.from_nobody

pub returns-clause-taken_messages : goal.returns-clause-taken_messages
returns-clause-taken_messages c = unsafe.taken_messages

pub returns-clause-sent_messages : goal.returns-clause-sent_messages
returns-clause-sent_messages c = unsafe.sent_messages
