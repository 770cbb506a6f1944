use Rattle.imp_channel.proofs.Holding.{opening_packets, put_packets, put_among, resent_packets, received_packets, fresh_carried}
use Rattle.imp_channel.proofs.law.holding.Goals as goal

pub returns-clause-opening : goal.returns-clause-opening
returns-clause-opening c = opening_packets

pub returns-clause-submitted : goal.returns-clause-submitted
returns-clause-submitted c = λ e end packet frame is. (put_packets e end packet frame is).0

pub returns-clause-among : goal.returns-clause-among
returns-clause-among c = put_among

pub returns-clause-sent : goal.returns-clause-sent
returns-clause-sent c = λ e end packet frame is. (put_packets e end packet frame is).1

pub returns-clause-resent : goal.returns-clause-resent
returns-clause-resent c = resent_packets

pub returns-clause-received : goal.returns-clause-received
returns-clause-received c = received_packets

pub returns-clause-fresh : goal.returns-clause-fresh
returns-clause-fresh c = fresh_carried
