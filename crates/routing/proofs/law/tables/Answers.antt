use Rattle.routing.proofs.Nexts.{distance-zero, next-line, next-claimed, vector-is, vector-claimed, vector-distance}
use Rattle.routing.proofs.law.tables.Goals as goal

pub returns-clause-vector : goal.returns-clause-vector
returns-clause-vector c = vector-is

pub returns-clause-told : goal.returns-clause-told
returns-clause-told c = vector-distance

pub returns-clause-claimed : goal.returns-clause-claimed
returns-clause-claimed c = vector-claimed

pub returns-clause-same_next : goal.returns-clause-same_next
returns-clause-same_next c = next-claimed

pub returns-clause-own : goal.returns-clause-own
returns-clause-own c = distance-zero

pub returns-clause-next : goal.returns-clause-next
returns-clause-next c = next-line
