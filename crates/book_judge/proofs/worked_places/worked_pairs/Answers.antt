use Rattle.std.proofs.Common.{◌<◌, ◌+◌, arith}
use Rattle.book_judge.proofs.worked_places.worked_pairs.Goals as goal

pub returns-clause-one : goal.returns-clause-one
returns-clause-one c = λ n xs log hs fs b. b.partners

pub returns-clause-twice : goal.returns-clause-twice
returns-clause-twice c = λ n xs log hs fs b. (let less : n < n = b.partners.1.2 in omega (arith, less))

pub returns-clause-exchanged : goal.returns-clause-exchanged
returns-clause-exchanged c = λ n xs log hs fs b. (let less : n + 1 < n = b.partners.1.2 in omega (arith, less))
