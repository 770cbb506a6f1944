use Rattle.std.proofs.Common.{◌<◌, ◌+◌, arith, length}
use Rattle.command_line.specs.Audits.{program_lives}
use Rattle.command_line.proofs.law.worked_judged.Goals as goal

pub returns-clause-one : goal.returns-clause-one
returns-clause-one c = λ n hosts b says. says.partners

pub returns-clause-exchanged : goal.returns-clause-exchanged
returns-clause-exchanged c = λ n hosts b says. (let less : n + 1 < n = says.partners.1.2 in omega (arith, less))

pub returns-clause-crossing : goal.returns-clause-crossing
returns-clause-crossing c = λ n hosts b says. says.streams.at

pub returns-clause-list : goal.returns-clause-list
returns-clause-list c = λ n hosts b says. says.grants.at

pub returns-clause-sent : goal.returns-clause-sent
returns-clause-sent c = λ n hosts b says. says.sent.at

pub returns-clause-match_past : goal.returns-clause-match_past
returns-clause-match_past c = λ hosts b says. (
    let less : length (program_lives hosts b) < length (program_lives hosts b) = says.closes.at.1.2 in
    omega (arith, less)
    )
