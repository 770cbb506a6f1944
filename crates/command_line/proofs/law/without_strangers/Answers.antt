use Rattle.command_line.proofs.Common.{fates_of, lives_of, is_host}
use Rattle.std.proofs.Common.{[]}
use Rattle.command_line.proofs.Verdicts.Among.{all_beside, all_lives, all_places, none_toward}
use Rattle.command_line.proofs.Verdicts.Named.{toward_none}
use Rattle.command_line.proofs.law.without_strangers.Goals as goal

pub returns-clause-lives : goal.returns-clause-lives
returns-clause-lives c = λ b. all_lives (lives_of b)

pub returns-clause-lists : goal.returns-clause-lists
returns-clause-lists c = λ b. all_beside (lives_of b) b.handed

pub returns-clause-fates : goal.returns-clause-fates
returns-clause-fates c = λ b. all_beside (lives_of b) (fates_of b)

pub returns-clause-places : goal.returns-clause-places
returns-clause-places c = λ b n. all_places (lives_of b) n

pub returns-clause-toward : goal.returns-clause-toward
returns-clause-toward c = λ b v j. toward_none v (λ h. is_host [] h) b.crossings (lives_of b) b.handed (fates_of b) j (none_toward (lives_of b) b.handed)
