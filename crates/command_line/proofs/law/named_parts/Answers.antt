use Rattle.command_line.proofs.Common.{is_host, fates_of, lives_of}
use Rattle.std.specs.Prelude.{reverse}
use Rattle.command_line.specs.Audits.{program_lives}
use Rattle.book_judge.proofs.lemmas.{made_formed}
use Rattle.command_line.proofs.Verdicts.Named.{closes_named, fates_named, formed_named, grants_named, lives_named}
use Rattle.command_line.proofs.Verdicts.Named.{messages_named, only_kept, partners_named, run_named, safe_from_kept}
use Rattle.command_line.proofs.Verdicts.Named.{sent_named, streams_named, toward_named}
use Rattle.command_line.proofs.law.named_parts.Goals as goal

pub returns-clause-run : goal.returns-clause-run
returns-clause-run c =
    λ hosts b v j. run_named _ _ _ _ _ _ j

pub returns-clause-lives : goal.returns-clause-lives
returns-clause-lives c =
    λ hosts b v j. lives_named _ _ _ _ _ _ j

pub returns-clause-made : goal.returns-clause-made
returns-clause-made c = λ hosts b v j none.
    made_formed (reverse b.crossings) (program_lives hosts b)
    ((lives_named _ _ _ _ _ _ j).0 none)

pub returns-clause-formed : goal.returns-clause-formed
returns-clause-formed c =
    λ hosts b v j. formed_named _ _ _ _ _ _ j

pub returns-clause-messages : goal.returns-clause-messages
returns-clause-messages c =
    λ hosts b v j. messages_named _ _ _ _ _ _ j

pub returns-clause-partners : goal.returns-clause-partners
returns-clause-partners c =
    λ hosts b v j. partners_named _ _ _ _ _ _ j

pub returns-clause-streams : goal.returns-clause-streams
returns-clause-streams c =
    λ hosts b v j. streams_named _ _ _ _ _ _ j

pub returns-clause-grants : goal.returns-clause-grants
returns-clause-grants c =
    λ hosts b v j. grants_named _ _ _ _ _ _ j

pub returns-clause-sent : goal.returns-clause-sent
returns-clause-sent c =
    λ hosts b v j. sent_named v (λ h. is_host hosts h) b.crossings (lives_of b) b.handed (fates_of b) j

pub returns-clause-closes : goal.returns-clause-closes
returns-clause-closes c =
    λ hosts b v j. closes_named _ _ _ _ _ _ j

pub returns-clause-fates : goal.returns-clause-fates
returns-clause-fates c =
    λ hosts b v j. fates_named _ _ _ _ _ _ j

pub returns-clause-toward : goal.returns-clause-toward
returns-clause-toward c =
    λ hosts b v j. toward_named _ _ _ _ _ _ j

pub returns-clause-safe : goal.returns-clause-safe
returns-clause-safe c =
    λ hosts b j. safe_from_kept _ _ _ _ _ j

pub returns-clause-kept : goal.returns-clause-kept
returns-clause-kept c =
    λ hosts b v k j. only_kept v (λ h. is_host hosts h) b.crossings (lives_of b) b.handed (fates_of b) k j
