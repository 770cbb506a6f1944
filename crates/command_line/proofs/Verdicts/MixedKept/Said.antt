-- What is said of a log that a replay wrote.
use Rattle.command_line.proofs.Common.{AuditFault, Verdict, Logged}
use Rattle.std.proofs.Common.{◌≡◌, ℕ, List, [], Option, None, Some, Result, Ok, Err, IfSome, MatchResult, subst, sym}
use Rattle.command_line.specs.Audits.{AuditsLog, IsAuditFault, IsSomeLog, SaysKept}
use Rattle.command_line.proofs.Joined.{never_bad, said_kept}
use Rattle.command_line.proofs.Verdicts.MixedKept.Kept.{logged_kept}

-- whatever the reader's octets are, as far as they are known
pub ends_kept : (known : Option (List ℕ)) (said : Verdict) (before after : Option (List ℕ))
    → IfSome known (λ octets. AuditsLog octets said before after)
    → IfSome known (λ octets. Logged (Some []) (Some octets) → SaysKept octets (Ok said))
ends_kept None said before after audits = tt
ends_kept (Some octets) said before after audits =
    λ logged. said_kept octets said before after audits (logged_kept octets logged)

pub ends_faulty : (known : Option (List ℕ)) (r : Result Verdict AuditFault) (f : AuditFault) → r ≡ Err f
    → IfSome known (λ octets. MatchResult r (λ said. IsSomeLog octets) (IsAuditFault octets))
    → IfSome known (λ octets. Logged (Some []) (Some octets) → SaysKept octets r)
ends_faulty None r f is read = tt
ends_faulty (Some octets) r f is read = λ logged.
    (let fault : IsAuditFault octets f =
    subst (λ (q : Result Verdict AuditFault). MatchResult q (λ said. IsSomeLog octets) (IsAuditFault octets)) is read in
    subst (λ (q : Result Verdict AuditFault). SaysKept octets q) (sym is)
    (never_bad octets f fault (logged_kept octets logged)))
