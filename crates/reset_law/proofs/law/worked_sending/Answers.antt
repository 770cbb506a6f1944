use Rattle.std.proofs.Common.{◌≡◌, true, false, Some, None, refl}
use Rattle.reset_law.specs.Pairs.{Plain}
use Rattle.reset_law.proofs.law.worked_sending.Goals as goal

pub returns-clause-reply_waits : goal.returns-clause-reply_waits
returns-clause-reply_waits c may = let both : Some Plain ≡ None = may.3 2 in absurd (cc)

pub returns-clause-message_waits : goal.returns-clause-message_waits
returns-clause-message_waits c may = let both : true ≡ false = may.1 in absurd (cc)

pub returns-clause-reply_goes : goal.returns-clause-reply_goes
returns-clause-reply_goes c = (refl, refl, λ want. absurd (cc), λ k. refl)
