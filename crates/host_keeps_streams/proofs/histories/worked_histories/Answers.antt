use Rattle.host_keeps_streams.proofs.Common.{arith, ◌≡◌, ℕ, true, false, Some, refl, ap, sym, has_cls, Entry}
use Rattle.std.proofs.Common.{rules}
use Rattle.host_pairs.specs.declared.entry.Closing.TheVariants as closing
use Rattle.host_pairs.proofs.lemmas.{some_is}
use Rattle.host_keeps_streams.specs.Histories.{opened_end, waiting}
use Rattle.host_keeps_streams.proofs.histories.worked_histories.Goals as goal

pub returns-clause-alike : goal.returns-clause-alike
returns-clause-alike c tells = let same : ◌≡◌ {A = ℕ} 0 1 = tells.gone 0 0 0 0 0 1 refl in absurd (omega (arith, same))

pub returns-clause-unsaid : goal.returns-clause-unsaid
returns-clause-unsaid c peer allowed = let both : false ≡ true = allowed.0 waiting refl in absurd (cc)

said : (e : Entry) → Some (record opened_end { closing = closing.Queued }) ≡ Some e → has_cls e.closing ≡ true
said e same = ap (λ (x : Entry). has_cls x.closing) (sym (some_is (record opened_end { closing = closing.Queued }) e same))

pub returns-clause-allowed : goal.returns-clause-allowed
returns-clause-allowed c peer = search (rules, said)
