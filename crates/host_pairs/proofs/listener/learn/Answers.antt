use Rattle.std.proofs.Common.{arith}
use Rattle.std.proofs.lemmas.List.Sorted.{IsNonDecreasingBy-push}
use Rattle.host_pairs.specs.declared.listener.Listener.{Listener}
use Rattle.host_pairs.proofs.listener.learn.Goals as goal

pub returns-else-not-is_above-clause-told : goal.returns-else-not-is_above-clause-told
returns-else-not-is_above-clause-told c = rw c.in_default.is (IsNonDecreasingBy-push (λ (l : Listener). l.socket) c.args.listening.now c.args.listener.now (rw c.in_default.is at c.requires) (λ d lt. omega (arith, c.if-not-is_above.ensures d lt)))
