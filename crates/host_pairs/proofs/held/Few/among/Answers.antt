use Rattle.std.proofs.Common.{sym, arith}
use Rattle.host_pairs.proofs.HeldLemmas.{has_among, none_has, none_passes, passes_among}
use Rattle.host_pairs.proofs.held.Few.among.Goals as goal

pub returns-in-Nowhere-clause-some : goal.returns-in-Nowhere-clause-some
returns-in-Nowhere-clause-some c = λ one mark within h. sym (none_has one mark _ within (rw c.in-Nowhere.is at h))

pub returns-in-Nowhere-clause-passed : goal.returns-in-Nowhere-clause-passed
returns-in-Nowhere-clause-passed c = λ one mark within h. sym (none_passes one mark _ within (rw c.in-Nowhere.is at h))

pub returns-in-At-clause-some : goal.returns-in-At-clause-some
returns-in-At-clause-some c = λ one mark within h. has_among one mark c.in-At.at _ _ within (omega arith) (rw c.in-At.is at h)

pub returns-in-At-clause-passed : goal.returns-in-At-clause-passed
returns-in-At-clause-passed c = λ one mark within h. passes_among one mark c.in-At.at _ _ within (omega arith) (rw c.in-At.is at h)
