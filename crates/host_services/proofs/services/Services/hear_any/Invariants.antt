use Rattle.std.proofs.Common.{drop}
use Rattle.host_services.proofs.BlockLemmas.{NoneHeard}
use Rattle.host_services.proofs.services.Services.hear_any.Given as goal

-- it is enough that they don't hear the notices from here on
abbrev pub invariant-loop-notice : goal.invariant-loop-notice
invariant-loop-notice l = NoneHeard l.self.running (drop l.notice-index l.notices) → NoneHeard l.self.running l.notices
