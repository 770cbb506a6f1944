use Rattle.std.proofs.Common.{rules, List, sym, subst}
use Rattle.std.proofs.lemmas.List.{drop_all}
use Rattle.host_pairs.specs.declared.notice.Notice.{Notice}
use Rattle.host_services.proofs.BlockLemmas.{NoneHeard, more_passed, told_deaf}
use Rattle.host_services.proofs.services.Services.hear_any.Goals as goal

pub loop-notice-preserved : goal.loop-notice-preserved
loop-notice-preserved c = λ rest.
    c.loop-notice.invariant (more_passed c.args.self.now.running c.args.notices.now c.loop-notice.notice-index c.notice-item.result (search rules) (search rules) (search rules) rest)

pub returns : goal.returns
returns c = λ d.
    told_deaf c.args.notices.now c.args.self.now d
    (c.loop-notice.invariant (subst (λ (ns : List Notice). NoneHeard c.args.self.now.running ns) (sym (drop_all c.loop-notice.notice-index c.args.notices.now (search rules))) tt))
