use Rattle.std.proofs.Common.{◌≤◌, subst}
use Rattle.book_log.proofs.Bounds.{host_there}
use Rattle.book_log.proofs.ranges.has_host_range.Goals as goal

pub returns : goal.returns
returns c =
    host_there c.args.host (subst (λ n. 1 ≤ n) c.imp.ensures.same c.imp.ensures.range.0) (subst (λ n. n ≤ 63) c.imp.ensures.same c.imp.ensures.range.1)
    (subst (λ n. n ≤ 3) c.host.ensures.same c.host.ensures.range)
