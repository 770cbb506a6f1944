use Rattle.std.proofs.Common.{None}
use Rattle.book_log.proofs.Networks.{after_named, only_strangers}
use Rattle.book_log.proofs.law.strangers_first.Goals as goal

pub returns : goal.returns
returns c =
    λ before line h is begins. only_strangers begins.strangers None begins.book before line h begins.more is (after_named begins.strangers begins.named) begins.whole
