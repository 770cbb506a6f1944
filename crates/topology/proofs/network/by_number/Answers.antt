use Rattle.topology.proofs.Common.{numbered_below}
use Rattle.std.proofs.Common.{sym, ap, ◌∙◌, ◌++◌, []}
use Rattle.std.specs.List.{cons_option}
use Rattle.topology.proofs.Order.{numbered_next, numbered_none}
use Rattle.topology.proofs.network.by_number.Goals as goal

pub loop-number-init : goal.loop-number-init
loop-number-init c = c.new-sorted.ensures.items ∙ sym (numbered_none c.args.imps.now)

pub loop-number-preserved : goal.loop-number-preserved
loop-number-preserved c =
    c.in_ok-push_found.ensures ∙ ap (λ xs. xs ++ cons_option c.imp_of_number.result []) c.loop-number.invariant
    ∙ ap (λ found. numbered_below c.args.imps.now c.loop-number.number ++ cons_option found []) c.imp_of_number.ensures ∙ sym (numbered_next c.args.imps.now c.loop-number.number)
