use Rattle.std.proofs.Common.{codes}
use Rattle.script.proofs.Keywords.{no_operand, is_imp_event, no_imp_event, other_word}
use Rattle.script.proofs.network.read_imp_event.Goals as goal

pub returns-else-is_word-6 : goal.returns-else-is_word-6
returns-else-is_word-6 c =
    no_imp_event c.args.word.now c.args.rest.now c.requires
    (other_word c.args.word.now (codes "resend") c.is_word.result c.is_word.ensures c.if-is_word.false)
    (other_word c.args.word.now (codes "route") c.is_word-else-is_word.result c.is_word-else-is_word.ensures c.if-is_word-2.false)
    (other_word c.args.word.now (codes "claim") c.is_word-else-is_word-2.result c.is_word-else-is_word-2.ensures c.if-is_word-3.false)
    (other_word c.args.word.now (codes "impdown") c.is_word-else-is_word-3.result c.is_word-else-is_word-3.ensures c.if-is_word-4.false)
    (other_word c.args.word.now (codes "impup") c.is_word-else-is_word-4.result c.is_word-else-is_word-4.ensures c.if-is_word-5.false)
    (other_word c.args.word.now (codes "forget") c.is_word-else-is_word-5.result c.is_word-else-is_word-5.ensures c.if-is_word-6.false)

pub returns-in_err-at : goal.returns-in_err-at
returns-in_err-at c =
    rw c.from_residual-in_err-at.ensures (λ x meant. no_operand (codes "forget") c.args.word.now c.args.rest.now
    (c.is_word-else-is_word-5.ensures.0 c.if-is_word-6.true) c.requires c.in_err-at.ensures x (is_imp_event x meant))
