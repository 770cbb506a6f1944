use Rattle.std.proofs.Common.{codes}
use Rattle.script.proofs.Keywords.{no_operand, is_line_event, no_line_event, other_word}
use Rattle.script.proofs.network.read_line_event.Goals as goal

pub returns-else-is_word-5 : goal.returns-else-is_word-5
returns-else-is_word-5 c =
    no_line_event c.args.word.now c.args.rest.now c.requires
    (other_word c.args.word.now (codes "deliver") c.is_word.result c.is_word.ensures c.if-is_word.false)
    (other_word c.args.word.now (codes "drop") c.is_word-else-is_word.result c.is_word-else-is_word.ensures c.if-is_word-2.false)
    (other_word c.args.word.now (codes "garble") c.is_word-else-is_word-2.result c.is_word-else-is_word-2.ensures c.if-is_word-3.false)
    (other_word c.args.word.now (codes "enddown") c.is_word-else-is_word-3.result c.is_word-else-is_word-3.ensures c.if-is_word-4.false)
    (other_word c.args.word.now (codes "endup") c.is_word-else-is_word-4.result c.is_word-else-is_word-4.ensures c.if-is_word-5.false)

pub returns-in_err-line : goal.returns-in_err-line
returns-in_err-line c =
    rw c.from_residual.ensures (λ x meant. no_operand (codes "deliver") c.args.word.now c.args.rest.now
    (c.is_word.ensures.0 c.if-is_word.true) c.requires c.in_err-line.ensures x (is_line_event x meant))

pub returns-in_err-line-2 : goal.returns-in_err-line-2
returns-in_err-line-2 c =
    rw c.from_residual-in_err-line-2.ensures (λ x meant. no_operand (codes "drop") c.args.word.now c.args.rest.now
    (c.is_word-else-is_word.ensures.0 c.if-is_word-2.true) c.requires c.in_err-line-2.ensures x (is_line_event x meant))

pub returns-in_err-line-3 : goal.returns-in_err-line-3
returns-in_err-line-3 c =
    rw c.from_residual-in_err-line-3.ensures (λ x meant. no_operand (codes "garble") c.args.word.now c.args.rest.now
    (c.is_word-else-is_word-2.ensures.0 c.if-is_word-3.true) c.requires c.in_err-line-3.ensures x (is_line_event x meant))

pub returns-in_err-imp : goal.returns-in_err-imp
returns-in_err-imp c =
    rw c.from_residual-in_err-imp.ensures (λ x meant. no_operand (codes "enddown") c.args.word.now c.args.rest.now
    (c.is_word-else-is_word-3.ensures.0 c.if-is_word-4.true) c.requires c.in_err-imp.ensures x (is_line_event x meant))

pub returns-in_err-imp-2 : goal.returns-in_err-imp-2
returns-in_err-imp-2 c =
    rw c.from_residual-in_err-imp-2.ensures (λ x meant. no_operand (codes "endup") c.args.word.now c.args.rest.now
    (c.is_word-else-is_word-4.ensures.0 c.if-is_word-5.true) c.requires c.in_err-imp-2.ensures x (is_line_event x meant))
