use Rattle.std.proofs.Common.{◌∙◌, sym, arith, length}
use Rattle.std.proofs.lemmas.Bool.{false≢true, lt-ltb}
use Rattle.script.proofs.Numbers.{long_is_none, number_read, wrong_is_none}
use Rattle.script.proofs.word.plain_number.Goals as goal
use Rattle.script.proofs.word.plain_number.Goals.{then-word-gt10, else-word-gt10}

pub returns-then-begins_wrong : goal.returns-then-begins_wrong
returns-then-begins_wrong c = elim c.if-word-gt10.branch [
  | then-word-gt10 w ↦ long_is_none c.args.word.now (omega (arith, w.if-word-gt10.true))
  | else-word-gt10 w ↦ wrong_is_none c.args.word.now (sym w.begins_wrong.ensures ∙ sym w.value-is ∙ c.if-begins_wrong.true)
]

pub returns-else-begins_wrong : goal.returns-else-begins_wrong
returns-else-begins_wrong c = elim c.if-word-gt10.branch [
  | then-word-gt10 w ↦ absurd (false≢true (sym c.if-begins_wrong.false ∙ w.value-is ∙ lt-ltb 10 (length c.args.word.now) w.if-word-gt10.true))
  | else-word-gt10 w ↦ number_read c.args.word.now c.spelled_number.result (sym w.begins_wrong.ensures ∙ sym w.value-is ∙ c.if-begins_wrong.false) c.spelled_number.ensures
]
