use Rattle.book_log.proofs.Numbers.{no_text_is_none, parsed_as, wrong_is_none}
use Rattle.book_log.proofs.Common.{◌≡◌, ◌∙◌, sym, false, subst, begins_wrong}
use Rattle.std.specs.Str.Parse.{ParsesUnsigned}
use Rattle.book_log.proofs.words.read_wide.Goals as goal

pub returns-then-begins_wrong : goal.returns-then-begins_wrong
returns-then-begins_wrong c = wrong_is_none c.args.word.now (sym c.begins_wrong.ensures ∙ c.if-begins_wrong.true)

pub returns-in-Ok : goal.returns-in-Ok
returns-in-Ok c =
    let right : begins_wrong c.args.word.now ≡ false = sym c.begins_wrong.ensures ∙ c.if-begins_wrong.false in
    rw c.ok.ensures.value (parsed_as c.args.word.now c.parse.result right (subst (λ bs. ParsesUnsigned 128 10 bs c.parse.result) c.in-Ok.ensures.cases.0 c.parse.ensures.value.0))

pub returns-in-Err : goal.returns-in-Err
returns-in-Err c = no_text_is_none c.args.word.now c.in-Err.ensures.cases.0
