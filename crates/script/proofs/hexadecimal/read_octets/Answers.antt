use Rattle.script.proofs.Common.{list_all, encode_upper}
use Rattle.std.proofs.Common.{◌≡◌, true, sym, ◌∙◌}
use Rattle.script.specs.Spelling.{IsHex, is_upper_digit}
use Rattle.script.proofs.Texts.{on_error, upper_hex, decoded, odd_length, other_octet}
use Rattle.script.proofs.hexadecimal.read_octets.Goals as goal
use Rattle.script.proofs.hexadecimal.read_octets.Goals.{then-word-ne0-via-then-word-ne0, then-word-ne0-via-else-word-ne0+then-not-has_upper_digits}

pub returns-then-word-ne0-clause-read : goal.returns-then-word-ne0-clause-read
returns-then-word-ne0-clause-read c = elim c.then-word-ne0.branch [
  | then-word-ne0-via-then-word-ne0 w ↦ odd_length c.args.word.now w.if-word-ne0.true
  | then-word-ne0-via-else-word-ne0+then-not-has_upper_digits w ↦ other_octet c.args.word.now (sym w.has_upper_digits.ensures ∙ w.if-not-has_upper_digits.true)
]

pub returns-clause-read : goal.returns-clause-read
returns-clause-read c =
    let digits : list_all is_upper_digit c.args.word.now ≡ true = sym c.has_upper_digits.ensures ∙ c.if-not-has_upper_digits.false in
    let spelled : c.args.word.now ≡ encode_upper c.in_ok-spelled_octets.field-0.items = c.in_ok-spelled_octets.ensures in
    (decoded c.args.word.now c.in_ok-spelled_octets.field-0.items digits spelled, spelled)

pub returns-in_err-spelled_octets-clause-memory : goal.returns-in_err-spelled_octets-clause-memory
returns-in_err-spelled_octets-clause-memory c = on_error (IsHex c.args.word.now) c.from_residual.result (upper_hex c.args.word.now c.if-word-ne0.false (sym c.has_upper_digits.ensures ∙ c.if-not-has_upper_digits.false))
