use Rattle.std.proofs.Common.{rules}
use Rattle.book_judge.proofs.Crossed.SameText.{same_octets, other_lengths}
use Rattle.book_judge.proofs.texts.same_text.Goals as goal

pub returns-then-len : goal.returns-then-len
returns-then-len c =
    same_octets c.args.a.now c.args.b.now c.as_octets.result.now c.as_octets-then-len.result.now c.eq.result
    (search rules) (search rules) (search rules) c.eq.ensures

pub returns-else-len : goal.returns-else-len
returns-else-len c = other_lengths c.args.a.now c.args.b.now c.len.result c.len-2.result (search rules) (search rules) c.if-len.false
