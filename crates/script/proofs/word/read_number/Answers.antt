use Rattle.std.proofs.Common.{arith}
use Rattle.script.proofs.Numbers.{past_is_none}
use Rattle.script.proofs.word.read_number.Goals as goal

pub returns-else-number-most : goal.returns-else-number-most
returns-else-number-most c = past_is_none c.args.word.now c.args.most c.in_ok-number.number c.in_ok-number.ensures.1 (omega arith) c.in_ok-number.ensures.0
