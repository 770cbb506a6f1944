use Rattle.std.proofs.Common.{codes}
use Rattle.script.proofs.Keywords.{no_host_event, other_word}
use Rattle.script.proofs.network.read_host_event.Goals as goal

pub returns-else-is_word-5 : goal.returns-else-is_word-5
returns-else-is_word-5 c =
    no_host_event c.args.word.now c.args.rest.now c.requires
    (other_word c.args.word.now (codes "giveup") c.is_word.result c.is_word.ensures c.if-is_word.false)
    (other_word c.args.word.now (codes "abandon") c.is_word-else-is_word.result c.is_word-else-is_word.ensures c.if-is_word-2.false)
    (other_word c.args.word.now (codes "ask") c.is_word-else-is_word-2.result c.is_word-else-is_word-2.ensures c.if-is_word-3.false)
    (other_word c.args.word.now (codes "hostdown") c.is_word-else-is_word-3.result c.is_word-else-is_word-3.ensures c.if-is_word-4.false)
    (other_word c.args.word.now (codes "hostup") c.is_word-else-is_word-4.result c.is_word-else-is_word-4.ensures c.if-is_word-5.false)
