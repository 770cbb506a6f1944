use Rattle.std.proofs.Common.{codes}
use Rattle.script.proofs.Keywords.{no_event, other_word}
use Rattle.script.proofs.events.read_plain.Goals as goal

pub returns-in_err-read_net : goal.returns-in_err-read_net
returns-in_err-read_net c =
    rw c.from_residual-in_err-read_net.ensures (no_event c.args.word.now c.args.rest.now c.requires.word c.requires.not_out
    (other_word c.args.word.now (codes "take") c.is_word.result c.is_word.ensures c.if-is_word.false)
    (other_word c.args.word.now (codes "calm") c.is_word-2.result c.is_word-2.ensures c.if-is_word-2.false)
    c.in_err-read_net.ensures)
