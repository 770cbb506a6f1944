use Rattle.std.proofs.Common.{sym}
use Rattle.host_pairs.proofs.ListenerLemmas.{above_all, at_point}
use Rattle.host_pairs.proofs.listener.stands_among.Goals as goal

pub returns-then-is_above : goal.returns-then-is_above
returns-then-is_above c = sym (above_all c.args.socket c.args.listening.now c.requires c.if-is_above.ensures)

pub returns : goal.returns
returns c = at_point c.args.socket c.args.listening.now c.requires c.first_from.result c.first_from.ensures.parts c.stands_at.result c.stands_at.ensures.yes c.stands_at.ensures.no
