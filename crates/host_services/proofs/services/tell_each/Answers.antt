use Rattle.host_services.specs.Ears.{all_in}
use Rattle.host_services.proofs.BlockLemmas.{both_heard}
use Rattle.host_services.proofs.services.tell_each.Goals as goal

pub returns : goal.returns
returns c =
    both_heard c.args.notice.now (all_in c.args.full.now) c.args.last.now (all_in c.tell_blocks.new.blocks) c.tell.new.self c.args.desk.now c.tell_blocks.new.desk c.tell.new.desk
    c.in_ok-tell_blocks.ensures c.in_ok-tell.ensures
