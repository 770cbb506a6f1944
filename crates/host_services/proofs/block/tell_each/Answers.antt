use Rattle.std.proofs.Common.{rules, ◌≡◌, ◌<◌, ◌∙◌, length, arith}
use Rattle.host_services.proofs.TurnLemmas.{ears_long, ears_same, ears_set, more_heard}
use Rattle.host_services.proofs.block.tell_each.Goals as goal

pub loop-at-preserved : goal.loop-at-preserved
loop-at-preserved c =
    let within : c.loop-at.at < length c.loop-at.services = search rules in
    let long : length c.loop-at.ears ≡ length c.loop-at.services = ears_long c.loop-at.services c.loop-at.ears c.loop-at.invariant.ears in
    record {
      heard = c.loop-at.invariant.heard
          ∙ more_heard c.args.notice.now c.loop-at.services c.loop-at.at c.index-services-at.result c.tell_one.new.service c.loop-at.desk c.tell_one.new.desk within c.in_ok-now.ensures.heard;
      ears = ears_set c.loop-at.services c.loop-at.ears c.loop-at.at c.tell_one.new.service c.tell_one.new.ear c.loop-at.invariant.ears c.tell_one.ensures.ear;
      same = ears_same c.loop-at.ears c.args.ears.now c.loop-at.at _ c.tell_one.new.ear c.loop-at.changed c.in_ok-now.now (omega (arith, within, long)) c.loop-at.invariant.same c.in_ok-now.ensures.same;
    }
