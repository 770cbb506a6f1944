use Rattle.std.proofs.Common.{◌≡◌, ◌++◌, drop}
use Rattle.host_services.specs.Ears.{all_in}
use Rattle.host_services.specs.Turns.{all_heard}
use Rattle.host_services.proofs.services.tell_all.Given as goal

abbrev pub invariant-loop-notice : goal.invariant-loop-notice
invariant-loop-notice l =
    all_heard (drop l.notice-index l.notices) (all_in l.full ++ l.last) l.desk ≡ all_heard l.notices (all_in l.fn.full ++ l.fn.last) l.fn.desk
