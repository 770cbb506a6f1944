use Rattle.std.proofs.Common.{◌≡◌, take, drop}
use Rattle.host_services.specs.Ears.{all_in}
use Rattle.host_services.specs.Turns.{notice_heard}
use Rattle.host_services.proofs.TurnLemmas.{behind}
use Rattle.host_services.proofs.services.tell_blocks.Given as goal

-- the blocks before this place have had their turns
abbrev pub invariant-loop-at : goal.invariant-loop-at
invariant-loop-at l =
    notice_heard l.notice (all_in l.fn.blocks) l.fn.desk ≡ behind (all_in (take l.at l.blocks)) (notice_heard l.notice (all_in (drop l.at l.blocks)) l.desk)
