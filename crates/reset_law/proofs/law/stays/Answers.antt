use Rattle.reset_law.proofs.Joint.{nothing_waits}
use Rattle.reset_law.proofs.Stays.{begin_quiet, joint_stays, joint_either, stay_run, heard_front}
use Rattle.reset_law.proofs.law.stays.Goals as goal

pub returns : goal.returns
returns c = record {
  front = heard_front;
  waiting = λ hosts events r a b ours link stay. (stay_run hosts events r a b ours link stay).front;
  whole =
      λ hosts events r a b ours link together.
      (stay_run hosts events r a b ours link
      (joint_stays hosts events r b a (ours.1, ours.0) (joint_either a b events together))).whole together;
  together = joint_stays;
  beginning =
      λ hosts e events r a b ours link begun. (
        nothing_waits _ ((begin_quiet hosts e events r a b ours begun).0 link),
        nothing_waits _ ((begin_quiet hosts e events r a b ours begun).1 link),
      );
}
