use Rattle.trace.proofs.Changes.FlowLaws.{all_lost, kept, only}
use Rattle.trace.proofs.Changes.Flowing.{no_part_changed}
use Rattle.trace.proofs.Changes.Rising.{none, rises}
use Rattle.trace.proofs.law.changes.Goals as goal

pub returns : goal.returns
returns c = record {
  kept = kept;
  only = only;
  lost = λ before now place p h. all_lost before now place p h.within h.was h.none;
  none = none;
  rises = rises;
  same = no_part_changed;
}
