use Rattle.pairing_law.proofs.Placed.{tagged_once, placed_run, placed_front, pair_same, stays_same}
use Rattle.pairing_law.proofs.law.places.Goals as goal

pub returns : goal.returns
returns c = record {
  tagged = tagged_once;
  run = placed_run;
  same = λ events a b. (pair_same a b events, stays_same a b events);
  front = placed_front;
}
