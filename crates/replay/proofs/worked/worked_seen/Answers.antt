use Rattle.std.proofs.Common.{arith, inr, refl}
use Rattle.replay.proofs.Handing.{broken_off, first_alone, last_alone, long, none_seen, seen}
use Rattle.replay.proofs.worked.worked_seen.Goals as goal

pub returns : goal.returns
returns c = record {
  unseen = none_seen 64 (omega arith);
  seen = seen;
  short = λ more. absurd (omega (arith, more));
  long = long;
  last_alone = last_alone;
  first_alone = first_alone;
  rests = λ more. (3, omega arith, none_seen 3 (omega arith), inr refl);
  broken_off = broken_off;
  other = tt;
}
