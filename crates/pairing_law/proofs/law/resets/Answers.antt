use Rattle.pairing_law.proofs.Begins.{Fresh, begins_fresh}
use Rattle.pairing_law.proofs.Resets.{takes_in_stay}
use Rattle.pairing_law.proofs.law.resets.Goals as goal

pub returns : goal.returns
returns c = record {
  in_stay = takes_in_stay;
  silent = λ hosts event events a b ours r begun. let f : Fresh a b event events = begins_fresh hosts event events r a b ours begun in (f.silent, f.silent_peer);
  left = λ hosts event events a b ours r begun. let f : Fresh a b event events = begins_fresh hosts event events r a b ours begun in (f.left, f.peer_left);
}
