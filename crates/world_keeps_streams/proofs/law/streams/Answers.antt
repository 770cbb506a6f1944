use Rattle.world_keeps_streams.proofs.Steps.Streams.{both_front, both_sent, both_taken, both_whole}
use Rattle.world_keeps_streams.proofs.law.streams.Goals as goal

pub returns : goal.returns
returns c = record {
  front = λ hosts moments addresses run time a b ours link off. both_front hosts addresses link off a b ours moments run time;
  whole = λ hosts moments addresses run time a b ours link off. both_whole hosts addresses link off a b ours moments run time;
  taken = λ hosts moments addresses run time a b ours link off. both_taken hosts addresses link off a b ours moments run time;
  sent = λ hosts moments addresses run time a b ours link off. both_sent hosts addresses link off a b ours moments run time;
}
