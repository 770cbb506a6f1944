use Rattle.world_keeps_streams.proofs.Calls.Chain.{chain}
use Rattle.world_keeps_streams.proofs.Steps.Streams.{all_allowed, has_receiver, has_sender}
use Rattle.world_keeps_streams.proofs.law.programs.Goals as goal

pub returns : goal.returns
returns c = record {
  calls = λ hosts moments addresses. chain hosts addresses moments;
  allowed = λ hosts moments addresses run time a b ours link off. all_allowed hosts addresses link off a b ours moments run time;
  receiver = λ hosts moments addresses run time a b ours link off. has_receiver hosts addresses link off a b ours moments run time;
  sender = λ hosts moments addresses run time a b ours link off. has_sender hosts addresses link off a b ours moments run time;
}
