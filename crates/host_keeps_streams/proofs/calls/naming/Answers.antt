use Rattle.host_keeps_streams.proofs.Names.{received_renamed, sent_renamed, sound_renamed}
use Rattle.host_keeps_streams.proofs.calls.naming.Goals as goal

pub returns : goal.returns
returns c = record {
  received = received_renamed;
  sent = sent_renamed;
  sound = sound_renamed;
}
