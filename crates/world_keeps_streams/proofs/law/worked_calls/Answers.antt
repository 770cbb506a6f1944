use Rattle.std.proofs.Common.{refl}
use Rattle.bit_messages.specs.Octets.{octets_of}
use Rattle.ncp_control.specs.Packing.{packed_count}
use Rattle.ncp_control.specs.Reading.{read_of, command_of}
use Rattle.host_pairs.specs.Control.{orders_of}
use Rattle.sockets.specs.Accepting.{accepted}
use Rattle.sockets.specs.Requests.{refusal, served, served_notices}
use Rattle.sockets.specs.Sending.{next_out, offered}
use Rattle.world_keeps_streams.proofs.law.worked_calls.Goals as goal

pub returns : goal.returns
unfolding accepted command_of next_out octets_of offered orders_of packed_count read_of refusal served served_notices
returns c = record {
  none = λ a b. refl;
  first = (refl, refl);
  second = refl;
  elsewhere = refl;
  contact = refl;
  turned = λ own foreign gone. refl;
}
