use Rattle.std.proofs.Common.{refl}
use Rattle.bit_messages.specs.Octets.{octets_of}
use Rattle.ncp_control.specs.Packing.{packed_count}
use Rattle.ncp_control.specs.Reading.{read_of, command_of}
use Rattle.host_pairs.specs.Control.{orders_of}
use Rattle.sockets.specs.Accepting.{accepted}
use Rattle.sockets.specs.Requests.{refusal, served, served_notices}
use Rattle.sockets.specs.Sending.{next_out, offered}
use Rattle.net_sim.proofs.worked_moments.worked_tellings.Goals as goal

pub returns : goal.returns
unfolding octets_of orders_of read_of command_of packed_count accepted refusal served served_notices next_out offered
returns c = record {
  ready = (refl, refl);
  again = refl;
  others = refl;
  opened = refl;
  lives = refl;
  handed = refl;
}
