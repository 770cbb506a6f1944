use Rattle.std.proofs.Common.{refl}
use Rattle.std.specs.Fmt.{digits}
use Rattle.hex.specs.Hex.{encode_with}
use Rattle.bit_messages.specs.Octets.{octets_of}
use Rattle.subnet_trace.proofs.worked.worked_packets.Goals as goal

pub returns : goal.returns
unfolding digits encode_with octets_of
returns c = record {
  piece = refl;
  rfnm = refl;
  free = refl;
  busy = refl;
  slot = refl;
  acks = refl;
  packet = refl;
  routes = refl;
}
