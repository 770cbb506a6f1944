use Rattle.std.proofs.Common.{refl}
use Rattle.routing.specs.RouteTable.{distance_to, next_of, vector_of}
use Rattle.std.specs.Fmt.{digits}
use Rattle.hex.specs.Hex.{encode_with}
use Rattle.bit_messages.specs.Octets.{octets_of}
use Rattle.subnet_trace.proofs.worked.worked_parts.Goals as goal

pub returns : goal.returns
unfolding digits encode_with octets_of vector_of distance_to next_of
returns c = record {
  source = refl;
  none_known = (refl, refl);
  kept = refl;
  host = refl;
  port = refl;
  heard = refl;
  nothing_heard = refl;
  imp = refl;
  next = refl;
  idle = refl;
  dead = refl;
  other_dead = refl;
  answered = refl;
  imp_down = refl;
  line = refl;
}
