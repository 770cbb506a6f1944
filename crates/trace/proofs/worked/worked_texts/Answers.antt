use Rattle.std.proofs.Common.{refl}
use Rattle.std.specs.Fmt.{digits}
use Rattle.hex.specs.Hex.{encode_with}
use Rattle.bit_messages.specs.Octets.{octets_of}
use Rattle.trace.proofs.worked.worked_texts.Goals as goal

pub returns : goal.returns
unfolding digits encode_with octets_of
returns c = record {
  down = refl;
  none_down = refl;
  queues = refl;
  no_queues = refl;
  incomplete = refl;
  not_taken = refl;
  went_out = refl;
  stopped = refl;
  down_name = refl;
  host_name = refl;
}
