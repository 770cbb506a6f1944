use Rattle.std.proofs.Common.{◌/◌, ◌%◌, ◌∙◌, arith, slice_index_or}
use Rattle.bit_messages.proofs.ShiftLemmas.{bit_of_octet}
use Rattle.bit_messages.proofs.PackedLemmas.{bit_at_place}
use Rattle.bit_messages.proofs.octets.bit_in.Goals as goal

pub returns : goal.returns
returns c =
    bit_of_octet (slice_index_or c.args.octets.now (c.args.place / 8) 0) (c.args.place % 8) (omega arith) ∙ bit_at_place c.args.octets.now c.args.place c.requires.there
