use Rattle.std.proofs.Common.{◌∙◌, ap, sym}
use Rattle.std.proofs.lemmas.List.{length-set}
use Rattle.imp_channel.specs.Format.{octet_of}
use Rattle.imp_channel.proofs.FrameLemmas.{bits_of-more, bits_of-all, octet_of-bits_of}
use Rattle.imp_channel.proofs.frame.bits_of.Goals as goal

pub loop-ack-preserved : goal.loop-ack-preserved
loop-ack-preserved c = record {
  long = length-set c.loop-ack.ack-items c.loop-ack.ack-index _ ∙ c.loop-ack.invariant.long;
  bits = bits_of-more 8 c.loop-ack.ack-index c.loop-ack.rest c.loop-ack.ack-items c.loop-ack-test.true c.loop-ack.invariant.long ∙ c.loop-ack.invariant.bits;
}

pub returns-clause-bits : goal.returns-clause-bits
returns-clause-bits c = sym (bits_of-all 8 c.loop-ack.ack-index c.loop-ack.rest c.loop-ack.ack-items c.loop-ack-test.false c.loop-ack.invariant.long) ∙ c.loop-ack.invariant.bits

pub returns-clause-again : goal.returns-clause-again
returns-clause-again c =
    ap octet_of (sym (bits_of-all 8 c.loop-ack.ack-index c.loop-ack.rest c.loop-ack.ack-items c.loop-ack-test.false c.loop-ack.invariant.long) ∙ c.loop-ack.invariant.bits)
    ∙ octet_of-bits_of 8 c.args.octet c.ranges.octet.fits
