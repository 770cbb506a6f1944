use Rattle.std.proofs.Common.{arith}
use Rattle.book_log.proofs.Printed.{all_written, one_written}
use Rattle.book_log.proofs.print.print_octets.Goals as goal

pub loop-i-preserved : goal.loop-i-preserved
loop-i-preserved g c = (
  one_written c.args.bits.now c.loop-i.i c.octet_at-octet.result (g.W.Output.contents c.args.writer.now) (g.W.Output.contents c.loop-i.writer) (g.W.Output.contents c.print_octet.new.writer)
      (omega (arith, c.octets_for-count.ensures.high, c.loop-i-test.true, c.len.ensures)) c.octet_at-octet.ensures c.loop-i.invariant.0 c.in_ok-print_octet.ensures.written,
  c.in_ok-print_octet.ensures.failed,
)

pub returns-clause-written : goal.returns-clause-written
returns-clause-written g c = all_written c.args.bits.now c.loop-i.i (g.W.Output.contents c.args.writer.now) (g.W.Output.contents c.loop-i.writer) (omega (arith, c.octets_for-count.ensures.low, c.loop-i-test.false, c.len.ensures)) c.loop-i.invariant.0
