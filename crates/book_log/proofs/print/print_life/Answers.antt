use Rattle.book_log.proofs.Common.{octets_text, worded_life, on_ok}
use Rattle.book_log.specs.Log.{fate_name}
use Rattle.book_log.proofs.Printed.{line_written, named_front}
use Rattle.book_log.proofs.print.print_life.Goals as goal

pub returns-clause-written : goal.returns-clause-written
returns-clause-written g c =
    on_ok c.write_all.result
    (line_written (worded_life c.args.life.now (fate_name c.args.fate)) (octets_text c.args.life.now.bits) (g.W.Output.contents c.args.writer.now) (g.W.Output.contents c.write.new.self) (g.W.Output.contents c.print_bits.new.writer) (g.W.Output.contents c.write_all.new.self) (named_front c.args.life.now c.args.fate c.fate_name-name.result.now (g.W.Output.contents c.args.writer.now) (g.W.Output.contents c.write.new.self) c.fate_name-name.ensures c.in_ok-write.ensures.written) c.in_ok-print_bits.ensures.written)
    c.write_all.ensures.written
