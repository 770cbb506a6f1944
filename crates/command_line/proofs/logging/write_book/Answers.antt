use Rattle.command_line.proofs.Logs.{book_valid, book_written}
use Rattle.command_line.proofs.logging.write_book.Goals as goal

pub returns-clause-written : goal.returns-clause-written
returns-clause-written g c = book_written c.args.book.now c.args.strangers.now c.crossings.result.now
    c.lives.result.now c.handed.result.now c.fates.result.now c.write_log.result
    (g.W.Output.contents c.args.writer.now) (g.W.Output.contents c.print_strangers.new.writer)
    (g.W.Output.contents c.write_log.new.writer) c.crossings.ensures c.lives.ensures c.handed.ensures c.fates.ensures
    c.in_ok-print_strangers.ensures.written c.write_log.ensures.written

pub returns-clause-valid : goal.returns-clause-valid
returns-clause-valid g c = book_valid c.args.book.now c.crossings.result.now c.lives.result.now c.handed.result.now
    c.fates.result.now c.write_log.result c.crossings.ensures c.lives.ensures c.handed.ensures c.fates.ensures
    c.write_log.ensures.valid
