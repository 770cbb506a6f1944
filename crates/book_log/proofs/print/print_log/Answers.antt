use Rattle.book_log.proofs.Common.{List, ℕ, subst, Appends, on_ok}
use Rattle.promise.specs.Fates.{AreFated}
use Rattle.book_log.specs.Log.{IsBook, logged_book}
use Rattle.book_log.proofs.Printed.{lives_valid, log_written, logged_lives}
use Rattle.book_log.proofs.print.print_log.Goals as goal

pub returns-clause-written : goal.returns-clause-written
returns-clause-written g c =
    on_ok c.write_all.result
    (log_written (logged_book c.args.crossings.now c.args.lives.now c.args.handed.now c.args.fates.now) (g.W.Output.contents c.args.writer.now) (g.W.Output.contents c.print_crossings.new.writer) (g.W.Output.contents c.print_lives.new.writer) (g.W.Output.contents c.print_lists.new.writer) (g.W.Output.contents c.write_all.new.self)
    c.in_ok-print_crossings.ensures.written
    (subst (λ (text : List ℕ). Appends (g.W.Output.contents c.print_crossings.new.writer) (g.W.Output.contents c.print_lives.new.writer) text) (logged_lives c.args.lives.now c.args.fates.now) c.in_ok-print_lives.ensures.written)
    c.in_ok-print_lists.ensures.written)
    c.write_all.ensures.written

pub returns-clause-valid : goal.returns-clause-valid
returns-clause-valid g c =
    let valid : AreFated c.args.lives.now c.args.fates.now → IsBook (logged_book c.args.crossings.now c.args.lives.now c.args.handed.now c.args.fates.now) =
    (λ are. record {
      crossings = c.in_ok-print_crossings.ensures.valid;
      lives = lives_valid c.args.lives.now c.args.fates.now are c.in_ok-print_lives.ensures.valid;
      handed = c.in_ok-print_lists.ensures.valid;
    }) in
    on_ok c.write_all.result (λ _. valid) c.write_all.ensures.written
