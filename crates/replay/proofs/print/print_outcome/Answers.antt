use Rattle.std.proofs.Common.{drop}
use Rattle.replay.proofs.Shown.{print_ends}
use Rattle.replay.proofs.print.print_outcome.Goals as goal

pub returns-clause-ends : goal.returns-clause-ends
returns-clause-ends g c =
    print_ends g.W.Output.contents c.args.detail (drop c.args.booked c.args.log.now) c.args.outcome c.print_refusal.result (g.W.Output.contents c.args.writer.now) c.print_crossings.new.writer c.print_refusal.new.writer
    c.in_ok-print_crossings.ensures.written (c.print_refusal.ensures.shown c.args.detail) c.print_refusal.ensures.goes_on c.print_refusal.ensures.memory
