use Rattle.command_line.proofs.Verdicts.Judged.{sent_told}
use Rattle.command_line.proofs.verdict.write_sent.Goals as goal

pub returns-in-Some-clause-written : goal.returns-in-Some-clause-written
returns-in-Some-clause-written g c =
    sent_told c.writeln.result c.args.layout.now c.args.sent c.in-Some.found c.program_lines-lines.result
    (g.W.Output.contents c.args.writer.now) (g.W.Output.contents c.writeln.new.self) c.in-Some.is
    c.program_lines-lines.ensures c.writeln.ensures.written
