use Rattle.command_line.proofs.Verdicts.Judged.{toward_told}
use Rattle.command_line.proofs.verdict.write_toward.Goals as goal

pub returns-in-Some-clause-written : goal.returns-in-Some-clause-written
returns-in-Some-clause-written g c =
    toward_told c.writeln.result c.args.layout.now c.args.toward c.in-Some.place c.any_life-line.result
    (g.W.Output.contents c.args.writer.now) (g.W.Output.contents c.writeln.new.self) c.in-Some.is
    c.any_life-line.ensures c.writeln.ensures.written
