use Rattle.command_line.proofs.law.worked_verdicts.Goals as goal

pub returns : goal.returns
returns c = λ octets said h. h
