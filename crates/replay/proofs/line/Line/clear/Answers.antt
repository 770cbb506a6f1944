use Rattle.std.proofs.Common.{arith}
use Rattle.std.proofs.lemmas.List.{drop_all}
use Rattle.replay.proofs.line.Line.clear.Goals as goal

pub returns : goal.returns
returns c = drop_all 256 c.self.inside.octets (omega (arith, c.self.told))
