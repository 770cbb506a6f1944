use Rattle.std.proofs.Common.{arith}
use Rattle.trace.proofs.Rounds.Turns.{goes_on_with, in_next_round}
use Rattle.trace.proofs.plain.PlainBoxesInspect.next_in_calm.Goals as goal

pub returns-in-Some : goal.returns-in-Some
returns-in-Some c = goes_on_with c.args.self.now c.args.place c.in-Some.next c.in-Some.ensures

pub returns : goal.returns
returns c = in_next_round c.args.self.now c.args.place c.next_taking-2.result (omega (arith, c.if-place.false)) c.in_default.ensures c.next_taking-2.ensures
