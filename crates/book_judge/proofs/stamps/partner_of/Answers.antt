use Rattle.std.proofs.Common.{rules}
use Rattle.book_judge.proofs.Identities.Asked.{stamped_by, unasked, unsent, untaken}
use Rattle.book_judge.proofs.stamps.partner_of.Goals as goal

pub returns-then-not-passes_at : goal.returns-then-not-passes_at
returns-then-not-passes_at c = unsent c.args.log.now c.args.life.now c.passes_at.result (search rules) c.if-not-passes_at.true

pub returns-then-not-passes_at-2 : goal.returns-then-not-passes_at-2
returns-then-not-passes_at-2 c = untaken c.args.log.now c.args.life.now c.passes_at-2.result (search rules) c.if-not-passes_at-2.true

pub returns-in-Some : goal.returns-in-Some
returns-in-Some c = rw c.partner_of.ensures (stamped_by c.args.log.now c.outs.result.now c.args.life.now c.passes_at.result c.passes_at-2.result c.found_at.result
    c.in-Some.place c.outs.ensures (search rules) c.if-not-passes_at.false (search rules) c.if-not-passes_at-2.false c.found_at.ensures c.in-Some.is)

pub returns-in-None : goal.returns-in-None
returns-in-None c = unasked c.args.log.now c.outs.result.now c.args.life.now c.passes_at-2.result c.found_at.result c.outs.ensures (search rules)
    c.if-not-passes_at-2.false c.found_at.ensures c.in-None.is
