use Rattle.std.proofs.Common.{sym, ◌∙◌}
use Rattle.net_sim.proofs.Audits.Steps.{same_bits-octets, same_bits-apart}
use Rattle.net_sim.proofs.auditing.messages.same_bits.Goals as goal

pub returns-then-len : goal.returns-then-len
returns-then-len c =
    same_bits-octets c.args.a.now c.args.b.now c.as_octets.result.now c.as_octets-then-len.result.now c.eq.result c.as_octets.ensures c.as_octets-then-len.ensures (sym c.len.ensures ∙ c.if-len.true ∙ c.len-2.ensures) c.eq.ensures

pub returns-else-len : goal.returns-else-len
returns-else-len c = same_bits-apart c.args.a.now c.args.b.now c.len.result c.len-2.result c.len.ensures c.len-2.ensures c.if-len.false
