use Rattle.replay.proofs.Common.{Appends}
use Rattle.std.proofs.Common.{ℕ, [], ◌∷◌, ap₂, subst}
use Rattle.replay.proofs.Spelled.{all_written, none_written, one_written}
use Rattle.replay.proofs.print.print_octets.Goals as goal

pub loop-octet-init : goal.loop-octet-init
loop-octet-init g c = (none_written c.args.octets.now (g.W.Output.contents c.args.writer.now), c.requires)

pub loop-octet-preserved : goal.loop-octet-preserved
loop-octet-preserved g c = (
  one_written c.args.octets.now c.loop-octet.octet-index (g.W.Output.contents c.args.writer.now) (g.W.Output.contents c.loop-octet.writer) (g.W.Output.contents c.write_all.new.self)
      c.loop-octet-test.true c.loop-octet.invariant.0
      (subst (Appends (g.W.Output.contents c.loop-octet.writer) (g.W.Output.contents c.write_all.new.self)) (ap₂ (λ (high low : ℕ). high ∷ low ∷ []) c.digit.ensures c.digit-in-loop-octet.ensures) c.in_ok-write_all.ensures.written),
  c.in_ok-write_all.ensures.failed,
)

pub returns-clause-written : goal.returns-clause-written
returns-clause-written g c = all_written c.args.octets.now c.loop-octet.octet-index (g.W.Output.contents c.args.writer.now) (g.W.Output.contents c.loop-octet.writer) c.loop-octet-test.false c.loop-octet.invariant.0
