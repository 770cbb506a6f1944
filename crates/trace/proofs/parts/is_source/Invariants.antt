use Rattle.std.proofs.Common.{◌≡◌, drop}
use Rattle.trace.specs.Parts.{is_source}
use Rattle.trace.proofs.parts.is_source.Given as goal

abbrev pub invariant-loop-crossing : goal.invariant-loop-crossing
invariant-loop-crossing l = is_source l.host (drop l.crossing-index l.crossings) ≡ is_source l.host l.crossings
