use Rattle.trace.proofs.Changes.Reached.{refused_parts}
use Rattle.trace.proofs.law.refused.Goals as goal

pub returns : goal.returns
returns c = record { parts = refused_parts }
