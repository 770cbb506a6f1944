use Rattle.subnet_trace.proofs.Scopes.{refused_parts}
use Rattle.subnet_trace.proofs.law.refused.Goals as goal

pub returns : goal.returns
returns c = record { parts = refused_parts }
