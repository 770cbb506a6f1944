use Rattle.std.proofs.Common.{inl, inr}
use Rattle.world_trace.proofs.worked.worked_events.Goals as goal

pub returns : goal.returns
returns g c = record {
  silent = λ members old new e lines h. h.1;
  heard = λ members spot round old new e lines h. h.1;
  memory = λ old new e lines h. elim h [ inl before ↦ inl before.1 | inr after ↦ inr after.1 ];
}
