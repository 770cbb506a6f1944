use Rattle.world_trace.proofs.worked.worked_reached.Goals as goal

pub returns : goal.returns
returns g c = record {
  events = λ opening w h. h.valid;
  said = λ opening w h. h.said;
}
