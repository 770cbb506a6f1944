use Rattle.world_replay.proofs.worked_ends.worked_ends.Goals as goal

pub returns : goal.returns
returns g c = record {
  happens = λ old new e lines h. h.goes_on;
  in_calm = λ old new e lines h. h.goes_on;
  round = λ old new lines h. h.2;
  memory = λ old new e lines h. h.stops;
}
