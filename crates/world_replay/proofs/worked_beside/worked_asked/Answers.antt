use Rattle.world_replay.proofs.Common.{[], ◌∷◌, Err, refl, NoProgram, HasProgram, any_carrier, message, WorldFault, WorldEvent, first, second, third, Offer, Server, Typed, User, beside_third}
use Rattle.world_replay.specs.Replay.{Happens}
use Rattle.interface.specs.declared.crossing.Crossing.TheVariants as crossing
use Rattle.world_replay.specs.Output.{Crossed, Refused}
use Rattle.world_replay.specs.WorkedBeside.{event, saying}
use Rattle.world_replay.specs.WorkedStrangers.{MayShow, hail}
use Rattle.world_replay.proofs.Strangers.{goes_out, refused_only, sent}
use Rattle.world_replay.proofs.worked_beside.worked_asked.Goals as goal

-- what is refused happens, shows that, and leaves all as it was
asked : Happens any_carrier beside_third (event (Offer third)) beside_third (Refused NoProgram ∷ [])
asked = record {
  outcome = Err NoProgram;
  gives = (refl, refl);
  goes_on = refl;
  gains = record { crossings = []; notices = []; reports = []; crossed = refl; told = refl; said = refl };
  lines = refl;
}

spoken : Happens any_carrier beside_third (saying (message first second 2)) beside_third (Refused HasProgram ∷ [])
spoken = record {
  outcome = Err HasProgram;
  gives = (refl, refl);
  goes_on = refl;
  gains = record { crossings = []; notices = []; reports = []; crossed = refl; told = refl; said = refl };
  lines = refl;
}

-- and then the stranger's message goes out
then_hails : (e : WorldEvent) (f : WorldFault)
    → Happens any_carrier beside_third e beside_third (Refused f ∷ [])
    → MayShow any_carrier (e ∷ saying hail ∷ []) (Refused f ∷ Crossed (crossing.Out hail) ∷ [])
then_hails e f h = (
  sent,
  (
    beside_third,
    Refused f ∷ [],
    Crossed (crossing.Out hail) ∷ [],
    h,
    (sent, Crossed (crossing.Out hail) ∷ [], [], goes_out, (refl, refl), refl),
    refl,
  ),
)

pub returns-clause-after_question : goal.returns-clause-after_question
returns-clause-after_question c = then_hails (event (Offer third)) NoProgram asked

pub returns-clause-after_saying : goal.returns-clause-after_saying
returns-clause-after_saying c = then_hails (saying (message first second 2)) HasProgram spoken

pub returns-clause-typed : goal.returns-clause-typed
returns-clause-typed c = λ new shown h. refused_only any_carrier (event (Typed third [])) NoProgram new shown h
    h.gives

pub returns-clause-server : goal.returns-clause-server
returns-clause-server c = λ new shown h. refused_only any_carrier (event (Server third 1 32)) NoProgram new shown h
    h.gives

pub returns-clause-user : goal.returns-clause-user
returns-clause-user c = λ new shown h. refused_only any_carrier (event (User third first 1 32)) NoProgram new shown h
    h.gives
