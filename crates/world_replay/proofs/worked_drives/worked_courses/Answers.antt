use Rattle.std.proofs.Common.{refl}
use Rattle.world_replay.proofs.Driving.{a_calm, calm_called, nobody_takes, not_typed}
use Rattle.world_replay.proofs.worked_drives.worked_courses.Goals as goal

pub returns-clause-calm : goal.returns-clause-calm
returns-clause-calm c = (a_calm, refl)

pub returns-clause-typed : goal.returns-clause-typed
returns-clause-typed c = λ h. not_typed h.0

pub returns-clause-called : goal.returns-clause-called
returns-clause-called c = calm_called

pub returns-clause-uncalled : goal.returns-clause-uncalled
returns-clause-uncalled c = nobody_takes
