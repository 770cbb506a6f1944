use Rattle.subnet.proofs.Moves.EventSteps.{step_sound}
use Rattle.subnet.proofs.Calls.Rounds.{quiet_round_sound}
use Rattle.subnet.proofs.law.sound_steps.Goals as goal

pub returns-clause-step : goal.returns-clause-step
returns-clause-step c = step_sound

pub returns-clause-quiet_round : goal.returns-clause-quiet_round
returns-clause-quiet_round c = quiet_round_sound
