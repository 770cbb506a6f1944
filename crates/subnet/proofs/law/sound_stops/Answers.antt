use Rattle.subnet.proofs.Moves.Forgetting.{forget_sound}
use Rattle.subnet.proofs.Moves.HostsDown.{host_down_sound}
use Rattle.subnet.proofs.Moves.HostsUp.{host_up_sound}
use Rattle.subnet.proofs.Moves.ImpsDown.{imp_down_sound}
use Rattle.subnet.proofs.Moves.ImpsUp.{imp_up_sound}
use Rattle.subnet.proofs.law.sound_stops.Goals as goal

pub returns-clause-forget : goal.returns-clause-forget
returns-clause-forget c = forget_sound

pub returns-clause-host_up : goal.returns-clause-host_up
returns-clause-host_up c = host_up_sound

pub returns-clause-imp_up : goal.returns-clause-imp_up
returns-clause-imp_up c = imp_up_sound

pub returns-clause-imp_down : goal.returns-clause-imp_down
returns-clause-imp_down c = imp_down_sound

pub returns-clause-host_down : goal.returns-clause-host_down
returns-clause-host_down c = host_down_sound
