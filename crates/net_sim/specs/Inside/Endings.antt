-- Which lives end.
use Rattle.std.specs.Prelude.{Bool}
use Rattle.promise.specs.declared.life.Life.{Life}
use Rattle.promise.specs.declared.life.Fate.{Fate}
use Rattle.promise.specs.declared.life.Fate.TheVariants as fate
use Rattle.net_sim.specs.Book.{closing, lives_at, lives_between, lives_with, lives_on, over_by_cls}
pub use Rattle.net_sim.specs.declared.life.Ending.{Ending}
use Rattle.net_sim.specs.declared.life.Ending.TheVariants as ending
pub use Rattle.net_sim.specs.declared.life.Turn.{Turn}
use Rattle.net_sim.specs.declared.life.Turn.TheVariants as turn

abbrev pub ends : Ending → Life → Bool
ends (ending.Between host socket peer foreign) = lives_between host socket peer foreign
ends (ending.With host peer) = lives_with host peer
ends (ending.On host) = lives_on host

-- whose fates change, and to what
abbrev pub turns : Turn → Life → Bool
turns (turn.Closes host socket) = lives_at host socket
turns (turn.Over host socket peer foreign) = lives_between host socket peer foreign
turns (turn.Resets host peer) = lives_with host peer
turns (turn.Stops host) = lives_on host

abbrev pub turned : Turn → Fate → Fate
turned (turn.Closes host socket) = closing
turned (turn.Over host socket peer foreign) = over_by_cls
turned (turn.Resets host peer) = λ f. fate.Reset
turned (turn.Stops host) = λ f. fate.Stopped

-- by what the fates of lives change that end
abbrev pub turn_by : Ending → Turn
turn_by (ending.Between host socket peer foreign) = turn.Over host socket peer foreign
turn_by (ending.With host peer) = turn.Resets host peer
turn_by (ending.On host) = turn.Stops host
