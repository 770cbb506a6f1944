-- What RFNM of data means for the host that sent them (BBN Report 1822, RFNM; NIC 8246, messages of data).
use Rattle.std.specs.Prelude.{◌≡◌, ◌==◌, false, List, [], ◌∷◌, ◌++◌}
use Rattle.interface.specs.Messages.{SinceLastOut, taken_in, went_out}
use Rattle.interface.specs.declared.address.Flow.{Flow}
use Rattle.interface.specs.declared.crossing.Answer.TheVariants as answer
use Rattle.interface.specs.declared.crossing.Crossing.TheVariants as crossing
use Rattle.interface.specs.declared.message.HostMessage.{HostMessage}
use Rattle.net_sim.specs.Story.{Moment, Crossed}
use Rattle.net_sim.specs.Timeline.{crossings_of}
use Rattle.promise.specs.declared.life.Life.{Life}
use Rattle.world_keeps_streams.specs.Arrivals.{Arrives, ComesFor}

-- a flow's last message out was taken at one of these moments, and at no other: `before` is what was before it, `since` what came after it. And it arrived
-- there if it came for a receiving life whose end was open, or that no user of its host had closed
pub record HasArrived (f : Flow) (moments : List Moment) : Type 0 where
  pub message : HostMessage
  pub since : List Moment
  pub before : List Moment
  pub is : moments ≡ since ++ Crossed (crossing.In message) ∷ before
  pub out : SinceLastOut f (crossings_of before)
  pub whole : out.message ≡ message
  pub untaken : taken_in f out.since ≡ []
  pub last : went_out f (crossings_of since) ≡ false
  pub once : taken_in f (crossings_of since) ≡ []
  pub arrives : (receiver : Life) → ComesFor message before receiver → Arrives message before receiver

-- so it is at each moment at which a host gets RFNM of data
abbrev pub AllAnswered : List Moment → Type 0
AllAnswered moments = (f : Flow) (later earlier : List Moment) → moments ≡ later ++ Crossed (crossing.Answer answer.Rfnm f) ∷ earlier → (f.link.0 == 0) ≡ false → HasArrived f earlier
