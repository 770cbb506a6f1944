-- Small lists of moments, newest first: words for worked examples.
use Rattle.std.specs.Prelude.{List, [], ◌∷◌}
use Rattle.interface.specs.Host.{Host}
use Rattle.interface.specs.declared.crossing.Answer.TheVariants as answer
use Rattle.interface.specs.declared.crossing.Crossing.TheVariants as crossing
use Rattle.interface.specs.declared.message.HostMessage.{HostMessage}
use Rattle.host_pairs.specs.declared.notice.Notice.{Notice}
use Rattle.sockets.specs.Worked as sockets
use Rattle.sockets.specs.Worked.{control, first, second, on_link}
use Rattle.sockets.specs.declared.request.Request.TheVariants as request
pub use Rattle.promise.specs.Worked.{rts, str}
use Rattle.promise.specs.declared.book.Told.{Told}
use Rattle.net_sim.specs.Story.{Moment, Crossed, Asked}
use Rattle.net_sim.specs.Worked.{eight}
use Rattle.net_sim.specs.WorkedResets.{rst, rrp}

-- an ALL for two messages and 100 bits, and a message with eight bits
abbrev pub all_given : HostMessage
all_given = control first second (4 ∷ 2 ∷ 0 ∷ 2 ∷ 0 ∷ 0 ∷ 0 ∷ 100 ∷ [])

abbrev pub eight_sent : HostMessage
eight_sent = sockets.message second first 2 (0 ∷ 8 ∷ 0 ∷ 1 ∷ 0 ∷ 255 ∷ [])

-- a message on link 0 is answered
abbrev pub answered_moment : Host → Host → Moment
answered_moment from to = Crossed (crossing.Answer answer.Rfnm (on_link from to 0))

-- the first host contacts the second
abbrev pub contacted : List Moment
contacted =
    answered_moment second first ∷ Crossed (crossing.In (rrp second first)) ∷ Crossed (crossing.Out (rrp second first)) ∷ answered_moment first second
    ∷ Crossed (crossing.In (rst first second)) ∷ Crossed (crossing.Out (rst first second)) ∷ Asked first (request.Contact second) ∷ []

-- then it asks for a connection to its socket 16, and the second's socket 33 was listening
abbrev pub str_sent : List Moment
str_sent =
    answered_moment first second ∷ Crossed (crossing.Out str) ∷ Crossed (crossing.In rts) ∷ Crossed (crossing.Out rts) ∷ Asked first (request.OpenReceive second 16 33)
    ∷ Asked second (request.Listen 33 8) ∷ contacted

abbrev pub connected : List Moment
connected = answered_moment second first ∷ Crossed (crossing.In str) ∷ str_sent

-- and eight bits are sent on it
abbrev pub bits_sent : List Moment
bits_sent =
    Crossed (crossing.Out eight_sent) ∷ answered_moment first second ∷ Crossed (crossing.In all_given) ∷ Crossed (crossing.Out all_given)
    ∷ Asked second (request.Send 33 eight) ∷ Asked first (request.Grant 16 2 100) ∷ connected

abbrev pub sent_moments : List Moment
sent_moments = Crossed (crossing.In eight_sent) ∷ bits_sent

-- who got which notice, without the places
abbrev pub notice_of : Told → Host × Notice
notice_of n = (n.host, n.notice)
