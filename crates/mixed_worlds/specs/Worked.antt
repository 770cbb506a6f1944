-- Small networks with a stranger, `third`: words for worked examples.
use Rattle.std.specs.Prelude.{ℕ, Bool, false, List, [], ◌∷◌, ◌++◌}
use Rattle.interface.specs.Host.{Host, same_host}
use Rattle.host_pairs.specs.declared.notice.Notice.TheVariants as notice
use Rattle.interface.specs.declared.crossing.Answer.TheVariants as answer
use Rattle.interface.specs.declared.crossing.Crossing.{Crossing}
use Rattle.interface.specs.declared.crossing.Crossing.TheVariants as crossing
use Rattle.interface.specs.declared.message.HostMessage.{HostMessage}
use Rattle.promise.specs.Ends.{Course, Going}
use Rattle.promise.specs.declared.book.Called.{Called}
use Rattle.promise.specs.declared.book.Told.{Told}
use Rattle.promise.specs.declared.life.Amount.{Amount}
use Rattle.promise.specs.declared.life.Life.{Life}
use Rattle.sockets.specs.Worked.{ALL, RTS, STR, control, first, message, on_link, second, third}
use Rattle.sockets.specs.declared.request.Request.TheVariants as request
use Rattle.net_sim.specs.Book.{carried, granted, new_life}
use Rattle.net_sim.specs.Story.{Asked, Crossed, Moment}
use Rattle.net_sim.specs.Timeline.{crossings_of}
use Rattle.net_sim.specs.Worked.{eight}
use Rattle.net_sim.specs.WorkedResets.{call, rrp, rst}
use Rattle.net_sim.specs.WorkedMoments.{answered_moment}

abbrev pub is_third : Host → Bool
is_third h = same_host third h

abbrev pub three : List Host
three = first ∷ second ∷ third ∷ []

-- the stranger resets its pair with the second host
abbrev pub stranger_ready : List Moment
stranger_ready =
    answered_moment second third ∷ Crossed (crossing.In (rrp second third)) ∷ Crossed
    (crossing.Out (rrp second third)) ∷ answered_moment third second
    ∷ Crossed (crossing.In (rst third second)) ∷ Crossed (crossing.Out (rst third second)) ∷ []

-- and asks for the socket at which the second listens for anybody
abbrev pub stranger_asks : HostMessage
stranger_asks = control third second (RTS 16 33 2)

abbrev pub listener_taken : List Moment
listener_taken = Crossed (crossing.In stranger_asks) ∷ Crossed (crossing.Out stranger_asks) ∷ Asked second
    (request.Listen 33 8) ∷ stranger_ready

-- the second host answers the stranger that took its listening socket, and so the end is open there
abbrev pub stranger_opened : List Moment
stranger_opened = Crossed (crossing.Out (control second third (STR 33 16 8))) ∷ listener_taken

-- the second host contacts the stranger, which takes the RST
abbrev pub stranger_contacted : List Moment
stranger_contacted = Crossed (crossing.In (rst second third)) ∷ Crossed (crossing.Out (rst second third)) ∷ Asked
    second (request.Contact third) ∷ []

-- the first host contacts the second
abbrev pub contacts : List Moment
contacts = Asked first (request.Contact second) ∷ []

-- the stranger sends to a socket that listens at the second host, with bytes of eight bits, and the second grants two
-- messages and 16 bits
abbrev pub stranger_granted : List Moment
stranger_granted =
    Asked second (request.Grant 16 2 16) ∷ Crossed (crossing.Out (control second third (RTS 16 33 2))) ∷ Crossed
    (crossing.In (control third second (STR 33 16 8)))
    ∷ Crossed (crossing.Out (control third second (STR 33 16 8))) ∷ Asked second (request.Listen 16 8) ∷ stranger_ready

-- then it sends one byte of seven bits, and after that one of eight
abbrev pub eight_bits : HostMessage
eight_bits = message third second 2 (0 ∷ 8 ∷ 0 ∷ 1 ∷ 0 ∷ 255 ∷ [])

abbrev pub eight_waits : List Moment
eight_waits =
    Crossed (crossing.Out eight_bits) ∷ Crossed (crossing.Answer answer.Rfnm (on_link third second 2)) ∷ Crossed
    (crossing.In (message third second 2 (0 ∷ 7 ∷ 0 ∷ 1 ∷ 0 ∷ 254 ∷ [])))
    ∷ Crossed (crossing.Out (message third second 2 (0 ∷ 7 ∷ 0 ∷ 1 ∷ 0 ∷ 254 ∷ []))) ∷ stranger_granted

-- and the second host takes both
abbrev pub eight_taken : Moment
eight_taken = Crossed (crossing.In eight_bits)

abbrev pub odd_size : List Moment
odd_size = eight_taken ∷ eight_waits

-- the life of the end that receives, where it begins
abbrev pub receiving_life : Life
receiving_life = new_life second 16 third 33 8 7

-- with that grant, before anything is taken
abbrev pub granting_life : Life
granting_life = granted 2 16 receiving_life

-- and after it: only the second message was taken
abbrev pub odd_life : Life
odd_life = carried eight granting_life

-- the life of the second host's end that sends to the stranger. The stranger's RTS for it names link 2
abbrev pub sending_life : Life
sending_life = new_life second 33 third 16 8 7

-- the second host asks the stranger for a connection from its socket 33. The stranger's RTS for it names link 2, and
-- beside it an ALL names two messages and 16 bits there
abbrev pub granted_beside : List Crossing
granted_beside = crossing.In (control third second (RTS 16 33 2 ++ ALL 2 2 16)) ∷ crossing.Out
    (control second third (STR 33 16 8)) ∷ []

-- its life, which has both requests by then
abbrev pub asking_life : Life
asking_life = new_life second 33 third 16 0 1

-- an ALL of one message and eight bits on link 2
abbrev pub one_more : Host → HostMessage
one_more from = control from second (ALL 2 1 8)

-- and its octets as data on that link
abbrev pub one_as_data : HostMessage
one_as_data = record { flow = on_link third second 2; text = (one_more third).text }

abbrev pub amount : ℕ → ℕ → Amount
amount messages bits = record { messages = messages; bits = bits }

-- a life between the other two hosts
abbrev pub plain_life : Life
plain_life = new_life first 16 second 33 6 10

-- a message of data between the other two hosts
abbrev pub plain_bits : HostMessage
plain_bits = message first second 2 (0 ∷ 8 ∷ 0 ∷ 1 ∷ 0 ∷ 255 ∷ [])

-- the second host's user is notified of eight bits, after this many crossings
abbrev pub eight_told : ℕ → Told
eight_told place = record { host = second; place = place; notice = notice.Arrived 16 eight }

-- the stranger's came in, and then the other host's
abbrev pub both_in : List Crossing
both_in = crossing.In plain_bits ∷ crossing.In eight_bits ∷ []

-- how far a life is once it has begun
abbrev pub begun : Course
begun = record { stage = Going false false; owes = false; early = false }

-- contacts of the other two hosts, with each other and with the stranger, and one of the stranger
abbrev pub called_second : List Called
called_second = call first 0 second ∷ []

abbrev pub called_stranger : List Called
called_stranger = call second 0 third ∷ []

abbrev pub all_called : List Called
all_called = call third 0 first ∷ call first 0 second ∷ call second 0 third ∷ []

-- the second host sends eight bits to the stranger, which has granted nothing
abbrev pub sent_ungranted : List Crossing
sent_ungranted = crossing.Out (message second third 2 (0 ∷ 8 ∷ 0 ∷ 1 ∷ 0 ∷ 255 ∷ [])) ∷ crossings_of stranger_opened

-- octets like those of data on link 0
abbrev pub control_bits : HostMessage
control_bits = message third second 0 (0 ∷ 8 ∷ 0 ∷ 1 ∷ 0 ∷ 255 ∷ [])
