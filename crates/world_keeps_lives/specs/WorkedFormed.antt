-- The lives and notices of a small book, in which eight bits were sent on link 2: words for worked examples.
use Rattle.std.specs.Prelude.{List, [], ◌∷◌, drop}
use Rattle.interface.specs.declared.crossing.Answer.TheVariants as answer
use Rattle.interface.specs.declared.crossing.Crossing.{Crossing}
use Rattle.interface.specs.declared.crossing.Crossing.TheVariants as crossing
use Rattle.interface.specs.declared.message.HostMessage.{HostMessage}
use Rattle.host_pairs.specs.declared.notice.Notice.TheVariants as notice
use Rattle.sockets.specs.Worked as sockets
use Rattle.sockets.specs.Worked.{first, second}
use Rattle.promise.specs.declared.book.Told.{Told}
use Rattle.sockets.specs.declared.request.Request.TheVariants as request
use Rattle.net_sim.specs.Story.{Asked, Crossed, Moment}
use Rattle.net_sim.specs.Timeline.{crossings_of}
use Rattle.net_sim.specs.Worked.{eight, eight_zeros, giver, taker}
use Rattle.net_sim.specs.WorkedMoments.{connected, sent_moments}
use Rattle.promise.specs.declared.life.Life.{Life}

abbrev pub sent_log : List Crossing
sent_log = crossings_of sent_moments

-- the RTS of the first host's socket 16 went out at place 6, and the STR of the second's socket 33 came in at place 10
abbrev pub took : Life
took = record taker { own_stamp = 6; partner_stamp = 10 }

-- the STR had gone out at place 8, and the RTS had come in at place 7
abbrev pub gave : Life
gave = record giver { own_stamp = 8; partner_stamp = 7 }

-- the same message, but on link 3
abbrev pub stray : HostMessage
stray = sockets.message second first 3 (0 ∷ 8 ∷ 0 ∷ 1 ∷ 0 ∷ 255 ∷ [])

abbrev pub stray_log : List Crossing
stray_log = crossing.In stray ∷ crossing.Out stray ∷ crossings_of connected

-- a second message on link 2, with eight bits that are zeros, after the first was answered
abbrev pub zeros_sent : HostMessage
zeros_sent = sockets.message second first 2 (0 ∷ 8 ∷ 0 ∷ 1 ∷ 0 ∷ 0 ∷ [])

abbrev pub two_log : List Crossing
two_log = crossing.In zeros_sent ∷ crossing.Out zeros_sent ∷ crossing.Answer answer.Rfnm (sockets.on_link second first 2) ∷ sent_log

-- a life that took the second message and not the first
abbrev pub took_second : Life
took_second = record took { bits = eight_zeros }

-- ---- notices

-- that message went out at place 15, and came in at place 16
abbrev pub sent_told : Told
sent_told = record { host = second; place = 16; notice = notice.Sent 33 eight }

abbrev pub arrived_told : Told
arrived_told = record { host = first; place = 17; notice = notice.Arrived 16 eight }

-- before it came in
abbrev pub untaken_log : List Crossing
untaken_log = drop 1 sent_log

-- the same notices of the message on link 3, which went out at place 12, and came in at place 13
abbrev pub stray_sent : Told
stray_sent = record sent_told { place = 13 }

abbrev pub stray_arrived : Told
stray_arrived = record arrived_told { place = 14 }

-- ---- the sending user closes

-- once its message is answered
abbrev pub closed_moments : List Moment
closed_moments = Asked second (request.Close 33) ∷ Crossed (crossing.Answer answer.Rfnm (sockets.on_link second first 2)) ∷ sent_moments

-- then its host stops
abbrev pub stopped_moments : List Moment
stopped_moments = Crossed (crossing.Down second) ∷ closed_moments

-- where its message isn't answered yet
abbrev pub closing_moments : List Moment
closing_moments = Asked second (request.Close 33) ∷ sent_moments

-- and after the receiving user, whose CLS came
abbrev pub close_taken : HostMessage
close_taken = sockets.control first second (3 ∷ 0 ∷ 0 ∷ 0 ∷ 16 ∷ 0 ∷ 0 ∷ 0 ∷ 33 ∷ [])

abbrev pub taken_moments : List Moment
taken_moments = Crossed (crossing.In close_taken) ∷ Crossed (crossing.Out close_taken) ∷ Asked first (request.Close 16) ∷ Crossed (crossing.Answer answer.Rfnm (sockets.on_link second first 2)) ∷ sent_moments
