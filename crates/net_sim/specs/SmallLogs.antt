-- Logs of two or three crossings, in each of which eight bits crossed on link 2: words for worked rows of lives and notices.
use Rattle.std.specs.Prelude.{ℕ, List, [], ◌∷◌}
use Rattle.interface.specs.Host.{Host}
use Rattle.interface.specs.declared.crossing.Crossing.{Crossing}
use Rattle.interface.specs.declared.crossing.Crossing.TheVariants as crossing
use Rattle.interface.specs.declared.message.HostMessage.{HostMessage}
use Rattle.host_pairs.specs.declared.notice.Notice.TheVariants as notice
use Rattle.sockets.specs.Worked.{control, first, second, on_link}
use Rattle.promise.specs.declared.life.Life.{Life}
use Rattle.promise.specs.declared.book.Told.{Told}
use Rattle.net_sim.specs.Worked.{eight, giver, taker}
use Rattle.net_sim.specs.WorkedMoments.{eight_sent, rts, str}

-- a message with this text, from another host, to another one, or on another link
abbrev pub moved : Host → Host → ℕ → HostMessage → HostMessage
moved from to link m = record m { flow = on_link from to link }

-- two RTS for the same sockets in one message, on link 2 and on link 3
abbrev pub two_rts : HostMessage
two_rts = control first second (1 ∷ 0 ∷ 0 ∷ 0 ∷ 16 ∷ 0 ∷ 0 ∷ 0 ∷ 33 ∷ 2 ∷ 1 ∷ 0 ∷ 0 ∷ 0 ∷ 16 ∷ 0 ∷ 0 ∷ 0 ∷ 33 ∷ 3 ∷ [])

-- newest first: the RTS of the first host's socket 16 went out at place 0, the STR of the second's socket 33 came in at place 1, and what it sent
-- came in at place 2
abbrev pub taken_log : List Crossing
taken_log = crossing.In eight_sent ∷ crossing.In str ∷ crossing.Out rts ∷ []

-- the same at the second host: its STR went out at place 0, the RTS came in at place 1, and what it sent went out at place 2
abbrev pub given_log : List Crossing
given_log = crossing.Out eight_sent ∷ crossing.In rts ∷ crossing.Out str ∷ []

-- the lives of which these are the messages
abbrev pub one_taken : Life
one_taken = record taker { own_stamp = 0; partner_stamp = 1 }

abbrev pub one_given : Life
one_given = record giver { own_stamp = 0; partner_stamp = 1 }

-- and the notices of the message, where it came in and where it went out
abbrev pub taken_told : Told
taken_told = record { host = first; place = 3; notice = notice.Arrived 16 eight }

abbrev pub given_told : Told
given_told = record { host = second; place = 3; notice = notice.Sent 33 eight }
