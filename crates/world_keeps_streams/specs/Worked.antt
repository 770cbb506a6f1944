-- A receiving life, and how its connection ends: words for worked examples. All moments are read newest first.
use Rattle.std.specs.Prelude.{ℕ, true, List, [], ◌∷◌, Some}
use Rattle.interface.specs.Calls.{Seen}
use Rattle.interface.specs.declared.crossing.Answer.TheVariants as answer
use Rattle.interface.specs.declared.crossing.Crossing.{Crossing}
use Rattle.interface.specs.declared.crossing.Crossing.TheVariants as crossing
use Rattle.interface.specs.declared.message.HostMessage.{HostMessage}
use Rattle.host_pairs.specs.Commands.{asked_on_link, asked_with_size}
use Rattle.host_pairs.specs.Entries.{receiving_end, sending_end}
use Rattle.host_pairs.specs.Parcels.{asked_at}
use Rattle.host_pairs.specs.declared.entry.Closing.TheVariants as closing
use Rattle.host_pairs.specs.declared.entry.Entry.{Entry}
use Rattle.sockets.specs.Pairs.{opening_state}
use Rattle.sockets.specs.Requests.{served}
use Rattle.sockets.specs.Worked.{control, first, on_link, second}
use Rattle.sockets.specs.declared.request.Request.TheVariants as request
use Rattle.net_sim.specs.Story.{Asked, Crossed, Moment}
use Rattle.net_sim.specs.World.{WorldState, seated}
use Rattle.net_sim.specs.Worked.{eight, fresh, receiver, sender}
use Rattle.net_sim.specs.WorkedMoments.{bits_sent, connected, eight_sent, sent_moments}
use Rattle.promise.specs.declared.life.Life.{Life}
use Rattle.world_keeps_lives.specs.WorkedFormed.{gave, taken_moments}

-- before anything was taken: the RTS of the first host's socket 16 went out at place 6, and the STR of the second's socket 33 came in at place 10. Two
-- messages and 100 bits are granted
abbrev pub took : Life
took = record receiver { own_stamp = 6; partner_stamp = 10; granted = record { messages = 2; bits = 100 } }

-- and after eight bits were
abbrev pub took_eight : Life
took_eight = record took { bits = eight; messages = 1 }

-- the same, over
abbrev pub over_eight : Life
over_eight = record took_eight { ended = true }

-- ---- what is on its way

-- one message and eight bits more are granted: it waits to go out, and to be taken
abbrev pub granted_more : Life
granted_more = record took_eight { granted = record { messages = 3; bits = 108 } }

abbrev pub granting_moments : List Moment
granting_moments = Asked first (request.Grant 16 1 8) ∷ sent_moments

abbrev pub granted_moments : List Moment
granted_moments = Crossed (crossing.Out (control first second (4 ∷ 2 ∷ 0 ∷ 1 ∷ 0 ∷ 0 ∷ 0 ∷ 8 ∷ []))) ∷ granting_moments

-- half of what is left is asked back: 46 bits and no message. The RET waits to go out, and to be taken
abbrev pub half_asked : HostMessage
half_asked = control first second (5 ∷ 2 ∷ 64 ∷ 64 ∷ [])

abbrev pub returning_moments : List Moment
returning_moments = Crossed (crossing.In half_asked) ∷ Crossed (crossing.Out half_asked) ∷ Asked first (request.AskBack 16 64 64) ∷ sent_moments

abbrev pub returned_moments : List Moment
returned_moments = Crossed (crossing.Out (control second first (6 ∷ 2 ∷ 0 ∷ 0 ∷ 0 ∷ 0 ∷ 0 ∷ 46 ∷ []))) ∷ returning_moments

-- all was answered, and nothing is left to be done
abbrev pub calm_moments : List Moment
calm_moments = Crossed (crossing.Answer answer.Rfnm (on_link second first 2)) ∷ sent_moments

-- the RET waits to go out, and all was answered
abbrev pub asked_moments : List Moment
asked_moments =
    Crossed (crossing.Answer answer.Rfnm (on_link first second 0)) ∷ Crossed (crossing.In half_asked) ∷ Crossed (crossing.Out half_asked)
    ∷ Asked first (request.AskBack 16 64 64) ∷ calm_moments

-- the two ends, with these counters
abbrev pub taking_end : Entry
taking_end = receiving_end 16 33 2

abbrev pub giving_end : Entry
giving_end = sending_end 33 16 8

abbrev pub left_at : ℕ → ℕ → Entry → Entry
left_at messages bits e = record e { allocation = record { messages = messages; bits = bits } }

-- ---- nothing is left to be done

-- nothing was granted; eight bits were handed over, and then the sending user closed
abbrev pub draining_moments : List Moment
draining_moments = Asked second (request.Close 33) ∷ Asked second (request.Send 33 eight) ∷ connected

abbrev pub took_none : Life
took_none = record receiver { own_stamp = 6; partner_stamp = 10 }

abbrev pub gave_none : Life
gave_none = record sender { own_stamp = 8; partner_stamp = 7 }

-- the two ends, opened by those requests; and the sending one as it drains
abbrev pub taking_opened : Entry
taking_opened = asked_with_size 10 8 (asked_at 6 taking_end)

abbrev pub giving_opened : Entry
giving_opened = asked_at 8 (asked_on_link 7 2 giving_end)

abbrev pub draining_end : Entry
draining_end = record giving_opened { closing = closing.Due; bits = eight }

-- the CLS of the receiving user was taken and answered, and that of its partner waits to go out
abbrev pub heard_moments : List Moment
heard_moments = Crossed (crossing.Answer answer.Rfnm (on_link first second 0)) ∷ taken_moments

-- a world whose carrier's log is this, newest first
abbrev pub after_crossings : List Crossing → WorldState Seen → WorldState Seen
after_crossings log w = record w { carrier = record w.carrier { log = log } }

-- and one whose first host has an RST to say
abbrev pub contacting : WorldState Seen
contacting = record fresh { seats = seated first (Some (served (opening_state first) (request.Contact second))) fresh.seats }

-- ---- closing

-- the sending user closes, and the CLS is taken
abbrev pub close_sent : HostMessage
close_sent = control second first (3 ∷ 0 ∷ 0 ∷ 0 ∷ 33 ∷ 0 ∷ 0 ∷ 0 ∷ 16 ∷ [])

-- the CLS that answers it
abbrev pub close_back : HostMessage
close_back = control first second (3 ∷ 0 ∷ 0 ∷ 0 ∷ 16 ∷ 0 ∷ 0 ∷ 0 ∷ 33 ∷ [])

abbrev pub closing_moments : List Moment → List Moment
closing_moments moments = Crossed (crossing.Out close_sent) ∷ Asked second (request.Close 33) ∷ Crossed (crossing.Answer answer.Rfnm (on_link second first 2)) ∷ moments

abbrev pub closed_by_sender : List Moment → List Moment
closed_by_sender moments = Crossed (crossing.In close_sent) ∷ closing_moments moments

-- after the bits were taken; and where the receiving user had closed before they came
abbrev pub ended_moments : List Moment
ended_moments = closed_by_sender sent_moments

abbrev pub quit_moments : List Moment
quit_moments = closed_by_sender (Crossed (crossing.In eight_sent) ∷ Asked first (request.Close 16) ∷ bits_sent)

-- and where the sending host stopped before its CLS was taken, by which its life was over
abbrev pub stopped_moments : List Moment
stopped_moments = Crossed (crossing.In close_sent) ∷ Crossed (crossing.Down second) ∷ closing_moments sent_moments

abbrev pub over_gave : Life
over_gave = record gave { ended = true }
