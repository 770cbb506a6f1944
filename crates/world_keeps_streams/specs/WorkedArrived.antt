-- A small book whose eight bits were answered, and one in which the sending user closes: words for worked examples.
-- All logs are read newest first.
use Rattle.std.specs.Prelude.{List, [], ◌∷◌}
use Rattle.interface.specs.declared.address.Flow.{Flow}
use Rattle.interface.specs.declared.crossing.Answer.TheVariants as answer
use Rattle.interface.specs.declared.crossing.Crossing.{Crossing}
use Rattle.interface.specs.declared.crossing.Crossing.TheVariants as crossing
use Rattle.net_sim.specs.Worked.{receiver, sender}
use Rattle.net_sim.specs.WorkedMoments.{rts, str}
use Rattle.promise.specs.declared.life.Life.{Life}
use Rattle.sockets.specs.Worked.{first, on_link, second}
use Rattle.world_keeps_lives.specs.WorkedFormed.{sent_log, took}
use Rattle.world_keeps_streams.specs.WorkedEnds.{partner_cls}

-- the flow of the message with the eight bits, which went out at place 15 and came in at place 16
abbrev pub on_two : Flow
on_two = on_link second first 2

abbrev pub answered_log : List Crossing
answered_log = crossing.Answer answer.Rfnm on_two ∷ sent_log

-- a receiving life that didn't count it
abbrev pub took_nothing : Life
took_nothing = record took { bits = []; messages = 0 }

-- the two requests, and the CLS of the sending user, which went out, and was taken
abbrev pub coming_log : List Crossing
coming_log = crossing.Out partner_cls ∷ crossing.In str ∷ crossing.Out str ∷ crossing.In rts ∷ crossing.Out rts ∷ []

abbrev pub closed_log : List Crossing
closed_log = crossing.In partner_cls ∷ coming_log

-- the two lives, and a sending one that says that it had sent a message
abbrev pub closed_receiver : Life
closed_receiver = record receiver { own_stamp = 0; partner_stamp = 3 }

abbrev pub closed_sender : Life
closed_sender = record sender { own_stamp = 2; partner_stamp = 1 }

abbrev pub sent_more : Life
sent_more = record closed_sender { messages = 1 }
