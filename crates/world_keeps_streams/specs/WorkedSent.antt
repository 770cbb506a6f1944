-- A small book whose one message was taken, and logs in which another one was: words for worked examples. All logs are
-- read newest first.
use Rattle.std.specs.Prelude.{List, [], ◌∷◌, ◌++◌, drop}
use Rattle.interface.specs.declared.crossing.Answer.TheVariants as answer
use Rattle.interface.specs.declared.crossing.Crossing.{Crossing}
use Rattle.interface.specs.declared.crossing.Crossing.TheVariants as crossing
use Rattle.net_sim.specs.WorkedMoments.{eight_sent}
use Rattle.promise.specs.declared.life.Life.{Life}
use Rattle.world_keeps_lives.specs.WorkedFormed.{gave, sent_log, took}
use Rattle.world_keeps_streams.specs.WorkedArrived.{on_two}

-- two lives that count two messages
abbrev pub took_twice : Life
took_twice = record took { messages = 2 }

abbrev pub gave_twice : Life
gave_twice = record gave { messages = 2 }

-- the message, which went out at place 15 and came in at place 16, is taken again
abbrev pub again_log : List Crossing
again_log = crossing.In eight_sent ∷ sent_log

-- it is lost at place 16, and one with the same bits is sent and taken
abbrev pub gap_log : List Crossing
gap_log =
    crossing.In eight_sent ∷ crossing.Out eight_sent ∷ crossing.Answer answer.Incomplete on_two
    ∷ crossing.Out eight_sent ∷ drop 2 sent_log

-- it had gone out before all that opened the connection
abbrev pub early_log : List Crossing
early_log = crossing.In eight_sent ∷ (drop 2 sent_log ++ crossing.Out eight_sent ∷ [])

abbrev pub took_early : Life
took_early = record took { own_stamp = 7; partner_stamp = 11 }

abbrev pub gave_early : Life
gave_early = record gave { own_stamp = 9; partner_stamp = 8 }

-- it comes in, and never went out
abbrev pub unsent_log : List Crossing
unsent_log = crossing.In eight_sent ∷ drop 2 sent_log
