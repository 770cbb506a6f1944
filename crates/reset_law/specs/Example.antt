-- Two hosts that reset: words for worked examples.
use Rattle.std.specs.Prelude.{true, List, [], ◌∷◌}
use Rattle.interface.specs.Host.{Host, same_host}
use Rattle.interface.specs.declared.crossing.Answer.TheVariants as answer
use Rattle.reset_law.specs.Events.{Reset, Reply, Other, Event, Contact, Out, In, Told}
use Rattle.reset_law.specs.Network.{Network}

abbrev pub one : Host
one = record { imp = 1; host = 0 }

abbrev pub two : Host
two = record { imp = 2; host = 0 }

-- of which the second is a stranger
abbrev pub strange_two : Network
strange_two = record { all = one ∷ two ∷ []; strange = same_host two }

-- newest first: a contact of host `one`, its RST, the RFNM for it, the RRP, and a message
abbrev pub reset : List Event
reset =
    In two one 0 Reply ∷ Out two one 0 Reply ∷ Told one two 0 answer.Rfnm ∷ In one two 0 Reset ∷ Out one two 0 Reset ∷ Contact one two ∷ []

abbrev pub message : List Event
message = Out one two 0 (Other (true ∷ [])) ∷ reset

-- an RRP of an older reset comes before the RFNM of the new RST
abbrev pub early_reply : List Event
early_reply = In two one 0 Reply ∷ Out two one 0 Reply ∷ In one two 0 Reset ∷ Out one two 0 Reset ∷ Contact one two ∷ []

-- both hosts ask at once, and their RSTs cross
abbrev pub both_ask : List Event
both_ask = In two one 0 Reset ∷ In one two 0 Reset ∷ Out two one 0 Reset ∷ Out one two 0 Reset ∷ Contact two one ∷ Contact one two ∷ []

abbrev pub crossing : List Event
crossing =
    In two one 0 Reply ∷ In one two 0 Reply ∷ Out two one 0 Reply ∷ Out one two 0 Reply ∷ Told two one 0 answer.Rfnm ∷ Told one two 0 answer.Rfnm ∷ both_ask

-- host `one` has a message outstanding, and `two` resets
abbrev pub reset_beside : List Event
reset_beside = In two one 0 Reset ∷ Out two one 0 Reset ∷ Contact two one ∷ message

-- host `one` contacts anew while its message waits
abbrev pub left_events : List Event
left_events = Contact one two ∷ message

-- the same, with a message on a connection's link
abbrev pub reset_beside_data : List Event
reset_beside_data = In two one 0 Reset ∷ Out two one 0 Reset ∷ Contact two one ∷ Out one two 2 (Other (true ∷ [])) ∷ reset

-- host `two` takes the first RST, and owes an RRP
abbrev pub owing_reply : List Event
owing_reply = In one two 0 Reset ∷ Out one two 0 Reset ∷ Contact one two ∷ []

-- it asks for a reset itself, while host `one` awaits its RRP
abbrev pub asked_back : List Event
asked_back = In two one 0 Reset ∷ Out two one 0 Reset ∷ Contact two one ∷ Told one two 0 answer.Rfnm ∷ owing_reply

-- the message is taken and answered, and host `one` resets once more
abbrev pub reset_again : List Event
reset_again =
    In two one 0 Reply ∷ Out two one 0 Reply ∷ Told one two 0 answer.Rfnm ∷ In one two 0 Reset ∷ Out one two 0 Reset ∷ Contact one two
    ∷ Told one two 0 answer.Rfnm ∷ In one two 0 (Other (true ∷ [])) ∷ Told two one 0 answer.Rfnm ∷ message
