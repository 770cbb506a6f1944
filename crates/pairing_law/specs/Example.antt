-- Two hosts and one pair of their sockets: words for worked examples. All lists are read newest first.
use Rattle.std.specs.Prelude.{List, [], ◌∷◌}
use Rattle.pairing_law.specs.Marks.{Ask, Close}
use Rattle.pairing_law.specs.Links.{Sockets, Word, Receiver, Sender, Step, Says, Hears, Meets}
use Rattle.pairing_law.specs.Sides.{Event, One, Two, Meet, Say, Hear, Leave}

-- they meet; the first asks at place 3, and the second answers with its own request at place 5
abbrev pub connected : List Event
connected = One (Hear (Ask 5)) ∷ Two (Say (Ask 5)) ∷ Two (Hear (Ask 3)) ∷ One (Say (Ask 3)) ∷ Meet ∷ []

-- the second closes, and the first answers with its CLS
abbrev pub over : List Event
over = Two (Hear Close) ∷ One (Say Close) ∷ One (Hear Close) ∷ Two (Say Close) ∷ connected

-- both ask again, and their requests cross
abbrev pub again : List Event
again = Two (Hear (Ask 9)) ∷ One (Hear (Ask 8)) ∷ One (Say (Ask 9)) ∷ Two (Say (Ask 8)) ∷ over

-- the second refuses: it answers the request with a CLS
abbrev pub refused : List Event
refused = One (Hear Close) ∷ Two (Say Close) ∷ Two (Hear (Ask 3)) ∷ One (Say (Ask 3)) ∷ Meet ∷ []

-- both close, and their CLS cross
abbrev pub both_close : List Event
both_close = One (Hear Close) ∷ Two (Hear Close) ∷ Two (Say Close) ∷ One (Say Close) ∷ connected

-- the first has closed before the second's request comes
abbrev pub late : List Event
late = One (Hear (Ask 5)) ∷ One (Say Close) ∷ Two (Say (Ask 5)) ∷ Two (Hear (Ask 3)) ∷ One (Say (Ask 3)) ∷ Meet ∷ []

-- the first asks and leaves, and the second hears it all the same
abbrev pub left_events : List Event
left_events = Two (Hear (Ask 3)) ∷ One Leave ∷ One (Say (Ask 3)) ∷ Meet ∷ []

-- both begin anew, and connect the same sockets
abbrev pub anew : List Event
anew = Two (Hear (Ask 8)) ∷ One (Hear (Ask 6)) ∷ One (Say (Ask 8)) ∷ Two (Say (Ask 6)) ∷ Meet ∷ Two Leave ∷ left_events

-- ---- what may not happen

-- the first asks at place 3 and leaves; after a reset the second takes that old request
abbrev pub stale : List Event
stale = One (Hear (Ask 6)) ∷ Two (Say (Ask 6)) ∷ One (Say (Ask 8)) ∷ Two (Hear (Ask 3)) ∷ Meet ∷ One Leave ∷ One (Say (Ask 3)) ∷ Meet ∷ []

-- a host that restarts isn't reset, and its peer keeps the end: it asks again, and the answer is to its first request
abbrev pub unreset : List Event
unreset = One (Hear (Ask 5)) ∷ One (Say (Ask 7)) ∷ One Leave ∷ Two (Say (Ask 5)) ∷ Two (Hear (Ask 3)) ∷ One (Say (Ask 3)) ∷ Meet ∷ []

-- ---- two pairs of sockets

abbrev pub first_sockets : Sockets
first_sockets = record { receive = 16; send = 33 }

abbrev pub second_sockets : Sockets
second_sockets = record { receive = 18; send = 35 }

-- the receiver asks at place 3, and names link 5
abbrev pub request : Word
request = record { sockets = first_sockets; link = 5; mark = Ask 3 }

abbrev pub asked_link : List Step
asked_link = Says Receiver request ∷ Meets ∷ []

abbrev pub taken_link : List Step
taken_link = Hears Sender request ∷ asked_link

-- the sender refuses it; its CLS is taken and answered
abbrev pub refusal : Word
refusal = record { sockets = first_sockets; link = 0; mark = Close }

abbrev pub used_link : List Step
used_link = Says Receiver refusal ∷ Hears Receiver refusal ∷ Says Sender refusal ∷ taken_link

-- the receiver asks for the other pair at place 8, and names the same link
abbrev pub another : Word
another = record { sockets = second_sockets; link = 5; mark = Ask 8 }

abbrev pub next_link : List Step
next_link = Hears Sender another ∷ Hears Sender refusal ∷ Says Receiver another ∷ used_link
