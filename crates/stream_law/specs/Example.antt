-- A link on which one connection follows another: words for worked examples. All lists are read newest first.
use Rattle.std.specs.Prelude.{Bool, true, false, List, [], ◌∷◌}
use Rattle.stream_law.specs.Words.{Rts, Str, All, Gvb, Ret, Cls}
use Rattle.stream_law.specs.Receivers as receivers
use Rattle.stream_law.specs.Senders as senders
use Rattle.stream_law.specs.Streams.{Event, Receives, Sends}

-- a message of two bits, and one of three
abbrev pub two : List Bool
two = true ∷ false ∷ []

abbrev pub three : List Bool
three = true ∷ true ∷ false ∷ []

-- connection 1 is asked for and answered, with bytes of one bit; both ends open
abbrev pub opened_events : List Event
opened_events =
    Receives (receivers.Open 1) ∷ Receives (receivers.Hear (Str 1 1)) ∷ Sends (senders.Open 1) ∷ Sends (senders.Ask 1 1) ∷ Sends (senders.Hear (Rts 1)) ∷ Receives (receivers.Ask 1)
    ∷ []

-- two messages and ten bits are granted
abbrev pub granted_events : List Event
granted_events = Sends (senders.Hear (All 1 2 10)) ∷ Receives (receivers.Grant 1 2 10) ∷ opened_events

-- a message goes out, and is taken
abbrev pub sent_events : List Event
sent_events = Sends (senders.Send 1 1 two) ∷ granted_events

abbrev pub taken_events : List Event
taken_events = Receives (receivers.Take 1 two) ∷ sent_events

-- half of what is left of each is asked back, and returned; a grant goes out meanwhile
abbrev pub returned_events : List Event
returned_events =
    Receives (receivers.Hear (Ret 1 0 4)) ∷ Sends (senders.Hear (Gvb 1 64 64)) ∷ Receives (receivers.Grant 1 1 3) ∷ Receives (receivers.AskBack 1 64 64) ∷ Sends senders.Told ∷ taken_events

-- the sender closes, and then the receiver, whose CLS isn't heard yet; its end goes
abbrev pub closed_events : List Event
closed_events = Receives (receivers.Free 1) ∷ Receives (receivers.Close 1) ∷ Receives (receivers.Hear (Cls 1)) ∷ Sends (senders.Close 1) ∷ returned_events

-- the link is that of connection 2, which its sender closed before it heard the request
abbrev pub next : List Event
next =
    Sends (senders.Hear (Rts 2)) ∷ Sends (senders.Close 2) ∷ Sends (senders.Ask 2 8) ∷ Sends (senders.Hear (Cls 1)) ∷ Sends (senders.Hear (All 1 1 3)) ∷ Receives (receivers.Ask 2)
    ∷ closed_events

-- the sender closes, and the receiver hears it before it closes itself
abbrev pub ended_events : List Event
ended_events = Receives (receivers.Close 1) ∷ Receives (receivers.Hear (Cls 1)) ∷ Sends (senders.Close 1) ∷ returned_events

-- the receiver closes first: what waits is dropped, though the sender is informed that it was taken
abbrev pub quit_events : List Event
quit_events =
    Receives (receivers.Free 1) ∷ Receives (receivers.Hear (Cls 1)) ∷ Sends (senders.Close 1) ∷ Sends senders.Told ∷ Receives (receivers.Take 1 two) ∷ Receives (receivers.Close 1)
    ∷ sent_events

-- the late grant is heard: nothing is in transit any more
abbrev pub rested_events : List Event
rested_events = Sends (senders.Hear (All 1 1 3)) ∷ returned_events

-- a grant comes before the sender's end opens
abbrev pub late_events : List Event
late_events =
    Sends (senders.Open 1) ∷ Sends (senders.Hear (All 1 2 10)) ∷ Receives (receivers.Grant 1 2 10) ∷ Receives (receivers.Open 1) ∷ Receives (receivers.Hear (Str 1 1)) ∷ Sends (senders.Ask 1 1)
    ∷ Sends (senders.Hear (Rts 1))
    ∷ Receives (receivers.Ask 1)
    ∷ []

-- ---- what may not happen

-- a sender that closes while its message has no answer: the link is asked for again, and what waits is taken in the next connection
abbrev pub hasty : List Event
hasty =
    Receives (receivers.Take 1 two) ∷ Sends (senders.Hear (All 2 2 10)) ∷ Receives (receivers.Grant 2 2 10) ∷ Receives (receivers.Open 2) ∷ Receives (receivers.Hear (Str 2 1))
    ∷ Sends (senders.Open 2) ∷ Sends (senders.Ask 2 1) ∷ Sends (senders.Hear (Rts 2)) ∷ Sends (senders.Hear (Cls 1)) ∷ Receives (receivers.Ask 2) ∷ Receives (receivers.Free 1)
    ∷ Receives (receivers.Close 1) ∷ Receives (receivers.Hear (Cls 1)) ∷ Sends (senders.Close 1) ∷ sent_events

-- a receiver whose link is free before a CLS has passed either way: it grants in connection 2, and the sender spends it in 1
abbrev pub early : List Event
early =
    Sends (senders.Send 1 1 three) ∷ Sends (senders.Hear (All 2 5 50)) ∷ Receives (receivers.Grant 2 5 50) ∷ Receives (receivers.Open 2) ∷ Receives (receivers.Hear (Str 2 1))
    ∷ Sends (senders.Ask 2 1) ∷ Sends (senders.Hear (Rts 2)) ∷ Receives (receivers.Ask 2) ∷ Receives (receivers.Free 1) ∷ opened_events
