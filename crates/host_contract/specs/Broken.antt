-- Own logs each of which breaks one rule and keeps all others; two (`no_link`, `sizeless`) break two. They are read
-- newest first.
use Rattle.std.specs.Prelude.{true, List, [], ◌∷◌, ◌++◌}
use Rattle.interface.specs.declared.crossing.Answer.TheVariants as answer
use Rattle.ncp_control.specs.declared.command.Command.TheVariants as command
use Rattle.host_contract.specs.Acts.{Act, Says, Sends, Takes, Hears, Ignores, Answered, Stops, Starts, Else, Contacts}
use Rattle.host_contract.specs.Acts.{Asks, Hands, Grants, Closes, Opened, Arrived, Returned, Ended}
use Rattle.host_contract.specs.Example.{to_me, from_me, letter, text, one, taken, said, met, asked, receiving, sending}
use Rattle.host_contract.specs.Example.{granted, allowed, sent, arrived}

-- ---- resets

-- a request goes beside the RRP
abbrev pub alone : List Act
alone = Says (command.Rts 16 33 2) ∷ said command.Rrp (Hears command.Rst ∷ [])

-- an RRP beside a request
abbrev pub behind : List Act
behind = Says command.Rst ∷ said command.Nop met

-- an RST goes while a message of data has no answer
abbrev pub idle : List Act
idle = said command.Rst sent

-- a request goes before any reset, or while the RRP is awaited
abbrev pub through : List Act
through = said (command.Rts 16 33 2) []

abbrev pub heard : List Act
heard = said (command.Rts 16 33 2) (taken (said command.Rst []))

-- an RRP that comes before the RFNM counts
abbrev pub early : List Act
early = said (command.Rts 16 33 2) (taken (Hears command.Rrp ∷ said command.Rst []))

-- an RRP that came early is forgotten with its RST
abbrev pub unanswered : List Act
unanswered = said (command.Rts 16 33 2) (Answered 0 answer.Dead ∷ Hears command.Rrp ∷ said command.Rst [])

-- a request goes while it isn't known whether the RST was taken
abbrev pub gone : List Act
gone = Sends 2 one ∷ said command.Rst []

abbrev pub too_early : List Act
too_early = Sends 2 one ∷ Hears command.Rrp ∷ said command.Rst []

-- the host continues after a message that failed, and its RRP is a message
abbrev pub failed : List Act
failed = said (command.Rts 16 33 2) (Answered 0 answer.Dead ∷ said command.Nop met)

abbrev pub reply_failed : List Act
reply_failed = said (command.Rts 16 33 2) (Answered 0 answer.Incomplete ∷ said command.Rrp (Hears command.Rst ∷ []))

-- a user grants at an end that ended with the message
abbrev pub failed_end : List Act
failed_end = Grants to_me 1 8 ∷ Answered 0 answer.Dead ∷ said command.Nop receiving

-- it continues after a stop: it asks, or its user is notified of data
abbrev pub stopped : List Act
stopped = said (command.Rts 16 33 2) (Starts ∷ Stops ∷ met)

abbrev pub remembers : List Act
remembers = Arrived to_me letter ∷ Starts ∷ Stops ∷ granted

-- a request of before the reset opens an end, or a user grants at one that was dropped
abbrev pub forgets : List Act
forgets =
    Opened from_me ∷ said (command.Str 33 16 8) (taken (said command.Rrp (Hears command.Rst ∷
    Hears (command.Rts 16 33 2) ∷ met)))

abbrev pub dropped : List Act
dropped = Grants to_me 1 8 ∷ Hears command.Rst ∷ receiving

-- an RRP that nobody is owed, and a command before one that is
abbrev pub reply : List Act
reply = said command.Rrp []

abbrev pub owed : List Act
owed = said command.Nop (Hears command.Rst ∷ [])

-- and so with one that the host's own RST dropped
abbrev pub own_reset : List Act
own_reset = Grants to_me 1 8 ∷ said command.Rst receiving

-- a user who asks for a reset drops what there is: one grants at a dropped end, or a request goes before the RST
abbrev pub contacted : List Act
contacted = Grants to_me 1 8 ∷ Contacts ∷ receiving

abbrev pub not_yet : List Act
not_yet = said (command.Rts 16 33 2) (Contacts ∷ met)

-- the RRP fails that answers an RST which crossed the host's own
abbrev pub crossed_failed : List Act
crossed_failed =
    said (command.Rts 16 33 2)
    (Answered 0 answer.Incomplete ∷ said command.Rrp (Hears command.Rst ∷ taken (said command.Rst [])))

-- ---- requests and CLS

-- an end asks twice, or a receiver asks by an STR
abbrev pub once : List Act
once = Says (command.Rts 16 33 3) ∷ said (command.Rts 16 33 2) met

abbrev pub once_more : List Act
once_more = Says (command.Str 33 16 36) ∷ said (command.Str 33 16 8) met

abbrev pub unformed : List Act
unformed = said (command.Str 16 33 8) met

-- of a request one socket can't be its partner's: two even ones, two odd ones
abbrev pub both_even : List Act
both_even = said (command.Rts 16 34 2) met

abbrev pub both_odd : List Act
both_odd = said (command.Str 33 17 8) met

-- link 0 is that of control commands, and of no connection in any profile
abbrev pub no_link : List Act
no_link = said (command.Rts 16 33 0) met

-- two ends have one link, though one of them isn't open
abbrev pub link : List Act
link = Says (command.Rts 18 35 2) ∷ said (command.Rts 16 33 2) met

-- an end has its link until its partner's CLS
abbrev pub still_linked : List Act
still_linked = Says (command.Rts 18 35 2) ∷ Says (command.Cls 16 33) ∷ said (command.Rts 16 33 2) met

-- a CLS for nothing, for a request that was ignored, and a second one
abbrev pub closes : List Act
closes = said (command.Cls 16 33) met

abbrev pub unheard : List Act
unheard = said (command.Cls 33 16) (Ignores (command.Rts 16 33 2) ∷ met)

-- for what is no request: of two odd sockets, of two even ones, or with link 0
abbrev pub unreadable : List Act
unreadable = said (command.Cls 33 17) (Hears (command.Rts 17 33 2) ∷ met)

abbrev pub unsendable : List Act
unsendable = said (command.Cls 16 34) (Hears (command.Str 34 16 8) ∷ met)

abbrev pub linkless : List Act
linkless = said (command.Cls 33 16) (Hears (command.Rts 16 33 0) ∷ met)

-- for another connection of a socket that has asked, or for one whose request came after its CLS
abbrev pub other_sockets : List Act
other_sockets = said (command.Cls 16 35) (said (command.Rts 16 33 2) met)

abbrev pub behind_time : List Act
behind_time =
    said (command.Cls 33 16) (Hears (command.Rts 16 33 2) ∷ Hears (command.Cls 16 33) ∷ Asks from_me ∷ met)

abbrev pub twice : List Act
twice = Says (command.Cls 16 33) ∷ Says (command.Cls 16 33) ∷ said (command.Rts 16 33 2) met

-- sockets ask anew before the partner's CLS
abbrev pub over : List Act
over = Says (command.Rts 16 33 3) ∷ Says (command.Cls 16 33) ∷ said (command.Rts 16 33 2) met

-- a CLS goes while data have no answer
abbrev pub drained : List Act
drained = said (command.Cls 33 16) (Closes from_me ∷ sent)

-- nobody has closed the end
abbrev pub willed : List Act
willed = said (command.Cls 16 33) receiving

-- an end is reported open without a partner's request, without its own, a second time, or after a CLS of either
abbrev pub opens : List Act
opens = Opened to_me ∷ asked

abbrev pub unasked : List Act
unasked = Opened from_me ∷ Hears (command.Rts 16 33 2) ∷ met

abbrev pub again : List Act
again = Opened to_me ∷ receiving

abbrev pub late : List Act
late = Opened to_me ∷ Hears (command.Cls 33 16) ∷ Hears (command.Str 33 16 8) ∷ asked

abbrev pub given_up : List Act
given_up = Opened to_me ∷ Hears (command.Str 33 16 8) ∷ said (command.Cls 16 33) asked

-- a connection is reported over when one CLS has crossed
abbrev pub ended : List Act
ended = Ended to_me ∷ Hears (command.Cls 33 16) ∷ receiving

-- or neither has: nobody had asked when it came
abbrev pub unwished : List Act
unwished = Ended from_me ∷ Says (command.Cls 33 16) ∷ said (command.Str 33 16 8) (Hears (command.Cls 16 33) ∷ met)

-- or a reset dropped it
abbrev pub reset_over : List Act
reset_over = Ended to_me ∷ Hears command.Rst ∷ receiving

-- link 40 is named, or opens an end though the request was ignored, or has data
abbrev pub links : List Act
links = said (command.Rts 16 33 40) met

abbrev pub link_one : List Act
link_one = said (command.Rts 16 33 1) met

abbrev pub unlinked : List Act
unlinked = Opened from_me ∷ said (command.Str 33 16 8) (Ignores (command.Rts 16 33 40) ∷ met)

abbrev pub on_forty : List Act
on_forty =
    Sends 40 one ∷ Hands from_me letter ∷ Hears (command.All 40 1 8) ∷ Opened from_me ∷
    said (command.Str 33 16 8) (Hears (command.Rts 16 33 40) ∷ met)

-- ---- grants and data

-- data go where no end has the link, at one whose user doesn't know that it is open, or after a CLS of either
abbrev pub sends : List Act
sends = Sends 2 one ∷ met

abbrev pub unknown : List Act
unknown = Sends 2 one ∷ said (command.Str 33 16 8) (Hears (command.Rts 16 33 2) ∷ met)

abbrev pub after : List Act
after = Sends 2 one ∷ Hears (command.Cls 16 33) ∷ allowed

abbrev pub behind_cls : List Act
behind_cls = Sends 2 one ∷ said (command.Cls 33 16) (Closes from_me ∷ allowed)

-- data leave on another link than the sending end's, or on the link of a receiving end
abbrev pub elsewhere : List Act
elsewhere = Sends 3 one ∷ allowed

abbrev pub backwards : List Act
backwards = Sends 2 one ∷ granted

-- two bytes of four bits go where the STR named eight
abbrev pub size : List Act
size = Sends 2 (text 4 2 letter) ∷ allowed

-- bytes without bits are none: the STR is no request, and data of its size are in no bytes
abbrev pub sizeless : List Act
sizeless =
    Sends 2 (text 0 1 []) ∷ Hears (command.All 2 1 8) ∷ Opened from_me ∷
    said (command.Str 33 16 0) (Hears (command.Rts 16 33 2) ∷ met)

-- no message is granted, or too few bits
abbrev pub within : List Act
within = Sends 2 one ∷ Hands from_me letter ∷ sending

abbrev pub wide : List Act
wide = Sends 2 (text 8 2 (letter ++ letter)) ∷ Hands from_me letter ∷ allowed

-- bits go that nobody handed over, or twice
abbrev pub handed : List Act
handed = Sends 2 one ∷ Hears (command.All 2 1 8) ∷ sending

abbrev pub repeated : List Act
repeated = Sends 2 one ∷ Hears (command.All 2 1 8) ∷ Answered 2 answer.Rfnm ∷ sent

-- bits are handed over before the end is open, or at a receiving one
abbrev pub hasty : List Act
hasty = Hands from_me letter ∷ said (command.Str 33 16 8) (Hears (command.Rts 16 33 2) ∷ met)

abbrev pub misplaced : List Act
misplaced = Hands to_me letter ∷ receiving

-- an ALL says what nobody granted, or grants twice
abbrev pub grants : List Act
grants = said (command.All 2 1 8) receiving

abbrev pub doubled : List Act
doubled = said (command.All 2 1 8) granted

-- or goes after the end's CLS, or on a link that it doesn't have
abbrev pub granted_late : List Act
granted_late = Says (command.All 2 1 8) ∷ said (command.Cls 16 33) (Closes to_me ∷ Grants to_me 1 8 ∷ receiving)

abbrev pub all_elsewhere : List Act
all_elsewhere = said (command.All 3 1 8) (Grants to_me 1 8 ∷ receiving)

-- a user grants before the end has asked, or after its CLS
abbrev pub granted_unasked : List Act
granted_unasked = Grants to_me 1 8 ∷ Hears (command.Str 33 16 8) ∷ met

abbrev pub granted_over : List Act
granted_over = Grants to_me 1 8 ∷ said (command.Cls 16 33) (Closes to_me ∷ receiving)

-- a message is sent, or returned again, that was returned
abbrev pub returns : List Act
returns = Sends 2 one ∷ said (command.Ret 2 1 0) allowed

abbrev pub counted : List Act
counted = said (command.Ret 2 1 0) (Answered 2 answer.Rfnm ∷ sent)

abbrev pub more : List Act
more = Says (command.Ret 2 1 0) ∷ said (command.Ret 2 1 0) allowed

-- something is returned after the end's CLS, or of an ALL that came after the partner's
abbrev pub returns_late : List Act
returns_late = Says (command.Ret 2 1 8) ∷ said (command.Cls 33 16) (Closes from_me ∷ allowed)

abbrev pub late_all : List Act
late_all = said (command.Ret 2 1 8) (Hears (command.All 2 1 8) ∷ Hears (command.Cls 16 33) ∷ sending)

-- a user is notified of data that didn't come, of others, of what isn't granted, or of what comes after a gap
abbrev pub takes : List Act
takes = Arrived to_me letter ∷ granted

abbrev pub other : List Act
other = Arrived to_me (true ∷ []) ∷ Takes 2 one ∷ granted

abbrev pub ungranted : List Act
ungranted = Arrived to_me letter ∷ Takes 2 one ∷ receiving

abbrev pub gap : List Act
gap = Arrived to_me letter ∷ Takes 2 one ∷ Takes 2 one ∷ Closes to_me ∷ granted

-- one message is granted, and it has been counted, or given back, or is waiting for the size
abbrev pub beyond : List Act
beyond = Arrived to_me letter ∷ Takes 2 one ∷ arrived

abbrev pub taken_back : List Act
taken_back = Arrived to_me letter ∷ Takes 2 one ∷ Returned to_me 1 8 ∷ Hears (command.Ret 2 1 8) ∷ granted

abbrev pub second : List Act
second =
    Arrived to_me letter ∷ Arrived to_me letter ∷ Opened to_me ∷ Hears (command.Str 33 16 8) ∷ Takes 2 one ∷
    Takes 2 one ∷ Grants to_me 1 8 ∷ asked

abbrev pub other_size : List Act
other_size =
    Arrived to_me letter ∷ Opened to_me ∷ Hears (command.Str 33 16 8) ∷ Takes 2 (text 4 2 letter) ∷
    Grants to_me 1 8 ∷ asked

-- an open end passes over a message
abbrev pub all : List Act
all = Else ∷ Takes 2 one ∷ granted

-- a return is reported that no RET said, or of what was counted
abbrev pub returned : List Act
returned = Returned to_me 1 8 ∷ granted

abbrev pub used : List Act
used = Returned to_me 1 0 ∷ Hears (command.Ret 2 1 0) ∷ arrived

-- or twice what one RET said, or before the user knows that the end is open
abbrev pub returned_twice : List Act
returned_twice =
    Returned to_me 1 0 ∷ Returned to_me 0 8 ∷ Returned to_me 1 0 ∷ Hears (command.Ret 2 1 8) ∷
    taken (said (command.All 2 2 16) (Grants to_me 2 16 ∷ receiving))

abbrev pub returned_early : List Act
returned_early =
    Returned to_me 1 8 ∷ Hears (command.Ret 2 1 8) ∷
    taken (said (command.All 2 1 8) (Grants to_me 1 8 ∷ Hears (command.Str 33 16 8) ∷ asked))

-- an ALL goes before the partner has asked
abbrev pub waits : List Act
waits = said (command.All 2 1 8) (Grants to_me 1 8 ∷ asked)
