-- Whole own logs that keep the contract, newest first.
use Rattle.std.specs.Prelude.{Bool, false, List, [], ◌∷◌, ◌++◌, replicate}
use Rattle.interface.specs.declared.crossing.Answer.TheVariants as answer
use Rattle.ncp_control.specs.declared.command.Command.TheVariants as command
use Rattle.host_contract.specs.Acts.{Act, Says, Sends, Takes, Hears, Answered, Else, Contacts, Asks, Hands, Grants}
use Rattle.host_contract.specs.Acts.{Closes, Opened, Arrived, Returned, Ended}
use Rattle.host_contract.specs.Example.{to_me, from_me, letter, text, one, taken, said, met, asked, receiving}
use Rattle.host_contract.specs.Example.{sending, sent, granted, allowed}

abbrev pub two : List Bool
two = letter ++ letter

-- what some hosts put after the data, so that whole words of 36 bits go
abbrev pub padding : List Bool
padding = replicate 16 false

-- a connection from its reset to its end: at the host that contacts and receives, and at the one that answers and
-- sends. The program of this repository and `examples/ncp.py` write just this, with no padding
abbrev pub receiver : List Bool → List Act
receiver pad =
    taken (Ended to_me ∷ said (command.Cls 16 33) (Hears (command.Cls 33 16) ∷ Arrived to_me two ∷
    Takes 2 (text 8 2 two ++ pad) ∷
    taken (said (command.All 2 2 16) (Grants to_me 2 16 ∷ Opened to_me ∷ Hears (command.Str 33 16 8) ∷
    taken (said (command.Rts 16 33 2) (Asks to_me ∷ Hears command.Rrp ∷ taken (said command.Rst (Contacts ∷ []))))))))

abbrev pub sender : List Bool → List Act
sender pad =
    Ended from_me ∷ Hears (command.Cls 16 33) ∷
    taken (said (command.Cls 33 16) (Closes from_me ∷ Answered 2 answer.Rfnm ∷
    Sends 2 (text 8 2 two ++ pad) ∷ Hands from_me two ∷ Hears (command.All 2 2 16) ∷
    taken (Opened from_me ∷ said (command.Str 33 16 8) (Hears (command.Rts 16 33 2) ∷ met))))

-- both RSTs cross, and each RRP ends one
abbrev pub crossed : List Act
crossed =
    said (command.Rts 16 33 2)
    (Hears command.Rrp ∷ taken (said command.Rrp (taken (Hears command.Rst ∷ said command.Rst []))))

-- an RRP came early, and the host asks anew
abbrev pub anew : List Act
anew =
    said (command.Rts 16 33 2)
    (Hears command.Rrp ∷ taken (said command.Rst (taken (Hears command.Rrp ∷ said command.Rst []))))

-- a message fails while an RRP is owed: the reset has ended all with it
abbrev pub failing : List Act
failing =
    said (command.Rts 16 33 2)
    (taken (said command.Rrp (Answered 0 answer.Dead ∷ Hears command.Rst ∷ said command.Nop met)))

-- an end opens and is closed by one message, and its user is notified between
abbrev pub between : List Act
between =
    Ended to_me ∷
    said (command.Cls 16 33) (Hears (command.Cls 33 16) ∷ Opened to_me ∷ Hears (command.Str 33 16 8) ∷ asked)

-- a user asked before the partner's CLS came, and the request goes out after it
abbrev pub wished : List Act
wished =
    Ended from_me ∷
    Says (command.Cls 33 16) ∷ said (command.Str 33 16 8) (Hears (command.Cls 16 33) ∷ Asks from_me ∷ met)

-- what came at three ends is reported after all of it
abbrev pub at_once : List Act
at_once =
    Arrived to_me letter ∷ Ended (record { own = 20; foreign = 37 }) ∷ Opened (record { own = 18; foreign = 35 }) ∷
    Returned to_me 1 8 ∷ Takes 2 one ∷ Hears (command.Cls 37 20) ∷ Hears (command.Str 35 18 8) ∷
    Hears (command.Ret 2 1 8) ∷
    taken (Says (command.Cls 20 37) ∷ Says (command.Rts 20 37 4) ∷ Says (command.Rts 18 35 3) ∷
    said (command.All 2 2 16) (Grants to_me 2 16 ∷ receiving))

-- a link is free after a refusal: the end that refused has none
abbrev pub refused_link : List Act
refused_link =
    Sends 2 one ∷ Hands from_me letter ∷ Hears (command.All 2 1 8) ∷ Opened from_me ∷
    Says (command.Str 33 16 8) ∷ said (command.Cls 35 18)
    (Hears (command.Rts 16 33 2) ∷ Hears (command.Rts 18 35 2) ∷ met)

-- and so already for an ALL that comes before the request of the other end goes
abbrev pub refused_first : List Act
refused_first =
    Sends 2 one ∷ Hands from_me letter ∷ Opened from_me ∷ said (command.Str 33 16 8) (Hears (command.All 2 1 8) ∷
    taken (said (command.Cls 35 18) (Hears (command.Rts 16 33 2) ∷ Hears (command.Rts 18 35 2) ∷ met)))

-- a request is refused that names link 1, which no connection of this profile has
abbrev pub refused_one : List Act
refused_one = said (command.Cls 33 16) (Hears (command.Rts 16 33 1) ∷ met)

-- a second request of the partner for one end is nothing
abbrev pub asked_twice : List Act
asked_twice =
    Sends 2 one ∷ Hands from_me letter ∷ Hears (command.All 2 1 8) ∷ Opened from_me ∷
    said (command.Str 33 16 8) (Hears (command.Rts 16 33 3) ∷ Hears (command.Rts 16 33 2) ∷ met)

-- an ALL is said in two parts, and a part of it comes back in two
abbrev pub in_parts : List Act
in_parts =
    said (command.All 2 1 8) (taken (said (command.All 2 1 8) (Grants to_me 2 16 ∷ receiving)))

-- two grants are said by one ALL
abbrev pub granted_twice : List Act
granted_twice = said (command.All 2 2 16) (Grants to_me 1 8 ∷ Grants to_me 1 8 ∷ receiving)

abbrev pub back_in_parts : List Act
back_in_parts =
    Sends 2 one ∷ Says (command.Ret 2 1 0) ∷ said (command.Ret 2 0 8) (Hands from_me letter ∷
    Hears (command.All 2 2 16) ∷ sending)

-- a request is refused
abbrev pub refused : List Act
refused = said (command.Cls 33 16) (Hears (command.Rts 16 33 2) ∷ met)

-- data came before the partner's request named their size
abbrev pub sized : List Act
sized = Arrived to_me letter ∷ Opened to_me ∷ Hears (command.Str 33 16 8) ∷ Takes 2 one ∷ Grants to_me 1 8 ∷ asked

-- two messages are granted and counted: one after the other, or both after the size was named
abbrev pub each : List Act
each =
    Arrived to_me letter ∷ Takes 2 one ∷ Arrived to_me letter ∷ Takes 2 one ∷
    taken (said (command.All 2 2 16) (Grants to_me 2 16 ∷ receiving))

abbrev pub both : List Act
both =
    Arrived to_me letter ∷ Arrived to_me letter ∷ Opened to_me ∷ Hears (command.Str 33 16 8) ∷ Takes 2 one ∷
    Takes 2 one ∷ Grants to_me 2 16 ∷ asked

-- the STR names bytes of one bit
abbrev pub single_bits : List Act
single_bits =
    Sends 2 (text 1 8 letter) ∷ Hands from_me letter ∷ Hears (command.All 2 1 8) ∷ Opened from_me ∷
    said (command.Str 33 16 1) (Hears (command.Rts 16 33 2) ∷ met)

-- an end that was closed may pass over a message, and so may one whose partner's CLS came
abbrev pub passed : List Act
passed = Else ∷ Takes 2 one ∷ Closes to_me ∷ granted

-- a grant comes back, and its user is notified
abbrev pub came_back : List Act
came_back = Returned to_me 1 8 ∷ Hears (command.Ret 2 1 8) ∷ granted

-- it comes back in two parts
abbrev pub parts_back : List Act
parts_back = Returned to_me 0 8 ∷ Hears (command.Ret 2 0 8) ∷ Returned to_me 1 0 ∷ Hears (command.Ret 2 1 0) ∷ granted

-- the answer has come, and the end may close
abbrev pub answered : List Act
answered = said (command.Cls 33 16) (Closes from_me ∷ Answered 2 answer.Rfnm ∷ sent)

-- a part is given back, and nothing more is sent
abbrev pub given_back : List Act
given_back = said (command.Ret 2 1 8) allowed

-- the next connection of the same sockets, after both CLS
abbrev pub next : List Act
next = said (command.Rts 16 33 2) (taken (said (command.Cls 16 33) (Hears (command.Cls 33 16) ∷ receiving)))
