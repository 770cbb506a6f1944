-- Own logs, as far as they are lawful, from which worked ones begin. A log is read newest first; its peer reads and
-- answers as it may.
use Rattle.std.specs.Prelude.{ℕ, Bool, true, false, List, [], ◌∷◌, ◌++◌}
use Rattle.interface.specs.declared.crossing.Answer.TheVariants as answer
use Rattle.ncp_control.specs.DataHeader.{header_bits}
use Rattle.ncp_control.specs.declared.command.Command.{Command}
use Rattle.ncp_control.specs.declared.command.Command.TheVariants as command
use Rattle.host_contract.specs.Acts.{Sockets, Act, Goes, Says, Sends, Takes, Hears, Answered, Hands, Grants, Opened}
use Rattle.host_contract.specs.Acts.{Arrived}

-- the connection at which the host receives, and the one at which it sends
abbrev pub to_me : Sockets
to_me = record { own = 16; foreign = 33 }

abbrev pub from_me : Sockets
from_me = record { own = 33; foreign = 16 }

abbrev pub letter : List Bool
letter = false ∷ true ∷ false ∷ false ∷ false ∷ false ∷ false ∷ true ∷ []

-- a message of data
abbrev pub text : ℕ → ℕ → List Bool → List Bool
text size count bits = header_bits (record { size = size; count = count }) ++ bits

abbrev pub one : List Bool
one = text 8 1 letter

-- what is answered by RFNM
abbrev pub taken : List Act → List Act
taken log = Answered 0 answer.Rfnm ∷ log

-- a control message with one command, after it
abbrev pub said : Command → List Act → List Act
said c log = Says c ∷ Goes ∷ log

-- the peer's RST is taken and answered
abbrev pub met : List Act
met = taken (said command.Rrp (Hears command.Rst ∷ []))

-- the host asks, and its partner; its user is notified
abbrev pub asked : List Act
asked = taken (said (command.Rts 16 33 2) met)

abbrev pub receiving : List Act
receiving = Opened to_me ∷ Hears (command.Str 33 16 8) ∷ asked

abbrev pub sending : List Act
sending = Opened from_me ∷ taken (said (command.Str 33 16 8) (Hears (command.Rts 16 33 2) ∷ met))

-- a message is granted
abbrev pub granted : List Act
granted = taken (said (command.All 2 1 8) (Grants to_me 1 8 ∷ receiving))

abbrev pub allowed : List Act
allowed = Hands from_me letter ∷ Hears (command.All 2 1 8) ∷ sending

-- and is on its way, or has arrived
abbrev pub sent : List Act
sent = Sends 2 one ∷ allowed

abbrev pub arrived : List Act
arrived = Arrived to_me letter ∷ Takes 2 one ∷ granted
