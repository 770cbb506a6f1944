-- A control message read as commands and errors (NIC 8246, the control commands and ERR).
use Rattle.std.specs.Prelude.{ℕ, ◌*◌, ◌==◌, ◌&&◌, not, nat_lt, if◌then◌else◌, zero, suc, List, [], ◌∷◌, ◌++◌, length, take, drop, Option, Some, None, Result, Ok, Err}
use Rattle.std.specs.Prelude.{Bool}
use Rattle.bit_messages.specs.Octets.{bits_of, octets_of}
use Rattle.ncp_control.specs.Command.{detail_of}
use Rattle.ncp_control.specs.DataHeader.{header_of, header_bits}
use Rattle.ncp_control.specs.Reading.{read_of}
use Rattle.ncp_control.specs.declared.command.Command.{Command}
use Rattle.ncp_control.specs.declared.command.Command.TheVariants as command
use Rattle.ncp_control.specs.declared.data_header.DataHeader.{DataHeader}
use Rattle.ncp_control.specs.declared.fault.ControlFault.{ControlFault}
use Rattle.ncp_control.specs.declared.fault.ControlFault.TheVariants as fault

-- what is in a control text: a command, or an error with the code and the octets that an ERR will report
pub data Order : Type 0 where
  Legal : (command : Command) → Order
  Wrong : (code : ℕ) → (octets : List ℕ) → Order

-- the kinds of error, as the code of an ERR identifies them
abbrev pub ILLEGAL_CODE : ℕ
ILLEGAL_CODE = 1

abbrev pub SHORT : ℕ
SHORT = 2

abbrev pub ERRONEOUS : ℕ
ERRONEOUS = 3

abbrev pub NO_SOCKET : ℕ
NO_SOCKET = 4

abbrev pub NOT_CONNECTED : ℕ
NOT_CONNECTED = 5

-- the ERR of a kind about these octets
abbrev pub error : ℕ → List ℕ → Command
error code octets = command.Err code (detail_of octets)

-- ---- reading

-- one command read, and the rest with it: an illegal code or missing octets end the reading, a command with a field outside its
-- range is skipped
abbrev pub then_orders : List ℕ → Result (Command × ℕ) ControlFault → (List ℕ → List Order) → List Order
then_orders octets (Ok (c, used)) rest = Legal c ∷ rest (drop used octets)
then_orders octets (Err (fault.IllegalCode quoted)) rest = Wrong ILLEGAL_CODE (take quoted octets) ∷ []
then_orders octets (Err (fault.Short quoted)) rest = Wrong SHORT (take quoted octets) ∷ []
then_orders octets (Err (fault.Erroneous quoted)) rest = Wrong ERRONEOUS (take quoted octets) ∷ rest (drop quoted octets)
then_orders octets (Err fault.OutOfMemory) rest = []

-- the orders in octets, which hold at most this many commands
abbrev pub orders_within : ℕ → List ℕ → List Order
orders_within zero octets = []
orders_within (suc more) [] = []
orders_within (suc more) (octet ∷ octets) = then_orders (octet ∷ octets) (read_of (octet ∷ octets)) (orders_within more)

abbrev pub orders_in : List ℕ → List Order
orders_in octets = orders_within (length octets) octets

-- a control message has bytes of eight bits, and at most 120 of them
abbrev pub is_control : DataHeader → Bool
is_control h = h.size == 8 && not (nat_lt 120 h.count)

-- a message that is no control message is one error, about its whole text
abbrev pub orders_by : List Bool → Option DataHeader → List Order
orders_by text None = Wrong ERRONEOUS (octets_of text) ∷ []
orders_by text (Some h) =
    if is_control h then orders_in (octets_of (take (8 * h.count) (drop 40 text)))
    else Wrong ERRONEOUS (octets_of text) ∷ []

unfoldable pub orders_of : List Bool → List Order
orders_of text = orders_by text (header_of text)

-- ---- writing

-- the text of a control message with these octets
abbrev pub control_text : List ℕ → List Bool
control_text octets = header_bits (record { size = 8; count = length octets }) ++ bits_of octets
