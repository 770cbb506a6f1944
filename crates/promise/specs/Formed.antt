-- Which messages a life is made of: those in which its two requests crossed, and the first messages of data on their link (NIC 8246, RTS, STR and data
-- messages).
use Rattle.std.specs.Prelude.{◌≡◌, ◌⊎◌, ℕ, ◌==◌, ◌&&◌, not, nat_lt, Bool, true, false, if◌then◌else◌, zero, suc, List, [], ◌∷◌, ◌++◌, drop, length, Option, Some, None, IsSome}
use Rattle.std.specs.List.{Contains}
use Rattle.std.specs.Option.{option_or}
use Rattle.interface.specs.Host.{Host}
use Rattle.interface.specs.Mailboxes.{same_flow}
use Rattle.interface.specs.declared.address.Flow.{Flow}
use Rattle.interface.specs.declared.crossing.Crossing.{Crossing}
use Rattle.interface.specs.declared.crossing.Crossing.TheVariants as crossing
use Rattle.interface.specs.declared.message.HostMessage.{HostMessage}
use Rattle.ncp_control.specs.DataHeader.{header_of, data_bits}
use Rattle.ncp_control.specs.Numbers.{is_receive_socket}
use Rattle.ncp_control.specs.declared.command.Command.{Command}
use Rattle.ncp_control.specs.declared.command.Command.TheVariants as command
use Rattle.ncp_control.specs.declared.data_header.DataHeader.{DataHeader}
use Rattle.host_pairs.specs.Control.{Legal, Order, Wrong, orders_of}
use Rattle.host_pairs.specs.Data.{data_of}
use Rattle.promise.specs.declared.life.Life.{Life}
use Rattle.promise.specs.Safe.{control_flow, receives}

-- this crossed at a place, counted from 0
abbrev pub CrossedAt : ℕ → Crossing → List Crossing → Type 0
CrossedAt place c [] = ⊥
CrossedAt place c (d ∷ log) = ((c ≡ d) × (place ≡ length log)) ⊎ CrossedAt place c log

-- the text of what crosses on a flow, where it comes in, or where it goes out
abbrev pub text_of : Bool → Flow → Crossing → List (List Bool)
text_of true f (crossing.In m) = if same_flow f m.flow then m.text ∷ [] else []
text_of false f (crossing.Out m) = if same_flow f m.flow then m.text ∷ [] else []
text_of comes f c = []

-- ---- requests

-- the request for two sockets, its sender's own and the foreign one: a receiving socket's is an RTS, which names the link, and a sending
-- one's an STR, which names the byte size
abbrev pub request : ℕ → ℕ → ℕ → Command
request own foreign named = if is_receive_socket own then command.Rts own foreign named else command.Str own foreign named

-- a message on link 0 from one host to another crossed at a place, going out or coming in, and its text holds this command
pub record HasCrossed (way : HostMessage → Crossing) (from to : Host) (place : ℕ) (c : Command) (log : List Crossing) : Type 0 where
  pub message : HostMessage
  pub flow : message.flow ≡ control_flow from to
  pub crossed : CrossedAt place (way message) log
  pub holds : Contains (orders_of message.text) (Legal c)

abbrev pub going : HostMessage → Crossing
going m = crossing.Out m

abbrev pub coming : HostMessage → Crossing
coming m = crossing.In m

-- what a command names, where it is the request for these two sockets
abbrev pub named_by : ℕ → ℕ → Command → Option ℕ
named_by own foreign (command.Rts a b n) = if is_receive_socket own && own == a && foreign == b then Some n else None
named_by own foreign (command.Str a b n) = if not (is_receive_socket own) && own == a && foreign == b then Some n else None
named_by own foreign c = None

-- what the first request for them names: others after it in the same text are errors
abbrev pub named_in : ℕ → ℕ → List Order → Option ℕ
named_in own foreign [] = None
named_in own foreign (Legal c ∷ orders) = option_or (named_by own foreign c) (named_in own foreign orders)
named_in own foreign (Wrong code octets ∷ orders) = named_in own foreign orders

abbrev pub named_of : ℕ → ℕ → List (List Bool) → Option ℕ
named_of own foreign [] = None
named_of own foreign (text ∷ texts) = named_in own foreign (orders_of text)

-- what it names in the message that crossed on link 0 at a place, going out or coming in; nothing where no such message holds one
abbrev pub named_at : Bool → Host → Host → ℕ → ℕ → ℕ → List Crossing → Option ℕ
named_at comes from to own foreign place [] = None
named_at comes from to own foreign place (c ∷ log) =
    if place == length log then named_of own foreign (text_of comes (control_flow from to) c) else named_at comes from to own foreign place log

-- what a life's own request names, in what went out at its own stamp, and its partner's, in what came in at its partner stamp
abbrev pub own_named : List Crossing → Life → Option ℕ
own_named log x = named_at false x.host x.peer x.socket x.foreign x.own_stamp log

abbrev pub partner_named : List Crossing → Life → Option ℕ
partner_named log x = named_at true x.peer x.host x.foreign x.socket x.partner_stamp log

-- a life's link: of its two requests the RTS names it
abbrev pub link_of : List Crossing → Life → Option ℕ
link_of log x = if receives x then own_named log x else partner_named log x

-- ---- data

-- as much of a text as its header announces, after the 40 bits of the header
abbrev pub data_by : List Bool → Option DataHeader → Option (List Bool)
data_by text None = None
data_by text (Some h) = Some (data_of (data_bits h) text)

-- the data of a text: where it comes in they are what its header announces, and where it goes out all that is after the header
abbrev pub data_in : Bool → List Bool → Option (List Bool)
data_in true text = data_by text (header_of text)
data_in false text = Some (drop 40 text)

abbrev pub AreData : Bool → List Bool → List Bool → Type 0
AreData true text bits = data_by text (header_of text) ≡ Some bits
AreData false text bits = drop 40 text ≡ bits

-- how the data of a life cross: what a receiving one takes comes in from its peer, and what a sending one sends goes out to it
abbrev pub flow_of : Life → ℕ → Flow
flow_of x link =
    if receives x then record { source = x.peer; destination = x.host; link = record { 0 = link } }
    else record { source = x.host; destination = x.peer; link = record { 0 = link } }

-- the texts of all that crosses on a flow after two places, the oldest first
abbrev pub texts_of : Bool → Flow → ℕ → ℕ → List Crossing → List (List Bool)
texts_of comes f a b [] = []
texts_of comes f a b (c ∷ log) = texts_of comes f a b log ++ (if nat_lt a (length log) && nat_lt b (length log) then text_of comes f c else [])

-- those on a link after both requests of a life: what comes in for a receiving one, and what goes out for a sending one
abbrev pub texts_for : Life → ℕ → List Crossing → List (List Bool)
texts_for x link log = texts_of (receives x) (flow_of x link) x.own_stamp x.partner_stamp log

-- and on a link that may be unknown
abbrev pub texts_on : Life → Option ℕ → List Crossing → List (List Bool)
texts_on x None log = []
texts_on x (Some link) log = texts_for x link log

abbrev pub joined : Option (List Bool) → Option (List Bool) → Option (List Bool)
joined None more = None
joined (Some bits) None = None
joined (Some bits) (Some more) = Some (bits ++ more)

-- the data of this many texts, the first of these; nothing where there are fewer, or one has no header
abbrev pub first_data : Bool → ℕ → List (List Bool) → Option (List Bool)
first_data comes zero texts = Some []
first_data comes (suc more) [] = None
first_data comes (suc more) (text ∷ texts) = joined (data_in comes text) (first_data comes more texts)

-- ---- lives

-- a life's own request went out at its own stamp, and its partner's came in at its partner stamp. Its bits are the data of the first messages on its link
-- after both, as many as it counts. So crossings, stamps and count determine them
pub record IsFormed (log : List Crossing) (x : Life) : Type 0 where
  pub own : IsSome (own_named log x)
  pub partner : IsSome (partner_named log x)
  pub bits : first_data (receives x) x.messages (texts_on x (link_of log x) log) ≡ Some x.bits

-- a book is formed where each of its lives is
abbrev pub FormedBook : List Crossing → List Life → Type 0
FormedBook log lives = (x : Life) → Contains lives x → IsFormed log x
