-- What a trace says, in JSON: first the network and all its parts, and then an object for each elementary event, one a line.
use Rattle.std.specs.Prelude.{ℕ, Bool, true, false, List, [], ◌∷◌, ◌++◌, Option, Some, None, codes, length, map}
use Rattle.std.specs.Fmt.{decimal}
use Rattle.hex.specs.Hex.{encode_upper}
use Rattle.bit_messages.specs.Octets.{octets_of}
use Rattle.leader1822.specs.Boxes.{Boxes, WaitingAnswer, for_host}
use Rattle.interface.specs.Host.{Host}
use Rattle.interface.specs.Printed.{host_text}
use Rattle.interface.specs.declared.address.Flow.{Flow}
use Rattle.interface.specs.declared.crossing.Answer.{Answer}
use Rattle.interface.specs.declared.crossing.Answer.TheVariants as answer
use Rattle.interface.specs.declared.message.HostMessage.{HostMessage}
use Rattle.interface.specs.declared.crossing.Crossing.{Crossing}
use Rattle.interface.specs.declared.crossing.Crossing.TheVariants as crossing
use Rattle.replay.specs.Output.{Shown, crossings_of, shown_text}
use Rattle.replay.specs.declared.print.Detail.TheVariants.{Sizes}
use Rattle.script.specs.Spelling.{spelling}
use Rattle.topology.specs.Topology.{TopologyFields}
use Rattle.topology.specs.declared.network.CarrierKind.{CarrierKind}
use Rattle.topology.specs.declared.network.CarrierKind.TheVariants as kind
use Rattle.topology.specs.declared.network.ImpHosts.{ImpHosts}
use Rattle.topology.specs.declared.network.LineEnds.{LineEnds}
use Rattle.trace.specs.declared.element.Element.{Element}
use Rattle.trace.specs.declared.element.Spot.{Spot}
use Rattle.trace.specs.declared.fate.Fate.{Fate}
use Rattle.trace.specs.declared.fate.Fate.TheVariants as fate
use Rattle.trace.specs.Parts.{Part, Down, Waiting, all_parts}

-- ---- JSON

-- a string: no text of a trace has an octet that a string would have to escape
abbrev pub quoted : List ℕ → List ℕ
quoted text = codes "\"" ++ (text ++ codes "\"")

-- what follows an item: the end, or a comma and the next one
abbrev pub further : List ℕ → List (List ℕ) → List ℕ
further end [] = end
further end (x ∷ xs) = codes "," ++ (x ++ further end xs)

-- items with commas between, and the end
abbrev pub listed : List ℕ → List (List ℕ) → List ℕ
listed end [] = end
listed end (x ∷ xs) = x ++ further end xs

abbrev pub array : List (List ℕ) → List ℕ
array items = codes "[" ++ listed (codes "]") items

-- strings, and numbers
abbrev pub strings : List (List ℕ) → List ℕ
strings texts = array (map quoted texts)

abbrev pub object : List (List ℕ) → List ℕ
object members = codes "{" ++ listed (codes "}") members

abbrev pub member : List ℕ → List ℕ → List ℕ
member name value = quoted name ++ (codes ":" ++ value)

-- true and false
abbrev pub bool_text : Bool → List ℕ
bool_text true = codes "true"
bool_text false = codes "false"

-- ---- flows, messages and answers

-- the members of a flow: its two hosts and its link
abbrev pub flow_members : Flow → List (List ℕ)
flow_members f = member (codes "from") (quoted (host_text f.source)) ∷ member (codes "to") (quoted (host_text f.destination)) ∷ member (codes "link") (decimal f.link.0) ∷ []

-- those of bits: how many there are, and their octets in upper case hexadecimal, the last one filled with zeros
abbrev pub bits_members : List Bool → List (List ℕ)
bits_members bits = member (codes "bits") (decimal (length bits)) ∷ member (codes "octets") (quoted (encode_upper (octets_of bits))) ∷ []

-- a message that waits
abbrev pub message_object : HostMessage → List ℕ
message_object m = object (flow_members m.flow ++ bits_members m.text)

-- an answer's word; NotTaken has one of its own, though hosts get Incomplete for it
abbrev pub answer_word : Answer → List ℕ
answer_word answer.Rfnm = codes "rfnm"
answer_word answer.Incomplete = codes "incomplete"
answer_word answer.Dead = codes "dead"
answer_word answer.NotTaken = codes "nottaken"

-- something of a kind about a flow
abbrev pub of_kind : List ℕ → List (List ℕ) → List ℕ
of_kind word members = object (member (codes "kind") (quoted word) ∷ members)

-- an answer that waits
abbrev pub answer_object : WaitingAnswer → List ℕ
answer_object a = of_kind (answer_word a.0) (flow_members a.1)

-- what crossed
abbrev pub crossing_object : Crossing → List ℕ
crossing_object (crossing.Out m) = of_kind (codes "out") (flow_members m.flow ++ bits_members m.text)
crossing_object (crossing.In m) = of_kind (codes "in") (flow_members m.flow ++ bits_members m.text)
crossing_object (crossing.Answer kind f) = of_kind (answer_word kind) (flow_members f)
crossing_object (crossing.Down h) = of_kind (codes "down") (member (codes "host") (quoted (host_text h)) ∷ [])
crossing_object (crossing.Up h) = of_kind (codes "up") (member (codes "host") (quoted (host_text h)) ∷ [])

-- ---- parts

-- what waits for a host, oldest first
abbrev pub queues_text : List HostMessage → List WaitingAnswer → List ℕ
queues_text messages answers = object (member (codes "messages") (array (map message_object messages)) ∷ member (codes "answers") (array (map answer_object answers)) ∷ [])

abbrev pub host_string : Host → List ℕ
host_string h = quoted (host_text h)

abbrev pub part_name : Part → List ℕ
part_name Down = codes "down"
part_name (Waiting h) = codes "host " ++ host_text h

-- a part of these mailboxes
abbrev pub part_text : Boxes → Part → List ℕ
part_text b Down = array (map host_string b.down)
part_text b (Waiting h) = queues_text (for_host b.messages h) (for_host b.answers h)

abbrev pub parts_members : Boxes → List Part → List (List ℕ)
parts_members b parts = map (λ p. member (part_name p) (part_text b p)) parts

abbrev pub parts_text : Boxes → List Part → List ℕ
parts_text b parts = object (parts_members b parts)

-- all of them
abbrev pub all_members : Boxes → List (List ℕ)
all_members b = parts_members b (all_parts b.hosts)

abbrev pub whole_text : Boxes → List ℕ
whole_text b = object (all_members b)

-- ---- the first line

abbrev pub carrier_word : CarrierKind → List ℕ
carrier_word kind.Plain = codes "plain"
carrier_word kind.Subnet = codes "subnet"

-- a list of two numbers
abbrev pub pair_text : ℕ → ℕ → List ℕ
pair_text a b = array (decimal a ∷ decimal b ∷ [])

-- an IMP's number and how many hosts it has, and the two IMPs of a line
abbrev pub site_text : ImpHosts → List ℕ
site_text i = pair_text i.imp i.hosts

abbrev pub ends_text : LineEnds → List ℕ
ends_text l = pair_text l.a l.b

-- The first line, without its end: the number of this form of traces, the network, and the object of all parts at the opening
abbrev pub opening_line : TopologyFields → List ℕ → List ℕ
opening_line t parts =
    object (member (codes "trace") (codes "3") ∷ member (codes "carrier") (quoted (carrier_word t.carrier)) ∷ member (codes "raw") (bool_text t.raw)
    ∷ member (codes "imps") (array (map site_text t.imps)) ∷ member (codes "lines") (array (map ends_text t.lines)) ∷ member (codes "parts") parts ∷ [])

-- ---- the other lines

abbrev pub fate_word : Fate → List ℕ
fate_word fate.ImpDown = codes "impdown"
fate_word fate.EndDown = codes "enddown"
fate_word fate.Acks = codes "acks"
fate_word fate.Distances = codes "distances"
fate_word fate.Repeat = codes "repeat"
fate_word fate.NoRoom = codes "noroom"
fate_word fate.Passing = codes "passing"
fate_word fate.Piece = codes "piece"
fate_word fate.Whole = codes "whole"
fate_word fate.Unmarked = codes "unmarked"
fate_word fate.Old = codes "old"
fate_word fate.Dead = codes "dead"
fate_word fate.Never = codes "never"
fate_word fate.Replied = codes "replied"
fate_word fate.Answer = codes "answer"
fate_word fate.Stale = codes "stale"

-- the fate of a frame that was delivered; other events have no such member
abbrev pub fate_members : Option Fate → List (List ℕ)
fate_members None = []
fate_members (Some f) = member (codes "fate") (quoted (fate_word f)) ∷ []

-- what an event printed, crossing by crossing, and as lines
abbrev pub shown_members : List Shown → List (List ℕ)
shown_members shown = member (codes "crossed") (array (map crossing_object (crossings_of shown))) ∷ member (codes "printed") (strings (map (shown_text Sizes) shown)) ∷ []

-- The line of an elementary event, without its end: where the script's event is that it belongs to; the round of its calm; the
-- event, as a line of a script; what became of the frame, if it delivered one; what it printed; and the object of the parts that it changed
abbrev pub trace_line : Spot → Element → Option Fate → List Shown → List ℕ → List ℕ
trace_line spot x fate shown parts =
    object (member (codes "line") (decimal spot.line) ∷ member (codes "number") (decimal spot.number) ∷ member (codes "round") (decimal x.round) ∷ member (codes "event") (quoted (spelling x.event))
    ∷ (fate_members fate ++ (shown_members shown ++ (member (codes "parts") parts ∷ []))))
