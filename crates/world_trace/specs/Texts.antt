-- What the trace of a world says of events, and of the programs and services of hosts, in JSON.
use Rattle.std.specs.Prelude.{ℕ, ◌==◌, ◌-◌, true, false, if◌then◌else◌, List, [], ◌∷◌, ◌++◌, Option, Some, None, codes, length, map, take}
use Rattle.std.specs.List.{flat_map}
use Rattle.std.specs.Fmt.{decimal}
use Rattle.hex.specs.Hex.{encode_upper}
use Rattle.host_pairs.specs.declared.entry.Closing.{Closing}
use Rattle.host_pairs.specs.declared.entry.Closing.TheVariants as closing
use Rattle.host_pairs.specs.declared.entry.Entry.{Entry}
use Rattle.host_pairs.specs.declared.listener.Listener.{Listener}
use Rattle.ncp_control.specs.declared.phase.Phase.{Phase}
use Rattle.ncp_control.specs.declared.phase.Phase.TheVariants as phase
use Rattle.host_services.specs.Services.{ServicesState}
use Rattle.host_services.specs.declared.service.Service.{Service}
use Rattle.host_services.specs.declared.service.Service.TheVariants as service
use Rattle.icp.specs.Server.{ServerState}
use Rattle.icp.specs.User.{UserState}
use Rattle.icp.specs.declared.notices.Partner.{Partner}
use Rattle.interface.specs.Printed.{host_text}
use Rattle.interface.specs.declared.crossing.Crossing.{Crossing}
use Rattle.ncp_control.specs.declared.allocation.Allocation.{Allocation}
use Rattle.ncp_control.specs.declared.command.Command.{Command}
use Rattle.ncp_control.specs.declared.command.Command.TheVariants as command
use Rattle.net_sim.specs.declared.seat.Seat.{Seat}
use Rattle.net_sim.specs.declared.seat.ServiceSeat.{ServiceSeat}
use Rattle.net_sim.specs.declared.event.Event.TheVariants as event
use Rattle.replay.specs.declared.print.Detail.TheVariants.{Sizes}
use Rattle.sockets.specs.Pairs.{NcpState}
use Rattle.sockets.specs.declared.peer.Peer.{Peer}
use Rattle.topology.specs.Topology.{TopologyFields}
use Rattle.trace.specs.Texts.{array, bits_members, bool_text, carrier_word, crossing_object, ends_text, member, object, of_kind, quoted, site_text}
use Rattle.trace.specs.declared.element.Spot.{Spot}
use Rattle.world_replay.specs.Output.{Shown, output}
use Rattle.world_replay.specs.Printed.{kind_text}
use Rattle.world_script.specs.WorldSpelling.{world_spelling}
use Rattle.world_script.specs.declared.event.WorldEvent.{WorldEvent}
use Rattle.world_script.specs.declared.event.WorldEvent.TheVariants as world

-- ---- strings

-- a quotation mark and a backslash have a backslash before them
abbrev pub escaped_octet : ℕ → List ℕ
escaped_octet octet = if octet == 34 then codes "\\\"" else (if octet == 92 then codes "\\\\" else octet ∷ [])

abbrev pub escaped : List ℕ → List ℕ
escaped text = flat_map escaped_octet text

-- an octet of the lines of a text, where a line feed ends one string and begins the next
abbrev pub lines_octet : ℕ → List ℕ
lines_octet octet = if octet == 10 then codes "\",\"" else escaped_octet octet

-- the lines of a text, each of which ends with a line feed, as strings: the last line feed ends the last one
abbrev pub lines_text : List ℕ → List ℕ
lines_text text = if length text == 0 then codes "[]" else codes "[\"" ++ (flat_map lines_octet (take (length text - 1) text) ++ codes "\"]")

-- ---- words and numbers

abbrev pub number_text : Option ℕ → List ℕ
number_text None = codes "null"
number_text (Some n) = decimal n

-- how far the reset has come; of an RST that has gone out also whether an RRP came in the meantime
abbrev pub phase_word : Phase → List ℕ
phase_word phase.Closed = codes "closed"
phase_word phase.Want = codes "want"
phase_word (phase.Gone false) = codes "gone"
phase_word (phase.Gone true) = codes "early"
phase_word phase.Heard = codes "heard"
phase_word phase.Ready = codes "ready"

abbrev pub closing_word : Closing → List ℕ
closing_word closing.No = codes "no"
closing_word closing.Due = codes "due"
closing_word closing.Queued = codes "queued"
closing_word closing.Sent = codes "sent"

-- ---- the program of a host

-- a command that waits to go out
abbrev pub command_object : Command → List ℕ
command_object command.Nop = of_kind (codes "nop") []
command_object (command.Rts receive send link) = of_kind (codes "rts") (member (codes "receive") (decimal receive) ∷ member (codes "send") (decimal send) ∷ member (codes "link") (decimal link) ∷ [])
command_object (command.Str send receive size) = of_kind (codes "str") (member (codes "send") (decimal send) ∷ member (codes "receive") (decimal receive) ∷ member (codes "size") (decimal size) ∷ [])
command_object (command.Cls own foreign) = of_kind (codes "cls") (member (codes "own") (decimal own) ∷ member (codes "foreign") (decimal foreign) ∷ [])
command_object (command.All link messages bits) = of_kind (codes "all") (member (codes "link") (decimal link) ∷ member (codes "messages") (decimal messages) ∷ member (codes "bits") (decimal bits) ∷ [])
command_object (command.Gvb link messages bits) = of_kind (codes "gvb") (member (codes "link") (decimal link) ∷ member (codes "messages") (decimal messages) ∷ member (codes "bits") (decimal bits) ∷ [])
command_object (command.Ret link messages bits) = of_kind (codes "ret") (member (codes "link") (decimal link) ∷ member (codes "messages") (decimal messages) ∷ member (codes "bits") (decimal bits) ∷ [])
command_object (command.Inr link) = of_kind (codes "inr") (member (codes "link") (decimal link) ∷ [])
command_object (command.Ins link) = of_kind (codes "ins") (member (codes "link") (decimal link) ∷ [])
command_object (command.Eco octet) = of_kind (codes "eco") (member (codes "octet") (decimal octet) ∷ [])
command_object (command.Erp octet) = of_kind (codes "erp") (member (codes "octet") (decimal octet) ∷ [])
command_object (command.Err code detail) = of_kind (codes "err") (member (codes "code") (decimal code) ∷ member (codes "detail") (quoted (encode_upper detail)) ∷ [])
command_object command.Rst = of_kind (codes "rst") []
command_object command.Rrp = of_kind (codes "rrp") []

-- counters of what may still be sent or come
abbrev pub allocation_object : Allocation → List ℕ
allocation_object a = object (member (codes "messages") (decimal a.messages) ∷ member (codes "bits") (decimal a.bits) ∷ [])

-- the places in the log of the host's own request and of the peer's, and how far the host's own closing and the peer's have come
abbrev pub requests_object : Entry → List ℕ
requests_object e = object (member (codes "own") (number_text e.asked) ∷ member (codes "peer") (number_text e.partner) ∷ [])

abbrev pub closings_object : Entry → List ℕ
closings_object e = object (member (codes "own") (quoted (closing_word e.closing)) ∷ member (codes "peer") (bool_text e.partner_closed) ∷ [])

-- an end: its two sockets; whether it receives or sends; whether it is the host's own, and not that of a request that is refused; both
-- requests and closings; link and byte size; the counters; and what waits to be sent
abbrev pub end_object : Entry → List ℕ
end_object e =
    object (member (codes "socket") (decimal e.own) ∷ member (codes "foreign") (decimal e.foreign) ∷ member (codes "kind") (quoted (kind_text e.own)) ∷ member (codes "mine") (bool_text e.mine)
    ∷ member (codes "requests") (requests_object e) ∷ member (codes "closing") (closings_object e) ∷ member (codes "link") (number_text e.link) ∷ member (codes "size") (number_text e.size)
    ∷ member (codes "allocation") (allocation_object e.allocation) ∷ member (codes "waiting") (object (bits_members e.bits)) ∷ [])

-- a peer: the phase of the reset, whether an RRP is owed, the links on which a message has no answer yet, the ends, and the commands
-- that wait, oldest first
abbrev pub pair_object : Peer → List ℕ
pair_object p =
    object (member (codes "peer") (quoted (host_text p.host)) ∷ member (codes "phase") (quoted (phase_word p.pair.phase)) ∷ member (codes "owed") (bool_text p.pair.owed) ∷ member (codes "busy") (array (map decimal p.pair.busy))
    ∷ member (codes "ends") (array (map end_object p.pair.entries)) ∷ member (codes "commands") (array (map command_object p.pair.queue)) ∷ [])

abbrev pub listener_object : Listener → List ℕ
listener_object l = object (member (codes "socket") (decimal l.socket) ∷ member (codes "size") (decimal l.size) ∷ [])

-- a host's program: its peers and what listens; nothing of a host that is down
abbrev pub program_text : Option NcpState → List ℕ
program_text None = codes "null"
program_text (Some s) = object (member (codes "pairs") (array (map pair_object s.peers)) ∷ member (codes "listening") (array (map listener_object s.listening)) ∷ [])

abbrev pub seat_member : Seat → List ℕ
seat_member s = member (host_text s.host) (program_text s.program)

abbrev pub programs_text : List Seat → List ℕ
programs_text seats = object (map seat_member seats)

-- ---- the services of a host

-- the far end of a connection, once that was opened
abbrev pub partner_text : Option Partner → List ℕ
partner_text None = codes "null"
partner_text (Some p) = object (member (codes "host") (quoted (host_text p.peer)) ∷ member (codes "socket") (decimal p.socket) ∷ [])

-- the two sockets on which a service receives and sends
abbrev pub sockets_object : ℕ → ℕ → List ℕ
sockets_object receive send = object (member (codes "receive") (decimal receive) ∷ member (codes "send") (decimal send) ∷ [])

-- a server of an initial connection: the socket on which users ask, its two sockets, the far end of each of the three once that was
-- opened, and whether there is an outcome
abbrev pub met_object : ServerState → List ℕ
met_object s = object (member (codes "user") (partner_text s.user) ∷ member (codes "receiving") (partner_text s.receiving) ∷ member (codes "sending") (partner_text s.sending) ∷ [])

abbrev pub server_object : ServerState → List ℕ
server_object s =
    of_kind (codes "server") (member (codes "listen") (decimal s.listen) ∷ member (codes "sockets") (sockets_object s.receive s.send) ∷ member (codes "met") (met_object s) ∷ member (codes "over") (bool_text s.over) ∷ [])

-- a user of one: whom it asks from which socket, its two sockets, which of its three connections were opened, the base once it is known,
-- the bits that came of it, and whether there is an outcome
abbrev pub asked_object : UserState → List ℕ
asked_object u = object (member (codes "host") (quoted (host_text u.peer)) ∷ member (codes "listen") (decimal u.listen) ∷ member (codes "own") (decimal u.own) ∷ [])

abbrev pub ends_object : UserState → List ℕ
ends_object u = object (member (codes "asking") (bool_text u.opened) ∷ member (codes "receiving") (bool_text u.receiving) ∷ member (codes "sending") (bool_text u.sending) ∷ [])

abbrev pub user_object : UserState → List ℕ
user_object u =
    of_kind (codes "user") (member (codes "asked") (asked_object u) ∷ member (codes "sockets") (sockets_object u.receive u.send) ∷ member (codes "opened") (ends_object u)
    ∷ member (codes "base") (number_text u.base) ∷ member (codes "came") (object (bits_members u.bits)) ∷ member (codes "over") (bool_text u.over) ∷ [])

-- these, an echo service, and a line terminal with the octets of a line that hasn't ended and the bits that are no whole octet yet
abbrev pub service_object : Service → List ℕ
service_object (service.Server s) = server_object s
service_object (service.User u) = user_object u
service_object (service.Echo e) = of_kind (codes "echo") (member (codes "sockets") (sockets_object e.receive e.send) ∷ [])
service_object (service.Terminal t) =
    of_kind (codes "terminal") (member (codes "sockets") (sockets_object t.receive t.send) ∷ member (codes "rest") (quoted (encode_upper t.rest)) ∷ member (codes "came") (object (bits_members t.part)) ∷ [])

-- what runs on a host, in the order in which it began, and the socket to which a typed line goes
abbrev pub running_object : ServicesState → List ℕ
running_object s = object (member (codes "typing") (number_text s.typing) ∷ member (codes "running") (array (map service_object s.running)) ∷ [])

abbrev pub services_member : ServiceSeat → List ℕ
services_member s = member (host_text s.host) (running_object s.services)

abbrev pub services_text : List ServiceSeat → List ℕ
services_text all = object (map services_member all)

-- ---- lines

-- an event as a line of a script, within a string. Only a typed line can have an octet to escape, and a quiet round is in no script
abbrev pub event_text : WorldEvent → List ℕ
event_text (world.Happen (event.Typed h text)) = codes "type " ++ (host_text h ++ (codes " " ++ escaped text))
event_text (world.Happen (event.Net e)) = world_spelling (world.Happen (event.Net e))
event_text (world.Happen event.Quiet) = codes "quiet"
event_text (world.Happen (event.Offer h)) = world_spelling (world.Happen (event.Offer h))
event_text (world.Happen (event.Take h)) = world_spelling (world.Happen (event.Take h))
event_text (world.Happen (event.Ask h r)) = world_spelling (world.Happen (event.Ask h r))
event_text (world.Happen (event.Server h listen base)) = world_spelling (world.Happen (event.Server h listen base))
event_text (world.Happen (event.User h peer listen own)) = world_spelling (world.Happen (event.User h peer listen own))
event_text (world.Happen (event.Out m)) = world_spelling (world.Happen (event.Out m))
event_text (world.Calm rounds) = world_spelling (world.Calm rounds)

-- three objects: of parts of the carrier, of programs, and of services
abbrev pub state_members : List (List ℕ) → List (List ℕ) → List (List ℕ) → List (List ℕ)
state_members parts programs services = member (codes "parts") (object parts) ∷ member (codes "programs") (object programs) ∷ member (codes "services") (object services) ∷ []

-- The line of an event, or of an event of a calm, without its end: where the script's event is; the round, or 0; the event, as a line of a
-- script; what crossed; the lines that a replay prints for it; and what of the state is other than before
abbrev pub line_of : Spot → ℕ → List ℕ → List Crossing → List ℕ → List (List ℕ) → List ℕ
line_of spot round event crossings printed state =
    object (member (codes "line") (decimal spot.line) ∷ member (codes "number") (decimal spot.number) ∷ member (codes "round") (decimal round) ∷ member (codes "event") (quoted event)
    ∷ member (codes "crossed") (array (map crossing_object crossings)) ∷ member (codes "printed") (lines_text printed) ∷ state)

abbrev pub world_line : Spot → ℕ → WorldEvent → List Crossing → List Shown → List (List ℕ) → List ℕ
world_line spot round e crossings shown state = line_of spot round (event_text e) crossings (output Sizes shown) state

-- the first line: the number of this form of traces, the network, and the state at the opening
abbrev pub opening_text : TopologyFields → List (List ℕ) → List ℕ
opening_text t state =
    object (member (codes "trace") (codes "3") ∷ member (codes "carrier") (quoted (carrier_word t.carrier)) ∷ member (codes "raw") (bool_text t.raw)
    ∷ member (codes "imps") (array (map site_text t.imps)) ∷ member (codes "lines") (array (map ends_text t.lines)) ∷ state)
