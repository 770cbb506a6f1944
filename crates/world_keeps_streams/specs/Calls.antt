-- What the programs of a world do with their ends, moment by moment, as calls of the laws of streams (NIC 8246; BBN Report 1822, RFNM).
use Rattle.std.specs.Prelude.{ℕ, ◌==◌, ◌&&◌, Bool, if◌then◌else◌, List, [], ◌∷◌, ◌++◌, take, Option, Some, None}
use Rattle.interface.specs.Host.{Host, same_host}
use Rattle.interface.specs.declared.crossing.Crossing.TheVariants as crossing
use Rattle.ncp_control.specs.declared.command.Command.{Command}
use Rattle.host_pairs.specs.Control.{Order, Legal, Wrong, orders_of}
use Rattle.host_pairs.specs.Desk.{desk_of, listens_on}
use Rattle.host_pairs.specs.Entries.{is_busy}
use Rattle.host_pairs.specs.Pair.{PairState}
use Rattle.host_pairs.specs.Parcels.{Parcel, Reset, Reply, Commands, Bytes, command_gone, with_connections}
use Rattle.ncp_control.specs.Phases.{is_ready}
use Rattle.host_pairs.specs.Turn.{TurnState, order_taken}
use Rattle.host_pairs.specs.declared.entry.Entry.{Entry}
use Rattle.host_pairs.specs.declared.listener.Listener.{Listener}
use Rattle.host_keeps_streams.specs.Histories as calls
use Rattle.host_keeps_streams.specs.Histories.{Call, Hears, Takes, Says, Sends, Answered, OpensReceiver, OpensSender, Grants, AsksBack, Gives, Closes, numbered}
use Rattle.sockets.specs.Accepting.{turn_of}
use Rattle.sockets.specs.Pairs.{NcpState, owner_of, pair_with}
use Rattle.sockets.specs.Sending.{next_in}
use Rattle.sockets.specs.declared.peer.Peer.{Peer}
use Rattle.sockets.specs.declared.request.Request.{Request}
use Rattle.sockets.specs.declared.request.Request.TheVariants as request
use Rattle.net_sim.specs.Story.{Moment, Crossed, Asked, event_in, events_of, places, program}
use Rattle.world_keeps_pairing.specs.Steps.{keeps}

abbrev pub called : Call → PairState → List Listener → calls.Moment
called k q listening = record { call = k; pair = q; listening = listening }

-- ---- all lists of calls are read newest first

-- the commands of a message are heard, one after another, where the pair is ready. The connection in which an ALL, a GVB or a RET was said doesn't
-- matter to the host that hears it, and is given as 0
abbrev pub orders_heard : Host → ℕ → List Order → TurnState → List calls.Moment → List calls.Moment
orders_heard peer stamp [] t older = older
orders_heard peer stamp (Legal c ∷ orders) t older =
    orders_heard peer stamp orders (order_taken peer stamp (Legal c) t) (called (Hears stamp 0 c) t.pair t.listening ∷ older)
orders_heard peer stamp (Wrong code octets ∷ orders) t older = orders_heard peer stamp orders (order_taken peer stamp (Wrong code octets) t) older

abbrev pub message_calls : Host → ℕ → ℕ → List Bool → TurnState → List calls.Moment
message_calls peer stamp link text t =
    if is_ready t.pair.phase then (if link == 0 then orders_heard peer stamp (orders_of text) t [] else called (Takes link text) t.pair t.listening ∷ [])
    else []

-- commands go out, one after another
abbrev pub commands_said : Host → ℕ → List Command → PairState → List Listener → List calls.Moment → List calls.Moment
commands_said peer stamp [] q listening older = older
commands_said peer stamp (c ∷ cs) q listening older =
    commands_said peer stamp cs (with_connections q (command_gone peer stamp c (desk_of q listening))) listening (called (Says stamp c) q listening ∷ older)

abbrev pub parcel_calls : Host → ℕ → Parcel → PairState → List Listener → List calls.Moment
parcel_calls peer stamp Reset q listening = []
parcel_calls peer stamp Reply q listening = []
parcel_calls peer stamp (Commands count) q listening = commands_said peer stamp (take count q.queue) q listening []
parcel_calls peer stamp (Bytes e size count) q listening = called (Sends stamp e size count) q listening ∷ []

abbrev pub next_calls : Host → ℕ → List Listener → Option (Peer × Parcel) → List calls.Moment
next_calls peer stamp listening None = []
next_calls peer stamp listening (Some (p, parcel)) = if same_host peer p.host then parcel_calls peer stamp parcel p.pair listening else []

-- an answer about a message that is outstanding
abbrev pub answer_calls : ℕ → PairState → List Listener → List calls.Moment
answer_calls link q listening = if is_busy q.busy link then called (Answered link) q listening ∷ [] else []

-- what a user asks for of its own end on a socket, if that is with this peer
abbrev pub owner_calls : Host → (Entry → Call) → PairState → List Listener → Option (Host × Entry) → List calls.Moment
owner_calls peer call q listening None = []
owner_calls peer call q listening (Some (h, e)) = if same_host peer h then called (call e) q listening ∷ [] else []

abbrev pub request_calls : Host → NcpState → Request → List calls.Moment
request_calls peer s (request.OpenSend host own foreign size) = if same_host peer host then called (OpensSender own foreign size) (pair_with peer s.peers) s.listening ∷ [] else []
request_calls peer s (request.OpenReceive host own foreign) = if same_host peer host then called (OpensReceiver own foreign) (pair_with peer s.peers) s.listening ∷ [] else []
request_calls peer s (request.Send socket bits) = owner_calls peer (Gives socket bits) (pair_with peer s.peers) s.listening (owner_of socket s.peers)
request_calls peer s (request.Grant socket messages bits) = owner_calls peer (Grants socket messages bits) (pair_with peer s.peers) s.listening (owner_of socket s.peers)
request_calls peer s (request.AskBack socket messages bits) = owner_calls peer (AsksBack socket messages bits) (pair_with peer s.peers) s.listening (owner_of socket s.peers)
request_calls peer s (request.Close socket) =
    if listens_on socket s.listening then [] else owner_calls peer (Closes socket) (pair_with peer s.peers) s.listening (owner_of socket s.peers)
request_calls peer s r = []

-- ---- of a world's moments

-- what host `a` does by a moment with its ends with `b`, after older moments
abbrev pub calls_by : Host → Host → Moment → List Moment → List calls.Moment
calls_by a b (Crossed (crossing.Out m)) moments =
    if same_host a m.flow.source then next_calls b (places moments) (program a moments).listening (next_in (program a moments).peers) else []
calls_by a b (Crossed (crossing.In m)) moments =
    if same_host a m.flow.destination && same_host b m.flow.source then message_calls b (places moments) m.flow.link.0 m.text (turn_of (program a moments) b) else []
calls_by a b (Crossed (crossing.Answer kind f)) moments =
    if same_host a f.source && same_host b f.destination then answer_calls f.link.0 (pair_with b (program a moments).peers) (program a moments).listening else []
calls_by a b (Crossed (crossing.Down h)) moments = []
calls_by a b (Crossed (crossing.Up h)) moments = []
calls_by a b (Asked h r) moments = if same_host a h then request_calls b (program a moments) r else []

-- all that host `a` did with its ends with `b` since it dropped them last: it keeps them while it is through a reset with `b` and takes no RST
abbrev pub own_calls : Host → Host → List Moment → List calls.Moment
own_calls a b [] = []
own_calls a b (x ∷ moments) = if keeps a b (event_in x) (events_of moments) then calls_by a b x moments ++ own_calls a b moments else []

-- ---- numbers of connections

-- a host numbers a connection by its own socket, the foreign one, and how many connections of theirs it has seen go (`numbered`). Its peer
-- names the same connection by the same number, and its own socket first
abbrev pub numbered_by_peer : ℕ → ℕ → ℕ → ℕ
numbered_by_peer own foreign gone = numbered foreign own gone
