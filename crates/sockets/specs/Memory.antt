-- When the program needs memory: only where it has something more to say, to the peer or to its user.
use Rattle.std.specs.Prelude.{ℕ, ◌+◌, ◌-◌, if◌then◌else◌, length, Option, Some, None}
use Rattle.interface.specs.Host.{Host, same_host}
use Rattle.interface.specs.declared.crossing.Inbound.{Inbound}
use Rattle.interface.specs.declared.crossing.Inbound.TheVariants as inbound
use Rattle.sockets.specs.Accepting.{turn_of}
use Rattle.host_pairs.specs.Entries.{is_busy}
use Rattle.host_pairs.specs.Asked.{contact_notices}
use Rattle.sockets.specs.Others.{owner_host}
use Rattle.sockets.specs.Pairs.{NcpState, owner_of, pair_with}
use Rattle.sockets.specs.Requests.{served}
use Rattle.sockets.specs.declared.request.Request.{Request}
use Rattle.sockets.specs.declared.request.Request.TheVariants as request
use Rattle.host_pairs.specs.Asked.{closed_end}
use Rattle.host_pairs.specs.Said.{said_by_message, said_by_answer}

-- how much what comes in has said; nothing where it isn't for this host, or answers nothing that it has out
abbrev pub said_by_inbound : NcpState → Inbound → ℕ → ℕ
said_by_inbound s (inbound.Message m) stamp =
    if same_host s.own m.flow.destination then said_by_message m.flow.source stamp m.flow.link.0 m.text (turn_of s m.flow.source) else 0
said_by_inbound s (inbound.Answer kind f) stamp =
    if same_host s.own f.source
    then (if is_busy (pair_with f.destination s.peers).busy f.link.0 then said_by_answer f.destination kind f.link.0 (turn_of s f.destination) else 0)
    else 0

-- how many hosts more it keeps something of
abbrev pub newly_known : NcpState → NcpState → ℕ
newly_known old new = length new.peers - length old.peers

-- how many commands the closing of a socket's end queues at once, where its peer is known
abbrev pub queued_by_closing : NcpState → ℕ → Option Host → ℕ
queued_by_closing s socket None = 0
queued_by_closing s socket (Some peer) = length (closed_end socket (pair_with peer s.peers)).queue - length (pair_with peer s.peers).queue

-- how much more is kept once a request is served: for a contact the notices and a host that comes to be known, for a send its bits,
-- for a close the commands that it queues at once; for any other request one thing, a socket that listens or a command
abbrev pub newly_kept : NcpState → Request → ℕ
newly_kept s (request.Contact peer) = length (contact_notices peer (pair_with peer s.peers).phase) + newly_known s (served s (request.Contact peer))
newly_kept s (request.Send socket bits) = length bits
newly_kept s (request.Close socket) = queued_by_closing s socket (owner_host (owner_of socket s.peers))
newly_kept s r = 1
