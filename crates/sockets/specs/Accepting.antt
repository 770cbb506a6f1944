-- What comes in from the IMP: messages of peers, and answers to what this host has sent (NIC 8246; BBN Report 1822, RFNM).
use Rattle.std.specs.Prelude.{ℕ, if◌then◌else◌, List, []}
use Rattle.interface.specs.Host.{Host, same_host}
use Rattle.interface.specs.declared.address.Flow.{Flow}
use Rattle.interface.specs.declared.crossing.Answer.{Answer}
use Rattle.interface.specs.declared.crossing.Inbound.{Inbound}
use Rattle.interface.specs.declared.crossing.Inbound.TheVariants as inbound
use Rattle.interface.specs.declared.message.HostMessage.{HostMessage}
use Rattle.host_pairs.specs.Entries.{is_busy}
use Rattle.sockets.specs.Pairs.{NcpState, pair_with, with_pair}
use Rattle.host_pairs.specs.declared.notice.Notice.{Notice}
use Rattle.host_pairs.specs.Turn.{TurnState, message_taken, answered_turn}

-- ---- the host

abbrev pub turn_of : NcpState → Host → TurnState
turn_of s peer = record { pair = pair_with peer s.peers; listening = s.listening; notices = [] }

abbrev pub with_turn : NcpState → Host → TurnState → NcpState
with_turn s peer t = record s { peers = with_pair peer t.pair s.peers; listening = t.listening }

abbrev pub after_turn : NcpState → Host → TurnState → NcpState × List Notice
after_turn s peer t = (with_turn s peer t, t.notices)

-- a message for this host
abbrev pub accepted_message : NcpState → HostMessage → ℕ → NcpState × List Notice
accepted_message s m stamp =
    if same_host s.own m.flow.destination
    then after_turn s m.flow.source (message_taken m.flow.source stamp m.flow.link.0 m.text (turn_of s m.flow.source))
    else (s, [])

-- an answer about a message that this host has out
abbrev pub accepted_answer : NcpState → Answer → Flow → NcpState × List Notice
accepted_answer s kind f =
    if same_host s.own f.source
    then (if is_busy (pair_with f.destination s.peers).busy f.link.0
    then after_turn s f.destination (answered_turn f.destination kind f.link.0 (turn_of s f.destination))
    else (s, []))
    else (s, [])

-- what comes in, with its place in the log: the host after it, and the notices
unfoldable pub accepted : NcpState → Inbound → ℕ → NcpState × List Notice
accepted s (inbound.Message m) stamp = accepted_message s m stamp
accepted s (inbound.Answer kind f) stamp = accepted_answer s kind f
