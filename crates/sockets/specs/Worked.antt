-- Worked dialogues of two hosts: 0 at IMP 1, and 0 at IMP 2.
use Rattle.std.specs.Prelude.{ℕ, ◌+◌, ◌*◌, List, [], ◌∷◌, ◌++◌, map, take, replicate, Option, Some}
use Rattle.std.specs.List.{range_with_len}
use Rattle.bit_messages.specs.Octets.{bits_of}
use Rattle.interface.specs.Host.{Host}
use Rattle.interface.specs.declared.address.Flow.{Flow}
use Rattle.interface.specs.declared.crossing.Answer.{Answer}
use Rattle.interface.specs.declared.crossing.Answer.TheVariants as answer
use Rattle.interface.specs.declared.crossing.Inbound.TheVariants as inbound
use Rattle.interface.specs.declared.message.HostMessage.{HostMessage}
use Rattle.sockets.specs.Accepting.{accepted}
use Rattle.host_pairs.specs.Control.{control_text}
use Rattle.sockets.specs.Dialogue.{Talk, Step, Ask, Offer, Take, GiveUp, opening_talk, played, state_of}
use Rattle.sockets.specs.Pairs.{NcpState}
use Rattle.sockets.specs.Requests.{served}
use Rattle.sockets.specs.Sending.{offered}
use Rattle.host_pairs.specs.Entries.{sending_end}
use Rattle.host_pairs.specs.declared.entry.Entry.{Entry}
use Rattle.host_pairs.specs.declared.notice.Notice.{Notice}
use Rattle.sockets.specs.declared.request.Request.TheVariants as request

abbrev pub first : Host
first = record { imp = 1; host = 0 }

abbrev pub second : Host
second = record { imp = 2; host = 0 }

-- a host that nobody has spoken to
abbrev pub third : Host
third = record { imp = 3; host = 0 }

-- these steps from the opening on
abbrev pub talk : List Step → Talk
talk steps = played steps (opening_talk first second)

-- ---- messages

abbrev pub on_link : Host → Host → ℕ → Flow
on_link from to link = record { source = from; destination = to; link = record { 0 = link } }

-- a message of these octets
abbrev pub message : Host → Host → ℕ → List ℕ → HostMessage
message from to link octets = record { flow = on_link from to link; text = bits_of octets }

-- a control message with these octets
abbrev pub control : Host → Host → List ℕ → HostMessage
control from to octets = record { flow = on_link from to 0; text = control_text octets }

-- ---- dialogues

-- the first contacts the second
abbrev pub reset : List Step
reset = Ask first (request.Contact second) ∷ Offer first ∷ Take second ∷ Take first ∷ Offer second ∷ Take first ∷ Take second ∷ []

-- the first asks for a connection to its socket 16, and the second's socket 33 was listening
abbrev pub opening_connection : List Step
opening_connection =
    Ask second (request.Listen 33 8) ∷ Ask first (request.OpenReceive second 16 33)
    ∷ Offer first ∷ Take second ∷ Offer second ∷ Take first ∷ Take first ∷ Take second ∷ []

-- the first closes it
abbrev pub closing : List Step
closing = Ask first (request.Close 16) ∷ Offer first ∷ Take second ∷ Offer second ∷ Take first ∷ Take first ∷ Take second ∷ []

-- both contact each other, and their RSTs cross
abbrev pub crossing : List Step
crossing =
    Ask first (request.Contact second) ∷ Ask second (request.Contact first)
    ∷ Offer first ∷ Take second ∷ Offer second ∷ Take first ∷ Take first ∷ Offer first ∷ Take second ∷ Take second
    ∷ Offer second ∷ Take first ∷ Take first ∷ Take second ∷ []

-- a contact whose RST was taken, but whose RFNM is withdrawn; then a second one, which an RRP for the first RST completes
abbrev pub failing : List Step
failing =
    Ask first (request.Contact second) ∷ Offer first ∷ Take second ∷ GiveUp (on_link first second 0) ∷ Take first
    ∷ Offer second ∷ Ask first (request.Contact second) ∷ Offer first ∷ Take second ∷ Take first ∷ Take first
    ∷ Take second ∷ Offer second ∷ Take first ∷ []

abbrev pub twelve : List ℕ
twelve = 1 ∷ 2 ∷ 3 ∷ 4 ∷ 5 ∷ 6 ∷ 7 ∷ 8 ∷ 9 ∷ 10 ∷ 11 ∷ 12 ∷ []

-- on the open connection two messages and 100 bits are granted, and thirteen octets are queued
abbrev pub sending : List Step
sending =
    Ask first (request.Grant 16 2 100) ∷ Ask second (request.Send 33 (bits_of (twelve ++ 13 ∷ [])))
    ∷ Offer first ∷ Take second ∷ []

-- what fits goes out, and what is left of the allocation is asked back
abbrev pub asking_back : List Step
asking_back =
    Offer second ∷ Take first ∷ Take first ∷ Take second ∷ Ask first (request.AskBack 16 128 128)
    ∷ Offer first ∷ Take second ∷ Offer second ∷ Take first ∷ Take first ∷ []

-- of three messages and 100 bits a half and more than the whole are asked back
abbrev pub giving_back : List Step
giving_back = Ask first (request.Grant 16 3 100) ∷ Ask first (request.AskBack 16 64 200) ∷ Offer first ∷ Take second ∷ []

-- the first asks for as many connections as there are links
abbrev pub many_opened : List Step
many_opened = map (λ k. Ask first (request.OpenReceive second (16 + 2 * k) 33)) (range_with_len 0 30)

-- the second host, contacted by the first, has taken a message
abbrev pub second_after : HostMessage → NcpState
second_after m = (accepted (state_of (talk reset) second) (inbound.Message m) 7).0

-- the first and the second host after these steps
abbrev pub first_in : List Step → NcpState
first_in steps = state_of (talk steps) first

abbrev pub second_in : List Step → NcpState
second_in steps = state_of (talk steps) second

-- what the later steps report
abbrev pub news : List Step → List Step → List (Host × Notice)
news before steps = (played steps (record (talk before) { notices = [] })).notices

-- ---- only one host

-- after a control message of a peer with these octets, and what it is reported
abbrev pub control_heard : NcpState → Host → List ℕ → NcpState × List Notice
control_heard s from octets = accepted s (inbound.Message (control from s.own octets)) 20

-- after any message of a peer with these octets, and what it is reported
abbrev pub got : NcpState → Host → ℕ → List ℕ → NcpState × List Notice
got s from link octets = accepted s (inbound.Message (message from s.own link octets)) 20

-- after an answer about its own message to a peer, and what it is reported
abbrev pub answer_heard : NcpState → Answer → Host → ℕ → NcpState × List Notice
answer_heard s kind to link = accepted s (inbound.Answer kind (on_link s.own to link)) 20

-- after its next message has gone out
abbrev pub gone : NcpState → NcpState
gone s = (offered s 20).0

-- after that message was answered by RFNM, too
abbrev pub delivered : NcpState → Host → ℕ → NcpState
delivered s to link = (answer_heard (gone s) answer.Rfnm to link).0

-- ---- commands, octet by octet

-- a socket below 256
abbrev pub socket : ℕ → List ℕ
socket n = 0 ∷ 0 ∷ 0 ∷ n ∷ []

abbrev pub RTS : ℕ → ℕ → ℕ → List ℕ
RTS receive send link = 1 ∷ socket receive ++ socket send ++ link ∷ []

abbrev pub STR : ℕ → ℕ → ℕ → List ℕ
STR send receive size = 2 ∷ socket send ++ socket receive ++ size ∷ []

abbrev pub CLS : ℕ → ℕ → List ℕ
CLS own foreign = 3 ∷ socket own ++ socket foreign

-- this many messages and this many bits, both below 256
abbrev pub ALL : ℕ → ℕ → ℕ → List ℕ
ALL link messages bits = 4 ∷ link ∷ 0 ∷ messages ∷ 0 ∷ 0 ∷ 0 ∷ bits ∷ []

abbrev pub GVB : ℕ → ℕ → ℕ → List ℕ
GVB link messages bits = 5 ∷ link ∷ messages ∷ bits ∷ []

abbrev pub RET : ℕ → ℕ → ℕ → List ℕ
RET link messages bits = 6 ∷ link ∷ 0 ∷ messages ∷ 0 ∷ 0 ∷ 0 ∷ bits ∷ []

abbrev pub INR : ℕ → List ℕ
INR link = 7 ∷ link ∷ []

abbrev pub INS : ℕ → List ℕ
INS link = 8 ∷ link ∷ []

abbrev pub ECO : ℕ → List ℕ
ECO octet = 9 ∷ octet ∷ []

abbrev pub ERP : ℕ → List ℕ
ERP octet = 10 ∷ octet ∷ []

-- a kind of error, and what it quotes, with this many zeros after it
abbrev pub ERR : ℕ → List ℕ → ℕ → List ℕ
ERR code octets zeros = 11 ∷ code ∷ octets ++ replicate zeros 0

abbrev pub RST : List ℕ
RST = 12 ∷ []

abbrev pub RRP : List ℕ
RRP = 13 ∷ []

-- every command but RST and RRP, about sockets and links that nobody uses, and after them a code that no command has
abbrev pub every_command : List ℕ
every_command =
    0 ∷ RTS 16 33 5 ++ STR 35 18 8 ++ CLS 20 37 ++ ALL 6 1 8 ++ GVB 6 64 128 ++ RET 7 2 9 ++ INR 6 ++ INS 7
    ++ ECO 65 ++ ERP 66 ++ ERR 77 (take 10 twelve) 0 ++ 14 ∷ []

-- ---- more dialogues

abbrev pub opened_connection : List Step
opened_connection = reset ++ opening_connection

-- the second's socket 33 was listening, and the first closes its end before the answer to its request comes
abbrev pub closed_early : List Step
closed_early =
    reset ++ Ask second (request.Listen 33 8) ∷ Ask first (request.OpenReceive second 16 33) ∷ Offer first ∷ Take second
    ∷ Offer second ∷ Ask first (request.Close 16) ∷ Take first ∷ Take first ∷ []

-- the second asks for a connection from its socket 33, and the first's socket 16 was listening, with a size of its own
abbrev pub opening_by_sender : List Step
opening_by_sender =
    Ask first (request.Listen 16 9) ∷ Ask second (request.OpenSend first 33 16 8)
    ∷ Offer second ∷ Take first ∷ Offer first ∷ Take second ∷ Take second ∷ Take first ∷ []

-- the first asks for a connection and closes it before its request has gone out; nobody listens
abbrev pub closed_unasked : List Step
closed_unasked =
    Ask first (request.OpenReceive second 16 33) ∷ Ask first (request.Close 16)
    ∷ Offer first ∷ Take second ∷ Offer second ∷ Take first ∷ Take first ∷ []

-- each asks for the other's end, and nobody listens
abbrev pub both_asking : List Step
both_asking =
    Ask first (request.OpenReceive second 16 33) ∷ Ask second (request.OpenSend first 33 16 8)
    ∷ Offer first ∷ Offer second ∷ Take first ∷ Take second ∷ Take second ∷ Take first ∷ []

-- the first asks for two connections; the second refuses the one to socket 16, and was listening for the other
abbrev pub one_refused : List Step
one_refused =
    Ask second (request.Listen 35 8) ∷ Ask first (request.OpenReceive second 16 33) ∷ Ask first (request.OpenReceive second 18 35)
    ∷ Offer first ∷ Take second ∷ Offer second ∷ Take first ∷ Take first ∷ []

-- the first's CLS for the refused one goes out and is taken
abbrev pub refused_closed : List Step
refused_closed = one_refused ++ Offer first ∷ Take second ∷ Take second ∷ Take first ∷ []

-- an octet waits for an allocation when the second closes the open connection
abbrev pub draining : List Step
draining = Ask second (request.Send 33 (bits_of (65 ∷ []))) ∷ Ask second (request.Close 33) ∷ []

-- the first contacts itself
abbrev pub own_reset : List Step
own_reset = Ask first (request.Contact first) ∷ Offer first ∷ Take first ∷ Take first ∷ Offer first ∷ Take first ∷ Take first ∷ []

-- and connects two sockets of its own
abbrev pub own_opening : List Step
own_opening =
    Ask first (request.Listen 33 8) ∷ Ask first (request.OpenReceive first 16 33)
    ∷ Offer first ∷ Take first ∷ Take first ∷ Offer first ∷ Take first ∷ Take first ∷ []

-- ---- one host in each phase of a reset with the second

abbrev pub closed : NcpState
closed = first_in []

abbrev pub want : NcpState
want = served closed (request.Contact second)

abbrev pub rst_out : NcpState
rst_out = gone want

abbrev pub rst_taken : NcpState
rst_taken = delivered want second 0

abbrev pub ready : NcpState
ready = first_in reset

-- another contact while the RST of the first one has no answer
abbrev pub want_again : NcpState
want_again = served rst_out (request.Contact second)

-- the second sends on links 9 and 4, the greater one first, and both may send an octet; its last commands have no answer
abbrev pub two_listening : NcpState
two_listening = served (served (second_in reset) (request.Listen 33 8)) (request.Listen 35 8)

abbrev pub two_senders : NcpState
two_senders =
    served (served (control_heard (gone (control_heard two_listening first (RTS 16 33 9 ++ RTS 18 35 4)).0) first (ALL 9 1 8 ++ ALL 4 1 8)).0
    (request.Send 33 (bits_of (65 ∷ [])))) (request.Send 35 (bits_of (66 ∷ [])))

-- a host at the first's IMP
abbrev pub neighbour : Host
neighbour = record { imp = 1; host = 1 }

-- ---- one end

-- an open sending end with a link or without one: an octet waits, and a message of 100 bits is granted
abbrev pub open_sender : Option ℕ → Entry
open_sender link = record (sending_end 33 16 8) { asked = Some 1; partner = Some 2; link = link; allocation = record { messages = 1; bits = 100 }; bits = bits_of (65 ∷ []) }
