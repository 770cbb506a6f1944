-- How events of a world are spelled in a script: words with single spaces between.
use Rattle.std.specs.Prelude.{◌≡◌, Bool, true, ℕ, ◌^◌, ◌<◌, List, [], ◌++◌, ◌⊎◌, length, codes}
use Rattle.std.specs.Fmt.{decimal}
use Rattle.std.specs.List.{list_all}
use Rattle.interface.specs.Host.{Host}
use Rattle.interface.specs.Printed.{host_text}
use Rattle.net_sim.specs.declared.event.Event.TheVariants as event
use Rattle.script.specs.Spelling.{IsHex, IsHost, IsIndex, IsMessage, IsNetEvent, IsTextRead, message_text, net_spelling, octets_text}
use Rattle.sockets.specs.declared.request.Request.{Request}
use Rattle.sockets.specs.declared.request.Request.TheVariants as request
use Rattle.terminal.specs.Lines.{is_printable}
use Rattle.world_script.specs.declared.event.WorldEvent.{WorldEvent}
use Rattle.world_script.specs.declared.event.WorldEvent.TheVariants as world

-- what the user of a host asks for; the host is after the first word
abbrev pub request_spelling : Host → Request → List ℕ
request_spelling h (request.Contact peer) = codes "contact " ++ (host_text h ++ (codes " " ++ host_text peer))
request_spelling h (request.Echo peer octet) = codes "echo " ++ (host_text h ++ (codes " " ++ (host_text peer ++ (codes " " ++ decimal octet))))
request_spelling h (request.Listen socket size) = codes "listen " ++ (host_text h ++ (codes " " ++ (decimal socket ++ (codes " " ++ decimal size))))
request_spelling h (request.OpenSend peer own foreign size) = codes "opensend " ++ (host_text h ++ (codes " " ++ (host_text peer ++ (codes " " ++ (decimal own ++ (codes " " ++ (decimal foreign ++ (codes " " ++ decimal size))))))))
request_spelling h (request.OpenReceive peer own foreign) = codes "openrecv " ++ (host_text h ++ (codes " " ++ (host_text peer ++ (codes " " ++ (decimal own ++ (codes " " ++ decimal foreign))))))
request_spelling h (request.Send socket bits) = codes "send " ++ (host_text h ++ (codes " " ++ (decimal socket ++ (codes " " ++ (decimal (length bits) ++ (codes " " ++ octets_text bits))))))
request_spelling h (request.Grant socket messages bits) = codes "grant " ++ (host_text h ++ (codes " " ++ (decimal socket ++ (codes " " ++ (decimal messages ++ (codes " " ++ decimal bits))))))
request_spelling h (request.AskBack socket messages bits) = codes "askback " ++ (host_text h ++ (codes " " ++ (decimal socket ++ (codes " " ++ (decimal messages ++ (codes " " ++ decimal bits))))))
request_spelling h (request.Interrupt socket) = codes "interrupt " ++ (host_text h ++ (codes " " ++ decimal socket))
request_spelling h (request.Close socket) = codes "close " ++ (host_text h ++ (codes " " ++ decimal socket))

-- an event's line; a quiet round by itself has none. What is typed is as it is after its host's space, so a line
-- without text ends in that space
abbrev pub world_spelling : WorldEvent → List ℕ
world_spelling (world.Happen (event.Net e)) = net_spelling e
world_spelling (world.Happen event.Quiet) = []
world_spelling (world.Happen (event.Offer h)) = codes "offer " ++ host_text h
world_spelling (world.Happen (event.Take h)) = codes "take " ++ host_text h
world_spelling (world.Happen (event.Ask h r)) = request_spelling h r
world_spelling (world.Happen (event.Server h listen base)) = codes "server " ++ (host_text h ++ (codes " " ++ (decimal listen ++ (codes " " ++ decimal base))))
world_spelling (world.Happen (event.User h peer listen own)) = codes "user " ++ (host_text h ++ (codes " " ++ (host_text peer ++ (codes " " ++ (decimal listen ++ (codes " " ++ decimal own))))))
world_spelling (world.Happen (event.Typed h text)) = codes "type " ++ (host_text h ++ (codes " " ++ text))
world_spelling (world.Happen (event.Out m)) = codes "out " ++ message_text m
world_spelling (world.Calm rounds) = codes "calm " ++ decimal rounds

-- a valid socket has 32 bits
abbrev pub IsSocket : ℕ → Type 0
IsSocket n = n < 2 ^ 32

-- a valid byte size, octet or fraction of an allocation has 8 bits
abbrev pub IsOctet : ℕ → Type 0
IsOctet n = n < 2 ^ 8

-- a valid request: its numbers fit the fields of the command that carries them (a grant's messages have 16 bits, its bits 32), and
-- the number of bits to send has 32 bits. Whether the host's program takes it is seen when it is asked.
abbrev pub IsRequest : Request → Type 0
IsRequest (request.Contact peer) = IsHost peer
IsRequest (request.Echo peer octet) = IsHost peer × IsOctet octet
IsRequest (request.Listen socket size) = IsSocket socket × IsOctet size
IsRequest (request.OpenSend peer own foreign size) = IsHost peer × IsSocket own × IsSocket foreign × IsOctet size
IsRequest (request.OpenReceive peer own foreign) = IsHost peer × IsSocket own × IsSocket foreign
IsRequest (request.Send socket bits) = IsSocket socket × (length bits < 2 ^ 32)
IsRequest (request.Grant socket messages bits) = IsSocket socket × (messages < 2 ^ 16) × (bits < 2 ^ 32)
IsRequest (request.AskBack socket messages bits) = IsSocket socket × IsOctet messages × IsOctet bits
IsRequest (request.Interrupt socket) = IsSocket socket
IsRequest (request.Close socket) = IsSocket socket

-- a text that may be typed: octets from the space, 32, to the tilde, 126, and as many as there are
abbrev pub IsText : List ℕ → Type 0
IsText text = list_all is_printable text ≡ true

-- the events that a world's script may ask for, by whether there are strangers: what one sends is asked for only where there are. Whether the sockets
-- of a server or a user are even or odd, whether there is a terminal, and whether a message's source is a stranger is seen when the event is run
abbrev pub IsWorldEvent : Bool → WorldEvent → Type 0
IsWorldEvent strangers (world.Happen (event.Net e)) = IsNetEvent e
IsWorldEvent strangers (world.Happen event.Quiet) = ⊥
IsWorldEvent strangers (world.Happen (event.Offer h)) = IsHost h
IsWorldEvent strangers (world.Happen (event.Take h)) = IsHost h
IsWorldEvent strangers (world.Happen (event.Ask h r)) = IsHost h × IsRequest r
IsWorldEvent strangers (world.Happen (event.Server h listen base)) = IsHost h × IsSocket listen × IsSocket base
IsWorldEvent strangers (world.Happen (event.User h peer listen own)) = IsHost h × IsHost peer × IsSocket listen × IsSocket own
IsWorldEvent strangers (world.Happen (event.Typed h text)) = IsHost h × IsText text
IsWorldEvent strangers (world.Happen (event.Out m)) = (strangers ≡ true) × IsMessage m
IsWorldEvent strangers (world.Calm rounds) = IsIndex rounds

-- ---- memory

-- a line `send` whose words are all valid, except that of the last it is known only that it is hexadecimal
pub record IsSendRead (line : List ℕ) : Type 0 where
  pub host : Host
  pub socket : ℕ
  pub count : ℕ
  pub word : List ℕ
  pub spelled : line ≡ codes "send " ++ (host_text host ++ (codes " " ++ (decimal socket ++ (codes " " ++ (decimal count ++ (codes " " ++ word))))))
  pub meant : IsHost host
  pub numbered : IsSocket socket
  pub few : count < 2 ^ 32
  pub hex : IsHex word

-- memory is needed to read the octets to send, and those of what a stranger sends, and to keep an event
abbrev pub WantsMemory : Bool → List ℕ → Type 0
WantsMemory strangers line =
    IsSendRead line ⊎ ((strangers ≡ true) × (words : List ℕ) × (line ≡ codes "out " ++ words) × IsTextRead words)
    ⊎ ((e : WorldEvent) × (line ≡ world_spelling e) × IsWorldEvent strangers e)
