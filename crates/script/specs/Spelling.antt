-- How events are spelled in a script: words with single spaces between.
use Rattle.std.specs.Prelude.{◌≡◌, ◌≢◌, ℕ, ◌+◌, ◌*◌, ◌/◌, ◌^◌, ◌<◌, ◌≤◌, nat_le, Bool, true, false, ◌&&◌, ◌||◌, List, [], ◌∷◌, ◌++◌, ◌⊎◌, length, take, replicate, codes, Option, Some, None, Ok}
use Rattle.std.specs.List.{list_all}
use Rattle.std.specs.Fmt.{decimal}
use Rattle.hex.specs.Hex.{decode_of, encode_upper}
use Rattle.bit_messages.specs.Octets.{octets_of, bits_of, spare_bits}
use Rattle.interface.specs.Host.{Host, host_at, imp_at}
use Rattle.interface.specs.Printed.{host_text, flow_text}
use Rattle.interface.specs.declared.address.Flow.{Flow}
use Rattle.interface.specs.declared.event.Direction.{Direction}
use Rattle.interface.specs.declared.event.Direction.TheVariants as direction
use Rattle.interface.specs.declared.event.NetEvent.{NetEvent}
use Rattle.interface.specs.declared.event.NetEvent.TheVariants as net
use Rattle.interface.specs.declared.message.HostMessage.{HostMessage}
use Rattle.script.specs.declared.event.RawEvent.{RawEvent}
use Rattle.script.specs.declared.event.RawEvent.TheVariants as event

-- a word spells this value, which is valid; `None` where it spells no valid value
abbrev pub ReadsAs : {X : Type 0} → (X → List ℕ) → (X → Type 0) → List ℕ → Option X → Type 0
ReadsAs {X} spelled IsMeant word (Some x) = (word ≡ spelled x) × IsMeant x
ReadsAs {X} spelled IsMeant word None = (x : X) → IsMeant x → word ≢ spelled x

-- a valid host: number 0 to 3 at IMP 1 to 63
abbrev pub IsHost : Host → Type 0
IsHost h = host_at h.host h.imp ≡ Some h

-- a valid flow: two valid hosts and a link of 8 bits
abbrev pub IsFlow : Flow → Type 0
IsFlow f = IsHost f.source × IsHost f.destination × (f.link.0 < 256)

-- a text's octets in upper case hexadecimal, the last octet filled with zeros; a hyphen for no bits
abbrev pub octets_text : List Bool → List ℕ
octets_text [] = codes "-"
octets_text (b ∷ bits) = encode_upper (octets_of (b ∷ bits))

-- an upper case hexadecimal digit
abbrev pub is_upper_digit : ℕ → Bool
is_upper_digit c = nat_le 48 c && nat_le c 57 || nat_le 65 c && nat_le c 70

-- a word of upper case hexadecimal digits, two for each octet that this many bits take; the bits of the last octet that aren't
-- used are zero
pub record IsTextWord (word : List ℕ) (count : ℕ) : Type 0 where
  pub digits : list_all is_upper_digit word ≡ true
  pub size : length word ≡ 2 * ((count + 7) / 8)
  pub unused : (octets : List ℕ) → decode_of word ≡ Ok octets → bits_of octets ≡ take count (bits_of octets) ++ replicate (spare_bits count) false

-- the word of a text of this many bits
pub record IsWordOfText (word : List ℕ) (count : ℕ) : Type 0 where
  pub text : List Bool
  pub long : length text ≡ count
  pub spelled : word ≡ octets_text text

abbrev pub direction_text : Direction → List ℕ
direction_text direction.Forward = codes "+"
direction_text direction.Back = codes "-"

-- a message: its flow, how many bits its text has, and their octets
abbrev pub message_text : HostMessage → List ℕ
message_text m = flow_text m.flow ++ (codes " " ++ (decimal (length m.text) ++ (codes " " ++ octets_text m.text)))

-- a valid message: at most 8063 bits on a valid flow
abbrev pub IsMessage : HostMessage → Type 0
IsMessage m = IsFlow m.flow × (length m.text ≤ 8063)

-- what happens inside a network
abbrev pub net_spelling : NetEvent → List ℕ
net_spelling (net.Deliver line way frame) = codes "deliver " ++ (decimal line ++ (codes " " ++ (direction_text way ++ (codes " " ++ decimal frame))))
net_spelling (net.Drop line way frame) = codes "drop " ++ (decimal line ++ (codes " " ++ (direction_text way ++ (codes " " ++ decimal frame))))
net_spelling (net.Garble line way frame) = codes "garble " ++ (decimal line ++ (codes " " ++ (direction_text way ++ (codes " " ++ decimal frame))))
net_spelling (net.Resend imp) = codes "resend " ++ decimal imp
net_spelling (net.Route imp) = codes "route " ++ decimal imp
net_spelling (net.Claim imp) = codes "claim " ++ decimal imp
net_spelling (net.EndDown imp line) = codes "enddown " ++ (decimal imp ++ (codes " " ++ decimal line))
net_spelling (net.EndUp imp line) = codes "endup " ++ (decimal imp ++ (codes " " ++ decimal line))
net_spelling (net.ImpDown imp) = codes "impdown " ++ decimal imp
net_spelling (net.ImpUp imp) = codes "impup " ++ decimal imp
net_spelling (net.HostDown h) = codes "hostdown " ++ host_text h
net_spelling (net.HostUp h) = codes "hostup " ++ host_text h
net_spelling (net.GiveUp f) = codes "giveup " ++ flow_text f
net_spelling (net.Forget at from) = codes "forget " ++ (decimal at ++ (codes " " ++ decimal from))
net_spelling (net.Abandon f) = codes "abandon " ++ flow_text f
net_spelling (net.Ask f) = codes "ask " ++ flow_text f

-- an event's line
abbrev pub spelling : RawEvent → List ℕ
spelling (event.Out m) = codes "out " ++ message_text m
spelling (event.Take h) = codes "take " ++ host_text h
spelling (event.Net e) = net_spelling e
spelling (event.Calm rounds) = codes "calm " ++ decimal rounds

-- a valid number of an IMP: 1 to 63
abbrev pub IsImp : ℕ → Type 0
IsImp n = imp_at n ≡ Some n

-- a valid number of a line, place of a frame, or number of rounds: one of 32 bits
abbrev pub IsIndex : ℕ → Type 0
IsIndex n = n < 2 ^ 32

-- the events inside a network are valid where the hosts, IMPs, links and numbers are that they name
abbrev pub IsNetEvent : NetEvent → Type 0
IsNetEvent (net.Deliver line way frame) = IsIndex line × IsIndex frame
IsNetEvent (net.Drop line way frame) = IsIndex line × IsIndex frame
IsNetEvent (net.Garble line way frame) = IsIndex line × IsIndex frame
IsNetEvent (net.Resend imp) = IsImp imp
IsNetEvent (net.Route imp) = IsImp imp
IsNetEvent (net.Claim imp) = IsImp imp
IsNetEvent (net.EndDown imp line) = IsImp imp × IsIndex line
IsNetEvent (net.EndUp imp line) = IsImp imp × IsIndex line
IsNetEvent (net.ImpDown imp) = IsImp imp
IsNetEvent (net.ImpUp imp) = IsImp imp
IsNetEvent (net.HostDown h) = IsHost h
IsNetEvent (net.HostUp h) = IsHost h
IsNetEvent (net.GiveUp f) = IsFlow f
IsNetEvent (net.Forget at from) = IsImp at × IsImp from
IsNetEvent (net.Abandon f) = IsFlow f
IsNetEvent (net.Ask f) = IsFlow f

-- the events that a script may ask for
abbrev pub IsEvent : RawEvent → Type 0
IsEvent (event.Out m) = IsMessage m
IsEvent (event.Take h) = IsHost h
IsEvent (event.Net e) = IsNetEvent e
IsEvent (event.Calm rounds) = IsIndex rounds

-- ---- memory

-- these octets in hexadecimal, two digits each, in either case
abbrev pub IsHex : List ℕ → Type 0
IsHex word = (octets : List ℕ) × (decode_of word ≡ Ok octets)

-- a message's words are all valid, except that of the last it is known only that it is hexadecimal
pub record IsTextRead (words : List ℕ) : Type 0 where
  pub flow : Flow
  pub count : ℕ
  pub word : List ℕ
  pub spelled : words ≡ flow_text flow ++ (codes " " ++ (decimal count ++ (codes " " ++ word)))
  pub meant : IsFlow flow
  pub few : count ≤ 8063
  pub hex : IsHex word

-- memory is needed to read a message's octets, and to keep an event
abbrev pub WantsMemory : List ℕ → Type 0
WantsMemory line = ((words : List ℕ) × (line ≡ codes "out " ++ words) × IsTextRead words) ⊎ ((e : RawEvent) × (line ≡ spelling e) × IsEvent e)
