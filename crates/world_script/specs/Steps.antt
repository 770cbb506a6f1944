-- What the contracts of private functions say. No public clause cites this file.
use Rattle.std.specs.Prelude.{◌≡◌, ◌≢◌, Bool, ℕ, ◌<◌, ◌≤◌, ◌^◌, List, ◌∷◌, ◌++◌, length, codes, Option, Some, None}
use Rattle.std.specs.Fmt.{decimal}
use Rattle.interface.specs.Printed.{host_text}
use Rattle.script.specs.Spelling.{IsHex, ReadsAs, octets_text}
use Rattle.sockets.specs.declared.request.Request.{Request}
use Rattle.sockets.specs.declared.request.Request.TheVariants as request
use Rattle.world_script.specs.WorldSpelling.{IsRequest, IsSocket, IsWorldEvent, world_spelling}
use Rattle.world_script.specs.declared.event.WorldEvent.{WorldEvent}
use Rattle.world_script.specs.declared.verb.Verb.{Verb}
use Rattle.world_script.specs.declared.verb.Verb.TheVariants as verb

-- the word of a verb
abbrev pub verb_text : Verb → List ℕ
verb_text verb.Contact = codes "contact"
verb_text verb.Echo = codes "echo"
verb_text verb.Listen = codes "listen"
verb_text verb.OpenSend = codes "opensend"
verb_text verb.OpenReceive = codes "openrecv"
verb_text verb.Send = codes "send"
verb_text verb.Grant = codes "grant"
verb_text verb.AskBack = codes "askback"
verb_text verb.Interrupt = codes "interrupt"
verb_text verb.Close = codes "close"

-- each verb has a word
abbrev pub IsVerb : Verb → Type 0
IsVerb v = Unit {0}

-- the verb of a request
abbrev pub verb_of : Request → Verb
verb_of (request.Contact peer) = verb.Contact
verb_of (request.Echo peer octet) = verb.Echo
verb_of (request.Listen socket size) = verb.Listen
verb_of (request.OpenSend peer own foreign size) = verb.OpenSend
verb_of (request.OpenReceive peer own foreign) = verb.OpenReceive
verb_of (request.Send socket bits) = verb.Send
verb_of (request.Grant socket messages bits) = verb.Grant
verb_of (request.AskBack socket messages bits) = verb.AskBack
verb_of (request.Interrupt socket) = verb.Interrupt
verb_of (request.Close socket) = verb.Close

-- two and three numbers
abbrev pub two_text : ℕ × ℕ → List ℕ
two_text p = decimal p.0 ++ 32 ∷ decimal p.1

abbrev pub three_text : ℕ × ℕ × ℕ → List ℕ
three_text p = decimal p.0 ++ 32 ∷ two_text (p.1, p.2)

-- numbers up to these
abbrev pub AreTwo : ℕ → ℕ → ℕ × ℕ → Type 0
AreTwo a b p = (p.0 ≤ a) × (p.1 ≤ b)

abbrev pub AreThree : ℕ → ℕ → ℕ → ℕ × ℕ × ℕ → Type 0
AreThree a b c p = (p.0 ≤ a) × (p.1 ≤ b) × (p.2 ≤ c)

-- what is after a request's host
abbrev pub arguments : Request → List ℕ
arguments (request.Contact peer) = host_text peer
arguments (request.Echo peer octet) = host_text peer ++ 32 ∷ decimal octet
arguments (request.Listen socket size) = two_text (socket, size)
arguments (request.OpenSend peer own foreign size) = host_text peer ++ 32 ∷ three_text (own, foreign, size)
arguments (request.OpenReceive peer own foreign) = host_text peer ++ 32 ∷ two_text (own, foreign)
arguments (request.Send socket bits) = decimal socket ++ 32 ∷ (decimal (length bits) ++ 32 ∷ octets_text bits)
arguments (request.Grant socket messages bits) = three_text (socket, messages, bits)
arguments (request.AskBack socket messages bits) = three_text (socket, messages, bits)
arguments (request.Interrupt socket) = decimal socket
arguments (request.Close socket) = decimal socket

-- this is what a line asks for, whether there are strangers or not
abbrev pub ReadsAnywhere : List ℕ → Option WorldEvent → Type 0
ReadsAnywhere line read = (strangers : Bool) → ReadsAs world_spelling (IsWorldEvent strangers) line read

-- these words are the arguments of a valid request of this verb, or of none
abbrev pub ReadsRequest : Verb → List ℕ → Option Request → Type 0
ReadsRequest v words (Some r) = (verb_of r ≡ v) × (words ≡ arguments r) × IsRequest r
ReadsRequest v words None = (r : Request) → IsRequest r → verb_of r ≡ v → words ≢ arguments r

-- a socket, a number of bits, and a word in hexadecimal
pub record IsSendRest (words : List ℕ) : Type 0 where
  pub socket : ℕ
  pub count : ℕ
  pub word : List ℕ
  pub spelled : words ≡ decimal socket ++ 32 ∷ (decimal count ++ 32 ∷ word)
  pub numbered : IsSocket socket
  pub few : count < 2 ^ 32
  pub hex : IsHex word
