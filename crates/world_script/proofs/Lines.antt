-- Events of a world as lines: a first word, and what follows it.
use Rattle.std.proofs.Common.{arith, ◌≡◌, ◌≢◌, ℕ, Bool, true, false, List, [], ◌∷◌, ◌++◌, codes, Option, Some, None, Result, IfOk, refl, sym, ap, ◌∙◌, subst, if◌then◌else◌}
use Rattle.std.proofs.lemmas.Bool.{false≢true}
use Rattle.std.proofs.lemmas.Result.{IfOk-weaker}
use Rattle.std.specs.Fmt.{decimal}
use Rattle.std.specs.List.{list_all}
use Rattle.std.specs.Str.{bytes_eq}
use Rattle.interface.specs.Host.{Host}
use Rattle.interface.specs.Printed.{host_text}
use Rattle.interface.specs.declared.event.NetEvent.{NetEvent}
use Rattle.interface.specs.declared.event.NetEvent.TheVariants as net
use Rattle.interface.specs.declared.message.HostMessage.{HostMessage}
use Rattle.net_sim.specs.declared.event.Event.TheVariants as event
use Rattle.script.specs.Spelling.{IsHost, IsMessage, IsNetEvent, ReadsAs, message_text, net_spelling}
use Rattle.script.specs.Steps.{Lacks}
use Rattle.script.specs.declared.event.RawEvent.TheVariants as raw
use Rattle.script.proofs.lemmas.{SameCut, keyword, made, operand, plain, same_cut, spelled, text_of, uncut, unmarked_where}
use Rattle.terminal.specs.Lines.{is_printable, line_fault}
use Rattle.terminal.specs.declared.fault.TerminalFault.{TerminalFault}
use Rattle.terminal.specs.declared.fault.TerminalFault.TheVariants as fault
use Rattle.world_script.specs.Steps.{AreTwo, IsVerb, ReadsAnywhere, ReadsRequest, arguments, two_text, verb_of, verb_text}
use Rattle.world_script.specs.WorldSpelling.{IsWorldEvent, world_spelling}
use Rattle.world_script.specs.declared.event.WorldEvent.{WorldEvent}
use Rattle.world_script.specs.declared.event.WorldEvent.TheVariants as world
use Rattle.world_script.specs.declared.verb.Verb.{Verb}
use Rattle.world_script.specs.declared.verb.Verb.TheVariants as verb
use Rattle.world_script.proofs.Requests as requests
use Rattle.world_script.proofs.Requests.{OperandOf, behind_host, request_again, request_of, spelled_request, verb_again, verb_unmarked}

-- ---- the first word, and what follows it

abbrev pub first : WorldEvent → List ℕ
first (world.Happen (event.Net e)) = keyword (raw.Net e)
first (world.Happen event.Quiet) = []
first (world.Happen (event.Offer h)) = codes "offer"
first (world.Happen (event.Take h)) = codes "take"
first (world.Happen (event.Ask h r)) = verb_text (verb_of r)
first (world.Happen (event.Server h l s)) = codes "server"
first (world.Happen (event.User h p l u)) = codes "user"
first (world.Happen (event.Typed h text)) = codes "type"
first (world.Happen (event.Out m)) = codes "out"
first (world.Calm n) = codes "calm"

abbrev pub behind : WorldEvent → List ℕ
behind (world.Happen (event.Net e)) = text_of (made (keyword (raw.Net e))).0 (operand (raw.Net e))
behind (world.Happen event.Quiet) = []
behind (world.Happen (event.Offer h)) = host_text h
behind (world.Happen (event.Take h)) = host_text h
behind (world.Happen (event.Ask h r)) = host_text h ++ 32 ∷ arguments r
behind (world.Happen (event.Server h l s)) = host_text h ++ 32 ∷ two_text (l, s)
behind (world.Happen (event.User h p l u)) = host_text h ++ 32 ∷ (host_text p ++ 32 ∷ two_text (l, u))
behind (world.Happen (event.Typed h text)) = host_text h ++ 32 ∷ text
behind (world.Happen (event.Out m)) = message_text m
behind (world.Calm n) = decimal n

pub spelled_event : (strangers : Bool) (x : WorldEvent) → IsWorldEvent strangers x → world_spelling x ≡ first x ++ 32 ∷ behind x
spelled_event strangers (world.Happen (event.Net e)) meant = spelled (raw.Net e)
spelled_event strangers (world.Happen event.Quiet) meant = absurd meant
spelled_event strangers (world.Happen (event.Ask h r)) meant = spelled_request h r
spelled_event strangers (world.Happen c) meant = refl
spelled_event strangers (world.Calm n) meant = refl

pub first_unmarked : (strangers : Bool) (x : WorldEvent) → IsWorldEvent strangers x → Lacks 32 (first x)
first_unmarked strangers (world.Happen (event.Net e)) meant = unmarked_where 32 (keyword (raw.Net e)) (plain (raw.Net e))
first_unmarked strangers (world.Happen event.Quiet) meant = absurd meant
first_unmarked strangers (world.Happen (event.Out m)) meant = unmarked_where 32 (codes "out") refl
first_unmarked strangers (world.Happen (event.Offer h)) meant = unmarked_where 32 (codes "offer") refl
first_unmarked strangers (world.Happen (event.Take h)) meant = unmarked_where 32 (codes "take") refl
first_unmarked strangers (world.Happen (event.Ask h r)) meant = verb_unmarked (verb_of r)
first_unmarked strangers (world.Happen (event.Server h l s)) meant = unmarked_where 32 (codes "server") refl
first_unmarked strangers (world.Happen (event.User h p l u)) meant = unmarked_where 32 (codes "user") refl
first_unmarked strangers (world.Happen (event.Typed h text)) meant = unmarked_where 32 (codes "type") refl
first_unmarked strangers (world.Calm n) meant = unmarked_where 32 (codes "calm") refl

-- a line is cut at its first space in one way
pub cut_alike : (strangers : Bool) (word rest : List ℕ) (x : WorldEvent) → IsWorldEvent strangers x → Lacks 32 word → word ++ 32 ∷ rest ≡ world_spelling x → SameCut word rest (first x) (behind x)
cut_alike strangers word rest x meant h e = same_cut 32 word rest (first x) (behind x) h (first_unmarked strangers x meant) (e ∙ spelled_event strangers x meant)

-- a line without a space is no event
pub no_space : (line : List ℕ) → Lacks 32 line → (strangers : Bool) (x : WorldEvent) → IsWorldEvent strangers x → line ≢ world_spelling x
no_space line h strangers x meant e = uncut 32 (first x) (behind x) (subst (Lacks 32) (e ∙ spelled_event strangers x meant) h)

-- what is read wherever, is read here
pub read_anywhere : {E : Type 0} (strangers : Bool) (line there : List ℕ) (r : Result (Option WorldEvent) E) → line ≡ there → IfOk r (ReadsAnywhere there) → IfOk r (ReadsAs world_spelling (IsWorldEvent strangers) line)
read_anywhere strangers line there r same h =
    subst (λ l. IfOk r (ReadsAs world_spelling (IsWorldEvent strangers) l)) (sym same) (IfOk-weaker r (ReadsAnywhere there) (ReadsAs world_spelling (IsWorldEvent strangers) there) (λ read k. k strangers) h)

-- ---- what a first word begins

pub data Head : Type 0 where
  Asks : Verb → Head
  Offers : Head
  Takes : Head
  Calms : Head
  Serves : Head
  Uses : Head
  Types : Head
  Says : Head
  Nets : Head

abbrev pub head_of : List ℕ → Head
head_of word =
    if bytes_eq word (codes "contact") then Asks verb.Contact else (
    if bytes_eq word (codes "echo") then Asks verb.Echo else (
    if bytes_eq word (codes "listen") then Asks verb.Listen else (
    if bytes_eq word (codes "opensend") then Asks verb.OpenSend else (
    if bytes_eq word (codes "openrecv") then Asks verb.OpenReceive else (
    if bytes_eq word (codes "send") then Asks verb.Send else (
    if bytes_eq word (codes "grant") then Asks verb.Grant else (
    if bytes_eq word (codes "askback") then Asks verb.AskBack else (
    if bytes_eq word (codes "interrupt") then Asks verb.Interrupt else (
    if bytes_eq word (codes "close") then Asks verb.Close else (
    if bytes_eq word (codes "offer") then Offers else (
    if bytes_eq word (codes "take") then Takes else (
    if bytes_eq word (codes "calm") then Calms else (
    if bytes_eq word (codes "server") then Serves else (
    if bytes_eq word (codes "user") then Uses else (
    if bytes_eq word (codes "type") then Types else (
    if bytes_eq word (codes "out") then Says else Nets))))))))))))))))

abbrev pub head : WorldEvent → Head
head (world.Happen (event.Net e)) = Nets
head (world.Happen event.Quiet) = Nets
head (world.Happen (event.Out m)) = Says
head (world.Happen (event.Offer h)) = Offers
head (world.Happen (event.Take h)) = Takes
head (world.Happen (event.Ask h r)) = Asks (verb_of r)
head (world.Happen (event.Server h l s)) = Serves
head (world.Happen (event.User h p l u)) = Uses
head (world.Happen (event.Typed h text)) = Types
head (world.Calm n) = Calms

head_verb : (v : Verb) → head_of (verb_text v) ≡ Asks v
head_verb verb.Contact = refl
head_verb v = refl

head_net : (e : NetEvent) → head_of (keyword (raw.Net e)) ≡ Nets
head_net (net.HostDown h) = refl
head_net e = refl

pub head_again : (strangers : Bool) (x : WorldEvent) → IsWorldEvent strangers x → head_of (first x) ≡ head x
head_again strangers (world.Happen (event.Net e)) meant = head_net e
head_again strangers (world.Happen event.Quiet) meant = absurd meant
head_again strangers (world.Happen (event.Ask h r)) meant = head_verb (verb_of r)
head_again strangers (world.Happen c) meant = refl
head_again strangers (world.Calm n) meant = refl

-- ---- the operands of a first word

abbrev pub OperandAt : Head → Type 0
OperandAt (Asks v) = Host × OperandOf v
OperandAt Offers = Host
OperandAt Takes = Host
OperandAt Calms = ℕ
OperandAt Serves = Host × ℕ × ℕ
OperandAt Uses = Host × Host × ℕ × ℕ
OperandAt Types = Host × List ℕ
OperandAt Says = HostMessage
OperandAt Nets = NetEvent

abbrev pub event_at : (k : Head) → OperandAt k → WorldEvent
event_at (Asks v) p = world.Happen (event.Ask p.0 (request_of v p.1))
event_at Offers h = world.Happen (event.Offer h)
event_at Takes h = world.Happen (event.Take h)
event_at Calms n = world.Calm n
event_at Serves p = world.Happen (event.Server p.0 p.1 p.2)
event_at Uses p = world.Happen (event.User p.0 p.1 p.2 p.3)
event_at Types p = world.Happen (event.Typed p.0 p.1)
event_at Says m = world.Happen (event.Out m)
event_at Nets e = world.Happen (event.Net e)

abbrev pub operand_at : (strangers : Bool) (x : WorldEvent) → IsWorldEvent strangers x → OperandAt (head x)
operand_at strangers (world.Happen (event.Net e)) meant = e
operand_at strangers (world.Happen event.Quiet) meant = absurd meant
operand_at strangers (world.Happen (event.Out m)) meant = m
operand_at strangers (world.Happen (event.Offer h)) meant = h
operand_at strangers (world.Happen (event.Take h)) meant = h
operand_at strangers (world.Happen (event.Ask h r)) meant = (h, requests.operand r)
operand_at strangers (world.Happen (event.Server h l s)) meant = (h, l, s)
operand_at strangers (world.Happen (event.User h p l u)) meant = (h, p, l, u)
operand_at strangers (world.Happen (event.Typed h text)) meant = (h, text)
operand_at strangers (world.Calm n) meant = n

pub event_again : (strangers : Bool) (x : WorldEvent) (meant : IsWorldEvent strangers x) → event_at (head x) (operand_at strangers x meant) ≡ x
event_again strangers (world.Happen event.Quiet) meant = absurd meant
event_again strangers (world.Happen (event.Ask h r)) meant = ap (λ s. world.Happen (event.Ask h s)) (request_again r)
event_again strangers (world.Happen c) meant = refl
event_again strangers (world.Calm n) meant = refl

-- words that follow a first word for no operand are those of no event
no_operand : (strangers : Bool) (k : Head) (word words : List ℕ) → Lacks 32 word → head_of word ≡ k → ((z : OperandAt k) → IsWorldEvent strangers (event_at k z) → words ≢ behind (event_at k z)) → (x : WorldEvent) → IsWorldEvent strangers x → word ++ 32 ∷ words ≢ world_spelling x
no_operand strangers k word words lacks is none x meant e =
    let cut : SameCut word words (first x) (behind x) = cut_alike strangers word words x meant lacks e in
    let F : Head → Type 0 = λ j. (z : OperandAt j) → IsWorldEvent strangers (event_at j z) → words ≢ behind (event_at j z) in
    let there : F (head x) = subst F (sym is ∙ ap head_of cut.front ∙ head_again strangers x meant) none in
    let again : event_at (head x) (operand_at strangers x meant) ≡ x = event_again strangers x meant in
    there (operand_at strangers x meant) (subst (IsWorldEvent strangers) (sym again) meant) (cut.back ∙ ap behind (sym again))

-- words do not begin with a host and a space
abbrev pub NoHost : List ℕ → Type 0
NoHost words = (h : Host) (rest : List ℕ) → IsHost h → words ≢ host_text h ++ 32 ∷ rest

pub no_asking_host : (v : Verb) (words : List ℕ) → NoHost words → (strangers : Bool) (x : WorldEvent) → IsWorldEvent strangers x → verb_text v ++ 32 ∷ words ≢ world_spelling x
no_asking_host v words none strangers = no_operand strangers (Asks v) (verb_text v) words (verb_unmarked v) (head_verb v) (λ z meant e. none z.0 (arguments (request_of v z.1)) meant.0 e)

pub no_asking : (v : Verb) (words rest : List ℕ) (h : Host) → words ≡ host_text h ++ 32 ∷ rest → IsHost h → ReadsRequest v rest None → (strangers : Bool) (x : WorldEvent) → IsWorldEvent strangers x → verb_text v ++ 32 ∷ words ≢ world_spelling x
no_asking v words rest h is right none strangers = no_operand strangers (Asks v) (verb_text v) words (verb_unmarked v) (head_verb v) (λ z meant e.
    none (request_of v z.1) meant.1 (verb_again v z.1) (behind_host words rest h z.0 (arguments (request_of v z.1)) is right meant.0 e))

-- ---- lines of servers, users and terminals

pub no_server_host : (words : List ℕ) → NoHost words → (strangers : Bool) (x : WorldEvent) → IsWorldEvent strangers x → codes "server " ++ words ≢ world_spelling x
no_server_host words none strangers = no_operand strangers Serves (codes "server") words (unmarked_where 32 (codes "server") refl) refl (λ z meant e. none z.0 (two_text (z.1, z.2)) meant.0 e)

pub no_server : (words rest : List ℕ) (h : Host) → words ≡ host_text h ++ 32 ∷ rest → IsHost h → ReadsAs two_text (AreTwo 4294967295 4294967295) rest None → (strangers : Bool) (x : WorldEvent) → IsWorldEvent strangers x → codes "server " ++ words ≢ world_spelling x
no_server words rest h is right none strangers = no_operand strangers Serves (codes "server") words (unmarked_where 32 (codes "server") refl) refl (λ z meant e.
    none (z.1, z.2) (omega (arith, meant.1), omega (arith, meant.2)) (behind_host words rest h z.0 (two_text (z.1, z.2)) is right meant.0 e))

pub no_user_host : (words : List ℕ) → NoHost words → (strangers : Bool) (x : WorldEvent) → IsWorldEvent strangers x → codes "user " ++ words ≢ world_spelling x
no_user_host words none strangers = no_operand strangers Uses (codes "user") words (unmarked_where 32 (codes "user") refl) refl (λ z meant e. none z.0 (host_text z.1 ++ 32 ∷ two_text (z.2, z.3)) meant.0 e)

pub no_user_peer : (words rest : List ℕ) (h : Host) → words ≡ host_text h ++ 32 ∷ rest → IsHost h → NoHost rest → (strangers : Bool) (x : WorldEvent) → IsWorldEvent strangers x → codes "user " ++ words ≢ world_spelling x
no_user_peer words rest h is right none strangers = no_operand strangers Uses (codes "user") words (unmarked_where 32 (codes "user") refl) refl (λ z meant e.
    none z.1 (two_text (z.2, z.3)) meant.1 (behind_host words rest h z.0 (host_text z.1 ++ 32 ∷ two_text (z.2, z.3)) is right meant.0 e))

pub no_user : (words rest sockets : List ℕ) (h p : Host) → words ≡ host_text h ++ 32 ∷ rest → IsHost h → rest ≡ host_text p ++ 32 ∷ sockets → IsHost p → ReadsAs two_text (AreTwo 4294967295 4294967295) sockets None → (strangers : Bool) (x : WorldEvent) → IsWorldEvent strangers x → codes "user " ++ words ≢ world_spelling x
no_user words rest sockets h p is right there peer none strangers = no_operand strangers Uses (codes "user") words (unmarked_where 32 (codes "user") refl) refl (λ z meant e.
    none (z.2, z.3) (omega (arith, meant.2), omega (arith, meant.3)) (behind_host rest sockets p z.1 (two_text (z.2, z.3)) there peer meant.1 (behind_host words rest h z.0 (host_text z.1 ++ 32 ∷ two_text (z.2, z.3)) is right meant.0 e)))

-- a text that can't be typed, and one that can
pub text_refused : (text : List ℕ) → line_fault text ≡ Some fault.NotPrintable → list_all is_printable text ≢ true
text_refused text is all =
    let none : line_fault text ≡ None = ap (λ b. if b then None else Some fault.NotPrintable) all in
    some_none (sym is ∙ none) where
      some_none : {f : TerminalFault} → Some f ≡ None → ⊥
      some_none e = cc

pub text_kept : (text : List ℕ) → line_fault text ≡ None → list_all is_printable text ≡ true
text_kept text is = by (list_all is_printable text) is where
  by : (b : Bool) → (if b then None else Some fault.NotPrintable) ≡ None → b ≡ true
  by true e = refl
  by false e = cc

pub no_typing_host : (words : List ℕ) → NoHost words → (strangers : Bool) (x : WorldEvent) → IsWorldEvent strangers x → codes "type " ++ words ≢ world_spelling x
no_typing_host words none strangers = no_operand strangers Types (codes "type") words (unmarked_where 32 (codes "type") refl) refl (λ z meant e. none z.0 z.1 meant.0 e)

pub no_typing : (words text : List ℕ) (h : Host) → words ≡ host_text h ++ 32 ∷ text → IsHost h → list_all is_printable text ≢ true → (strangers : Bool) (x : WorldEvent) → IsWorldEvent strangers x → codes "type " ++ words ≢ world_spelling x
no_typing words text h is right none strangers = no_operand strangers Types (codes "type") words (unmarked_where 32 (codes "type") refl) refl (λ z meant e.
    none (subst (λ t. list_all is_printable t ≡ true) (sym (behind_host words text h z.0 z.1 is right meant.0 e)) meant.1))

-- ---- lines of strangers

pub no_stranger : (words : List ℕ) (x : WorldEvent) → IsWorldEvent false x → codes "out " ++ words ≢ world_spelling x
no_stranger words = no_operand false Says (codes "out") words (unmarked_where 32 (codes "out") refl) refl (λ z meant e. false≢true meant.0)

pub no_message : (words : List ℕ) → ((m : HostMessage) → IsMessage m → words ≢ message_text m) → (strangers : Bool) (x : WorldEvent) → IsWorldEvent strangers x → codes "out " ++ words ≢ world_spelling x
no_message words none strangers = no_operand strangers Says (codes "out") words (unmarked_where 32 (codes "out") refl) refl (λ z meant e. none z meant.1 e)

-- ---- a line that needs no memory

pub no_plain : (word rest : List ℕ) → Lacks 32 word → ((v : Verb) → IsVerb v → word ≢ verb_text v) → word ≢ codes "type" → word ≢ codes "out" → word ≢ codes "offer" → word ≢ codes "take" → word ≢ codes "server" → word ≢ codes "user" → word ≢ codes "calm"
    → ((e : NetEvent) → IsNetEvent e → word ++ 32 ∷ rest ≢ net_spelling e) → (strangers : Bool) (x : WorldEvent) → IsWorldEvent strangers x → word ++ 32 ∷ rest ≢ world_spelling x
no_plain word rest h asked typed out offer take server user calm none strangers x meant e = by x meant e (cut_alike strangers word rest x meant h e).front where
  by : (x : WorldEvent) → IsWorldEvent strangers x → word ++ 32 ∷ rest ≡ world_spelling x → word ≡ first x → ⊥
  by (world.Happen (event.Net e)) meant is same = none e meant is
  by (world.Happen event.Quiet) meant is same = absurd meant
  by (world.Happen (event.Out m)) meant is same = out same
  by (world.Happen (event.Offer h)) meant is same = offer same
  by (world.Happen (event.Take h)) meant is same = take same
  by (world.Happen (event.Ask h r)) meant is same = asked (verb_of r) tt same
  by (world.Happen (event.Server h l s)) meant is same = server same
  by (world.Happen (event.User h p l u)) meant is same = user same
  by (world.Happen (event.Typed h text)) meant is same = typed same
  by (world.Calm n) meant is same = calm same
