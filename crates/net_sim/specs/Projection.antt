-- One host's program as the law of resets sees it: how far each reset has come, whether an RRP is owed, what is outstanding,
-- and RST and RRP among all texts (NIC 8246, RST and RRP).
use Rattle.std.specs.Prelude.{◌≡◌, ℕ, ◌==◌, Bool, true, false, not, if◌then◌else◌, List, [], ◌∷◌, length, Option, Some, None, is_some}
use Rattle.std.specs.List.{list_any}
use Rattle.interface.specs.Host.{Host}
use Rattle.interface.specs.declared.crossing.Crossing.{Crossing}
use Rattle.interface.specs.declared.crossing.Crossing.TheVariants as crossing
use Rattle.ncp_control.specs.declared.command.Command.{Command}
use Rattle.ncp_control.specs.declared.command.Command.TheVariants as command
use Rattle.host_pairs.specs.Control.{Order, Legal, Wrong, orders_of}
use Rattle.host_pairs.specs.Pair.{PairState}
use Rattle.host_pairs.specs.Entries.{is_busy}
use Rattle.ncp_control.specs.Phases as program
use Rattle.host_pairs.specs.declared.entry.Entry.{Entry}
use Rattle.sockets.specs.declared.request.Request.{Request}
use Rattle.sockets.specs.declared.request.Request.TheVariants as request
use Rattle.reset_law.specs.Events.{Message, Reset, Reply, Other, Event, Contact, Out, In, Told, Down, Up, Idle}
use Rattle.reset_law.specs.Pairs.{Pair}

-- ---- what a text is for a reset

abbrev pub is_rst : Command → Bool
is_rst command.Rst = true
is_rst c = false

abbrev pub is_rrp : Command → Bool
is_rrp command.Rrp = true
is_rrp c = false

-- a control text that is one command, and passes
abbrev pub is_alone : (Command → Bool) → List Order → Bool
is_alone test (Legal c ∷ []) = test c
is_alone test orders = false

-- RST and RRP are control messages of one command; any other text is just a text
abbrev pub control_message : List Bool → List Order → Message
control_message text orders = if is_alone is_rst orders then Reset else (if is_alone is_rrp orders then Reply else Other text)

abbrev pub message_on : ℕ → List Bool → Message
message_on link text = if link == 0 then control_message text (orders_of text) else Other text

-- ---- events

abbrev pub event_of : Crossing → Event
event_of (crossing.Out m) = Out m.flow.source m.flow.destination m.flow.link.0 (message_on m.flow.link.0 m.text)
event_of (crossing.In m) = In m.flow.source m.flow.destination m.flow.link.0 (message_on m.flow.link.0 m.text)
event_of (crossing.Answer kind f) = Told f.source f.destination f.link.0 kind
event_of (crossing.Down h) = Down h
event_of (crossing.Up h) = Up h

-- of what a user asks for a contact only matters to a reset
abbrev pub event_by : Host → Request → Event
event_by h (request.Contact peer) = Contact h peer
event_by h r = Idle

-- ---- a pair

-- a request of this host went out for one of these ends
abbrev pub has_asked : List Entry → Bool
has_asked entries = list_any (λ e. is_some e.asked) entries

-- an end whose data are sent on the control link
abbrev pub on_control : Option ℕ → Bool
on_control None = false
on_control (Some link) = link == 0

abbrev pub has_control : List Entry → Bool
has_control entries = list_any (λ e. on_control e.link) entries

-- an RTS that names the control link
abbrev pub names_control : Command → Bool
names_control (command.Rts receive send link) = link == 0
names_control c = false

-- an ERR that doesn't quote ten octets
abbrev pub misquotes : Command → Bool
misquotes (command.Err code detail) = not (length detail == 10)
misquotes c = false

-- a command that may wait to go out: RST and RRP are never queued, an RTS names a connection's link, and an ERR quotes ten octets
abbrev pub IsQueued : Command → Type 0
IsQueued c = (is_rst c ≡ false) × (is_rrp c ≡ false) × (names_control c ≡ false) × (misquotes c ≡ false)

abbrev pub ArePlain : List Command → Type 0
ArePlain [] = Unit {0}
ArePlain (c ∷ cs) = IsQueued c × ArePlain cs

-- a host's program is, for one peer, where the law of resets has it
pub record Agrees (q : PairState) (p : Pair) : Type 0 where
  pub phase : p.phase ≡ q.phase
  pub owed : p.owed ≡ q.owed
  pub busy : (link : ℕ) → is_some (p.out link) ≡ is_busy q.busy link
  -- an end whose request went out is in a pair that is ready, and something was said since its connections were dropped last
  pub ready : has_asked q.entries ≡ true → program.is_ready q.phase ≡ true
  pub begun : has_asked q.entries ≡ true → p.begun ≡ true
  pub plain : ArePlain q.queue
  -- data are sent on connections' links only
  pub linked : has_control q.entries ≡ false

-- ---- texts

-- RST and RRP don't occur among other commands, and an RTS names a connection's link
abbrev pub IsPlain : Order → Type 0
IsPlain (Legal c) = (is_rst c ≡ false) × (is_rrp c ≡ false) × (names_control c ≡ false)
IsPlain (Wrong code octets) = Unit {0}

abbrev pub AllPlain : List Order → Type 0
AllPlain [] = Unit {0}
AllPlain (o ∷ os) = IsPlain o × AllPlain os

-- a control text is an RST or an RRP only, or has neither
abbrev pub IsApart : ℕ → List Bool → Message → Type 0
IsApart link text Reset = Unit {0}
IsApart link text Reply = Unit {0}
IsApart link text (Other same) = (link == 0) ≡ true → AllPlain (orders_of text)
