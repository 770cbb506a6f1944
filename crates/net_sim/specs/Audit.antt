-- What an audit says of a log, of its lives and of what was handed over in them: whether their stamps name requests, and then which part of a safe
-- book fails first.
use Rattle.std.specs.Prelude.{◌≡◌, ℕ, Bool, List, length, IsSome, codes}
use Rattle.std.specs.List.{Contains}
use Rattle.interface.specs.Messages.{SafeMessages}
use Rattle.interface.specs.declared.address.Flow.{Flow}
use Rattle.interface.specs.declared.crossing.Crossing.{Crossing}
use Rattle.interface.specs.declared.message.HostMessage.{HostMessage}
use Rattle.promise.specs.declared.life.Life.{Life}
use Rattle.promise.specs.Formed.{CrossedAt, going, coming}
use Rattle.promise.specs.Safe.{SafeBook, SafePartners, SafeStreams, SafeGrants, before, control_flow, last_out}
use Rattle.net_sim.specs.declared.auditing.said.Audit.{Audit}
use Rattle.net_sim.specs.declared.auditing.said.Audit.TheVariants as audit
use Rattle.net_sim.specs.declared.auditing.said.Part.{Part}
use Rattle.net_sim.specs.declared.auditing.said.Part.TheVariants as part

-- ---- well-formed

-- a message of this flow crossed at a place, going out or coming in
abbrev pub Passes : (HostMessage → Crossing) → Flow → ℕ → List Crossing → Type 0
Passes way f place log = (m : HostMessage) × (m.flow ≡ f) × CrossedAt place (way m) log

-- the stamps of a life name messages on link 0: at its own stamp one went out of its host to its peer, and at its partner's one came in from
-- its peer, of whose flow a message went out before
pub record IsStamped (log : List Crossing) (x : Life) : Type 0 where
  pub own : Passes going (control_flow x.host x.peer) x.own_stamp log
  pub partner : Passes coming (control_flow x.peer x.host) x.partner_stamp log
  pub asked : IsSome (last_out (control_flow x.peer x.host) (before x.partner_stamp log))

-- there is one list of bits for each life, and the stamps of each life name messages
pub record IsWellFormed (log : List Crossing) (lives : List Life) (handed : List (List Bool)) : Type 0 where
  pub counts : length lives ≡ length handed
  pub stamped : (x : Life) → Contains lives x → IsStamped log x

-- ---- the parts of a safe book

-- their numbers in a safe book
abbrev pub number_of : Part → ℕ
number_of part.Messages = 1
number_of part.Partners = 2
number_of part.Streams = 3
number_of part.Grants = 4

-- how they are printed
abbrev pub part_text : Part → List ℕ
part_text part.Messages = codes "messages"
part_text part.Partners = codes "partners"
part_text part.Streams = codes "streams"
part_text part.Grants = codes "grants"

-- a part holds
abbrev pub Holds : Part → List Crossing → List Life → List (List Bool) → Type 0
Holds part.Messages log lives handed = SafeMessages log
Holds part.Partners log lives handed = SafePartners log lives
Holds part.Streams log lives handed = SafeStreams log lives handed
Holds part.Grants log lives handed = SafeGrants log lives

-- the parts before it hold
abbrev pub HoldBefore : Part → List Crossing → List Life → List (List Bool) → Type 0
HoldBefore part.Messages log lives handed = Unit {0}
HoldBefore part.Partners log lives handed = SafeMessages log
HoldBefore part.Streams log lives handed = SafeMessages log × SafePartners log lives
HoldBefore part.Grants log lives handed = SafeMessages log × SafePartners log lives × SafeStreams log lives handed

-- ---- the audit

-- what each answer says
abbrev pub Says : Audit → List Crossing → List Life → List (List Bool) → Type 0
Says audit.Kept log lives handed = IsWellFormed log lives handed × SafeBook log lives handed
Says audit.Malformed log lives handed = IsWellFormed log lives handed → ⊥
Says (audit.Broken p) log lives handed = IsWellFormed log lives handed × HoldBefore p log lives handed × (Holds p log lives handed → ⊥)
