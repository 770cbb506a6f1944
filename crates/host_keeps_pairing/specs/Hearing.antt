-- What a host's user asks for, and what it finds where it takes a message of its peer (NIC 8246, control commands).
use Rattle.std.specs.Prelude.{◌≡◌, ℕ, false, if◌then◌else◌, List, [], ◌∷◌}
use Rattle.std.specs.List.{list_any}
use Rattle.interface.specs.Host.{Host, same_host}
use Rattle.ncp_control.specs.Command.{is_alone}
use Rattle.ncp_control.specs.declared.command.Command.{Command}
use Rattle.ncp_control.specs.declared.command.Command.TheVariants as command
use Rattle.host_pairs.specs.Turn.{TurnState, order_taken}
use Rattle.host_pairs.specs.Control.{Order, Legal, Wrong}
use Rattle.host_pairs.specs.Entries.{sends_on}
use Rattle.sockets.specs.declared.request.Request.{Request}
use Rattle.sockets.specs.declared.request.Request.TheVariants as request
use Rattle.pairing_law.specs.Ends.{End, nothing}
use Rattle.host_pairs.specs.declared.entry.Entry.{Entry}

-- a contact drops all ends with its peer; nothing else that a user asks for changes what was said or heard
abbrev pub after_request : Host → Request → End → End
after_request h (request.Contact peer) x = if same_host h peer then nothing else x
after_request h r x = x

-- an RTS names a link that no sending end has
abbrev pub NamesFreeLink : Command → List Entry → Type 0
NamesFreeLink (command.Rts receive send link) entries = list_any (sends_on link) entries ≡ false
NamesFreeLink c entries = Unit {0}

-- neither an RST nor an RRP
abbrev pub IsJoint : Order → Type 0
IsJoint (Legal c) = is_alone c ≡ false
IsJoint (Wrong code octets) = Unit {0}

abbrev pub AreJoint : List Order → Type 0
AreJoint [] = Unit {0}
AreJoint (o ∷ orders) = IsJoint o × AreJoint orders

-- each RTS does, where its turn comes
abbrev pub IsFreeIn : Order → TurnState → Type 0
IsFreeIn (Legal c) t = NamesFreeLink c t.pair.entries
IsFreeIn (Wrong code octets) t = Unit {0}

abbrev pub AreFree : Host → ℕ → List Order → TurnState → Type 0
AreFree peer stamp [] t = Unit {0}
AreFree peer stamp (o ∷ orders) t = IsFreeIn o t × AreFree peer stamp orders (order_taken peer stamp o t)
