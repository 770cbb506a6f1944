-- A session of an input.
use Rattle.std.specs.Prelude.{◌≡◌, ◌⊎◌, ◌++◌, Bool, List, Option, Result, Ok, Err, Some, [], codes, false, length, ℕ}
use Rattle.std.specs.Io.KnownBytes.{Appends, Keeps}
use Rattle.interface.specs.Calls.{Calls}
use Rattle.interface.specs.Host.{Host}
use Rattle.leader1822.specs.Boxes.{plain_calls}
use Rattle.replay.specs.declared.print.Detail.TheVariants.{Texts}
use Rattle.script.specs.Script.{lines_of}
use Rattle.subnet.specs.Working.{subnet_calls}
use Rattle.topology.specs.Topology.{TopologyFields}
use Rattle.topology.specs.declared.network.CarrierKind.{CarrierKind}
use Rattle.topology.specs.declared.network.CarrierKind.TheVariants as kind
use Rattle.command_line.specs.Carriers.{plain_of, subnet_of}
use Rattle.command_line.specs.Events.{Asked, AsksFor, IsFirstBadIn, are_some}
use Rattle.command_line.specs.Input.{IsScriptFault}
use Rattle.command_line.specs.Replayed.{ReplaysFrom, ReplaysInput}
use Rattle.command_line.specs.declared.fault.ScriptFault.{ScriptFault}
use Rattle.command_line.specs.declared.fault.ScriptFault.TheVariants as fault
use Rattle.session.specs.Head.{HasNoHead, IsHead}
use Rattle.session.specs.Hearing.{Hearing}
use Rattle.session.specs.Turns.{AnswersInTurn, Breaks, Ends, Reading, Turn, script_of, session_of}

-- what `--texts` prints of an input with this head, but for the last line `end`
abbrev pub PrintsAfter : List ℕ → List ℕ → List ℕ → Type 0
PrintsAfter head script said = ReplaysInput false Texts (head ++ script) (Some []) (Some (said ++ codes "end\n"))

-- the lines of an input's script were answered in turn: the answers to the first of them are together what `--texts` prints of an input that ends
-- with them. That is written, with an empty line after each answer, and a last line `end`
pub record IsSession (octets : List ℕ) (before after : Option (List ℕ)) : Type 0 where
  pub head : List ℕ
  pub document : List ℕ
  pub opens : IsHead head document
  pub turns : List Turn
  pub whole : octets ≡ head ++ script_of turns
  pub answers : AnswersInTurn (PrintsAfter head) turns
  pub written : Appends before after (session_of turns ++ codes "end\n")

-- what is said of the scripts that follow this head: what is printed of them, and which of their lines is the first that is no event
abbrev pub after_head : List ℕ → Reading
after_head head = record { Prints = PrintsAfter head; Refuses = λ script number. IsScriptFault (head ++ script) (fault.BadLine number) }

-- ---- how a session ends early

-- octets begin with this head
pub record Opens (octets head rest : List ℕ) : Type 0 where
  pub document : List ℕ
  pub opens : IsHead head document
  pub whole : octets ≡ head ++ rest

-- a session ended with this fault: nothing is written, as there is no head, or one that is no input by itself; or the lines before the fault are
-- answered in turn
abbrev pub EndsEarly : List ℕ → ScriptFault → Option (List ℕ) → Option (List ℕ) → Type 0
EndsEarly octets f before after = (HasNoHead octets f × Keeps before after)
    ⊎ ((head : List ℕ) × (rest : List ℕ) × Opens octets head rest
    × ((IsScriptFault head f × Keeps before after) ⊎ Breaks (after_head head) (record { heard = length head; left = Some rest }) f before after))

-- ---- what the contracts of private functions say

-- all lines are answered in turn, or those before the fault; or the head is no input by itself
abbrev pub Serving : List ℕ → Hearing → Option (List ℕ) → Option (List ℕ) → Result (Unit {0}) ScriptFault → Type 0
Serving head old before after (Ok done) = Ends (after_head head) old before after (Ok done)
Serving head old before after (Err f) = (IsScriptFault head f × Keeps before after) ⊎ Breaks (after_head head) old f before after

-- what is printed of a script; over a carrier, and over the one that a topology names
abbrev pub PrintsOver : {C : Type 0} → Calls C → C → Bool → List Host → List ℕ → List ℕ → Type 0
PrintsOver calls carrier raw strangers script said = (events : Asked) × AsksFor raw (are_some strangers) events (lines_of script)
    × ReplaysFrom calls strangers carrier false Texts events (Some []) (Some (said ++ codes "end\n"))

abbrev pub PrintsOn : CarrierKind → TopologyFields → List ℕ → List ℕ → Type 0
PrintsOn kind.Plain t script said = PrintsOver plain_calls (plain_of t) t.raw t.strangers script said
PrintsOn kind.Subnet t script said = PrintsOver subnet_calls (subnet_of t) t.raw t.strangers script said

-- with which of its lines is the first that is no event
abbrev pub over : {C : Type 0} → Calls C → C → Bool → List Host → Reading
over calls carrier raw strangers = record { Prints = PrintsOver calls carrier raw strangers; Refuses = IsFirstBadIn raw (are_some strangers) }

abbrev pub on : TopologyFields → Reading
on t = record { Prints = PrintsOn t.carrier t; Refuses = IsFirstBadIn t.raw (are_some t.strangers) }
