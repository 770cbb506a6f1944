-- A session: the lines of a script as they come, and what each is answered.
use Rattle.std.specs.Prelude.{◌≡◌, ◌≢◌, ◌⊎◌, ◌≤◌, ◌+◌, ◌++◌, ℕ, List, [], ◌∷◌, Option, Result, Ok, Err, take}
use Rattle.std.specs.Io.KnownBytes.{Appends, IsAtEnd, Keeps}
use Rattle.std.specs.List.{flat_map}
use Rattle.script.specs.Input.{ended_line}
use Rattle.script.specs.Script.{AskForAs, IsFirstBadAs, lines_of}
use Rattle.command_line.specs.declared.fault.ScriptFault.{ScriptFault}
use Rattle.command_line.specs.declared.fault.ScriptFault.TheVariants as fault
use Rattle.session.specs.Hearing.{Hearing, Hears, IsEnded, IsLine, IsTooLong}

-- a line of a script, with its end if it has one, and its answer: what its event shows, or nothing
pub record Turn : Type 0 where
  pub line : List ℕ
  pub answer : List ℕ

-- the lines, and the answers, one after the other
abbrev pub script_of : List Turn → List ℕ
script_of turns = flat_map (λ (t : Turn). t.line) turns

abbrev pub answers_of : List Turn → List ℕ
answers_of turns = flat_map (λ (t : Turn). t.answer) turns

-- what is written: after each answer an empty line
abbrev pub session_of : List Turn → List ℕ
session_of turns = flat_map (λ (t : Turn). ended_line t.answer) turns

-- each is a line with its end; the last one may lack it
abbrev pub AreLines : List Turn → Type 0
AreLines [] = Unit {0}
AreLines (t ∷ []) = IsEnded t.line ⊎ (IsLine t.line × (t.line ≢ []))
AreLines (t ∷ u ∷ turns) = IsEnded t.line × AreLines (u ∷ turns)

-- the lines are answered in turn: the answers to the first lines are together what is printed of these lines
pub record AnswersInTurn (Prints : List ℕ → List ℕ → Type 0) (turns : List Turn) : Type 0 where
  pub lines : AreLines turns
  pub in_turn : (n : ℕ) → Prints (script_of (take n turns)) (answers_of (take n turns))

-- ---- how a session ends

-- what is said of scripts: what is printed of one, and which line of one is the first that is no event
pub record Reading : Type 1 where
  pub Prints : List ℕ → List ℕ → Type 0
  pub Refuses : List ℕ → ℕ → Type 0

-- these lines were heard and answered in turn, and no more octets than an input may have
pub record Serves (Prints : List ℕ → List ℕ → Type 0) (old new : Hearing) (before after : Option (List ℕ)) : Type 0 where
  pub turns : List Turn
  pub heard : Hears old new (script_of turns)
  pub answers : AnswersInTurn Prints turns
  pub short : new.heard ≤ 268435456
  pub written : Appends before after (session_of turns)

-- why no more lines were answered, and what was written since the last answer: nothing, and where memory ran out some part of one more.
-- After a failed write the writer knows
abbrev pub IsCause : (ℕ → Type 0) → Type 0 → ScriptFault → Option (List ℕ) → Option (List ℕ) → Type 0
IsCause Refused Long (fault.BadLine number) before after = Refused number × Keeps before after
IsCause Refused Long fault.TooLong before after = Long × Keeps before after
IsCause Refused Long fault.CannotRead before after = Keeps before after
IsCause Refused Long fault.OutOfMemory before after = (part : List ℕ) × Appends before after part
IsCause Refused Long fault.CannotWrite before after = Unit {0}
IsCause Refused Long fault.BadTopology before after = ⊥
IsCause Refused Long fault.BadOptions before after = ⊥

-- the next line that is heard after this script is the first that is no event
abbrev pub IsRefused : (List ℕ → ℕ → Type 0) → List ℕ → Hearing → ℕ → Type 0
IsRefused Refuses script h number =
    (line : List ℕ) × (next : Hearing) × Hears h next line × (next.heard ≤ 268435456) × Refuses (script ++ line) number

-- the lines before the fault were answered in turn, and no others
pub record Breaks (r : Reading) (old : Hearing) (f : ScriptFault) (before after : Option (List ℕ)) : Type 0 where
  pub last : Hearing
  pub said : Option (List ℕ)
  pub serves : Serves r.Prints old last before said
  pub cause : IsCause (IsRefused r.Refuses (script_of serves.turns) last) (IsTooLong last) f said after

-- all lines were answered in turn, to the end of the input; or those before the fault, unless memory ran out before the first was heard
abbrev pub Ends : Reading → Hearing → Option (List ℕ) → Option (List ℕ) → Result (Unit {0}) ScriptFault → Type 0
Ends r old before after (Ok done) = (last : Hearing) × Serves r.Prints old last before after × IsAtEnd last.left
Ends r old before after (Err f) = Breaks r old f before after ⊎ ((f ≡ fault.OutOfMemory) × Keeps before after)

-- ---- on a network, whatever it is

-- how events may be replayed: the network before, the events, the network after, and what is printed of them
abbrev pub Replaying : Type 0 → Type 0 → Type 1
Replaying S E = S → List E → S → List ℕ → Type 0

-- they were replayed so, and what is printed of them was written
abbrev pub Writes : {S E : Type 0} → Replaying S E → S → List E → S → Option (List ℕ) → Option (List ℕ) → Type 0
Writes Replays old events new before after = (said : List ℕ) × Replays old events new said × Appends before after said

-- it can be done in parts
abbrev pub GoesOn : {S E : Type 0} → Replaying S E → Type 0
GoesOn {S} {E} Replays = (old mid new : S) (events more : List E) (said rest : List ℕ) → Replays old events mid said
    → Replays mid more new rest → Replays old (events ++ more) new (said ++ rest)

-- the events that a script asks for lead from one network to the other, and that much is printed
pub record Leads {S E : Type 0} (spelled : E → List ℕ) (IsMeant : E → Type 0) (Replays : Replaying S E) (opening now : S)
    (script said : List ℕ) : Type 0 where
  pub events : List E
  pub asked : AskForAs spelled IsMeant events (lines_of script)
  pub replayed : Replays opening events now said

-- they lead somewhere
abbrev pub Prints : {S E : Type 0} → (E → List ℕ) → (E → Type 0) → Replaying S E → S → List ℕ → List ℕ → Type 0
Prints {S} {E} spelled IsMeant Replays opening script said = (now : S) × Leads spelled IsMeant Replays opening now script said

-- what is said of scripts on it
abbrev pub reading : {S E : Type 0} → (E → List ℕ) → (E → Type 0) → Replaying S E → S → Reading
reading {S} {E} spelled IsMeant Replays opening =
    record { Prints = Prints spelled IsMeant Replays opening; Refuses = IsFirstBadAs spelled IsMeant }

-- one line is answered, and an empty line is written
pub record IsAnswered {S E : Type 0} (spelled : E → List ℕ) (IsMeant : E → Type 0) (Replays : Replaying S E) (old new : S)
    (line : List ℕ) (before after : Option (List ℕ)) : Type 0 where
  pub answer : List ℕ
  pub leads : Leads spelled IsMeant Replays old new line answer
  pub written : Appends before after (ended_line answer)

-- the line after this many is no event
abbrev pub IsBadLine : {E : Type 0} → (E → List ℕ) → (E → Type 0) → List ℕ → ℕ → ℕ → Type 0
IsBadLine spelled IsMeant line passed number = (number ≡ passed + 1) × (n : ℕ) × IsFirstBadAs spelled IsMeant line n
