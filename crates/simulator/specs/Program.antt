-- The whole program: what the words of its command line have it do, and how it ends.
use Rattle.std.specs.Prelude.{◌≡◌, ◌≢◌, ◌⊎◌, ◌↔◌, ℕ, Bool, true, false, List, Option, Some, None, Result, Ok, Err, IfSome, IfOk, IfErr, MatchResult, OnOk, ◌++◌, codes}
use Rattle.std.specs.Io.KnownBytes.{Appends, IsAtEnd, Keeps}
use Rattle.command_line.specs.declared.verdict.Verdict.{Verdict}
use Rattle.command_line.specs.Audits.{Audited, AuditsLog, IsAuditFault, IsSomeLog, audit_text, status_at, status_said}
use Rattle.command_line.specs.Faults.{script_text, status_of}
use Rattle.command_line.specs.Input.{IsScriptFault, IsSomeInput}
use Rattle.command_line.specs.Logs.{Logged, LogsInput}
use Rattle.command_line.specs.Replayed.{Ran, RanInPart, ReplaysInput, StopsInput}
use Rattle.simulator.specs.Traced.{TraceStops, Traced, TracedInPart, TracesInput}
use Rattle.command_line.specs.Options.{detail_of, options_of, task_of}
use Rattle.command_line.specs.Reading.{ReadsAll, ReadsFirst}
use Rattle.command_line.specs.About.{version_text}
use Rattle.command_line.specs.declared.about.TheConstants.{HELP}
use Rattle.command_line.specs.declared.auditing.AuditFault.{AuditFault}
use Rattle.command_line.specs.declared.auditing.AuditFault.TheVariants as log
use Rattle.command_line.specs.declared.fault.ScriptFault.{ScriptFault}
use Rattle.command_line.specs.declared.fault.ScriptFault.TheVariants as script
use Rattle.command_line.specs.declared.options.Options.{Options}
use Rattle.command_line.specs.declared.options.Task.{Task}
use Rattle.command_line.specs.declared.options.Task.TheVariants as task
use Rattle.session.specs.Session.{EndsEarly, IsSession}
use Rattle.simulator.specs.declared.program.Done.{Done}
use Rattle.simulator.specs.declared.program.Done.TheVariants as did
use Rattle.simulator.specs.declared.program.ProgramFault.{ProgramFault}
use Rattle.simulator.specs.declared.program.ProgramFault.TheVariants as fault

-- ---- its end

-- what the program answers, of a replay, a log, a trace or what it says of itself, and of an audit
abbrev pub finished_as : Result (Unit {0}) ScriptFault → Result Done ProgramFault
finished_as (Ok done) = Ok did.Written
finished_as (Err f) = Err (fault.Script f)

abbrev pub audited_as : Result Verdict AuditFault → Result Done ProgramFault
audited_as (Ok said) = Ok (did.Audited said)
audited_as (Err f) = Err (fault.Audit f)

-- the exit status
abbrev pub exit_status : Result Done ProgramFault → ℕ
exit_status (Ok did.Written) = 0
exit_status (Ok (did.Audited said)) = status_said said
exit_status (Err (fault.Script f)) = status_of f
exit_status (Err (fault.Audit f)) = status_at f

-- ---- what it reads and writes

-- what a reader and a writer show of it: the octets to read and those that are left, whether a read failed, and what was written before and after
pub record Sides : Type 0 where
  pub input : Option (List ℕ)
  pub left : Option (List ℕ)
  pub unread : Bool
  pub before : Option (List ℕ)
  pub after : Option (List ℕ)

abbrev pub sides : Option (List ℕ) → Option (List ℕ) → Bool → Option (List ℕ) → Option (List ℕ) → Sides
sides input left unread before after = record { input = input; left = left; unread = unread; before = before; after = after }

-- of an input that is only read, and of one that is replayed
abbrev pub Replayed : Bool → Options → Sides → Type 0
Replayed true options s = Appends s.before s.after (codes "ok\n")
Replayed false options s =
    Ran options.book (detail_of options.texts) s.before s.after
    × IfSome s.input (λ octets. ReplaysInput options.book (detail_of options.texts) octets s.before s.after)

-- with these options an input is replayed, or only read; or its first fault is given, and where memory runs out the first part is written. Unless a read
-- fails or memory runs out, all is read, up to an octet more than an input may have; so it is with the log and the trace
pub record EndsReplay (options : Options) (s : Sides) (r : Result (Unit {0}) ScriptFault) : Type 0 where
  pub replayed : OnOk r (Replayed options.check options s)
  pub read : s.unread ≡ false → IfSome s.input (λ octets. MatchResult r (λ _. IsSomeInput octets) (IsScriptFault octets))
  pub options_read : IfErr r (λ f. f ≢ script.BadOptions)
  pub reads : ReadsFirst s.input s.left
  pub reads_all : r ≢ Err script.CannotRead → r ≢ Err script.OutOfMemory → ReadsAll s.input s.left
  pub ran_in_part : r ≡ Err script.OutOfMemory → Keeps s.before s.after ⊎ RanInPart (detail_of options.texts) s.before s.after
  pub first_part : r ≡ Err script.OutOfMemory → IfSome s.input (λ octets. Keeps s.before s.after ⊎ StopsInput (detail_of options.texts) octets s.before s.after)
  -- an input that is only read has no first part
  pub nothing : options.check ≡ true → r ≡ Err script.OutOfMemory → Keeps s.before s.after

-- an input is replayed and its log is written, or the first fault is given. Where memory runs out nothing is written
pub record EndsLog (s : Sides) (r : Result (Unit {0}) ScriptFault) : Type 0 where
  pub ran : OnOk r (Logged s.before s.after)
  pub logged : OnOk r (IfSome s.input (λ octets. LogsInput octets s.before s.after))
  pub read : s.unread ≡ false → IfSome s.input (λ octets. MatchResult r (λ _. IsSomeInput octets) (IsScriptFault octets))
  pub options_read : IfErr r (λ f. f ≢ script.BadOptions)
  pub reads : ReadsFirst s.input s.left
  pub reads_all : r ≢ Err script.CannotRead → r ≢ Err script.OutOfMemory → ReadsAll s.input s.left
  pub nothing : r ≡ Err script.OutOfMemory → Keeps s.before s.after

-- an input is replayed and its trace is written, or the first fault is given, and where memory runs out the first part is written
pub record EndsTrace (s : Sides) (r : Result (Unit {0}) ScriptFault) : Type 0 where
  pub ran : OnOk r (Traced s.before s.after)
  pub traced : OnOk r (IfSome s.input (λ octets. TracesInput octets s.before s.after))
  pub read : s.unread ≡ false → IfSome s.input (λ octets. MatchResult r (λ _. IsSomeInput octets) (IsScriptFault octets))
  pub options_read : IfErr r (λ f. f ≢ script.BadOptions)
  pub reads : ReadsFirst s.input s.left
  pub reads_all : r ≢ Err script.CannotRead → r ≢ Err script.OutOfMemory → ReadsAll s.input s.left
  pub ran_in_part : r ≡ Err script.OutOfMemory → Keeps s.before s.after ⊎ TracedInPart s.before s.after
  pub first_part : r ≡ Err script.OutOfMemory → IfSome s.input (λ octets. Keeps s.before s.after ⊎ TraceStops octets s.before s.after)

-- the lines of an input are answered in turn, to its end; or those before a fault
pub record EndsLive (s : Sides) (r : Result (Unit {0}) ScriptFault) : Type 0 where
  pub session : OnOk r (IfSome s.input (λ octets. IsSession octets s.before s.after))
  pub early : IfErr r (λ f. IfSome s.input (λ octets. EndsEarly octets f s.before s.after))
  pub options_read : IfErr r (λ f. f ≢ script.BadOptions)

-- a log is audited and what the audit says is written, or the first fault is given. Unless a read fails or memory runs out, all of it is read; where
-- memory runs out nothing is written
pub record EndsAudit (s : Sides) (r : Result Verdict AuditFault) : Type 0 where
  pub audited : IfOk r (λ said. Audited said s.before s.after)
  pub says : IfOk r (λ said. IfSome s.input (λ octets. AuditsLog octets said s.before s.after))
  pub read : s.unread ≡ false → IfSome s.input (λ octets. MatchResult r (λ _. IsSomeLog octets) (IsAuditFault octets))
  pub reads_all : r ≢ Err log.CannotRead → r ≢ Err log.OutOfMemory → IsAtEnd s.left
  pub nothing : r ≡ Err log.OutOfMemory → Keeps s.before s.after

-- what the program says of itself is written, before anything is read
pub record Answers (text : List ℕ) (s : Sides) (r : Result Done ProgramFault) : Type 0 where
  pub unread : s.left ≡ s.input
  pub written : OnOk r (Appends s.before s.after text)
  pub ends : (r ≡ Ok did.Written) ⊎ (r ≡ Err (fault.Script script.CannotWrite))

-- this was written when it ended so, and it is handed on. Where memory ran out and that fails, the failed write is reported
abbrev pub HandsOn : Result (Unit {0}) ScriptFault → Option (List ℕ) → Option (List ℕ) → Result Done ProgramFault → Type 0
HandsOn ended written after r = ((r ≡ finished_as ended) × Keeps written after) ⊎ ((ended ≡ Err script.OutOfMemory) × (r ≡ Err (fault.Script script.CannotWrite)))

-- whether a task is answered before anything is read
abbrev pub is_answered : Option Task → Bool
is_answered (Some task.Help) = true
is_answered (Some task.Version) = true
is_answered asked = false

-- the words ask for a task, or for a replay with options; other words are refused
abbrev pub EndsTask : Option Task → Option Options → Sides → Result Done ProgramFault → Type 0
EndsTask (Some task.Log) options s r = (ended : Result (Unit {0}) ScriptFault) × (r ≡ finished_as ended) × EndsLog s ended
EndsTask (Some task.Trace) options s r =
    (ended : Result (Unit {0}) ScriptFault) × (written : Option (List ℕ)) × HandsOn ended written s.after r × EndsTrace (record s { after = written }) ended
EndsTask (Some task.Audit) options s r = (ended : Result Verdict AuditFault) × (r ≡ audited_as ended) × EndsAudit s ended
EndsTask (Some task.Live) options s r =
    (ended : Result (Unit {0}) ScriptFault) × (written : Option (List ℕ)) × HandsOn ended written s.after r × EndsLive (record s { after = written }) ended
EndsTask (Some task.Help) options s r = Answers HELP.now s r
EndsTask (Some task.Version) options s r = Answers version_text s r
EndsTask None (Some options) s r =
    (ended : Result (Unit {0}) ScriptFault) × (written : Option (List ℕ)) × HandsOn ended written s.after r × EndsReplay options (record s { after = written }) ended
EndsTask None None s r = (r ≡ Err (fault.Script script.BadOptions)) ⊎ (r ≡ Err (fault.Script script.OutOfMemory))

abbrev pub EndsProgram : List (List ℕ) → Sides → Result Done ProgramFault → Type 0
EndsProgram words s r = EndsTask (task_of words) (options_of words) s r

-- ---- failures

abbrev pub TellsUnread : Result Done ProgramFault → Type 0
TellsUnread r = (r ≡ Err (fault.Script script.CannotRead)) ⊎ (r ≡ Err (fault.Audit log.CannotRead))

abbrev pub TellsUnwritten : Result Done ProgramFault → Type 0
TellsUnwritten r = (r ≡ Err (fault.Script script.CannotWrite)) ⊎ (r ≡ Err (fault.Audit log.CannotWrite))

-- however it ends: a failed read is reported, and a failed write, and neither where none failed. Where no write failed all that was written is handed
-- on, if anything was
pub record Closes (r : Result Done ProgramFault) (unread unwritten flushed : Bool) (Untouched : Type 0) : Type 0 where
  pub cannot_read : TellsUnread r ↔ (unread ≡ true)
  pub cannot_write : TellsUnwritten r ↔ (unwritten ≡ true)
  pub handed_on : unwritten ≡ false → (flushed ≡ true) ⊎ Untouched

-- a fault with another status than 3 leaves nothing written
abbrev pub LeavesUntouched : Result Done ProgramFault → Type 0 → Type 0
LeavesUntouched r Untouched = IfErr r (λ f. exit_status r ≢ 3 → Untouched)

-- ---- what standard error says

abbrev pub fault_text : ProgramFault → List ℕ
fault_text (fault.Script f) = script_text f
fault_text (fault.Audit f) = audit_text f

-- ---- what the contract of a private function says

-- after memory ran out: what was written is handed on, or the failed write is reported
abbrev pub Handed : Result Done ProgramFault → Bool → Bool → Type 0
Handed r unwritten flushed =
    ((r ≡ Err (fault.Script script.OutOfMemory)) × (unwritten ≡ false) × (flushed ≡ true)) ⊎ ((r ≡ Err (fault.Script script.CannotWrite)) × (unwritten ≡ true))
