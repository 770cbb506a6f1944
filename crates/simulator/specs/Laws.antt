-- The laws of src/ that are longer than a line: each is a record, and its fields are the clauses.
use Rattle.std.specs.Prelude.{Bool, Err, List, Ok, Option, Some, codes, false, [], ◌∷◌, ℕ, ◌++◌, ◌≡◌, ◌⊎◌}
use Rattle.replay.specs.declared.print.Detail.TheVariants.{Sizes}
use Rattle.command_line.specs.Audits.{IsKeptLog, kept}
use Rattle.command_line.specs.Events.{are_some}
use Rattle.command_line.specs.Replayed.{ReplaysInput}
use Rattle.command_line.specs.declared.fault.ScriptFault.TheVariants as script
use Rattle.command_line.specs.declared.options.Options.{Options}
use Rattle.command_line.specs.declared.verdict.Verdict.{Verdict}
use Rattle.simulator.specs.Program.{EndsAudit, EndsLog, EndsReplay, EndsTrace, sides}
use Rattle.simulator.specs.Recorded.{PrintsTrace, told_lines}
use Rattle.simulator.specs.Traced.{TraceStops, TracesInput}

-- The input determines its trace, with strangers or without. What was written before memory ran out is a prefix of the
-- whole trace. Without strangers the lines of a plain output are those that its trace has as printed, in turn.
pub record OneTrace : Type 0 where
  pub whole :
      (input before after other : List ℕ) → TracesInput input (Some before) (Some after) →
      TracesInput input (Some before) (Some other) → after ≡ other
  pub part :
      (input before part whole : List ℕ) → TraceStops input (Some before) (Some part) →
      TracesInput input (Some before) (Some whole) → (rest : List ℕ) × (whole ≡ part ++ rest)
  pub printed :
      (book : Bool) (input out trace : List ℕ) → ReplaysInput book Sizes input (Some []) (Some out) →
      (h : TracesInput input (Some []) (Some trace)) → are_some h.network.strangers ≡ false →
      PrintsTrace book out trace (told_lines input (Some []) (Some trace) h)

-- What is written is that of the input which was read, and of no other one: two ends of one input that were done wrote
-- the same after the same.
pub record OneProgram : Type 0 where
  pub replays :
      (options : Options) (input before after other : List ℕ) (left rest : Option (List ℕ)) (unread unheard : Bool) →
      EndsReplay options (sides (Some input) left unread (Some before) (Some after)) (Ok tt) →
      EndsReplay options (sides (Some input) rest unheard (Some before) (Some other)) (Ok tt) → after ≡ other
  pub logs :
      (input before after other : List ℕ) (left rest : Option (List ℕ)) (unread unheard : Bool) →
      EndsLog (sides (Some input) left unread (Some before) (Some after)) (Ok tt) →
      EndsLog (sides (Some input) rest unheard (Some before) (Some other)) (Ok tt) → after ≡ other
  pub traces :
      (input before after other : List ℕ) (left rest : Option (List ℕ)) (unread unheard : Bool) →
      EndsTrace (sides (Some input) left unread (Some before) (Some after)) (Ok tt) →
      EndsTrace (sides (Some input) rest unheard (Some before) (Some other)) (Ok tt) → after ≡ other
  -- where memory ran out nothing was written, or a first part of it
  pub part :
      (options : Options) (input before part whole : List ℕ) (left rest : Option (List ℕ)) (unread unheard : Bool) →
      EndsReplay options (sides (Some input) left unread (Some before) (Some part)) (Err script.OutOfMemory) →
      EndsReplay options (sides (Some input) rest unheard (Some before) (Some whole)) (Ok tt) →
      (part ≡ before) ⊎ ((more : List ℕ) × (whole ≡ part ++ more))
  pub trace_part :
      (input before part whole : List ℕ) (left rest : Option (List ℕ)) (unread unheard : Bool) →
      EndsTrace (sides (Some input) left unread (Some before) (Some part)) (Err script.OutOfMemory) →
      EndsTrace (sides (Some input) rest unheard (Some before) (Some whole)) (Ok tt) →
      (part ≡ before) ⊎ ((more : List ℕ) × (whole ≡ part ++ more))
  -- of a log that is kept its audit says so, and nothing else
  pub audits :
      (input before after : List ℕ) (left : Option (List ℕ)) (unread : Bool) (said : Verdict) → IsKeptLog input →
      EndsAudit (sides (Some input) left unread (Some before) (Some after)) (Ok said) →
      (said ≡ kept) × (after ≡ before ++ codes "kept\n")
  -- nothing is done that is no input, nor is anything left that wasn't to be read
  pub no_input :
      (options : Options) (left before after : Option (List ℕ)) →
      EndsReplay options (sides (Some []) left false before after) (Ok tt) → ⊥
  pub invented :
      (options : Options) (x : ℕ) (unread : Bool) (before after : Option (List ℕ)) →
      EndsReplay options (sides (Some []) (Some (x ∷ [])) unread before after) (Ok tt) → ⊥
