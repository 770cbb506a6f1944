-- How a replay that words ask for ends: where memory runs out before anything is replayed, and by what `run_script` ensures.
use Rattle.simulator.proofs.Common.{Appends, Keeps, ScriptFault, Options, detail_of}
use Rattle.std.proofs.Common.{◌≡◌, ◌⊎◌, inl, inr, ℕ, Bool, true, false, List, Option, Some, None, Result, Ok, Err, IfSome, MatchResult, OnOk, codes, refl, sym, subst}
use Rattle.simulator.specs.Program.{EndsTask, Sides, EndsReplay, HandsOn, Replayed}
use Rattle.command_line.specs.Input.{IsScriptFault, IsSomeInput}
use Rattle.command_line.specs.Replayed.{Ran, ReplaysInput, StopsInput}
use Rattle.command_line.specs.Reading.{ReadsFirst}
use Rattle.command_line.proofs.lemmas.{reads_none}
use Rattle.command_line.specs.declared.fault.ScriptFault.TheVariants as script
use Rattle.simulator.specs.declared.program.Done.{Done}
use Rattle.simulator.specs.declared.program.ProgramFault.{ProgramFault}
use Rattle.simulator.specs.declared.program.ProgramFault.TheVariants as fault

pub keeps_same : (a b : Option (List ℕ)) → b ≡ a → Keeps a b
keeps_same None b same = tt
keeps_same (Some xs) b same = subst (Keeps (Some xs)) (sym same) refl

abbrev ends_in_memory : Result (Unit {0}) ScriptFault
ends_in_memory = Err script.OutOfMemory

if_known : (known : Option (List ℕ)) (P : List ℕ → Type 0) → ((octets : List ℕ) → P octets) → IfSome known P
if_known None P all = tt
if_known (Some octets) P all = all octets

pub no_memory : (options : Option Options) (s : Sides) → s.left ≡ s.input → Keeps s.before s.after
    → EndsTask None options s (Err (fault.Script script.OutOfMemory))
no_memory None s unread same = inr refl
no_memory (Some options) s unread same = (
  ends_in_memory,
  s.after,
  inl (refl, keeps_same s.after s.after refl),
  record {
    replayed = tt;
    read = λ whole. if_known s.input
        (λ octets. MatchResult ends_in_memory (λ done. IsSomeInput octets) (IsScriptFault octets)) (λ octets. tt);
    options_read = λ e. cc;
    reads = subst (λ (left : Option (List ℕ)). ReadsFirst s.input left) (sym unread) (reads_none s.input);
    reads_all = λ read kept. absurd (kept refl);
    ran_in_part = λ e. inl same;
    nothing = λ on e. same;
    first_part = λ e. if_known s.input
        (λ octets. Keeps s.before s.after ⊎ StopsInput (detail_of options.texts) octets s.before s.after)
        (λ octets. inl same);
  },
)

-- what was read only, or replayed
pub replayed_if : (check : Bool) (options : Options) (s : Sides) (r : Result (Unit {0}) ScriptFault)
    → (check ≡ true → OnOk r (Appends s.before s.after (codes "ok\n")))
    → (check ≡ false → OnOk r (Ran options.book (detail_of options.texts) s.before s.after))
    → (check ≡ false → OnOk r
    (IfSome s.input (λ octets. ReplaysInput options.book (detail_of options.texts) octets s.before s.after)))
    → OnOk r (Replayed check options s)
replayed_if true options s r checked ran known = checked refl
replayed_if false options s (Ok done) checked ran known = (ran refl, known refl)
replayed_if false options s (Err f) checked ran known = tt

-- it is handed on
pub asked_ends : (asked : Option Options) (options : Options) (s : Sides) (written : Option (List ℕ))
    (ended : Result (Unit {0}) ScriptFault) (r : Result Done ProgramFault)
    → asked ≡ Some options → HandsOn ended written s.after r → EndsReplay options (record s { after = written }) ended
    → EndsTask None asked s r
asked_ends asked options s written ended r is hands ends = subst (λ (o : Option Options). EndsTask None o s r) (sym is)
    (ended, written, hands, ends)
