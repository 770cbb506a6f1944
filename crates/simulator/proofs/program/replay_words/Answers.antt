use Rattle.simulator.proofs.Common.{Keeps, Options, ScriptFault}
use Rattle.std.proofs.Common.{◌≡◌, ◌⊎◌, ℕ, List, Option, Result, Err, IfSome, OnOk, false, map, ap, refl, subst, string_bytes}
use Rattle.simulator.specs.Program.{Sides, sides}
use Rattle.command_line.specs.Replayed.{Ran, RanInPart, ReplaysInput, StopsInput}
use Rattle.replay.specs.declared.print.Detail.{Detail}
use Rattle.command_line.specs.Options.{options_of, options_in}
use Rattle.command_line.specs.declared.fault.ScriptFault.TheVariants as fault
use Rattle.simulator.proofs.Jobs.{asked_ends, keeps_same, no_memory, replayed_if}
use Rattle.simulator.proofs.program.replay_words.Goals as goal

pub returns-in-Err-OutOfMemory-clause-ends : goal.returns-in-Err-OutOfMemory-clause-ends
returns-in-Err-OutOfMemory-clause-ends g c =
    no_memory (options_of (map string_bytes c.args.words.now))
    (sides (g.R.Source.remaining c.args.reader.now) (g.R.Source.remaining c.args.reader.now)
    (g.R.Source.failed c.args.reader.now) (g.W.Output.contents c.args.writer.now) (g.W.Output.contents c.args.writer.now))
    refl (keeps_same (g.W.Output.contents c.args.writer.now) (g.W.Output.contents c.args.writer.now) refl)

pub returns-in-Ok-clause-ends : goal.returns-in-Ok-clause-ends
returns-in-Ok-clause-ends g c =
    let input : Option (List ℕ) = g.R.Source.remaining c.args.reader.now in
    let left : Option (List ℕ) = g.R.Source.remaining c.run_script-ended.new.reader in
    let before : Option (List ℕ) = g.W.Output.contents c.args.writer.now in
    let written : Option (List ℕ) = g.W.Output.contents c.run_script-ended.new.writer in
    let s : Sides = sides input left (g.R.Source.failed c.run_script-ended.new.reader) before written in
    let o : Options = c.in-Ok.options in
    let r : Result (Unit {0}) ScriptFault = c.run_script-ended.result in
    asked_ends (options_in c.args.words.now) o (record s { after = g.W.Output.contents c.hand_on.new.writer }) written r
    c.hand_on.result c.in-Ok.ensures c.hand_on.ensures.hands
    (record {
      replayed = replayed_if o.check o s r c.run_script-ended.ensures.checked
          (subst (λ (d : Detail). o.check ≡ false → OnOk r (Ran o.book d before written)) c.detail.ensures
          c.run_script-ended.ensures.ran)
          (subst (λ (d : Detail). o.check ≡ false
          → OnOk r (IfSome input (λ octets. ReplaysInput o.book d octets before written)))
          c.detail.ensures c.run_script-ended.ensures.replayed);
      read = c.run_script-ended.ensures.read;
      options_read = c.run_script-ended.ensures.options;
      reads = c.run_script-ended.ensures.reads;
      reads_all = c.run_script-ended.ensures.reads_all;
      ran_in_part =
          subst (λ (d : Detail). r ≡ Err fault.OutOfMemory → Keeps before written ⊎ RanInPart d before written)
          c.detail.ensures c.run_script-ended.ensures.ran_in_part;
      first_part =
          subst (λ (d : Detail). r ≡ Err fault.OutOfMemory
          → IfSome input (λ octets. Keeps before written ⊎ StopsInput d octets before written))
          c.detail.ensures c.run_script-ended.ensures.first_part;
      nothing = λ on e. keeps_same before written
          (ap g.W.Output.contents (c.run_script-ended.ensures.check_memory on e));
    })
