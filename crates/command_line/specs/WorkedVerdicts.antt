-- Words for worked rows of audits: verdicts that no log has.
use Rattle.std.specs.Prelude.{ℕ, false, true, List, [], ◌∷◌, ◌++◌, Some, codes, length}
use Rattle.book_log.specs.Log.{Book}
use Rattle.interface.specs.Host.{Host}
use Rattle.net_sim.specs.declared.auditing.findings.Finding.TheVariants as finding
use Rattle.command_line.specs.Audits.{Layout, SaysOf, kept, program_lives}
use Rattle.command_line.specs.declared.verdict.Verdict.{Verdict}

-- this is said of no log
abbrev pub NotSaid : Verdict → Type 0
NotSaid v = (hosts : List Host) (b : Book) → SaysOf v hosts b → ⊥

-- nor is this, which depends on the log
abbrev pub IsNeverSaid : (List Host → Book → Verdict) → Type 0
IsNeverSaid v = (hosts : List Host) (b : Book) → SaysOf (v hosts b) hosts b → ⊥

-- a life that is matched after the last one
abbrev pub matched_past : List Host → Book → Verdict
matched_past hosts b = record kept { closes = Some (finding.Lives 0 (length (program_lives hosts b))) }

-- where the lines are of a log of one stranger, three crossings and three lives, the first of which is toward it
abbrev pub beside_one : Layout
beside_one = record { strangers = 1; crossings = 3; among = false ∷ true ∷ true ∷ [] }

-- what may be found of it, but for its form and toward, and its lines
abbrev pub broken_beside : Verdict
broken_beside = record kept {
  stray = Some 0;
  unmade = Some 0;
  messages = Some (finding.Crossing 1);
  partners = Some (finding.Lives 0 1);
  streams = Some (finding.Life 1);
  sent = Some (finding.Lives 1 0);
  closes = Some (finding.Lives 1 0);
  unsuited = Some 1;
}

abbrev pub broken_lines : List ℕ
broken_lines = codes "broken run line 2\nbroken lives line 6\nbroken messages line 3\n"
    ++ codes "broken partners lines 6 7\nbroken streams line 7\nbroken sent lines 7 6\nbroken closes lines 7 6\nbroken fates line 7\n"
