-- Words for worked rows of the whole program: what its reader and its writer show, and ends that it doesn't have.
use Rattle.std.specs.Prelude.{◌≡◌, true, false, List, [], ◌∷◌, ℕ, Option, Some, Result, Err, codes}
use Rattle.simulator.specs.Named.{input_of, others_of}
use Rattle.simulator.specs.Program.{EndsTask, Sides, sides}
use Rattle.command_line.specs.declared.fault.ScriptFault.TheVariants as script
use Rattle.command_line.specs.declared.options.Options.{Options}
use Rattle.command_line.specs.declared.options.Task.{Task}
use Rattle.simulator.specs.declared.program.Done.{Done}
use Rattle.simulator.specs.declared.program.ProgramFault.{ProgramFault}
use Rattle.simulator.specs.declared.program.ProgramFault.TheVariants as fault

-- these octets are read, and those are written
abbrev pub ran : List ℕ → List ℕ → Sides
ran input output = sides (Some input) (Some []) false (Some []) (Some output)

-- nothing was to be read, and these octets are written
abbrev pub wrote : List ℕ → Sides
wrote octets = ran [] octets

-- these octets are left to be read, and nothing is written
abbrev pub unread : List ℕ → Sides
unread octets = sides (Some octets) (Some octets) false (Some []) (Some [])

-- this octet is read, and nothing is written
abbrev pub drained : ℕ → Sides
drained x = ran (x ∷ []) []

-- no option, and only `--check`
abbrev pub no_options : Options
no_options = record { book = false; check = false; texts = false }

abbrev pub only_check : Options
only_check = record { book = false; check = true; texts = false }

-- words that ask for nothing
abbrev pub no_task : List (List ℕ)
no_task = codes "--foo" ∷ []

-- memory ran out
abbrev pub out_of_memory : Result Done ProgramFault
out_of_memory = Err (fault.Script script.OutOfMemory)

-- the task never ends so, whatever else the words are
abbrev pub Never : Task → Sides → Result Done ProgramFault → Type 0
Never task s r = (options : Option Options) → EndsTask (Some task) options s r → ⊥

-- these words name this input, and those are left
abbrev pub Names : List (List ℕ) → List ℕ → List (List ℕ) → Type 0
Names words name others = (input_of words ≡ Some name) × (others_of words ≡ others)

-- the output of a host that starts
abbrev pub starts : List ℕ
starts = codes "up 0/1\nend\n"
