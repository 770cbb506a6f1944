-- The options of the command line.
use Rattle.std.specs.Prelude.{◌≡◌, ℕ, Bool, true, false, not, ◌&&◌, List, [], ◌∷◌, Option, Some, None, Result, Ok, Err, String, IfSome, codes, if◌then◌else◌, map, option_and_then, string_bytes}
use Rattle.std.specs.Str.{bytes_eq}
use Rattle.replay.specs.declared.print.Detail.{Detail}
use Rattle.replay.specs.declared.print.Detail.TheVariants.{Sizes, Texts}
use Rattle.command_line.specs.declared.options.Options.{Options}
use Rattle.command_line.specs.declared.options.Task.{Task}
use Rattle.command_line.specs.declared.options.Task.TheVariants as task
use Rattle.command_line.specs.declared.options.OptionsFault.{OptionsFault}
use Rattle.command_line.specs.declared.options.OptionsFault.TheVariants as fault

-- the options with one word more: it names an option that wasn't given before
abbrev pub with_word : List ℕ → Options → Option Options
with_word word options =
    if bytes_eq word (codes "--book") && not options.book then Some (record options { book = true })
    else (if bytes_eq word (codes "--check") && not options.check then Some (record options { check = true })
    else (if bytes_eq word (codes "--texts") && not options.texts then Some (record options { texts = true })
    else None))

-- what further words ask for, after words that gave these options
abbrev pub options_after : Options → List (List ℕ) → Option Options
options_after options [] = Some options
options_after options (word ∷ words) = option_and_then (λ more. options_after more words) (with_word word options)

-- the options that words ask for; none where a word is no option or an option occurs twice
abbrev pub options_of : List (List ℕ) → Option Options
options_of words = options_after (record { book = false; check = false; texts = false }) words

-- the options that the words of a command line ask for
abbrev pub options_in : {Z : Type 0} → List (String Z) → Option Options
options_in words = options_of (map string_bytes words)

-- what one word asks for that is the only one
abbrev pub task_of : List (List ℕ) → Option Task
task_of [] = None
task_of (word ∷ []) =
    if bytes_eq word (codes "--log") then Some task.Log
    else (if bytes_eq word (codes "--trace") then Some task.Trace
    else (if bytes_eq word (codes "--audit") then Some task.Audit
    else (if bytes_eq word (codes "--live") then Some task.Live
    else (if bytes_eq word (codes "--help") then Some task.Help
    else (if bytes_eq word (codes "--version") then Some task.Version
    else None)))))
task_of (word ∷ next ∷ words) = None

-- how much is printed of a message, where its text is asked for and where it isn't
abbrev pub detail_of : Bool → Detail
detail_of true = Texts
detail_of false = Sizes

-- what is said of the options that words ask for
abbrev pub IfOptions : {Z : Type 0} → List (String Z) → (Options → Type 0) → Type 0
IfOptions words Said = IfSome (options_in words) Said

-- what is said of how much of a message they have printed
abbrev pub IfDetail : {Z : Type 0} → List (String Z) → (Detail → Type 0) → Type 0
IfDetail words Said = IfOptions words (λ options. Said (detail_of options.texts))

-- where they ask for a replay: what is said of whether the book is printed, and of how much of a message
abbrev pub IfReplayed : {Z : Type 0} → List (String Z) → (Bool → Detail → Type 0) → Type 0
IfReplayed words Said = IfOptions words (λ options. options.check ≡ false → Said options.book (detail_of options.texts))

-- the options that the words ask for are given, or it is informed that they ask for none; memory may run out at any words
abbrev pub Asked : Option Options → Result Options OptionsFault → Type 0
Asked asked (Ok options) = asked ≡ Some options
Asked asked (Err fault.BadOptions) = asked ≡ None
Asked asked (Err fault.OutOfMemory) = Unit {0}
