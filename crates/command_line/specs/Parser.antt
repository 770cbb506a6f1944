-- The command line as it is described to the parser of words. No public clause cites this file.
use Rattle.std.specs.Prelude.{true, Some, codes}
use Rattle.clap.specs.Words.{App, Rule, Text, new_app, new_rule, with_rule}
use Rattle.clap.specs.declared.builder.action.ArgAction.TheVariants.{SetTrue}

-- an option without a value
abbrev pub flag : Text → Rule
flag name = record (new_rule name) { long = Some name; action = Some SetTrue }

abbrev pub bare : App → App
bare app = record app { top = record app.top { no_binary_name = true; disable_help_flag = true; disable_version_flag = true } }

abbrev pub command_line : App
command_line = with_rule (with_rule (with_rule (bare (new_app (codes "arpasim"))) (flag (codes "book"))) (flag (codes "check"))) (flag (codes "texts"))
