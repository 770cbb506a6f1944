-- What the program says of itself.
use Rattle.std.specs.Prelude.{ℕ, List, ◌++◌, codes}
use Rattle.command_line.specs.declared.about.TheConstants.{VERSION}

-- the version of the program
abbrev pub version_text : List ℕ
version_text = codes "arpasim " ++ (VERSION.now ++ codes "\n")
