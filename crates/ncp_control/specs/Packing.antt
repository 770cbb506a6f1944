-- The commands of one control message.
use Rattle.std.specs.Prelude.{◌≡◌, ℕ, ◌+◌, ◌-◌, ◌<◌, ◌≤◌, nat_le, if◌then◌else◌, List, [], ◌∷◌, length, take, drop, Ok}
use Rattle.std.specs.List.{flat_map}
use Rattle.ncp_control.specs.declared.command.Command.{Command}
use Rattle.ncp_control.specs.Command.{spelling}
use Rattle.ncp_control.specs.Reading.{read_of}

-- the octets of commands, one after another
abbrev pub spellings : List Command → List ℕ
spellings commands = flat_map spelling commands

-- octets that are read as these commands, one after another, and have nothing after them
abbrev pub AreRead : List ℕ → List Command → Type 0
AreRead octets [] = octets ≡ []
AreRead octets (c ∷ cs) = (read_of octets ≡ Ok (c, length (spelling c))) × AreRead (drop (length (spelling c)) octets) cs

-- how many commands from the first on have room in this many octets
abbrev pub count_within : ℕ → List Command → ℕ
count_within room [] = 0
count_within room (c ∷ cs) = if nat_le (length (spelling c)) room then count_within (room - length (spelling c)) cs + 1 else 0

-- how many commands from the first on go into one control message, which has room for 120 octets of them
unfoldable pub packed_count : List Command → ℕ
packed_count commands = count_within 120 commands

-- this many of the first commands go into one message, and one command more doesn't
pub record IsLongestFront (commands : List Command) (count : ℕ) : Type 0 where
  pub there : count ≤ length commands
  pub fits : length (spellings (take count commands)) ≤ 120
  pub longest : (more : ℕ) → count < more → more ≤ length commands → 120 < length (spellings (take more commands))
