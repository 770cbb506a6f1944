-- The commands that wait to go out to a peer.
use Rattle.std.specs.Prelude.{Bool, not, List}
use Rattle.std.specs.List.{list_all}
use Rattle.ncp_control.specs.Command.{is_alone}
use Rattle.ncp_control.specs.declared.command.Command.{Command}

-- RST and RRP never wait among other commands: each is the only command in its message (NIC 8246, RST and RRP), so a pair keeps them as its
-- phase and as what it owes
abbrev pub are_joint : List Command → Bool
are_joint commands = list_all (λ c. not (is_alone c)) commands
