use Rattle.std.proofs.Common.{◌≡◌, take, All}
use Rattle.ncp_control.specs.Command.{IsCommand}
use Rattle.ncp_control.specs.Packing.{spellings}
use Rattle.ncp_control.proofs.packing.pack.Given as goal

-- the octets of the commands so far, each of which is within its ranges
abbrev pub invariant-loop-command : goal.invariant-loop-command
invariant-loop-command l = record {
  spelled : l.octets.items ≡ spellings (take l.command-index l.front);
  in_range : All IsCommand (take l.command-index l.front);
}
