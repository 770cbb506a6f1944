use Rattle.std.proofs.Common.{◌≡◌, ◌++◌, false, codes, map, take}
use Rattle.std.specs.Io.KnownBytes.{Appends}
use Rattle.interface.specs.Printed.{host_text}
use Rattle.world_replay.specs.Printed.{shown_octet}
use Rattle.world_replay.proofs.print.print_line.Given as goal

abbrev pub invariant-loop-octet : goal.invariant-loop-octet
invariant-loop-octet g l = Appends (g.W.Output.contents l.fn.writer) (g.W.Output.contents l.writer) ((codes "line " ++ (host_text l.host ++ codes " ")) ++ map shown_octet (take l.octet-index l.octets)) × (g.W.Output.failed l.writer ≡ false)
