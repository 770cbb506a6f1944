use Rattle.std.proofs.Common.{◌≡◌, [], map, string_bytes, take}
use Rattle.std.specs.List.{filter}
use Rattle.simulator.specs.Named.{names_input}
use Rattle.simulator.proofs.named.name_place.Given as goal

-- none of the words so far names an input
abbrev pub invariant-loop-place : goal.invariant-loop-place
invariant-loop-place l = filter names_input (map string_bytes (take l.place l.words)) ≡ []
