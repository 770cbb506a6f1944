use Rattle.command_line.proofs.Common.{is_host, is_among}
use Rattle.std.proofs.Common.{◌≡◌, map, take}
use Rattle.command_line.proofs.layout.lives_among.Given as goal

abbrev pub invariant-loop-life : goal.invariant-loop-life
invariant-loop-life l = l.among.items ≡ map (λ x. is_among (λ h. is_host l.strangers h) x) (take l.life-index l.lives)
