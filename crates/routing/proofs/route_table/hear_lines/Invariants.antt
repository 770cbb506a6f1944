use Rattle.std.proofs.Common.{◌≡◌, ℕ, ◌+◌, ◌-◌, ◌++◌, Some, [], length, take, drop, map, get_or}
use Rattle.routing.specs.Settle.{neighbours}
use Rattle.routing.proofs.route_table.hear_lines.Given as goal

-- the ports so far have heard their neighbours, and there is a port for each line that is left
abbrev pub invariant-loop-line : goal.invariant-loop-line
invariant-loop-line l = record {
  left : l.port + length (neighbours (drop l.line-index l.graph) l.own) ≡ length l.heard;
  heard : take l.port l.heard ++ map (λ (imp : ℕ). Some (get_or l.told (imp - 1) [])) (neighbours (drop l.line-index l.graph) l.own)
      ≡ map (λ (imp : ℕ). Some (get_or l.told (imp - 1) [])) (neighbours l.graph l.own);
}
