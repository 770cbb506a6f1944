use Rattle.world_trace.proofs.Common.{◌≡◌, map, take, HasWritten, IsPlainFormatter, mark_after, marked}
use Rattle.world_trace.proofs.values.show_each.Given as goal

-- the items so far are shown
abbrev pub invariant-loop-item : goal.invariant-loop-item
invariant-loop-item g l =
    (IsPlainFormatter l.fn.f → HasWritten g.W.Write.write_str_gives l.fn.f (marked l.mark (map g.T.Json.text (take l.item-index l.items))) l.f)
    × (l.before ≡ mark_after l.mark (map g.T.Json.text (take l.item-index l.items)))
