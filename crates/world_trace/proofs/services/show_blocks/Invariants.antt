use Rattle.world_trace.proofs.Common.{◌≡◌, [], map, take, HasWritten, IsPlainFormatter, all_in, mark_after, marked, service_object}
use Rattle.world_trace.proofs.services.show_blocks.Given as goal

-- the services of the blocks so far are shown
abbrev pub invariant-loop-block : goal.invariant-loop-block
invariant-loop-block g l =
    (IsPlainFormatter l.fn.f → HasWritten g.W.Write.write_str_gives l.fn.f (marked [] (map service_object (all_in (take l.block-index l.blocks)))) l.f)
    × (l.mark ≡ mark_after [] (map service_object (all_in (take l.block-index l.blocks))))
