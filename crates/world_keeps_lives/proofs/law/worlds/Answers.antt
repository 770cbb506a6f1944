use Rattle.world_keeps_lives.proofs.AllOurs.{world_bounded, world_drained, world_handed, world_live, world_taken, world_told}
use Rattle.world_keeps_lives.proofs.law.worlds.Goals as goal

pub returns : goal.returns
returns g c = record {
  live = world_live g.C.Carrier.calls.seen;
  taken = world_taken g.C.Carrier.calls.seen;
  bounded = world_bounded g.C.Carrier.calls.seen;
  handed = world_handed g.C.Carrier.calls.seen;
  drained = world_drained g.C.Carrier.calls.seen;
  told = world_told g.C.Carrier.calls.seen;
}
