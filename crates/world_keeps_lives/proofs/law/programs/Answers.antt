use Rattle.world_keeps_lives.proofs.Drained.{drained}
use Rattle.world_keeps_lives.proofs.Laws.{bounded, handed, live, taken}
use Rattle.world_keeps_lives.proofs.Notices.{told}
use Rattle.world_keeps_lives.proofs.Sockets.{held}
use Rattle.world_keeps_lives.proofs.law.programs.Goals as goal

pub returns : goal.returns
returns c = record {
  sockets =
      λ hosts moments addresses run time h plain socket. (held hosts addresses h plain socket moments run time).socket;
  steady = λ hosts moments addresses run time h plain. (held hosts addresses h plain 0 moments run time).steady;
  live = λ hosts moments addresses run time. live hosts moments addresses run time;
  taken = λ hosts moments addresses run time. taken hosts moments addresses run time;
  bounded = λ hosts moments addresses run time. bounded hosts moments addresses run time;
  handed = λ hosts moments addresses run time. handed hosts moments addresses run time;
  drained = drained;
  told = λ hosts moments addresses. told hosts addresses moments;
}
