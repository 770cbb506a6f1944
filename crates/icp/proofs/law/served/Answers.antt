use Rattle.icp.proofs.ServerLemmas.{ServerDone, one_server_outcome, server_done}
use Rattle.icp.proofs.law.served.Goals as goal

pub returns : goal.returns
returns c = record {
  done =
      λ listen base ns receive send e.
      let d : ServerDone listen base ns receive send = server_done listen base ns receive send e
      in (d.receive, d.send, d.served);
  once = λ s ns. one_server_outcome ns s;
}
