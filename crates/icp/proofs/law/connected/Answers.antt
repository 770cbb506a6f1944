use Rattle.icp.proofs.UserLemmas.{UserDone, one_user_outcome, user_done}
use Rattle.icp.proofs.law.connected.Goals as goal

pub returns : goal.returns
returns c = record {
  done =
      λ peer listen own ns receive send e.
      let d : UserDone peer listen own ns receive send = user_done peer listen own ns receive send e
      in (d.receive, d.send, d.connected);
  once = λ s ns. one_user_outcome ns s;
}
