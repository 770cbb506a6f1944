use Rattle.net_sim.proofs.Common.{Calls, shown}
use Rattle.net_sim.proofs.Books.Among.{calm_lawful, opening_lawful, run_lawful, step_lawful, turn_lawful}
use Rattle.net_sim.proofs.Books.Nobody.{among_lawful, lawful_among}
use Rattle.net_sim.proofs.Books.Same.{calm_same, step_same}
use Rattle.net_sim.proofs.Books.Strangers.{alone}
use Rattle.net_sim.proofs.law.worlds_among.Goals as goal

pub returns : goal.returns
returns g c =
    let calls : Calls g.row.C.Denot = g.C.Carrier.calls in
    record {
      opening = λ strangers x none addresses hosts. opening_lawful calls strangers x none addresses hosts;
      step = λ hosts old new e r lawful named h is. step_lawful calls hosts old new r lawful is e named h;
      turn = λ hosts old new e r lawful named h is. turn_lawful calls hosts old new r lawful is e named h;
      run = λ hosts old new events r lawful named h is. run_lawful calls hosts old new r lawful is events named h;
      calm = λ hosts old new times r lawful h is. calm_lawful calls hosts old new r lawful is times h;
      alone = λ old new e r none h. alone (shown calls) old r new none e h;
      same = λ old new e r h. step_same (shown calls) e old r new h;
      calm_same = λ old new times r h. calm_same (shown calls) times old r new h;
      nobody = λ strange hosts w none lawful. among_lawful strange none calls.seen hosts w lawful;
      any = λ strange hosts w none lawful. lawful_among strange none calls.seen hosts w lawful;
    }
