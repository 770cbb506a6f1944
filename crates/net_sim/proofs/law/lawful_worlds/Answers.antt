use Rattle.interface.specs.Calls.{Calls}
use Rattle.net_sim.proofs.Resets.Clean.{opening_lawful, step_lawful, turn_lawful, run_lawful, calm_lawful}
use Rattle.net_sim.proofs.law.lawful_worlds.Goals as goal

pub returns : goal.returns
returns g c =
    let calls : Calls g.row.C.Denot = g.C.Carrier.calls in
    record {
      opening = λ x none addresses. opening_lawful calls x none addresses;
      step = λ hosts old new e r none lawful named h is. step_lawful calls hosts old new r lawful is none e named h;
      turn = λ hosts old new e r lawful named h is. turn_lawful calls hosts old new r lawful is e named h;
      run = λ hosts old new events r none lawful named h is. run_lawful calls hosts old new r lawful is none events named h;
      calm = λ hosts old new times r lawful h is. calm_lawful calls hosts old new r lawful is times h;
    }
