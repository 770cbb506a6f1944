use Rattle.interface.specs.Calls.{Calls}
use Rattle.net_sim.proofs.Books.Nobody.{opening_whole, step_whole, turn_whole, run_whole, calm_whole}
use Rattle.net_sim.proofs.law.worlds.Goals as goal

pub returns : goal.returns
returns g c =
    let calls : Calls g.row.C.Denot = g.C.Carrier.calls in
    record {
      opening = λ x none. opening_whole calls x;
      step = λ hosts old new e r named none w h. step_whole calls hosts e old r new named none w h;
      turn = λ hosts old new e r named w h. turn_whole calls hosts e old r new named w h;
      run = λ hosts old new events r named none w h. run_whole calls hosts events old r new named none w h;
      calm = λ hosts old new times r w h. calm_whole calls hosts times old r new w h;
    }
