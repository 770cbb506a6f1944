use Rattle.interface.specs.Calls.{Calls}
use Rattle.mixed_worlds.proofs.Worlds.{keeps_among, keeps_toward, world_mixed}
use Rattle.mixed_worlds.proofs.law.worlds.Goals as goal

pub returns : goal.returns
returns g c =
    let calls : Calls g.row.C.Denot = g.C.Carrier.calls in
    record {
      mixed = λ strange hosts w lawful. world_mixed strange calls.seen hosts w lawful;
      among = λ strange hosts w lawful. keeps_among strange calls.seen hosts w lawful c.among.ensures;
      toward = λ strange hosts w lawful. keeps_toward strange calls.seen hosts w lawful c.toward.ensures;
    }
