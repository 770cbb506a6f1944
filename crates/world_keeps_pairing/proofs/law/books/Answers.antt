use Rattle.world_keeps_pairing.proofs.AllOurs.{world_alone, world_matches, world_named, world_partners}
use Rattle.world_keeps_pairing.proofs.law.books.Goals as goal

pub returns : goal.returns
returns g c = record {
  named = λ hosts w lawful x there. world_named g.C.Carrier.calls.seen hosts w lawful x there;
  partners = λ hosts w lawful. world_partners g.C.Carrier.calls.seen hosts w lawful;
  matches = λ hosts w lawful receiver sender here there receiving asked. world_matches g.C.Carrier.calls.seen hosts w lawful receiver sender here there receiving asked;
  one = λ hosts w lawful receiver x y two mx my. world_alone g.C.Carrier.calls.seen hosts w lawful receiver x y two mx my;
}
