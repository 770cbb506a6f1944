use Rattle.world_keeps_connections.proofs.Matches.{world_match}
use Rattle.world_keeps_connections.proofs.law.books.Goals as goal

pub returns : goal.returns
returns g c = record { matches = λ hosts w lawful receiver sender here there on also o receiving sending. world_match g.C.Carrier.calls.seen hosts w lawful receiver sender here there on also o receiving sending }
