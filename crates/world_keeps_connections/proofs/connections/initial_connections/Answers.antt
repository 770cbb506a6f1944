use Rattle.world_keeps_connections.proofs.Matches.{world_match}
use Rattle.world_keeps_connections.proofs.Paired.{are_even, to_server, to_user, world_joined}
use Rattle.world_keeps_connections.proofs.connections.initial_connections.Goals as goal

pub returns : goal.returns
returns g c = record {
  even = λ hosts w lawful server user s u a b d e k. are_even w.kept.book lawful.reported.reports (world_match g.C.Carrier.calls.seen hosts w lawful) server user s u a b d e k;
  to_user = λ hosts w lawful server user s u a b d e k. to_user w.kept.book lawful.reported.reports (world_match g.C.Carrier.calls.seen hosts w lawful) server user s u a b d e k;
  to_server = λ hosts w lawful server user s u a b d e k. to_server w.kept.book lawful.reported.reports (world_match g.C.Carrier.calls.seen hosts w lawful) server user s u a b d e k;
  joined = λ hosts w lawful. world_joined g.C.Carrier.calls.seen hosts w lawful;
}
