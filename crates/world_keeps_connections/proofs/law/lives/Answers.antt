use Rattle.world_keeps_pairing.proofs.lemmas.{between_itself}
use Rattle.world_keeps_connections.proofs.Going.{life_known}
use Rattle.world_keeps_connections.proofs.Matches.{live_match}
use Rattle.world_keeps_connections.proofs.law.lives.Goals as goal

pub returns : goal.returns
returns c = record {
  known = λ hosts moments run time origin x plain there on. life_known origin x.host x.peer x.socket x.foreign hosts moments run time plain x there (between_itself x) on;
  matches = live_match;
}
