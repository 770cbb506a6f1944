use Rattle.pairing_law.specs.Links.{events_at}
use Rattle.pairing_law.proofs.lemmas.{run_at}
use Rattle.host_keeps_pairing.proofs.Partners.{known_match}
use Rattle.host_keeps_pairing.proofs.law.known_partners.Goals as goal

pub returns : goal.returns
returns c = record {
  pair = known_match;
  links = λ steps s known others x y run. known_match (events_at s steps) known others x y (run_at s steps run);
}
