use Rattle.std.proofs.Common.{◌≡◌, ℕ, ◌<◌, arith, ap, ◌∙◌}
use Rattle.std.specs.Prelude.{All}
use Rattle.std.proofs.lemmas.Grind.{common_steps}
use Rattle.std.proofs.lemmas.List.Elements.{All-from_get_or}
use Rattle.host_pairs.specs.Control.{control_text, orders_of}
use Rattle.host_pairs.proofs.ReadLemmas.{control_again}
use Rattle.host_pairs.proofs.texts.control_text.Goals as goal

pub returns-clause-again : goal.returns-clause-again
returns-clause-again c = λ commands read.
    let small : All (λ n. n < 256) c.args.octets.now = All-from_get_or (λ (n : ℕ). n < 256) c.args.octets.now 0 (λ i there. (c.type_inv.octets i).fits) in
    let is : c.in_ok-text.text ≡ control_text c.args.octets.now = grind (arith, common_steps) in
    ap orders_of is ∙ control_again c.args.octets.now commands small c.requires.room read
