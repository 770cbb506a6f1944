use Rattle.std.proofs.Common.{◌≡◌, ℕ, arith, List, take, subst, sym, ◌∙◌}
use Rattle.std.proofs.lemmas.Grind.{common_steps}
use Rattle.std.proofs.lemmas.List.Elements.{All-more}
use Rattle.std.proofs.lemmas.List.{take_all}
use Rattle.ncp_control.specs.declared.command.Command.{Command}
use Rattle.ncp_control.specs.Command.{IsCommand}
use Rattle.ncp_control.specs.Packing.{AreRead}
use Rattle.ncp_control.proofs.PackedLemmas.{packed_again}
use Rattle.ncp_control.proofs.packing.pack.Goals as goal

pub loop-command-preserved : goal.loop-command-preserved
loop-command-preserved c = record {
  spelled = grind (arith, common_steps);
  in_range =
      All-more IsCommand c.split_at.result.0.now c.loop-command.command-index c.command-item.result (omega arith) c.loop-command.invariant.in_range
      (subst (λ (command : Command). IsCommand command) c.command-item.is c.append_to.ensures.command);
}

pub returns-clause-again : goal.returns-clause-again
returns-clause-again c =
    let front : List Command = take c.loop-command.command-index c.split_at.result.0.now in
    let whole : front ≡ c.split_at.result.0.now = take_all c.loop-command.command-index c.split_at.result.0.now (omega arith) in
    let read : AreRead c.loop-command.octets.items front =
    subst (λ (octets : List ℕ). AreRead octets front) (sym c.loop-command.invariant.spelled) (packed_again front c.loop-command.invariant.in_range) in
    subst (λ (commands : List Command). AreRead c.loop-command.octets.items commands) (whole ∙ c.split_at.ensures.front) read
