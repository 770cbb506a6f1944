use Rattle.imp_node.proofs.Common.{Frame, acknowledgement, State, port_at}
use Rattle.std.proofs.Common.{◌≡◌, true, [], ◌∷◌, rules, sym, ap, ◌∙◌}
use Rattle.imp_node.specs.Resting.{is_repeat}
use Rattle.imp_node.proofs.RestingLemmas.{leaving, repeat_taken}
use Rattle.imp_node.proofs.imp.Imp.answers.Goals as goal

pub returns-clause-taken : goal.returns-clause-taken
returns-clause-taken c =
    let is : is_repeat c.args.self.now c.args.port c.args.frame.now ≡ true = search rules in
    repeat_taken c.args.self.now c.args.port c.args.frame.now is
    ∙ ap (λ (t : State). leaving t (record { port = c.args.port; frame = acknowledgement (port_at t.ports c.args.port).line } ∷ [])) (sym c.acknowledge_at.ensures)
    ∙ ap (λ (ack : Frame). leaving c.acknowledge_at.new.self (record { port = c.args.port; frame = ack } ∷ [])) (sym c.ack_at.ensures)
