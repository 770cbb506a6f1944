use Rattle.imp_node.proofs.Common.{packets_in, Outgoing}
use Rattle.std.proofs.Common.{◌≡◌, List, ◌++◌, length, sym, ap, ◌∙◌}
use Rattle.std.proofs.lemmas.List.{append-nil}
use Rattle.imp_node.proofs.RestingLemmas.{none_resent}
use Rattle.imp_node.proofs.lines.push_resent.Goals as goal

pub returns-then-busy_channels-eq0-clause-ok : goal.returns-then-busy_channels-eq0-clause-ok
returns-then-busy_channels-eq0-clause-ok c =
    let none : length (packets_in c.args.port.now.line.sending) ≡ 0 = sym c.busy_channels.ensures.count ∙ c.if-busy_channels-eq0.true in
    sym (ap (λ (frames : List Outgoing). c.args.frames.now.items ++ frames) (none_resent c.args.at c.args.port.now none) ∙ append-nil c.args.frames.now.items)
