use Rattle.std.proofs.Common.{◌≡◌, true, rules}
use Rattle.host_pairs.specs.Queue.{are_joint}
use Rattle.host_pairs.proofs.ReadLemmas.{commands_read}
use Rattle.host_pairs.proofs.pair.Pair.text_for.Goals as goal

pub returns-in-Commands-clause-again : goal.returns-in-Commands-clause-again
returns-in-Commands-clause-again c =
    let joint : are_joint c.args.self.now.queue ≡ true = search rules in
    commands_read c.args.self.now c.args.out.now c.in-Commands.count c.commands_text.result c.in-Commands.is c.requires.room joint (search rules)
