use Rattle.std.proofs.Common.{rules, find}
use Rattle.ncp_control.specs.declared.command.Command.TheVariants as command
use Rattle.host_pairs.specs.Commands.{found_in, sender_on, all_taken}
use Rattle.host_pairs.specs.Entries.{sends_on}
use Rattle.host_pairs.proofs.FoundLemmas.{at_open}
use Rattle.host_pairs.proofs.desk.Desk.take_all.Goals as goal

pub returns-in-Open-clause-state : goal.returns-in-Open-clause-state
returns-in-Open-clause-state c =
    at_open c.as_slice.result.now c.in-Open.field-0 (found_in (find (sends_on c.args.link) c.as_slice.result.now)) (sender_on c.args.link c.args.self.now)
    (command.All c.args.link c.args.messages c.args.bits) (all_taken c.args.link c.args.messages c.args.bits) c.args.self.now _ c.in-Open.ensures (search rules) (λ e. c.grant.ensures)
