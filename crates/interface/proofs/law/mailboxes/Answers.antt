use Rattle.interface.proofs.FlowByFlow.{each_is_run, mail_is}
use Rattle.interface.proofs.Lists.{waits_with}
use Rattle.interface.proofs.law.mailboxes.Goals as goal

pub returns : goal.returns
returns c = record {
  flow_by_flow = each_is_run;
  waiting = waits_with;
  own_story = mail_is;
}
