use Rattle.script.proofs.Hosts.{flow_read}
use Rattle.script.proofs.events.read_three.Goals as goal

pub returns : goal.returns
returns c = flow_read c.args.words.now c.in_ok-source.source.now c.in_ok-source.destination.now c.in_ok-source.link.now c.read_flow.result c.in_ok-source.ensures.0 c.in_ok-source.ensures.1 c.in_ok-source.ensures.2 c.read_flow.ensures
