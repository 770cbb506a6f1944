use Rattle.world_script.proofs.Lines.{no_asking, no_asking_host}
use Rattle.world_script.proofs.Requests.{host_front, no_host, other_host}
use Rattle.world_script.proofs.events.read_ask.Goals as goal

pub returns-in_default-clause-read : goal.returns-in_default-clause-read
returns-in_default-clause-read c = no_asking_host c.args.verb c.args.words.now (no_host c.args.words.now c.in_default.ensures)

pub returns-in_default-read_host-clause-read : goal.returns-in_default-read_host-clause-read
returns-in_default-read_host-clause-read c = no_asking_host c.args.verb c.args.words.now (other_host c.args.words.now c.in-Some.host.now c.in-Some.rest.now c.in-Some.ensures.0 c.in-Some.ensures.1 c.in_default-read_host.ensures)

pub returns-in_default-2-clause-read : goal.returns-in_default-2-clause-read
returns-in_default-2-clause-read c =
    no_asking c.args.verb c.args.words.now c.in-Some.rest.now c.in-Some-read_host.host (host_front c.args.words.now c.in-Some.host.now c.in-Some.rest.now c.in-Some-read_host.host c.in-Some.ensures.0 c.in-Some-read_host.ensures.0) c.in-Some-read_host.ensures.1
    (rw c.in_default-2.is at c.in_ok-request.ensures.read)
