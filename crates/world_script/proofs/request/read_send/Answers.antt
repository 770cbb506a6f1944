use Rattle.world_script.proofs.Requests.{no_count, no_bits}
use Rattle.world_script.proofs.request.read_send.Goals as goal

pub returns-in_default-cut_number-clause-read : goal.returns-in_default-cut_number-clause-read
returns-in_default-cut_number-clause-read c = no_count c.args.words.now c.in-Some.rest.now c.in-Some.socket c.in-Some.ensures.0 c.in-Some.ensures.1 c.in_default-cut_number.ensures

pub returns-in_default-2-clause-read : goal.returns-in_default-2-clause-read
returns-in_default-2-clause-read c = no_bits c.args.words.now c.in-Some.rest.now c.in-Some-cut_number.octets.now c.in-Some.socket c.in-Some-cut_number.count c.in-Some.ensures.0 c.in-Some.ensures.1 c.in-Some-cut_number.ensures.0 c.in-Some-cut_number.ensures.1 (rw c.in_default-2.is at c.in_ok-bits.ensures.read)
