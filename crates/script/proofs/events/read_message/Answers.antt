use Rattle.script.proofs.Messages.{too_few_words, no_flow, no_count, no_text}
use Rattle.script.proofs.events.read_message.Goals as goal

pub returns-in_default-cut_twice-clause-read : goal.returns-in_default-cut_twice-clause-read
returns-in_default-cut_twice-clause-read c = too_few_words c.args.words.now c.in-Some.source.now c.in-Some.destination.now c.in-Some.rest.now c.in-Some.ensures.0 c.in-Some.ensures.1 c.in-Some.ensures.2 c.in_default-cut_twice.ensures

pub returns-in_default-read_flow-clause-read : goal.returns-in_default-read_flow-clause-read
returns-in_default-read_flow-clause-read c = no_flow c.args.words.now c.in-Some.source.now c.in-Some.destination.now c.in-Some-cut_twice.link.now c.in-Some-cut_twice.count.now c.in-Some-cut_twice.octets.now (record { rest = c.in-Some.rest.now; front = c.in-Some.ensures.0; back = c.in-Some-cut_twice.ensures.0; source = c.in-Some.ensures.1; destination = c.in-Some.ensures.2; link = c.in-Some-cut_twice.ensures.1; count = c.in-Some-cut_twice.ensures.2 }) c.in_default-read_flow.ensures

pub returns-in_default-read_count-clause-read : goal.returns-in_default-read_count-clause-read
returns-in_default-read_count-clause-read c = no_count c.args.words.now c.in-Some.source.now c.in-Some.destination.now c.in-Some-cut_twice.link.now c.in-Some-cut_twice.count.now c.in-Some-cut_twice.octets.now (record { rest = c.in-Some.rest.now; front = c.in-Some.ensures.0; back = c.in-Some-cut_twice.ensures.0; source = c.in-Some.ensures.1; destination = c.in-Some.ensures.2; link = c.in-Some-cut_twice.ensures.1; count = c.in-Some-cut_twice.ensures.2 }) c.in_default-read_count.ensures

pub returns-in_default-2-clause-read : goal.returns-in_default-2-clause-read
returns-in_default-2-clause-read c = no_text c.args.words.now c.in-Some.source.now c.in-Some.destination.now c.in-Some-cut_twice.link.now c.in-Some-cut_twice.count.now c.in-Some-cut_twice.octets.now c.in-Some-read_count.count (record { rest = c.in-Some.rest.now; front = c.in-Some.ensures.0; back = c.in-Some-cut_twice.ensures.0; source = c.in-Some.ensures.1; destination = c.in-Some.ensures.2; link = c.in-Some-cut_twice.ensures.1; count = c.in-Some-cut_twice.ensures.2 }) c.in-Some-read_count.ensures.0 c.in-Some-read_count.ensures.1 (rw c.in_default-2.is at c.in_ok-text.ensures.read)
