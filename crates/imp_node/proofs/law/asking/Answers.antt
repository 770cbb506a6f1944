use Rattle.imp_node.proofs.Common.{packets, messages}
use Rattle.imp_node.specs.Queries.{packet_has, message_has, is_request_between, is_message_between, packet_touches, message_touches}
use Rattle.imp_node.proofs.Queried.{found, not_found, begins_refusal, begins_number, begins_nothing}
use Rattle.imp_node.proofs.law.asking.Goals as goal

pub returns : goal.returns
returns c = record {
  held = λ s f n. found (packet_has f n) (message_has f n) (packets s) (messages s);
  not_held = λ s f n. not_found (packet_has f n) (message_has f n) (packets s) (messages s);
  «data» = λ s from to. found (is_request_between from to) (is_message_between from to) (packets s) (messages s);
  no_data = λ s from to. not_found (is_request_between from to) (is_message_between from to) (packets s) (messages s);
  touched = λ s imp. found (packet_touches imp) (message_touches imp) (packets s) (messages s);
  untouched = λ s imp. not_found (packet_touches imp) (message_touches imp) (packets s) (messages s);
  begins = begins_refusal;
  number = begins_number;
  no_number = begins_nothing;
}
