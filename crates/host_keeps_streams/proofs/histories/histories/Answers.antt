use Rattle.host_keeps_streams.specs.Histories.{ends_now, gone_now, receiver_now, sender_now}
use Rattle.host_keeps_streams.proofs.Chain.{Holds, all_keep_box, all_may_receive, all_may_send, holds_now, numbered_tells}
use Rattle.host_keeps_streams.proofs.Firsts.{closed_first}
use Rattle.host_keeps_streams.proofs.histories.histories.Goals as goal

pub returns : goal.returns
returns c = record {
  received = λ number peer link moments tells chain allowed. all_may_receive number tells peer link moments chain allowed;
  sent = λ number peer link moments tells chain allowed. all_may_send number tells peer link moments chain allowed;
  one_message = λ number peer link moments tells chain allowed. all_keep_box number tells peer link moments chain allowed;
  receiver = λ number peer link moments tells chain allowed.
      let h : Holds number tells link (gone_now peer moments) (ends_now peer moments) (receiver_now number peer link moments) (sender_now number peer link moments) = holds_now number tells peer link moments chain allowed in
      h.received;
  sender = λ number peer link moments tells chain allowed.
      let h : Holds number tells link (gone_now peer moments) (ends_now peer moments) (receiver_now number peer link moments) (sender_now number peer link moments) = holds_now number tells peer link moments chain allowed in
      h.sent;
  sound = λ number peer link moments tells chain allowed.
      let h : Holds number tells link (gone_now peer moments) (ends_now peer moments) (receiver_now number peer link moments) (sender_now number peer link moments) = holds_now number tells peer link moments chain allowed in
      h.sound;
  closed = closed_first;
  telling = numbered_tells;
}
