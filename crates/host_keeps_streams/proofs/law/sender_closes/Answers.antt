use Rattle.host_keeps_streams.proofs.Leaving.{settles, settles_none, close_sends, cls_sends, gone_sends, gone_elsewhere}
use Rattle.host_keeps_streams.proofs.law.sender_closes.Goals as goal

pub returns : goal.returns
returns c = record {
  settled = λ name link busy d e s one h. settles name link busy d.entries e s one h;
  none = λ name link busy d s none h. settles_none name link busy d.entries s none h;
  close = close_sends;
  heard = cls_sends;
  gone = gone_sends;
  gone_elsewhere = gone_elsewhere;
}
