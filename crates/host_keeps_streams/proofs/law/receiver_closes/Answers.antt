use Rattle.host_keeps_streams.proofs.Ending.{close_receives, close_elsewhere, cls_receives, cls_elsewhere, gone_receives, gone_elsewhere}
use Rattle.host_keeps_streams.proofs.law.receiver_closes.Goals as goal

pub returns : goal.returns
returns c = record {
  close = close_receives;
  close_elsewhere = close_elsewhere;
  heard = cls_receives;
  heard_elsewhere = cls_elsewhere;
  gone = gone_receives;
  gone_elsewhere = gone_elsewhere;
}
