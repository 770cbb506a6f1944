use Rattle.host_keeps_streams.proofs.Opening.{asks_free, asks_elsewhere, asks_to_send, rts_gone, str_heard, rts_heard}
use Rattle.host_keeps_streams.proofs.law.opening.Goals as goal

pub returns : goal.returns
returns c = record {
  asked = λ name link own foreign q r free even unasked size over h. asks_free name link own foreign q r h free even unasked size over;
  elsewhere = λ name link other own foreign q r away h. asks_elsewhere name link own foreign q r h other away;
  sends = λ name link own foreign z k q s other fresh h. asks_to_send name link k z s other own foreign q fresh h;
  rts_gone = rts_gone;
  str_heard = str_heard;
  rts_heard = λ name link peer busy stamp own foreign d e s found sends free none size closed told fresh open_end first.
      rts_heard name link peer busy stamp own foreign d e s found sends free none size closed told fresh open_end first;
}
