use Rattle.host_keeps_streams.proofs.Asking.{grant_may, grant_receives, ask_back_may, grant_elsewhere, grant_apart, send_keeps}
use Rattle.host_keeps_streams.proofs.law.asking.Goals as goal

pub returns : goal.returns
returns c = record {
  may_grant = λ name link socket m n q e r own on opened little h. grant_may name link socket e q.entries own m n r on opened little h;
  grant = λ name link socket m n q e r own on h. grant_receives name link socket e q.entries own m n r on h;
  may_ask_back = λ name link socket m n q e r own on opened h. ask_back_may name link socket e q.entries own m n r on opened h;
  elsewhere = λ name link socket m n q e r own off h. grant_elsewhere name link socket e q.entries own m n r off h;
  apart = λ name link socket m n q e s own off h. grant_apart name link socket e q.entries own m n s off h;
  send = λ name link socket bits q e s own h. send_keeps name link socket e q.entries own bits s h;
}
