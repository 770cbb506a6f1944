use Rattle.host_keeps_pairing.proofs.Rows.{receiver_end, receiver_none, sender_end, sender_none}
use Rattle.host_keeps_pairing.proofs.law.worked_programs.Goals as goal

pub returns : goal.returns
returns c = record {
  receiver = receiver_end;
  sender = sender_end;
  closed = receiver_none;
  over = sender_none;
}
