use Rattle.world_keeps_streams.proofs.Books.Agree.{world_agrees}
use Rattle.world_keeps_streams.proofs.Books.All.{world_sent, world_source}
use Rattle.world_keeps_streams.proofs.Books.Answered.{world_answered}
use Rattle.world_keeps_streams.proofs.Ends.Arrived.{world_arrived}
use Rattle.world_keeps_streams.proofs.Books.Arrives.{world_arrives}
use Rattle.world_keeps_streams.proofs.Books.Between.{world_between}
use Rattle.world_keeps_streams.proofs.Books.Calm.{world_calms}
use Rattle.world_keeps_streams.proofs.Books.Came.{world_came}
use Rattle.world_keeps_streams.proofs.Books.Closes.{world_rests}
use Rattle.world_keeps_streams.proofs.Books.Comes.{world_comes}
use Rattle.world_keeps_streams.proofs.Books.EndingHanded.{world_ended}
use Rattle.world_keeps_streams.proofs.Books.Handed.{world_handed_over}
use Rattle.world_keeps_streams.proofs.Books.Settled.{world_settles}
use Rattle.world_keeps_streams.proofs.Books.Later.{world_closes}
use Rattle.world_keeps_streams.proofs.Books.WasSent.{world_was_sent}
use Rattle.world_keeps_streams.proofs.Books.Firsts.{world_firsts, world_formed}
use Rattle.world_keeps_streams.proofs.Ends.Contacts.{world_contacts}
use Rattle.world_keeps_streams.proofs.Ends.Fits.{world_over}
use Rattle.world_keeps_streams.proofs.Ends.Within.{world_within}
use Rattle.world_keeps_streams.proofs.law.worlds.Goals as goal

pub returns : goal.returns
returns g c = record {
  source = λ hosts. world_source hosts g.C.Carrier.calls.seen;
  was_sent = world_was_sent g.C.Carrier.calls.seen;
  between = world_between g.C.Carrier.calls.seen;
  closes = world_closes g.C.Carrier.calls.seen;
  came = world_came g.C.Carrier.calls.seen;
  handed = world_handed_over g.C.Carrier.calls.seen;
  whole = world_ended g.C.Carrier.calls.seen;
  arrived = world_arrived g.C.Carrier.calls.seen;
  over = world_over g.C.Carrier.calls.seen;
  contacts = world_contacts g.C.Carrier.calls.seen;
  within = world_within g.C.Carrier.calls.seen;
  formed = world_formed g.C.Carrier.calls.seen;
  firsts = world_firsts g.C.Carrier.calls.seen;
  arrives = world_arrives g.C.Carrier.calls.seen;
  comes = world_comes g.C.Carrier.calls.seen;
  answered = world_answered g.C.Carrier.calls.seen;
  rests = world_rests g.C.Carrier.calls.seen;
  agree = world_agrees g.C.Carrier.calls.seen;
  calm = world_calms g.C.Carrier.calls.seen;
  sent = λ hosts. world_sent hosts g.C.Carrier.calls.seen;
  settled = world_settles g.C.Carrier.calls.seen;
}
