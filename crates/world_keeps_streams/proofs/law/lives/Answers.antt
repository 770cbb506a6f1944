use Rattle.world_keeps_streams.proofs.Common.{happened, all_ours, ◌∷◌, refl, Crossed}
use Rattle.interface.specs.declared.crossing.Answer.TheVariants as answer
use Rattle.interface.specs.declared.crossing.Crossing.TheVariants as crossing
use Rattle.world_keeps_streams.proofs.Books.Agree.{settled}
use Rattle.world_keeps_streams.proofs.Books.All.{sent, source}
use Rattle.world_keeps_streams.proofs.Books.Answered.{answered}
use Rattle.world_keeps_streams.proofs.Ends.Arrived.{arrived_book}
use Rattle.world_keeps_streams.proofs.Books.Arrives.{arrives}
use Rattle.world_keeps_streams.proofs.Books.Between.{each_is_between}
use Rattle.world_keeps_streams.proofs.Books.Calm.{all_calm}
use Rattle.world_keeps_streams.proofs.Books.Came.{all_came}
use Rattle.world_keeps_streams.proofs.Books.Closes.{rests}
use Rattle.world_keeps_streams.proofs.Books.Comes.{all_come}
use Rattle.world_keeps_streams.proofs.Books.Ending.{ended_by_partner}
use Rattle.world_keeps_streams.proofs.Books.EndingHanded.{closes_all}
use Rattle.world_keeps_streams.proofs.Books.Handed.{took_handed}
use Rattle.world_keeps_streams.proofs.Books.Later.{closes_whole}
use Rattle.world_keeps_streams.proofs.Books.Firsts.{all_formed, firsts}
use Rattle.world_keeps_streams.proofs.Books.WasSent.{all_was_sent}
use Rattle.world_keeps_streams.proofs.Ends.Contacts.{contacts_are}
use Rattle.world_keeps_streams.proofs.Ends.Fits.{all_over}
use Rattle.world_keeps_streams.proofs.Ends.Within.{all_within}
use Rattle.world_keeps_streams.proofs.law.lives.Goals as goal

pub returns : goal.returns
returns c = record {
  source = λ hosts moments addresses run time receiver. source (all_ours hosts) moments addresses run (happened hosts moments time) receiver (refl, refl);
  was_sent = λ hosts moments addresses run time. all_was_sent hosts moments (addresses, run, happened hosts moments time);
  between = λ hosts moments addresses run time. each_is_between hosts moments (addresses, run, happened hosts moments time);
  closes = λ hosts moments addresses run time receiver closed. closes_whole (all_ours hosts) moments (addresses, run, happened hosts moments time) receiver (refl, refl) closed (refl, refl);
  came = λ hosts moments addresses run time later earlier is x. all_came (all_ours hosts) moments (addresses, run, happened hosts moments time) later earlier is x (refl, refl);
  handed = λ hosts moments addresses run time receiver. took_handed hosts moments (addresses, run, happened hosts moments time) receiver;
  ended = λ hosts moments addresses run time receiver there kind. (ended_by_partner (all_ours hosts) moments (addresses, run, happened hosts moments time) receiver (refl, refl) there kind).closed;
  whole = λ hosts moments addresses run time. closes_all hosts moments (addresses, run, happened hosts moments time);
  arrived = λ hosts moments addresses run time. arrived_book hosts moments (addresses, run, happened hosts moments time);
  over = λ hosts moments addresses run time. all_over hosts moments (addresses, run, happened hosts moments time);
  contacts = λ hosts moments addresses run time. contacts_are hosts moments (addresses, run, happened hosts moments time);
  within = λ hosts moments addresses run time. all_within hosts moments (addresses, run, happened hosts moments time);
  formed = λ hosts moments addresses run time. all_formed hosts moments (addresses, run, happened hosts moments time);
  firsts = λ hosts moments addresses run time. firsts hosts moments (addresses, run, happened hosts moments time);
  arrives = λ hosts moments m addresses run time x. arrives (all_ours hosts) addresses m moments run (happened hosts (Crossed (crossing.In m) ∷ moments) time) x (refl, refl);
  comes = λ hosts moments addresses run time m later earlier is x s. all_come (all_ours hosts) moments (addresses, run, happened hosts moments time) m later earlier is x s (refl, refl);
  answered = λ hosts moments f addresses run time off. answered (all_ours hosts) moments f (refl, refl) (addresses, run, happened hosts (Crossed (crossing.Answer answer.Rfnm f) ∷ moments) time);
  rests = λ hosts moments addresses run time receiver sender quiet. rests (all_ours hosts) moments (addresses, run, happened hosts moments time) receiver sender (refl, refl) quiet;
  agree = λ hosts moments addresses run time receiver sender quiet. settled (all_ours hosts) moments (addresses, run, happened hosts moments time) receiver sender (refl, refl) quiet;
  calm = λ hosts moments addresses run time later earlier is x s. all_calm (all_ours hosts) moments (addresses, run, happened hosts moments time) later earlier is x s (refl, refl);
  sent = λ hosts moments addresses run time receiver sender. sent (all_ours hosts) moments addresses run (happened hosts moments time) receiver sender (refl, refl);
}
