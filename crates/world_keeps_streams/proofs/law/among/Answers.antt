use Rattle.world_keeps_streams.proofs.Books.Agree.{settled}
use Rattle.world_keeps_streams.proofs.Books.All.{sent, source}
use Rattle.world_keeps_streams.proofs.Books.Answered.{answered}
use Rattle.world_keeps_streams.proofs.Books.Arrives.{arrives}
use Rattle.world_keeps_streams.proofs.Books.Between.{is_between}
use Rattle.world_keeps_streams.proofs.Books.Calm.{calm}
use Rattle.world_keeps_streams.proofs.Books.Came.{all_came}
use Rattle.world_keeps_streams.proofs.Books.Closes.{rests}
use Rattle.world_keeps_streams.proofs.Books.Comes.{comes}
use Rattle.world_keeps_streams.proofs.Books.Ending.{WasClosed, ended_by_partner}
use Rattle.world_keeps_streams.proofs.Books.EndingHanded.{took_sent}
use Rattle.world_keeps_streams.proofs.Books.Firsts.{formed}
use Rattle.world_keeps_streams.proofs.Books.Later.{closes_whole}
use Rattle.world_keeps_streams.proofs.Books.WasSent.{each_was_sent}
use Rattle.world_keeps_streams.proofs.Ends.Arrived.{answers, closed_all, counts_all}
use Rattle.world_keeps_streams.proofs.Ends.Contacts.{contacts_now_are}
use Rattle.world_keeps_streams.proofs.Ends.Fits.{over_now}
use Rattle.world_keeps_streams.proofs.Ends.Within.{within}
use Rattle.world_keeps_streams.proofs.Lives.Among.{among_same}
use Rattle.world_keeps_streams.proofs.law.among.Goals as goal

pub returns : goal.returns
returns c = record {
  lives = λ hosts moments. among_same hosts.strange moments;
  source = λ hosts moments l x ours there. source hosts moments l.0 l.1 l.2 x ours there;
  was_sent = each_was_sent;
  between = is_between;
  closes = closes_whole;
  came = all_came;
  ended = λ hosts moments l x ours there kind.
      (let w : WasClosed hosts moments x = ended_by_partner hosts moments l x ours there kind in (w.closed, w.ours));
  whole = took_sent;
  counts = counts_all;
  closed = closed_all;
  arrived = answers;
  over = over_now;
  contacts = contacts_now_are;
  within = within;
  formed = formed;
  arrives = λ hosts moments m l. arrives hosts l.0 m moments l.1 l.2;
  comes = λ hosts moments m l. comes hosts l.0 m moments l.1 l.2;
  answered = answered;
  rests = λ hosts moments l x s ours q. rests hosts moments l x s ours q;
  agree = λ hosts moments l x s ours q. settled hosts moments l x s ours q;
  calm = λ hosts moments l x s ours q. calm hosts moments l x s ours q;
  sent = λ hosts moments l x s ours. sent hosts moments l.0 l.1 l.2 x s ours;
}
