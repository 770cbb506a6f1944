-- The laws of src/ that are longer than a line: each is a record, and its fields are the clauses.
use Rattle.std.specs.List.{Contains}
use Rattle.std.specs.Prelude.{List, false, length, true, ℕ, ◌≡◌, ◌⊎◌}
use Rattle.interface.specs.Calls.{Calls}
use Rattle.interface.specs.Host.{Host}
use Rattle.interface.specs.Mailboxes as mail
use Rattle.promise.specs.Notices.{FormedNotices}
use Rattle.promise.specs.Safe.{AreHanded, IsGranted, receives}
use Rattle.promise.specs.declared.life.Life.{Life}
use Rattle.net_sim.specs.Clean.{HaveAddresses, IsLawful}
use Rattle.net_sim.specs.Story.{Moment, program}
use Rattle.net_sim.specs.Timeline.{crossings_of}
use Rattle.net_sim.specs.Among.{beside_among}
use Rattle.net_sim.specs.Mixed.{Happened, mixed_kept}
use Rattle.world_keeps_pairing.specs.Laws.Worlds.{among}
use Rattle.net_sim.specs.World.{WorldState}
use Rattle.reset_law.specs.Network.{Network}
use Rattle.world_keeps_lives.specs.Drained.{AllDrained, AllSent}
use Rattle.world_keeps_lives.specs.Told.{ToldAmong}
use Rattle.world_keeps_lives.specs.Lives.{HasOpenEnd, IsBounded, IsFreeSocket, IsOwned, IsSteady}

-- What each host with a program has, over every list of moments in which what crosses is a run of the mailboxes, whatever
-- strangers do.
pub record Programs : Type 0 where
  -- each of its sockets is free, or has one end of the host's own, whose lives are all that continue there
  pub sockets :
      (hosts : Network) (moments : List Moment) → HaveAddresses hosts.all → mail.IsRun hosts.all (crossings_of moments) →
      Happened hosts moments → (h : Host) → hosts.strange h ≡ false → (socket : ℕ) →
      IsFreeSocket h socket (program h moments) (mixed_kept hosts.strange moments) ⊎
      IsOwned h socket (program h moments) (mixed_kept hosts.strange moments)
  -- ends that aren't its own refuse, and pairs that aren't through a reset have none
  pub steady :
      (hosts : Network) (moments : List Moment) → HaveAddresses hosts.all → mail.IsRun hosts.all (crossings_of moments) →
      Happened hosts moments → (h : Host) → hosts.strange h ≡ false → IsSteady (program h moments)
  -- a life that isn't over is that of the one end on its socket
  pub live :
      (hosts : Network) (moments : List Moment) → HaveAddresses hosts.all → mail.IsRun hosts.all (crossings_of moments) →
      Happened hosts moments → (x : Life) → hosts.strange x.host ≡ false →
      Contains (mixed_kept hosts.strange moments).book.lives x → x.ended ≡ false →
      HasOpenEnd (program x.host moments) x
  -- what a receiving life took, with what was returned, is within what it granted
  pub taken :
      (hosts : Network) (moments : List Moment) → HaveAddresses hosts.all → mail.IsRun hosts.all (crossings_of moments) →
      Happened hosts moments → (receiver : Life) → hosts.strange receiver.host ≡ false →
      Contains (mixed_kept hosts.strange moments).book.lives receiver →
      receives receiver ≡ true → IsGranted receiver receiver.messages (length receiver.bits)
  -- of what a receiving life granted, all but what a counter can hold was taken or returned
  pub bounded :
      (hosts : Network) (moments : List Moment) → HaveAddresses hosts.all → mail.IsRun hosts.all (crossings_of moments) →
      Happened hosts moments → (receiver : Life) → hosts.strange receiver.host ≡ false →
      Contains (mixed_kept hosts.strange moments).book.lives receiver →
      receives receiver ≡ true → IsBounded receiver
  -- what each sending life sent is a prefix of what was handed over in it
  pub handed :
      (hosts : Network) (moments : List Moment) → HaveAddresses hosts.all → mail.IsRun hosts.all (crossings_of moments) →
      Happened hosts moments →
      AreHanded (mixed_kept hosts.strange moments).book.lives (mixed_kept hosts.strange moments).handed
  -- a sending life between two such hosts whose CLS was queued, before its partner's was taken, has sent all that was
  -- handed over in it, also once it is over
  pub drained :
      (hosts : Network) (moments : List Moment) → HaveAddresses hosts.all → mail.IsRun hosts.all (crossings_of moments) →
      Happened hosts moments →
      AllSent (among hosts) moments (among hosts moments)
      (beside_among hosts.strange (mixed_kept hosts.strange moments).book.lives (mixed_kept hosts.strange moments).handed)
  -- each notice of data about a message between two such hosts reports it just after it crossed, on the link of a
  -- connection of its socket; each such message that goes out has its notice
  pub told :
      (hosts : Network) (moments : List Moment) → HaveAddresses hosts.all → mail.IsRun hosts.all (crossings_of moments) →
      Happened hosts moments →
      ToldAmong hosts.strange (crossings_of moments) (mixed_kept hosts.strange moments).book.notices

-- The same of the book of every world, whatever its carrier is made of: the two clauses of the safe book that are about
-- one host only, the bound of grants, the end of each life that isn't over, in the program that comes of the world's
-- moments, and the messages that notices report.
pub record Worlds {C : Type 0} (calls : Calls C) : Type 0 where
  pub live :
      (hosts : List Host) (w : WorldState C) → (lawful : IsLawful calls.seen hosts w) → (x : Life) →
      Contains w.kept.book.lives x → x.ended ≡ false → HasOpenEnd (program x.host lawful.whole.moments) x
  pub taken :
      (hosts : List Host) (w : WorldState C) → IsLawful calls.seen hosts w → (receiver : Life) →
      Contains w.kept.book.lives receiver → receives receiver ≡ true →
      IsGranted receiver receiver.messages (length receiver.bits)
  pub bounded :
      (hosts : List Host) (w : WorldState C) → IsLawful calls.seen hosts w → (receiver : Life) →
      Contains w.kept.book.lives receiver → receives receiver ≡ true → IsBounded receiver
  pub handed :
      (hosts : List Host) (w : WorldState C) → IsLawful calls.seen hosts w → AreHanded w.kept.book.lives w.kept.handed
  pub drained :
      (hosts : List Host) (w : WorldState C) → (lawful : IsLawful calls.seen hosts w) → AllDrained lawful.whole.moments
  pub told :
      (hosts : List Host) (w : WorldState C) → IsLawful calls.seen hosts w →
      FormedNotices w.kept.book.crossings w.kept.book.notices
