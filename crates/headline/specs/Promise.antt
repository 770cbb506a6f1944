-- What `book_of` says of a world: the promise of its book, and what the programs of all hosts do.
use Rattle.std.specs.Prelude.{◌≡◌, Bool, false, List, [], ◌++◌}
use Rattle.interface.specs.Calls.{Seen}
use Rattle.interface.specs.Host.{Host}
use Rattle.interface.specs.Mailboxes.{IsRun}
use Rattle.interface.specs.declared.crossing.Crossing.{Crossing}
use Rattle.net_sim.specs.Book.{Kept}
use Rattle.net_sim.specs.Carriers.{AreOfOneEvent}
use Rattle.net_sim.specs.Clean.{IsLawful}
use Rattle.net_sim.specs.World.{WorldState}
use Rattle.promise.specs.Arrived.{ArrivedBook}
use Rattle.promise.specs.Ends.{AreContacts, AreLeft}
use Rattle.promise.specs.Connections.{JoinedBook}
use Rattle.promise.specs.Fates.{AreFated, ClosesWhole}
use Rattle.promise.specs.Formed.{FormedBook}
use Rattle.promise.specs.Notices.{FormedNotices}
use Rattle.promise.specs.Safe.{SafeBook}
use Rattle.world_keeps_lives.specs.Drained.{AllDrained}
use Rattle.world_keeps_lives.specs.Firsts.{FirstBook}
use Rattle.world_keeps_streams.specs.Answered.{AllAnswered}
use Rattle.world_keeps_streams.specs.Arrivals.{AllArrive, AllCome}
use Rattle.world_keeps_streams.specs.Between.{EachIsBetween}
use Rattle.world_keeps_streams.specs.Came.{AllCame}
use Rattle.world_keeps_streams.specs.Closes.{AllClose, AllHanded}
use Rattle.world_keeps_streams.specs.Rests.{AllAgree, AllCalm, AllRest}
use Rattle.world_keeps_streams.specs.Granted.{EachIsWithin}
use Rattle.world_keeps_streams.specs.Sent.{EachWasSent}
use Rattle.world_keeps_streams.specs.Settled.{EachAgrees, HasSettled}
use Rattle.world_keeps_streams.specs.Within.{CountNothingLater}

-- a book has all that is in a network's log, except, once memory has run out, for what crossed in the one event in which
-- it did
pub record HasLog (log : List Crossing) (stopped : Bool) (crossings : List Crossing) : Type 0 where
  pub unbooked : List Crossing
  pub parts : log ≡ unbooked ++ crossings
  pub all : stopped ≡ false → unbooked ≡ []
  pub one : AreOfOneEvent unbooked

-- What is promised of a book between the hosts of a network with this log, and once memory has stopped it or before: of
-- what crossed, the notices, the contacts, the lives and their fates. No host program occurs in it
pub record KeepsPromise (hosts : List Host) (log : List Crossing) (stopped : Bool) (k : Kept) : Type 0 where
  -- what crossed is what the network's log has
  pub booked : HasLog log stopped k.book.crossings
  -- and it is a run of the mailboxes
  pub run : IsRun hosts k.book.crossings
  -- each life is made of messages that crossed
  pub formed : FormedBook k.book.crossings k.book.lives
  -- each notice of data reports a message that has just crossed
  pub told : FormedNotices k.book.crossings k.book.notices
  -- the book is safe, with what was handed over to be sent
  pub safe : SafeBook k.book.crossings k.book.lives k.handed
  -- a finished initial connection pairs the right four sockets
  pub joined : JoinedBook k.book
  -- each life has a fate, which says whether it is over
  pub fated : AreFated k.book.lives k.fates
  -- a receiving life that has ended has all that was sent, and all that was handed over
  pub whole : ClosesWhole k.book.crossings k.book.lives k.handed k.fates
  -- an open receiving life has all that came in, so RFNM of data means that they arrived
  pub arrived : ArrivedBook k.book.contacts k.book.crossings k.book.lives k.fates
  -- nothing ends a life between its requests, and it is over by what its fate says
  pub over : AreLeft k.book.contacts k.book.crossings k.book.lives k.fates
  -- what a host sends to another next after a contact with it is an RST
  pub contacts : AreContacts k.book.contacts k.book.crossings
  -- a life that is over counts no message that crossed after what ended it
  pub within : CountNothingLater k.book.contacts k.book.crossings k.book.lives
  -- the k-th message that a receiving life counts is the k-th of the life that it matches
  pub sent : EachWasSent k.book.crossings k.book.lives
  -- each message of data is one of a sending life, which a receiving life matches
  pub between : EachIsBetween k.book.crossings k.book.lives
  -- what a sending life sent is within what the ALLs grant on its link that its host took
  pub granted : EachIsWithin k.book.crossings k.book.lives

-- a world is lawful; in its moments data arrive, and RFNM of data means that they did; lives agree where their ends
-- close and where they rest; all that was ever sent had come in when a CLS was taken, and what was handed over was sent
-- where a sender closes first; and each message that went out is one of a sending life
pub record IsExact {C : Type 0} (seen : C → Seen) (w : WorldState C) : Type 0 where
  pub lawful : IsLawful seen (seen w.carrier).hosts w
  pub arrives : AllArrive lawful.whole.moments
  pub comes : AllCome lawful.whole.moments
  pub answered : AllAnswered lawful.whole.moments
  pub closes : AllClose lawful.whole.moments
  pub came : AllCame lawful.whole.moments
  pub rests : AllRest lawful.whole.moments
  pub agree : AllAgree lawful.whole.moments
  pub calm : AllCalm lawful.whole.moments
  pub settled : HasSettled seen w → EachAgrees lawful.whole.moments
  pub drained : AllDrained lawful.whole.moments
  pub handed : AllHanded lawful.whole.moments
  pub firsts : FirstBook w.kept.book.crossings w.kept.book.lives

-- the book of a world keeps the promise, and the world is exact: what `book_of` says of a world
pub record WorldKeeps {C : Type 0} (seen : C → Seen) (w : WorldState C) : Type 0 where
  pub book : KeepsPromise (seen w.carrier).hosts (seen w.carrier).log w.stopped w.kept
  pub exact : IsExact seen w
