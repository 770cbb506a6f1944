-- The laws of src/ that are longer than a line: each is a record, and its fields are the clauses.
use Rattle.std.specs.List.{Contains}
use Rattle.std.specs.Prelude.{All, Bool, List, None, false, length, true, ℕ, ◌∷◌, ◌≡◌, ◌⊎◌}
use Rattle.interface.specs.Calls.{Calls}
use Rattle.interface.specs.Host.{Host, same_host}
use Rattle.interface.specs.Mailboxes.{Empty, IsRun, box_of, is_up}
use Rattle.interface.specs.Messages.{SafeMessages}
use Rattle.interface.specs.declared.address.Flow.{Flow}
use Rattle.interface.specs.declared.crossing.Crossing.{Crossing}
use Rattle.interface.specs.declared.crossing.Crossing.TheVariants as crossing
use Rattle.interface.specs.declared.crossing.Inbound.TheVariants as inbound
use Rattle.interface.specs.declared.message.HostMessage.{HostMessage}
use Rattle.host_pairs.specs.About.{AreAbout}
use Rattle.host_pairs.specs.declared.notice.Notice.{Notice}
use Rattle.sockets.specs.Accepting.{accepted}
use Rattle.sockets.specs.Pairs.{NcpState, pair_with}
use Rattle.sockets.specs.Sending.{next_out}
use Rattle.host_services.specs.declared.report.Reported.{Reported}
use Rattle.promise.specs.Arrived.{ArrivedBook}
use Rattle.promise.specs.Connections.{JoinedBook}
use Rattle.promise.specs.Ends.{AreContacts, AreLeft}
use Rattle.promise.specs.Fates.{AreFated, ClosesWhole, IsBeside}
use Rattle.promise.specs.Formed.{FormedBook}
use Rattle.promise.specs.Safe.{IsGranted, IsPrefix, Match, SafeBook, receives, sends}
use Rattle.promise.specs.declared.book.Called.{Called}
use Rattle.promise.specs.declared.life.Fate.{Fate}
use Rattle.promise.specs.declared.life.Life.{Life}
use Rattle.net_sim.specs.Clean.{IsLawfulAmong}
use Rattle.net_sim.specs.Reports.{IsBacked}
use Rattle.net_sim.specs.Story.{Crossed, Moment, program}
use Rattle.net_sim.specs.Timeline.{contacts_of, crossings_of}
use Rattle.net_sim.specs.Told.{host_in, notices_by}
use Rattle.net_sim.specs.World.{WorldState}
use Rattle.world_keeps_lives.specs.Lives.{HasOpenEnd, IsBounded, IsFreeSocket, IsOwned}
use Rattle.world_keeps_streams.specs.Rests.{Agree, AreOpen}
use Rattle.world_keeps_streams.specs.Granted.{EachIsWithin}
use Rattle.world_keeps_streams.specs.Sent.{EachWasSent}
use Rattle.world_keeps_streams.specs.Within.{CountNothingLater}
use Rattle.mixed_worlds.specs.Arrived.{ArrivedAmong, BetweenAmong}
use Rattle.mixed_worlds.specs.Book.{beside_among, book_among, contacts_among, lives_among, mixed_kept, without_strangers}
use Rattle.world_keeps_lives.specs.SomeEnd.{HasSome}
use Rattle.mixed_worlds.specs.Mixed.{IsMixed}
use Rattle.mixed_worlds.specs.Told.{ToldAmong}
use Rattle.mixed_worlds.specs.Toward.{AreOnce, HasAsked, IsCarried, ReportsData}

-- of the hosts with programs none that is up has anything to say to another, and each message between two that are up
-- was answered. What a stranger still has to take or to answer doesn't matter
pub record HaveSettled (strange : Host → Bool) (hosts : List Host) (moments : List Moment) : Type 0 where
  pub silent : (h : Host) → strange h ≡ false → is_up hosts h (crossings_of moments) ≡ true
      → next_out (without_strangers strange (program h moments)) ≡ None
  pub answered : (f : Flow) → strange f.source ≡ false → strange f.destination ≡ false
      → is_up hosts f.source (crossings_of moments) ≡ true → is_up hosts f.destination (crossings_of moments) ≡ true
      → box_of f (crossings_of moments) ≡ Empty

-- then of each two of their lives that match and aren't over the receiving one has all that the sending one sent; their
-- ends agree, and are open
abbrev pub AgreeAmong : (Host → Bool) → List Moment → Type 0
AgreeAmong strange moments =
    (receiver sender : Life) → Contains (lives_among strange (mixed_kept strange moments).book.lives) receiver →
    Contains (lives_among strange (mixed_kept strange moments).book.lives) sender →
    Match (crossings_of moments) receiver sender → receiver.ended ≡ false → sender.ended ≡ false →
    (end : HasOpenEnd (program receiver.host moments) receiver) →
    (giver : HasOpenEnd (program sender.host moments) sender) →
    (receiver.bits ≡ sender.bits) × (receiver.messages ≡ sender.messages) × Agree receiver end.end giver.end ×
    AreOpen end.end giver.end

-- Hosts with programs among each other, whatever strangers send and take.
pub record Among : Type 0 where
  -- the book is formed and safe among these hosts, over all that crossed, and an orderly close loses nothing
  pub formed :
      (strange : Host → Bool) (hosts : List Host) (moments : List Moment) → IsMixed strange hosts moments →
      FormedBook (crossings_of moments) (lives_among strange (mixed_kept strange moments).book.lives)
  pub safe :
      (strange : Host → Bool) (hosts : List Host) (moments : List Moment) → IsMixed strange hosts moments →
      SafeBook (crossings_of moments) (lives_among strange (mixed_kept strange moments).book.lives)
      (beside_among strange (mixed_kept strange moments).book.lives (mixed_kept strange moments).handed)
  pub whole :
      (strange : Host → Bool) (hosts : List Host) (moments : List Moment) → IsMixed strange hosts moments →
      ClosesWhole (crossings_of moments) (lives_among strange (mixed_kept strange moments).book.lives)
      (beside_among strange (mixed_kept strange moments).book.lives (mixed_kept strange moments).handed)
      (beside_among strange (mixed_kept strange moments).book.lives (mixed_kept strange moments).fates)
  -- each of these lives has its fate, and is over by what its fate says (`over`), of what really crossed and of contacts
  -- among these hosts. After each of these an RST goes out next (`contacts`). What a life counts had crossed before it
  -- was over (`within`), and an open one has all that came for it (`arrived`)
  pub fated :
      (strange : Host → Bool) (hosts : List Host) (moments : List Moment) → IsMixed strange hosts moments →
      AreFated (lives_among strange (mixed_kept strange moments).book.lives)
      (beside_among strange (mixed_kept strange moments).book.lives (mixed_kept strange moments).fates)
  pub arrived :
      (strange : Host → Bool) (hosts : List Host) (moments : List Moment) → IsMixed strange hosts moments →
      ArrivedAmong strange (contacts_among strange (contacts_of moments)) (crossings_of moments)
      (lives_among strange (mixed_kept strange moments).book.lives)
      (beside_among strange (mixed_kept strange moments).book.lives (mixed_kept strange moments).fates)
  pub over :
      (strange : Host → Bool) (hosts : List Host) (moments : List Moment) → IsMixed strange hosts moments →
      AreLeft (contacts_among strange (contacts_of moments)) (crossings_of moments)
      (lives_among strange (mixed_kept strange moments).book.lives)
      (beside_among strange (mixed_kept strange moments).book.lives (mixed_kept strange moments).fates)
  pub contacts :
      (strange : Host → Bool) (hosts : List Host) (moments : List Moment) → IsMixed strange hosts moments →
      AreContacts (contacts_among strange (contacts_of moments)) (crossings_of moments)
  pub within :
      (strange : Host → Bool) (hosts : List Host) (moments : List Moment) → IsMixed strange hosts moments →
      CountNothingLater (contacts_among strange (contacts_of moments)) (crossings_of moments)
      (lives_among strange (mixed_kept strange moments).book.lives)
  -- the k-th message that a receiving one counts is the k-th of the one that it matches
  pub sent :
      (strange : Host → Bool) (hosts : List Host) (moments : List Moment) → IsMixed strange hosts moments →
      EachWasSent (crossings_of moments) (lives_among strange (mixed_kept strange moments).book.lives)
  -- each message of data that went out among them is one of a sending life, which a receiving one matches
  pub between :
      (strange : Host → Bool) (hosts : List Host) (moments : List Moment) → IsMixed strange hosts moments →
      BetweenAmong strange (crossings_of moments) (lives_among strange (mixed_kept strange moments).book.lives)
  -- and what a sending one sent is within what the ALLs grant on its link that its host took
  pub granted :
      (strange : Host → Bool) (hosts : List Host) (moments : List Moment) → IsMixed strange hosts moments →
      EachIsWithin (crossings_of moments) (lives_among strange (mixed_kept strange moments).book.lives)
  -- what their users are notified of data are the messages of data that crossed among them
  pub told :
      (strange : Host → Bool) (hosts : List Host) (moments : List Moment) → IsMixed strange hosts moments →
      ToldAmong strange (crossings_of moments) (mixed_kept strange moments).book.notices
  -- a finished initial connection among them pairs the right four sockets, and where they have nothing left to do all
  -- lives that match agree
  pub joined :
      (strange : Host → Bool) (hosts : List Host) (moments : List Moment) → IsMixed strange hosts moments →
      (reports : List Reported) → All (IsBacked (mixed_kept strange moments).book.notices) reports →
      JoinedBook (book_among strange moments reports)
  pub settled :
      (strange : Host → Bool) (hosts : List Host) (moments : List Moment) → IsMixed strange hosts moments →
      HaveSettled strange hosts moments → AgreeAmong strange moments

-- All but what RFNM says is of any lives as where there are no strangers, and RFNM says the same without them.
pub record AsArrived : Type 0 where
  pub any :
      (strange : Host → Bool) (contacts : List Called) (log : List Crossing) (lives : List Life) (fates : List Fate) →
      ArrivedBook contacts log lives fates → ArrivedAmong strange contacts log lives fates
  pub nobody :
      (contacts : List Called) (log : List Crossing) (lives : List Life) (fates : List Fate) →
      ArrivedAmong (λ h. false) contacts log lives fates → ArrivedBook contacts log lives fates

-- A host with a program, toward strangers and all others.
pub record Toward : Type 0 where
  -- whatever a peer says, of two sockets there is at most one end with it, and what waits is what it still has to say
  pub ends :
      (origin : ℕ → ℕ) (own foreign : ℕ) (s : NcpState) (m : HostMessage) (stamp : ℕ) →
      HasSome origin own foreign (pair_with m.flow.source s.peers) →
      HasSome origin own foreign (pair_with m.flow.source (accepted s (inbound.Message m) stamp).0.peers)
  -- each socket is free, or has one end with one peer, whose lives are all that continue there
  pub sockets :
      (strange : Host → Bool) (hosts : List Host) (moments : List Moment) → IsMixed strange hosts moments →
      (a : Host) (socket : ℕ) → strange a ≡ false →
      IsFreeSocket a socket (program a moments) (mixed_kept strange moments) ⊎ IsOwned a socket (program a moments)
      (mixed_kept strange moments)
  -- so a life that isn't over is that of one open end, and no receiving life takes more than it granted
  pub live :
      (strange : Host → Bool) (hosts : List Host) (moments : List Moment) → IsMixed strange hosts moments → (x : Life) →
      Contains (mixed_kept strange moments).book.lives x → strange x.host ≡ false → x.ended ≡ false →
      HasOpenEnd (program x.host moments) x
  pub taken :
      (strange : Host → Bool) (hosts : List Host) (moments : List Moment) → IsMixed strange hosts moments →
      (receiver : Life) → Contains (mixed_kept strange moments).book.lives receiver → strange receiver.host ≡ false →
      receives receiver ≡ true → IsGranted receiver receiver.messages (length receiver.bits)
  pub bounded :
      (strange : Host → Bool) (hosts : List Host) (moments : List Moment) → IsMixed strange hosts moments →
      (receiver : Life) → Contains (mixed_kept strange moments).book.lives receiver → strange receiver.host ≡ false →
      receives receiver ≡ true → IsBounded receiver
  -- what a sending life sent is a prefix of what was handed over in it
  pub handed :
      (strange : Host → Bool) (hosts : List Host) (moments : List Moment) → IsMixed strange hosts moments →
      (sender : Life) (text : List Bool) →
      IsBeside sender text (mixed_kept strange moments).book.lives (mixed_kept strange moments).handed →
      sends sender ≡ true → IsPrefix sender.bits text
  -- each life is of such a host, and both its requests crossed at its stamps
  pub owner :
      (strange : Host → Bool) (hosts : List Host) (moments : List Moment) → IsMixed strange hosts moments → (x : Life) →
      Contains (mixed_kept strange moments).book.lives x → strange x.host ≡ false
  pub asked :
      (strange : Host → Bool) (hosts : List Host) (moments : List Moment) → IsMixed strange hosts moments → (x : Life) →
      Contains (mixed_kept strange moments).book.lives x → HasAsked (crossings_of moments) x
  -- and no two have the same request
  pub once :
      (strange : Host → Bool) (hosts : List Host) (moments : List Moment) → IsMixed strange hosts moments →
      AreOnce (mixed_kept strange moments).book.lives
  -- and its bits are those of messages on one link, in their order. If it sends, they are within what the peer's ALLs
  -- name there
  pub carried :
      (strange : Host → Bool) (hosts : List Host) (moments : List Moment) → IsMixed strange hosts moments → (x : Life) →
      Contains (mixed_kept strange moments).book.lives x → IsCarried (crossings_of moments) x
  -- what a user hears of data has just crossed
  pub reported :
      (strange : Host → Bool) (hosts : List Host) (x : Moment) (moments : List Moment) →
      IsMixed strange hosts (x ∷ moments) → strange (host_in x) ≡ false → (n : Notice) →
      Contains (notices_by x moments) n → ReportsData x n
  -- a message that is taken reports of its sender only, and leaves what its host has with all others
  pub sender :
      (m : HostMessage) (moments : List Moment) → AreAbout m.flow.source (notices_by (Crossed (crossing.In m)) moments)
  pub others :
      (a h : Host) (m : HostMessage) (moments : List Moment) → same_host h m.flow.source ≡ false →
      pair_with h (program a (Crossed (crossing.In m) ∷ moments)).peers ≡ pair_with h (program a moments).peers
  -- and RFNM says that the interface of its destination took the message, once, whoever that is
  pub messages :
      (strange : Host → Bool) (hosts : List Host) (moments : List Moment) → IsMixed strange hosts moments →
      SafeMessages (crossings_of moments)

-- What the book of a world with strangers promises among hosts with programs: all that crossed is a run of the
-- mailboxes; the lives among these hosts are formed and safe over it, and so are the notices of data; an orderly close
-- among them loses nothing, and a finished initial connection pairs the right four sockets. Each of these lives has its
-- fate (`fated`), which what crossed and the contacts among these hosts leave it (`over`); a contact among them is
-- followed by an RST (`contacts`); what a life counts crossed before it was over (`within`), and the k-th message that a
-- receiving one counts is the k-th of the one that it matches (`sent`); each message of data among these hosts is one
-- of a sending life, which a receiving one matches (`between`); what a sending one sent is within what the ALLs grant
-- that its host took (`granted`); and an open one has all that came for it, so RFNM of data among these hosts means that
-- they have arrived (`arrived`)
pub record KeepsAmong {C : Type 0} (strange : Host → Bool) (hosts : List Host) (w : WorldState C) : Type 0 where
  pub run : IsRun hosts w.kept.book.crossings
  pub formed : FormedBook w.kept.book.crossings (lives_among strange w.kept.book.lives)
  pub told : ToldAmong strange w.kept.book.crossings w.kept.book.notices
  pub safe : SafeBook w.kept.book.crossings (lives_among strange w.kept.book.lives)
      (beside_among strange w.kept.book.lives w.kept.handed)
  pub whole : ClosesWhole w.kept.book.crossings (lives_among strange w.kept.book.lives)
      (beside_among strange w.kept.book.lives w.kept.handed) (beside_among strange w.kept.book.lives w.kept.fates)
  pub fated : AreFated (lives_among strange w.kept.book.lives)
      (beside_among strange w.kept.book.lives w.kept.fates)
  pub arrived : ArrivedAmong strange (contacts_among strange w.kept.book.contacts) w.kept.book.crossings
      (lives_among strange w.kept.book.lives) (beside_among strange w.kept.book.lives w.kept.fates)
  pub over : AreLeft (contacts_among strange w.kept.book.contacts) w.kept.book.crossings
      (lives_among strange w.kept.book.lives) (beside_among strange w.kept.book.lives w.kept.fates)
  pub contacts : AreContacts (contacts_among strange w.kept.book.contacts) w.kept.book.crossings
  pub within : CountNothingLater (contacts_among strange w.kept.book.contacts) w.kept.book.crossings
      (lives_among strange w.kept.book.lives)
  pub sent : EachWasSent w.kept.book.crossings (lives_among strange w.kept.book.lives)
  pub between : BetweenAmong strange w.kept.book.crossings (lives_among strange w.kept.book.lives)
  pub granted : EachIsWithin w.kept.book.crossings (lives_among strange w.kept.book.lives)
  pub joined : JoinedBook (record w.kept.book { lives = lives_among strange w.kept.book.lives })

-- What it promises of each host with a program, toward strangers and all others
pub record KeepsToward {C : Type 0} (strange : Host → Bool) (w : WorldState C) : Type 0 where
  -- no life is a stranger's, and both requests of each crossed at its stamps
  pub owner : (x : Life) → Contains w.kept.book.lives x → strange x.host ≡ false
  pub asked : (x : Life) → Contains w.kept.book.lives x → HasAsked w.kept.book.crossings x
  -- no two lives have the same own request, nor the same one of their partner
  pub once : AreOnce w.kept.book.lives
  -- its bits are those of as many messages as it counts, on one link, after both requests and in their order. An RTS
  -- names this link: its peer's where it sends, and its own where it receives. What it sent is within what the ALLs
  -- there name that its host took from the peer
  pub carried : (x : Life) → Contains w.kept.book.lives x → IsCarried w.kept.book.crossings x
  -- what was sent is a prefix of what was handed over
  pub handed :
      (sender : Life) (text : List Bool) → IsBeside sender text w.kept.book.lives w.kept.handed →
      sends sender ≡ true → IsPrefix sender.bits text
  -- what was taken is within what was granted, of which no more is outstanding than a counter holds
  pub taken :
      (receiver : Life) → Contains w.kept.book.lives receiver → receives receiver ≡ true →
      IsGranted receiver receiver.messages (length receiver.bits)
  pub bounded :
      (receiver : Life) → Contains w.kept.book.lives receiver → receives receiver ≡ true → IsBounded receiver
  -- a message that was answered by RFNM was taken once, and none was taken twice
  pub messages : SafeMessages w.kept.book.crossings

-- A world with strangers, as the calls of `MixedWorld` leave it.
pub record Worlds {C : Type 0} (calls : Calls C) : Type 0 where
  -- its history is a mixed one, so all laws of this crate are about it
  pub mixed :
      (strange : Host → Bool) (hosts : List Host) (w : WorldState C) →
      (lawful : IsLawfulAmong strange calls.seen hosts w) → IsMixed strange hosts lawful.whole.moments
  -- and its book keeps among hosts with programs what is promised there, and of each such host what is promised of it
  -- whatever its peers are
  pub among :
      (strange : Host → Bool) (hosts : List Host) (w : WorldState C) → IsLawfulAmong strange calls.seen hosts w →
      KeepsAmong strange hosts w
  pub toward :
      (strange : Host → Bool) (hosts : List Host) (w : WorldState C) → IsLawfulAmong strange calls.seen hosts w →
      KeepsToward strange w
