-- The laws of src/ that are longer than a line: each is a record, and its fields are the clauses.
use Rattle.std.specs.List.{Contains}
use Rattle.std.specs.Prelude.{Bool, List, None, Some, [], false, length, true, ℕ, ◌++◌, ◌==◌, ◌∷◌, ◌≡◌}
use Rattle.interface.specs.Calls.{Seen}
use Rattle.interface.specs.Host.{Host}
use Rattle.interface.specs.Mailboxes as mail
use Rattle.interface.specs.declared.address.Flow.{Flow}
use Rattle.interface.specs.declared.crossing.Answer.TheVariants as answer
use Rattle.interface.specs.declared.crossing.Crossing.{Crossing}
use Rattle.interface.specs.declared.crossing.Crossing.TheVariants as crossing
use Rattle.interface.specs.declared.message.HostMessage.{HostMessage}
use Rattle.sockets.specs.Pairs.{pair_with}
use Rattle.sockets.specs.Worked as dialogue
use Rattle.sockets.specs.declared.request.Request.TheVariants as request
use Rattle.reset_law.specs.Stays as stay
use Rattle.stream_law.specs.Within.{AreGranted, IsPrefix}
use Rattle.host_keeps_streams.specs.Ends.{HasReceiver}
use Rattle.host_keeps_streams.specs.Histories.{AreAllowed, HasClosed, IsHistory, ends_now, name_now, numbered}
use Rattle.host_keeps_streams.specs.Histories.{receiver_now, sender_now}
use Rattle.host_keeps_streams.specs.Names.{IsSending}
use Rattle.promise.specs.Arrived as promised
use Rattle.promise.specs.Arrived.{ArrivedBook}
use Rattle.promise.specs.Fates.{ClosesWhole, IsBeside}
use Rattle.promise.specs.Formed.{CrossedAt, FormedBook, link_of, texts_on}
use Rattle.promise.specs.Ends.{AreContacts, AreLeft, Going, stage}
use Rattle.promise.specs.Safe.{IsGranted, Match, Source, receives}
use Rattle.promise.specs.declared.life.Fate.TheVariants as fate
use Rattle.promise.specs.declared.life.Life.{Life}
use Rattle.reset_law.specs.Network.{AreOurs, Network}
use Rattle.net_sim.specs.Among.{beside_among, contacts_among, lives_among}
use Rattle.net_sim.specs.Mixed.{Happened, mixed_kept}
use Rattle.net_sim.specs.Clean.{HaveAddresses, IsLawful}
use Rattle.net_sim.specs.Story.{Asked, Crossed, Moment, events_of, program}
use Rattle.net_sim.specs.Timeline.{IsTimeline, contacts_of, crossings_of}
use Rattle.net_sim.specs.Told.{kept_in}
use Rattle.net_sim.specs.WorkedMoments.{connected}
use Rattle.net_sim.specs.World.{WorldState}
use Rattle.world_keeps_lives.specs.Firsts.{FirstBook}
use Rattle.world_keeps_streams.specs.Answered.{AllAnswered, HasArrived}
use Rattle.world_keeps_streams.specs.Arrivals.{AllArrive, AllCome, Arrives, ComesBetween, ComesFor}
use Rattle.world_keeps_streams.specs.Between.{EachIsBetween, IsBetween}
use Rattle.world_keeps_streams.specs.Calls.{numbered_by_peer, own_calls}
use Rattle.world_keeps_streams.specs.Came.{AllCame, CameAll, HadTakenCls}
use Rattle.world_keeps_streams.specs.Closes.{AllClose, AllHanded, EachHanded, TookAll, WasClosedByPartner}
use Rattle.world_keeps_streams.specs.Rests.{Agree, AllAgree, AllCalm, AllRest, AreAtRest, AreCalm, AreOpen, AreSettled}
use Rattle.world_keeps_streams.specs.Sent.{EachWasSent}
use Rattle.world_keeps_streams.specs.Settled.{EachAgrees, HasSettled}
use Rattle.world_keeps_streams.specs.Within.{CountNothingLater}

-- What each host's program does with a peer, over every list of moments in which what crosses is a run of the
-- mailboxes.
pub record Programs : Type 0 where
  -- its calls since it dropped its ends with the peer last follow one another, and lead to the ends that it has
  pub calls :
      (hosts : Network) (moments : List Moment) → HaveAddresses hosts.all → mail.IsRun hosts.all (crossings_of moments) →
      Happened hosts moments → (a b : Host) → AreOurs hosts a b →
      IsHistory b (own_calls a b moments) ×
      (ends_now b (own_calls a b moments) ≡ (pair_with b (program a moments).peers).entries)
  -- each of them may be made, on each link of a connection: what the laws of one host's calls ask for is so
  pub allowed :
      (hosts : Network) (moments : List Moment) → HaveAddresses hosts.all → mail.IsRun hosts.all (crossings_of moments) →
      Happened hosts moments → (a b : Host) → AreOurs hosts a b → (link : ℕ) → (link == 0) ≡ false →
      AreAllowed numbered b link (own_calls a b moments)
  -- so what the program has on the link is what the law of streams has there
  pub receiver :
      (hosts : Network) (moments : List Moment) → HaveAddresses hosts.all → mail.IsRun hosts.all (crossings_of moments) →
      Happened hosts moments → (a b : Host) → AreOurs hosts a b → (link : ℕ) → (link == 0) ≡ false →
      HasReceiver (name_now numbered b (own_calls a b moments)) link (pair_with b (program a moments).peers).entries
      (receiver_now numbered b link (own_calls a b moments))
  pub sender :
      (hosts : Network) (moments : List Moment) → HaveAddresses hosts.all → mail.IsRun hosts.all (crossings_of moments) →
      Happened hosts moments → (a b : Host) → AreOurs hosts a b → (link : ℕ) → (link == 0) ≡ false →
      IsSending (name_now numbered b (own_calls a b moments)) link (pair_with b (program a moments).peers).entries
      (sender_now numbered b link (own_calls a b moments))

-- Two programs that stay together since both were through a reset, link by link and connection by connection. A
-- connection is given by its two sockets and how many connections of theirs are over, which both count alike.
pub record Streams : Type 0 where
  -- what the one has taken in a connection is a prefix of what the other has sent in it
  pub front :
      (hosts : Network) (moments : List Moment) → HaveAddresses hosts.all → mail.IsRun hosts.all (crossings_of moments) →
      Happened hosts moments → (a b : Host) → AreOurs hosts a b → (link : ℕ) → (link == 0) ≡ false →
      stay.stays a b (events_of moments) ≡ true → stay.stays b a (events_of moments) ≡ true → (c : ℕ) →
      IsPrefix ((receiver_now numbered b link (own_calls a b moments)).taken c)
      ((sender_now numbered_by_peer a link (own_calls b a moments)).sent c)
  -- and all of it, where it has heard the other's CLS and its own user hasn't closed the end
  pub whole :
      (hosts : Network) (moments : List Moment) → HaveAddresses hosts.all → mail.IsRun hosts.all (crossings_of moments) →
      Happened hosts moments → (a b : Host) → AreOurs hosts a b → (link : ℕ) → (link == 0) ≡ false →
      stay.stays a b (events_of moments) ≡ true → stay.stays b a (events_of moments) ≡ true → (c : ℕ) →
      (receiver_now numbered b link (own_calls a b moments)).over c ≡ true →
      (HasClosed numbered b link c (own_calls a b moments) → ⊥) →
      (receiver_now numbered b link (own_calls a b moments)).taken c
      ≡ (sender_now numbered_by_peer a link (own_calls b a moments)).sent c
  -- with what was returned, what was taken is within what was granted, and so is what was sent
  pub taken :
      (hosts : Network) (moments : List Moment) → HaveAddresses hosts.all → mail.IsRun hosts.all (crossings_of moments) →
      Happened hosts moments → (a b : Host) → AreOurs hosts a b → (link : ℕ) → (link == 0) ≡ false →
      stay.stays a b (events_of moments) ≡ true → stay.stays b a (events_of moments) ≡ true → (c : ℕ) →
      AreGranted ((receiver_now numbered b link (own_calls a b moments)).taken c)
      ((receiver_now numbered b link (own_calls a b moments)).returned c)
      ((receiver_now numbered b link (own_calls a b moments)).granted c)
  pub sent :
      (hosts : Network) (moments : List Moment) → HaveAddresses hosts.all → mail.IsRun hosts.all (crossings_of moments) →
      Happened hosts moments → (a b : Host) → AreOurs hosts a b → (link : ℕ) → (link == 0) ≡ false →
      stay.stays a b (events_of moments) ≡ true → stay.stays b a (events_of moments) ≡ true → (c : ℕ) →
      AreGranted ((sender_now numbered_by_peer a link (own_calls b a moments)).sent c)
      ((receiver_now numbered b link (own_calls a b moments)).returned c)
      ((receiver_now numbered b link (own_calls a b moments)).granted c)

-- The lives of a book, over every list of moments in which what crosses is a run of the mailboxes.
pub record Lives : Type 0 where
  -- what a receiving life took is a prefix of what its one partner sent: where it took any bit there is one
  pub source :
      (hosts : List Host) (moments : List Moment) → HaveAddresses hosts → mail.IsRun hosts (crossings_of moments) →
      IsTimeline hosts moments → (receiver : Life) → Contains (kept_in moments).book.lives receiver →
      receives receiver ≡ true → (receiver.bits ≡ [] → ⊥) →
      Source (crossings_of moments) (kept_in moments).book.lives receiver
  -- and message by message, whatever their bits: the k-th that it counts is the k-th that its partner counts
  pub was_sent :
      (hosts : List Host) (moments : List Moment) → HaveAddresses hosts → mail.IsRun hosts (crossings_of moments) →
      IsTimeline hosts moments → EachWasSent (crossings_of moments) (kept_in moments).book.lives
  -- each message of data that went out is one of a sending life, which a receiving one matches
  pub between :
      (hosts : List Host) (moments : List Moment) → HaveAddresses hosts → mail.IsRun hosts (crossings_of moments) →
      IsTimeline hosts moments → EachIsBetween (crossings_of moments) (kept_in moments).book.lives
  -- a receiving life whose end its partner has closed, and no user of its host, took all that its partner sent; it
  -- stays so whatever becomes of both lives
  pub closes :
      (hosts : List Host) (moments : List Moment) → HaveAddresses hosts → mail.IsRun hosts (crossings_of moments) →
      IsTimeline hosts moments → (receiver : Life) → WasClosedByPartner moments receiver →
      TookAll (crossings_of moments) (kept_in moments).book.lives receiver
  -- once its end has taken the partner's CLS, as many messages had come in on its link as its partner sent then and
  -- ever since, also if its host dropped some of them
  pub came :
      (hosts : List Host) (moments : List Moment) → HaveAddresses hosts → mail.IsRun hosts (crossings_of moments) →
      IsTimeline hosts moments → AllCame moments
  -- and all that was handed over in the life that it matches
  pub handed :
      (hosts : List Host) (moments : List Moment) → HaveAddresses hosts → mail.IsRun hosts (crossings_of moments) →
      IsTimeline hosts moments → EachHanded moments
  -- a receiving life whose fate is that it has ended was closed by its partner and by no user of its host
  pub ended :
      (hosts : List Host) (moments : List Moment) → HaveAddresses hosts → mail.IsRun hosts (crossings_of moments) →
      IsTimeline hosts moments → (receiver : Life) →
      IsBeside receiver fate.Ended (kept_in moments).book.lives (kept_in moments).fates → receives receiver ≡ true →
      WasClosedByPartner moments receiver
  -- so an orderly close loses nothing: such a life took all that its partner sent, and all that was handed over there
  pub whole :
      (hosts : List Host) (moments : List Moment) → HaveAddresses hosts → mail.IsRun hosts (crossings_of moments) →
      IsTimeline hosts moments →
      ClosesWhole (crossings_of moments) (kept_in moments).book.lives (kept_in moments).handed (kept_in moments).fates
  -- an open receiving life counts each message that came in on its link after both of its requests. So data of which a
  -- host got RFNM are among the bits of the life that its own matches, if that is open
  pub arrived :
      (hosts : List Host) (moments : List Moment) → HaveAddresses hosts → mail.IsRun hosts (crossings_of moments) →
      IsTimeline hosts moments →
      ArrivedBook (contacts_of moments) (crossings_of moments) (kept_in moments).book.lives (kept_in moments).fates
  -- each life begins where nothing ends it between its two requests. It is over as its fate says, by what its fate
  -- says: by both CLS of its sockets, as its connections are dropped, or as its host stops. Where its own CLS is the
  -- first, a user of its host has closed it, and its fate says so
  pub over :
      (hosts : List Host) (moments : List Moment) → HaveAddresses hosts → mail.IsRun hosts (crossings_of moments) →
      IsTimeline hosts moments →
      AreLeft (contacts_of moments) (crossings_of moments) (kept_in moments).book.lives (kept_in moments).fates
  -- and a contact, which doesn't cross, is followed by an RST
  pub contacts :
      (hosts : List Host) (moments : List Moment) → HaveAddresses hosts → mail.IsRun hosts (crossings_of moments) →
      IsTimeline hosts moments → AreContacts (contacts_of moments) (crossings_of moments)
  -- a life that is over counts no message that crossed after what ended it
  pub within :
      (hosts : List Host) (moments : List Moment) → HaveAddresses hosts → mail.IsRun hosts (crossings_of moments) →
      IsTimeline hosts moments →
      CountNothingLater (contacts_of moments) (crossings_of moments) (kept_in moments).book.lives
  -- each life is made of messages that crossed: its two requests are in those at its stamps, and its bits are the data
  -- of the first messages on its link after both, as many as it counts
  pub formed :
      (hosts : List Host) (moments : List Moment) → HaveAddresses hosts → mail.IsRun hosts (crossings_of moments) →
      IsTimeline hosts moments → FormedBook (crossings_of moments) (kept_in moments).book.lives
  -- each message that goes out on another link than 0 is one of a sending life, and of lives on one link one comes
  -- after the other
  pub firsts :
      (hosts : List Host) (moments : List Moment) → HaveAddresses hosts → mail.IsRun hosts (crossings_of moments) →
      IsTimeline hosts moments → FirstBook (crossings_of moments) (kept_in moments).book.lives
  -- data that are taken where they come for a receiving life whose end is open, or that no user of its host has closed,
  -- arrive there, all of them
  pub arrives :
      (hosts : List Host) (moments : List Moment) (m : HostMessage) → HaveAddresses hosts →
      mail.IsRun hosts (crossings_of (Crossed (crossing.In m) ∷ moments)) →
      IsTimeline hosts (Crossed (crossing.In m) ∷ moments) → (receiver : Life) → ComesFor m moments receiver →
      Arrives m moments receiver
  -- and what is taken on the link of a sending life comes for the receiving life that it matches, if neither is over
  pub comes :
      (hosts : List Host) (moments : List Moment) → HaveAddresses hosts → mail.IsRun hosts (crossings_of moments) →
      IsTimeline hosts moments → AllCome moments
  -- where a host gets RFNM of data, they were taken at an earlier moment, once, and arrived there if they came for such
  -- a life
  pub answered :
      (hosts : List Host) (moments : List Moment) (f : Flow) → HaveAddresses hosts →
      mail.IsRun hosts (crossings_of (Crossed (crossing.Answer answer.Rfnm f) ∷ moments)) →
      IsTimeline hosts (Crossed (crossing.Answer answer.Rfnm f) ∷ moments) → (f.link.0 == 0) ≡ false →
      HasArrived f moments
  -- a receiving life at rest, whose end is open and for which nothing waits, took all that its partner sent
  pub rests :
      (hosts : List Host) (moments : List Moment) → HaveAddresses hosts → mail.IsRun hosts (crossings_of moments) →
      IsTimeline hosts moments → (receiver sender : Life) → AreAtRest moments receiver sender →
      (receiver.bits ≡ sender.bits) × (receiver.messages ≡ sender.messages)
  -- where no command is on its way between the hosts of two lives at rest, what may still be sent is what may still be
  -- taken: what was granted and neither used nor returned
  pub agree :
      (hosts : List Host) (moments : List Moment) → HaveAddresses hosts → mail.IsRun hosts (crossings_of moments) →
      IsTimeline hosts moments → (receiver sender : Life) → (settled : AreSettled moments receiver sender) →
      Agree receiver settled.rest.end.end settled.giver.end
  -- so it is where each message between the hosts was answered, and neither program has anything to say: no end closes
  -- then, but for a sender that drains
  pub calm :
      (hosts : List Host) (moments : List Moment) → HaveAddresses hosts → mail.IsRun hosts (crossings_of moments) →
      IsTimeline hosts moments → AllCalm moments
  -- what a sending life sent that it matches, with what was returned, is within what it granted
  pub sent :
      (hosts : List Host) (moments : List Moment) → HaveAddresses hosts → mail.IsRun hosts (crossings_of moments) →
      IsTimeline hosts moments → (receiver sender : Life) → Contains (kept_in moments).book.lives receiver →
      Contains (kept_in moments).book.lives sender → Match (crossings_of moments) receiver sender →
      IsGranted receiver sender.messages (length sender.bits)

-- What happened in a network, whatever its strangers did, where what crosses is a run of the mailboxes.
abbrev pub MayBe : Network → List Moment → Type 0
MayBe hosts moments =
    HaveAddresses hosts.all × mail.IsRun hosts.all (crossings_of moments) × Happened hosts moments

-- The lives between two hosts with programs, whatever strangers do. `kept_in` has what each program would report; of
-- these lives it has what the network's book has, in which strangers report nothing (`lives`). What was handed over is
-- said of networks without strangers only.
pub record Among : Type 0 where
  pub lives :
      (hosts : Network) (moments : List Moment) → lives_among hosts.strange (kept_in moments).book.lives ≡
      lives_among hosts.strange (mixed_kept hosts.strange moments).book.lives
  -- the clauses are those of `Lives`, under their names
  pub source :
      (hosts : Network) (moments : List Moment) → MayBe hosts moments → (receiver : Life) →
      AreOurs hosts receiver.host receiver.peer → Contains (kept_in moments).book.lives receiver →
      receives receiver ≡ true → (receiver.bits ≡ [] → ⊥) →
      Source (crossings_of moments) (kept_in moments).book.lives receiver
  pub was_sent :
      (hosts : Network) (moments : List Moment) → MayBe hosts moments →
      EachWasSent (crossings_of moments) (lives_among hosts.strange (kept_in moments).book.lives)
  pub between :
      (hosts : Network) (moments : List Moment) → MayBe hosts moments → (place : ℕ) (m : HostMessage) →
      CrossedAt place (crossing.Out m) (crossings_of moments) → (m.flow.link.0 == 0) ≡ false →
      AreOurs hosts m.flow.source m.flow.destination →
      IsBetween (crossings_of moments) (lives_among hosts.strange (kept_in moments).book.lives) place m
  pub closes :
      (hosts : Network) (moments : List Moment) → MayBe hosts moments → (receiver : Life) →
      AreOurs hosts receiver.host receiver.peer → (closed : WasClosedByPartner moments receiver) →
      AreOurs hosts closed.receiver.host closed.receiver.peer →
      TookAll (crossings_of moments) (kept_in moments).book.lives receiver
  pub came :
      (hosts : Network) (moments : List Moment) → MayBe hosts moments → (later earlier : List Moment) →
      moments ≡ later ++ earlier → (receiver : Life) → AreOurs hosts receiver.host receiver.peer →
      (taken : HadTakenCls earlier receiver) →
      CameAll (crossings_of taken.earlier) (crossings_of earlier) (kept_in earlier).book.lives receiver
      taken.then.link
  pub ended :
      (hosts : Network) (moments : List Moment) → MayBe hosts moments → (receiver : Life) →
      AreOurs hosts receiver.host receiver.peer →
      IsBeside receiver fate.Ended (kept_in moments).book.lives (kept_in moments).fates → receives receiver ≡ true →
      (closed : WasClosedByPartner moments receiver) × AreOurs hosts closed.receiver.host closed.receiver.peer
  -- an orderly close loses nothing of what was sent
  pub whole :
      (hosts : Network) (moments : List Moment) → MayBe hosts moments → (receiver sender : Life) →
      AreOurs hosts receiver.host receiver.peer →
      IsBeside receiver fate.Ended (kept_in moments).book.lives (kept_in moments).fates →
      Contains (kept_in moments).book.lives sender → Match (crossings_of moments) receiver sender →
      (receiver.bits ≡ sender.bits) × (receiver.messages ≡ sender.messages)
  -- the three clauses of `ArrivedBook`
  pub counts :
      (hosts : Network) (moments : List Moment) → MayBe hosts moments → (x : Life) → AreOurs hosts x.host x.peer →
      IsBeside x fate.Open (kept_in moments).book.lives (kept_in moments).fates → receives x ≡ true →
      x.messages ≡ length (texts_on x (link_of (crossings_of moments) x) (crossings_of moments))
  pub closed :
      (hosts : Network) (moments : List Moment) → MayBe hosts moments → (receiver sender : Life) (own : Bool) →
      AreOurs hosts receiver.host receiver.peer →
      IsBeside receiver fate.Open (kept_in moments).book.lives (kept_in moments).fates →
      stage (contacts_of moments) receiver (crossings_of moments) ≡ Going own true →
      Contains (kept_in moments).book.lives sender → Match (crossings_of moments) receiver sender →
      (receiver.bits ≡ sender.bits) × (receiver.messages ≡ sender.messages)
  pub arrived :
      (hosts : Network) (moments : List Moment) → MayBe hosts moments → (newer older : List Crossing) (f : Flow) →
      crossings_of moments ≡ newer ++ crossing.Answer answer.Rfnm f ∷ older → (f.link.0 == 0) ≡ false →
      AreOurs hosts f.source f.destination →
      promised.HasArrived (crossings_of moments) older (kept_in moments).book.lives (kept_in moments).fates f
  pub over :
      (hosts : Network) (moments : List Moment) → MayBe hosts moments →
      AreLeft (contacts_of moments) (crossings_of moments) (lives_among hosts.strange (kept_in moments).book.lives)
      (beside_among hosts.strange (kept_in moments).book.lives (kept_in moments).fates)
  pub contacts :
      (hosts : Network) (moments : List Moment) → MayBe hosts moments →
      AreContacts (contacts_among hosts.strange (contacts_of moments)) (crossings_of moments)
  pub within :
      (hosts : Network) (moments : List Moment) → MayBe hosts moments →
      CountNothingLater (contacts_of moments) (crossings_of moments)
      (lives_among hosts.strange (kept_in moments).book.lives)
  pub formed :
      (hosts : Network) (moments : List Moment) → MayBe hosts moments →
      FormedBook (crossings_of moments) (lives_among hosts.strange (mixed_kept hosts.strange moments).book.lives)
  pub arrives :
      (hosts : Network) (moments : List Moment) (m : HostMessage) → MayBe hosts (Crossed (crossing.In m) ∷ moments) →
      (receiver : Life) → AreOurs hosts receiver.host receiver.peer → ComesFor m moments receiver →
      Arrives m moments receiver
  pub comes :
      (hosts : Network) (moments : List Moment) (m : HostMessage) → MayBe hosts (Crossed (crossing.In m) ∷ moments) →
      (receiver sender : Life) → AreOurs hosts receiver.host receiver.peer →
      ComesBetween m moments receiver sender → ComesFor m moments receiver
  pub answered :
      (hosts : Network) (moments : List Moment) (f : Flow) → AreOurs hosts f.source f.destination →
      MayBe hosts (Crossed (crossing.Answer answer.Rfnm f) ∷ moments) → HasArrived f moments
  pub rests :
      (hosts : Network) (moments : List Moment) → MayBe hosts moments → (receiver sender : Life) →
      AreOurs hosts receiver.host receiver.peer → AreAtRest moments receiver sender →
      (receiver.bits ≡ sender.bits) × (receiver.messages ≡ sender.messages)
  pub agree :
      (hosts : Network) (moments : List Moment) → MayBe hosts moments → (receiver sender : Life) →
      AreOurs hosts receiver.host receiver.peer → (settled : AreSettled moments receiver sender) →
      Agree receiver settled.rest.end.end settled.giver.end
  pub calm :
      (hosts : Network) (moments : List Moment) → MayBe hosts moments → (receiver sender : Life) →
      AreOurs hosts receiver.host receiver.peer → (calm : AreCalm moments receiver sender) →
      (receiver.bits ≡ sender.bits) × (receiver.messages ≡ sender.messages) ×
      Agree receiver calm.end.end calm.giver.end × AreOpen calm.end.end calm.giver.end
  pub sent :
      (hosts : Network) (moments : List Moment) → MayBe hosts moments → (receiver sender : Life) →
      AreOurs hosts receiver.host receiver.peer → Contains (kept_in moments).book.lives receiver →
      Contains (kept_in moments).book.lives sender → Match (crossings_of moments) receiver sender →
      IsGranted receiver sender.messages (length sender.bits)

-- The same of the book of every world, whatever its carrier is made of.
pub record Worlds {C : Type 0} (seen : C → Seen) : Type 0 where
  pub source :
      (hosts : List Host) (w : WorldState C) → IsLawful seen hosts w → (receiver : Life) →
      Contains w.kept.book.lives receiver → receives receiver ≡ true → (receiver.bits ≡ [] → ⊥) →
      Source w.kept.book.crossings w.kept.book.lives receiver
  pub was_sent :
      (hosts : List Host) (w : WorldState C) → IsLawful seen hosts w →
      EachWasSent w.kept.book.crossings w.kept.book.lives
  pub between :
      (hosts : List Host) (w : WorldState C) → IsLawful seen hosts w →
      EachIsBetween w.kept.book.crossings w.kept.book.lives
  pub closes : (hosts : List Host) (w : WorldState C) → (lawful : IsLawful seen hosts w) → AllClose lawful.whole.moments
  pub came : (hosts : List Host) (w : WorldState C) → (lawful : IsLawful seen hosts w) → AllCame lawful.whole.moments
  pub handed :
      (hosts : List Host) (w : WorldState C) → (lawful : IsLawful seen hosts w) → AllHanded lawful.whole.moments
  pub whole :
      (hosts : List Host) (w : WorldState C) → IsLawful seen hosts w →
      ClosesWhole w.kept.book.crossings w.kept.book.lives w.kept.handed w.kept.fates
  pub arrived :
      (hosts : List Host) (w : WorldState C) → IsLawful seen hosts w →
      ArrivedBook w.kept.book.contacts w.kept.book.crossings w.kept.book.lives w.kept.fates
  pub over :
      (hosts : List Host) (w : WorldState C) → IsLawful seen hosts w →
      AreLeft w.kept.book.contacts w.kept.book.crossings w.kept.book.lives w.kept.fates
  pub contacts :
      (hosts : List Host) (w : WorldState C) → IsLawful seen hosts w →
      AreContacts w.kept.book.contacts w.kept.book.crossings
  pub within :
      (hosts : List Host) (w : WorldState C) → IsLawful seen hosts w →
      CountNothingLater w.kept.book.contacts w.kept.book.crossings w.kept.book.lives
  pub formed :
      (hosts : List Host) (w : WorldState C) → IsLawful seen hosts w →
      FormedBook w.kept.book.crossings w.kept.book.lives
  pub firsts :
      (hosts : List Host) (w : WorldState C) → IsLawful seen hosts w → FirstBook w.kept.book.crossings w.kept.book.lives
  pub arrives :
      (hosts : List Host) (w : WorldState C) → (lawful : IsLawful seen hosts w) → AllArrive lawful.whole.moments
  pub comes : (hosts : List Host) (w : WorldState C) → (lawful : IsLawful seen hosts w) → AllCome lawful.whole.moments
  pub answered :
      (hosts : List Host) (w : WorldState C) → (lawful : IsLawful seen hosts w) → AllAnswered lawful.whole.moments
  pub rests : (hosts : List Host) (w : WorldState C) → (lawful : IsLawful seen hosts w) → AllRest lawful.whole.moments
  pub agree : (hosts : List Host) (w : WorldState C) → (lawful : IsLawful seen hosts w) → AllAgree lawful.whole.moments
  pub calm : (hosts : List Host) (w : WorldState C) → (lawful : IsLawful seen hosts w) → AllCalm lawful.whole.moments
  pub sent :
      (hosts : List Host) (w : WorldState C) → IsLawful seen hosts w → (receiver sender : Life) →
      Contains w.kept.book.lives receiver → Contains w.kept.book.lives sender →
      Match w.kept.book.crossings receiver sender → IsGranted receiver sender.messages (length sender.bits)
  -- once no host has anything to say, and all was answered between those that are up, all lives that match and aren't
  -- over agree
  pub settled :
      (hosts : List Host) (w : WorldState C) → (lawful : IsLawful seen hosts w) → HasSettled seen w →
      EachAgrees lawful.whole.moments

-- The calls of two programs: the first asks for a connection, and the second's socket listens. Here a connection is
-- given by its receiving socket.
pub record WorkedCalls : Type 0 where
  pub none : (a b : Host) → own_calls a b [] ≡ []
  -- the first host hears an RRP, asks for its end, says its RTS and hears the STR; and what it has on link 2 is the end
  -- of that connection
  pub first :
      (length (own_calls dialogue.first dialogue.second connected) ≡ 4) ×
      ((receiver_now (λ own foreign gone. own) dialogue.second 2
      (own_calls dialogue.first dialogue.second connected)).end ≡ Some 16)
  -- the second has it too, with the sockets turned
  pub second :
      (sender_now (λ own foreign gone. foreign) dialogue.first 2
      (own_calls dialogue.second dialogue.first connected)).end ≡ Some 16
  -- on another link neither has an end
  pub elsewhere :
      (receiver_now (λ own foreign gone. own) dialogue.second 3
      (own_calls dialogue.first dialogue.second connected)).end ≡ None
  -- a contact drops all ends with the peer, and so all calls
  pub contact :
      own_calls dialogue.first dialogue.second (Asked dialogue.first (request.Contact dialogue.second) ∷ connected) ≡ []
  -- both count alike
  pub turned : (own foreign gone : ℕ) → numbered_by_peer own foreign gone ≡ numbered foreign own gone
