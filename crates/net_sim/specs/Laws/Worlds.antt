-- The laws of src/law.rt whose clauses are longer than a line: each is a record, and its fields are the clauses.
use Rattle.std.specs.Prelude.{Bool, Err, List, Result, Some, [], false, is_some, true, ℕ, ◌++◌, ◌∷◌, ◌≡◌, ◌⊎◌}
use Rattle.host_pairs.specs.Parcels.{Parcel, link_for, text_for}
use Rattle.interface.specs.Calls.{Calls}
use Rattle.interface.specs.Host.{Host, is_host, same_host}
use Rattle.interface.specs.Mailboxes.{IsRun}
use Rattle.interface.specs.Messages.{SafeMessages}
use Rattle.interface.specs.declared.address.Flow.{Flow}
use Rattle.interface.specs.declared.crossing.Answer.{Answer}
use Rattle.interface.specs.declared.crossing.Crossing.{Crossing}
use Rattle.interface.specs.declared.crossing.Crossing.TheVariants as crossing
use Rattle.interface.specs.declared.crossing.Inbound.TheVariants as inbound
use Rattle.interface.specs.declared.message.HostMessage.{HostMessage}
use Rattle.ncp_control.specs.Phases.{is_ready}
use Rattle.net_sim.specs.Carriers.{IsBooked, shown}
use Rattle.net_sim.specs.Clean.{HaveAddresses, IsFresh, IsLawful, IsText, IsUnheard, is_through, IsLawfulAmong}
use Rattle.net_sim.specs.Steps.{RunGives, StepGives, opening_among, strange_in}
use Rattle.net_sim.specs.Projection.{Agrees, IsApart, event_by, event_of, message_on}
use Rattle.net_sim.specs.Story as story
use Rattle.net_sim.specs.Story.{Crossed, Moment, places}
use Rattle.net_sim.specs.Mixed.{Happened}
use Rattle.net_sim.specs.Timeline.{contacts_of, crossings_of, events_in}
use Rattle.net_sim.specs.Whole.{Each, IsNamed, IsWhole}
use Rattle.net_sim.specs.World.{CalmGives, Event, TurnGives, WorldFault, WorldState, is_of_strangers, is_sent, opening_world, seat_of}
use Rattle.reset_law.specs.Events.{part_of}
use Rattle.reset_law.specs.Network.{AreOurs, Network}
use Rattle.reset_law.specs.Pairs.{MaySend, Pair, pair_moved}
use Rattle.reset_law.specs.Pairs as pairs
use Rattle.reset_law.specs.Runs as runs
use Rattle.reset_law.specs.Stays.{IsPrefix, heard_in_stay, said_in_stay}
use Rattle.sockets.specs.Accepting.{accepted}
use Rattle.sockets.specs.Pairs.{NcpState, opening_state, pair_with}
use Rattle.sockets.specs.Peers.{AreInOrder}
use Rattle.sockets.specs.Requests.{served}
use Rattle.sockets.specs.Sending.{message_for, next_in, offered}
use Rattle.sockets.specs.declared.peer.Peer.{Peer}
use Rattle.sockets.specs.declared.request.Request.{Request}

-- Each call of a host's program is, for each peer `h`, a step of the law of resets: where program and law agree on the
-- pair before it, they agree on it after it.
pub record Resets : Type 0 where
  -- a program that starts knows of nobody
  pub opening : (own h : Host) → Agrees (pair_with h (opening_state own).peers) pairs.opening_pair
  -- of what a user asks a contact is a step, and all else none
  pub request :
      (s : NcpState) (r : Request) (h : Host) (p : Pair) → Agrees (pair_with h s.peers) p →
      Agrees (pair_with h (served s r).peers) (pair_moved (part_of s.own h (event_by s.own r)) p)
  -- a message that has RST and RRP only, or neither, is what the law says of an RST, of an RRP or of any other text
  pub message :
      (s : NcpState) (m : HostMessage) (stamp : ℕ) (h : Host) (p : Pair) →
      (same_host h m.flow.source ≡ true → IsApart m.flow.link.0 m.text (message_on m.flow.link.0 m.text)) →
      Agrees (pair_with h s.peers) p →
      Agrees (pair_with h (accepted s (inbound.Message m) stamp).0.peers)
      (pair_moved (part_of s.own h (event_of (crossing.In m))) p)
  -- where the pair isn't through a reset, any other text does nothing
  pub unheard :
      (s : NcpState) (m : HostMessage) (stamp : ℕ) → IsApart m.flow.link.0 m.text (message_on m.flow.link.0 m.text) →
      IsText m → is_ready (pair_with m.flow.source s.peers).phase ≡ false →
      IsUnheard s (accepted s (inbound.Message m) stamp)
  -- an answer about a message that is outstanding
  pub answer :
      (s : NcpState) (kind : Answer) (f : Flow) (stamp : ℕ) (h : Host) (p : Pair) →
      (same_host s.own f.source ≡ true → same_host h f.destination ≡ true → is_some (p.out f.link.0) ≡ true) →
      Agrees (pair_with h s.peers) p →
      Agrees (pair_with h (accepted s (inbound.Answer kind f) stamp).0.peers)
      (pair_moved (part_of s.own h (event_of (crossing.Answer kind f))) p)
  -- what goes out may go by the law, has RST and RRP only or neither, and the pair is then where the law has it
  pub may :
      (s : NcpState) (g : Peer) (x : Parcel) (p : Pair) → AreInOrder s.peers → next_in s.peers ≡ Some (g, x) →
      Agrees (pair_with g.host s.peers) p → MaySend p (link_for x) (message_on (link_for x) (text_for g.pair x))
  pub apart :
      (s : NcpState) (g : Peer) (x : Parcel) (p : Pair) → AreInOrder s.peers → next_in s.peers ≡ Some (g, x) →
      Agrees (pair_with g.host s.peers) p →
      IsApart (link_for x) (text_for g.pair x) (message_on (link_for x) (text_for g.pair x))
  pub offer :
      (s : NcpState) (stamp : ℕ) (g : Peer) (x : Parcel) (h : Host) (p : Pair) → AreInOrder s.peers →
      next_in s.peers ≡ Some (g, x) → Agrees (pair_with h s.peers) p →
      Agrees (pair_with h (offered s stamp).0.peers)
      (pair_moved (part_of s.own h (event_of (crossing.Out (message_for s.own g x)))) p)

-- What is in the book of a world, whatever its carrier is made of: all that crossed, except for the event in which
-- memory ran out, after every list of events.
pub record Books {C : Type 0} (calls : Calls C) : Type 0 where
  -- over a carrier whose log is empty
  pub opening : (c : C) → (calls.seen c).log ≡ [] → IsBooked calls.seen (opening_world (shown calls) c)
  -- an event that is refused, or in which memory runs out, leaves the book and what was handed over as they were
  pub refused :
      (old new : WorldState C) (e : Event) (r : Result (Unit {0}) WorldFault) (f : WorldFault) → r ≡ Err f →
      StepGives (shown calls) old e r new → new.kept ≡ old.kept
  pub turn_refused :
      (old new : WorldState C) (e : Event) (r : Result (Unit {0}) WorldFault) (f : WorldFault) → r ≡ Err f →
      TurnGives (shown calls) old e r new → new.kept ≡ old.kept
  -- none but what a stranger would send is refused as `NoProgram` or `HasProgram` where there are no strangers, nor in a
  -- calm; and no list of events and no calm ends so
  pub answered :
      (old new : WorldState C) (e : Event) (r : Result (Unit {0}) WorldFault) → old.strangers ≡ [] →
      is_sent e ≡ false → StepGives (shown calls) old e r new → is_of_strangers r ≡ false
  pub turn_answered :
      (old new : WorldState C) (e : Event) (r : Result (Unit {0}) WorldFault) → is_sent e ≡ false →
      TurnGives (shown calls) old e r new → is_of_strangers r ≡ false
  pub run_answered :
      (old new : WorldState C) (events : List Event) (r : Result (Unit {0}) WorldFault) →
      RunGives (shown calls) old events r new → is_of_strangers r ≡ false
  pub calm_answered :
      (old new : WorldState C) (times : ℕ) (r : Result (Unit {0}) WorldFault) →
      CalmGives (shown calls) times old r new → is_of_strangers r ≡ false
  -- one event, one of those of a calm, a list of events, and this many quiet rounds with all that the hosts take and say
  -- between them
  pub step :
      (old new : WorldState C) (e : Event) (r : Result (Unit {0}) WorldFault) → IsBooked calls.seen old →
      StepGives (shown calls) old e r new → IsBooked calls.seen new
  pub turn :
      (old new : WorldState C) (e : Event) (r : Result (Unit {0}) WorldFault) → IsBooked calls.seen old →
      TurnGives (shown calls) old e r new → IsBooked calls.seen new
  pub run :
      (old new : WorldState C) (events : List Event) (r : Result (Unit {0}) WorldFault) → IsBooked calls.seen old →
      RunGives (shown calls) old events r new → IsBooked calls.seen new
  pub calm :
      (old new : WorldState C) (times : ℕ) (r : Result (Unit {0}) WorldFault) → IsBooked calls.seen old →
      CalmGives (shown calls) times old r new → IsBooked calls.seen new
  -- and where the carrier's log is a run of the mailboxes, a message answered by RFNM was taken exactly once, and
  -- none is taken twice: the message clause of the safe book
  pub messages :
      (w : WorldState C) → IsBooked calls.seen w → IsRun (calls.seen w.carrier).hosts (calls.seen w.carrier).log →
      SafeMessages w.kept.book.crossings

-- The book of a world without strangers describes one list of moments, the crossings and what users asked for and weren't refused,
-- whatever the carrier is made of. All that is kept, except for what services report, is theirs, and until memory runs
-- out each host has the program that comes of them.
pub record Worlds {C : Type 0} (calls : Calls C) : Type 0 where
  -- over a carrier whose log is empty
  pub opening :
      (c : C) → (calls.seen c).log ≡ [] → IsWhole calls.seen (calls.seen c).hosts (opening_world (shown calls) c)
  -- after one event, one of those of a calm, a list of events, and this many quiet rounds with all that the hosts take
  -- and say between them, where users name hosts by addresses, and sockets by numbers of their types
  pub step :
      (hosts : List Host) (old new : WorldState C) (e : Event) (r : Result (Unit {0}) WorldFault) → IsNamed e →
      old.strangers ≡ [] → IsWhole calls.seen hosts old → StepGives (shown calls) old e r new →
      IsWhole calls.seen hosts new
  pub turn :
      (hosts : List Host) (old new : WorldState C) (e : Event) (r : Result (Unit {0}) WorldFault) → IsNamed e →
      IsWhole calls.seen hosts old → TurnGives (shown calls) old e r new → IsWhole calls.seen hosts new
  pub run :
      (hosts : List Host) (old new : WorldState C) (events : List Event) (r : Result (Unit {0}) WorldFault) →
      Each IsNamed events → old.strangers ≡ [] → IsWhole calls.seen hosts old →
      RunGives (shown calls) old events r new → IsWhole calls.seen hosts new
  pub calm :
      (hosts : List Host) (old new : WorldState C) (times : ℕ) (r : Result (Unit {0}) WorldFault) →
      IsWhole calls.seen hosts old → CalmGives (shown calls) times old r new → IsWhole calls.seen hosts new

-- What becomes of resets in a world, by the contacts and crossings in its book only. The carrier's log is a run of the
-- mailboxes, as every carrier promises of it.
pub record CleanResets {C : Type 0} (calls : Calls C) : Type 0 where
  -- a host that is through a reset with a peer takes of it only what went out after its last clean point
  pub clean :
      (hosts : Network) (w : WorldState C) → IsLawfulAmong hosts.strange calls.seen hosts.all w →
      (newer older : List Crossing) (m : HostMessage) → w.kept.book.crossings ≡ newer ++ crossing.In m ∷ older →
      AreOurs hosts m.flow.source m.flow.destination → IsText m → is_through m.flow.destination m.flow.source w.kept.book.contacts older ≡ true →
      IsFresh m w.kept.book.contacts older
  -- link by link, what a host heard of its peer in its last stay is a prefix of what the peer said in its own
  pub stays :
      (hosts : Network) (w : WorldState C) → IsLawfulAmong hosts.strange calls.seen hosts.all w → (a b : Host) → AreOurs hosts a b → (link : ℕ) →
      IsPrefix (heard_in_stay a b link (events_in w.kept.book.contacts w.kept.book.crossings))
      (said_in_stay a b link (events_in w.kept.book.contacts w.kept.book.crossings))
  -- for the book is a run of the law of resets, and each program in a seat is, for each peer, where that law has it
  pub run :
      (hosts : Network) (w : WorldState C) → IsLawfulAmong hosts.strange calls.seen hosts.all w →
      runs.IsRun hosts (events_in w.kept.book.contacts w.kept.book.crossings)
  pub agrees :
      (hosts : Network) (w : WorldState C) → IsLawfulAmong hosts.strange calls.seen hosts.all w → w.stopped ≡ false →
      (a b : Host) → AreOurs hosts a b → (s : NcpState) → seat_of a w.seats ≡ Some (record { host = a; program = Some s }) →
      Agrees (pair_with b s.peers) (pairs.pair a b (events_in w.kept.book.contacts w.kept.book.crossings))

-- Both halves of a clean reset, over any list of moments: of whatever a host takes of a peer, except for RST and RRP,
-- either it went out after the host's last clean point for that peer, or its taking leaves every pair and what listens
-- as they were, and reports nothing.
pub record CleanTakings {C : Type 0} (calls : Calls C) : Type 0 where
  pub stories :
      (hosts : Network) (newer older : List Moment) (m : HostMessage) → HaveAddresses hosts.all →
      IsRun hosts.all (crossings_of (newer ++ Crossed (crossing.In m) ∷ older)) →
      Happened hosts (newer ++ Crossed (crossing.In m) ∷ older) → AreOurs hosts m.flow.source m.flow.destination → IsText m →
      IsFresh m (contacts_of older) (crossings_of older) ⊎
      IsUnheard (story.program m.flow.destination older)
      (accepted (story.program m.flow.destination older) (inbound.Message m) (places older))
  -- so of the moments that the book of a world describes
  pub worlds :
      (hosts : Network) (w : WorldState C) → (lawful : IsLawfulAmong hosts.strange calls.seen hosts.all w) →
      (newer older : List Moment) (m : HostMessage) → lawful.whole.moments ≡ newer ++ Crossed (crossing.In m) ∷ older →
      AreOurs hosts m.flow.source m.flow.destination → IsText m →
      IsFresh m (contacts_of older) (crossings_of older) ⊎
      IsUnheard (story.program m.flow.destination older)
      (accepted (story.program m.flow.destination older) (inbound.Message m) (places older))

-- The worlds without strangers of which that is said: those that began over a carrier whose log is empty, between hosts
-- with addresses, however they continued.
pub record LawfulWorlds {C : Type 0} (calls : Calls C) : Type 0 where
  pub opening :
      (c : C) → (calls.seen c).log ≡ [] → HaveAddresses (calls.seen c).hosts →
      IsLawful calls.seen (calls.seen c).hosts (opening_world (shown calls) c)
  -- by one event, one of those of a calm, a list of events and this many quiet rounds, where users name hosts by
  -- addresses and the carrier's log is still a run of the mailboxes
  pub step :
      (hosts : List Host) (old new : WorldState C) (e : Event) (r : Result (Unit {0}) WorldFault) →
      old.strangers ≡ [] → IsLawful calls.seen hosts old → IsNamed e → StepGives (shown calls) old e r new →
      IsRun hosts (calls.seen new.carrier).log → IsLawful calls.seen hosts new
  pub turn :
      (hosts : List Host) (old new : WorldState C) (e : Event) (r : Result (Unit {0}) WorldFault) →
      IsLawful calls.seen hosts old → IsNamed e → TurnGives (shown calls) old e r new →
      IsRun hosts (calls.seen new.carrier).log → IsLawful calls.seen hosts new
  pub run :
      (hosts : List Host) (old new : WorldState C) (events : List Event) (r : Result (Unit {0}) WorldFault) →
      old.strangers ≡ [] → IsLawful calls.seen hosts old → Each IsNamed events →
      RunGives (shown calls) old events r new → IsRun hosts (calls.seen new.carrier).log →
      IsLawful calls.seen hosts new
  pub calm :
      (hosts : List Host) (old new : WorldState C) (times : ℕ) (r : Result (Unit {0}) WorldFault) →
      IsLawful calls.seen hosts old → CalmGives (shown calls) times old r new →
      IsRun hosts (calls.seen new.carrier).log → IsLawful calls.seen hosts new

-- The same of all worlds: whatever strangers send and take, all that is kept of the hosts with programs is what their
-- programs say.
pub record WorldsAmong {C : Type 0} (calls : Calls C) : Type 0 where
  pub opening :
      (strangers : List Host) (c : C) → (calls.seen c).log ≡ [] → HaveAddresses (calls.seen c).hosts →
      ((h : Host) → is_host strangers h ≡ true → is_host (calls.seen c).hosts h ≡ true) →
      IsLawfulAmong (λ h. is_host strangers h) calls.seen (calls.seen c).hosts (opening_among (shown calls) strangers c)
  -- by one event, where users name hosts by addresses and the carrier's log is still a run of the mailboxes
  pub step :
      (hosts : List Host) (old new : WorldState C) (e : Event) (r : Result (Unit {0}) WorldFault) →
      IsLawfulAmong (strange_in old) calls.seen hosts old → IsNamed e →
      StepGives (shown calls) old e r new → IsRun hosts (calls.seen new.carrier).log →
      IsLawfulAmong (strange_in new) calls.seen hosts new
  -- by one of those of a calm, in which strangers do nothing
  pub turn :
      (hosts : List Host) (old new : WorldState C) (e : Event) (r : Result (Unit {0}) WorldFault) →
      IsLawfulAmong (strange_in old) calls.seen hosts old → IsNamed e →
      TurnGives (shown calls) old e r new → IsRun hosts (calls.seen new.carrier).log →
      IsLawfulAmong (strange_in new) calls.seen hosts new
  -- by a list of events, and by this many quiet rounds, in which strangers take nothing
  pub run :
      (hosts : List Host) (old new : WorldState C) (events : List Event) (r : Result (Unit {0}) WorldFault) →
      IsLawfulAmong (strange_in old) calls.seen hosts old → Each IsNamed events →
      RunGives (shown calls) old events r new → IsRun hosts (calls.seen new.carrier).log →
      IsLawfulAmong (strange_in new) calls.seen hosts new
  pub calm :
      (hosts : List Host) (old new : WorldState C) (times : ℕ) (r : Result (Unit {0}) WorldFault) →
      IsLawfulAmong (strange_in old) calls.seen hosts old → CalmGives (shown calls) times old r new →
      IsRun hosts (calls.seen new.carrier).log → IsLawfulAmong (strange_in new) calls.seen hosts new
  -- where there are no strangers an event happens as those of a calm do
  pub alone :
      (old new : WorldState C) (e : Event) (r : Result (Unit {0}) WorldFault) → old.strangers ≡ [] →
      StepGives (shown calls) old e r new → TurnGives (shown calls) old e r new
  -- no event and no calm changes who the strangers are
  pub same :
      (old new : WorldState C) (e : Event) (r : Result (Unit {0}) WorldFault) → StepGives (shown calls) old e r new →
      new.strangers ≡ old.strangers
  pub calm_same :
      (old new : WorldState C) (times : ℕ) (r : Result (Unit {0}) WorldFault) → CalmGives (shown calls) times old r new →
      new.strangers ≡ old.strangers
  -- without strangers such a world is lawful as those are, and a lawful one is such a world
  pub nobody :
      (strange : Host → Bool) (hosts : List Host) (w : WorldState C) → ((h : Host) → strange h ≡ false) →
      IsLawfulAmong strange calls.seen hosts w → IsLawful calls.seen hosts w
  pub any :
      (strange : Host → Bool) (hosts : List Host) (w : WorldState C) → ((h : Host) → strange h ≡ false) →
      IsLawful calls.seen hosts w → IsLawfulAmong strange calls.seen hosts w
