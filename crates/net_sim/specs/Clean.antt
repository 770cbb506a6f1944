-- Clean points in a book (NIC 8246, RST and RRP), and what the law of resets asks of a world.
use Rattle.std.specs.Prelude.{◌≡◌, ℕ, Bool, true, List, [], Option, Some}
use Rattle.interface.specs.Calls.{Seen}
use Rattle.interface.specs.Host.{Host, IsAddress, is_host}
use Rattle.interface.specs.Mailboxes.{IsRun}
use Rattle.interface.specs.declared.crossing.Crossing.{Crossing}
use Rattle.interface.specs.declared.message.HostMessage.{HostMessage}
use Rattle.sockets.specs.Pairs.{NcpState, pair_with}
use Rattle.host_pairs.specs.declared.notice.Notice.{Notice}
use Rattle.reset_law.specs.Events.{Other}
use Rattle.reset_law.specs.Monitor.{monitor, IsAfter}
use Rattle.reset_law.specs.Stays.{ready}
use Rattle.promise.specs.declared.book.Called.{Called}
use Rattle.net_sim.specs.Carriers.{IsBooked}
use Rattle.net_sim.specs.Projection.{message_on}
use Rattle.net_sim.specs.Reports.{AreReported}
use Rattle.promise.specs.Safe.{last_out}
use Rattle.net_sim.specs.Timeline.{events_in}
use Rattle.net_sim.specs.Whole.{IsWhole, IsWholeAmong}
use Rattle.net_sim.specs.World.{WorldState}

-- a host is through a reset with a peer, by contacts and crossings
abbrev pub is_through : Host → Host → List Called → List Crossing → Bool
is_through h peer contacts log = ready h peer (events_in contacts log)

-- the place of a host's last clean point for a peer
abbrev pub clean_point : Host → Host → List Called → List Crossing → Option ℕ
clean_point h peer contacts log = (monitor h peer (events_in contacts log)).clean

-- neither an RST nor an RRP
abbrev pub IsText : HostMessage → Type 0
IsText m = message_on m.flow.link.0 m.text ≡ Other m.text

-- a call notifies its user of nothing, and leaves every pair and what listens as they were
pub record IsUnheard (s : NcpState) (done : NcpState × List Notice) : Type 0 where
  pub told : done.1 ≡ []
  pub pairs : (h : Host) → pair_with h done.0.peers ≡ pair_with h s.peers
  pub listening : done.0.listening ≡ s.listening

-- a message went out after the last clean point that the host which takes it has for its sender
pub record IsFresh (m : HostMessage) (contacts : List Called) (log : List Crossing) : Type 0 where
  pub place : ℕ
  pub out : last_out m.flow log ≡ Some place
  pub after : IsAfter place (clean_point m.flow.destination m.flow.source contacts log)

-- each host of the network is one that an address octet can name
abbrev pub HaveAddresses : List Host → Type 0
HaveAddresses hosts = (h : Host) → is_host hosts h ≡ true → IsAddress h

-- a world with its book, in which each report is so at its place, over a carrier whose log is a run of the mailboxes between hosts that
-- have addresses
pub record IsLawful {C : Type 0} (seen : C → Seen) (hosts : List Host) (w : WorldState C) : Type 0 where
  pub whole : IsWhole seen hosts w
  pub booked : IsBooked seen w
  pub run : IsRun hosts (seen w.carrier).log
  pub addresses : HaveAddresses hosts
  pub reported : AreReported w

-- the same of a world some of whose hosts are strangers
pub record IsLawfulAmong {C : Type 0} (strange : Host → Bool) (seen : C → Seen) (hosts : List Host) (w : WorldState C) : Type 0 where
  pub whole : IsWholeAmong strange seen hosts w
  pub booked : IsBooked seen w
  pub run : IsRun hosts (seen w.carrier).log
  pub addresses : HaveAddresses hosts
  pub strangers : (h : Host) → strange h ≡ true → is_host hosts h ≡ true
  pub reported : AreReported w
