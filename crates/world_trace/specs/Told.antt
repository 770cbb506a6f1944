-- States of worlds of which the texts of a trace say all but the carrier and what is kept: memory has not run out, and each number has a decimal of its own.
use Rattle.std.specs.Prelude.{◌≡◌, ℕ, false, List, [], ◌∷◌, IfSome}
use Rattle.std.specs.List.{All}
use Rattle.hex.specs.Hex.{IsBytes}
use Rattle.host_pairs.specs.declared.entry.Entry.{Entry}
use Rattle.host_pairs.specs.declared.listener.Listener.{Listener}
use Rattle.host_services.specs.declared.service.Service.{Service}
use Rattle.host_services.specs.declared.service.Service.TheVariants as service
use Rattle.icp.specs.Server.{ServerState}
use Rattle.icp.specs.User.{UserState}
use Rattle.icp.specs.declared.notices.Partner.{Partner}
use Rattle.ncp_control.specs.declared.allocation.Allocation.{Allocation}
use Rattle.ncp_control.specs.declared.command.Command.{Command}
use Rattle.ncp_control.specs.declared.command.Command.TheVariants as command
use Rattle.net_sim.specs.World.{WorldState}
use Rattle.net_sim.specs.declared.seat.Seat.{Seat}
use Rattle.net_sim.specs.declared.seat.ServiceSeat.{ServiceSeat}
use Rattle.sockets.specs.Pairs.{NcpState}
use Rattle.sockets.specs.declared.peer.Peer.{Peer}
use Rattle.trace.specs.Named.{IsHostNamed, IsShort}
use Rattle.world_trace.specs.Lasting.{Lasts}
use Rattle.world_trace.specs.Texts.{programs_text, services_text}

-- ---- programs

-- the numbers that a command has, in order, and the octets that it quotes
abbrev pub numbers_of : Command → List ℕ
numbers_of command.Nop = []
numbers_of (command.Rts receive send link) = receive ∷ send ∷ link ∷ []
numbers_of (command.Str send receive size) = send ∷ receive ∷ size ∷ []
numbers_of (command.Cls own foreign) = own ∷ foreign ∷ []
numbers_of (command.All link messages bits) = link ∷ messages ∷ bits ∷ []
numbers_of (command.Gvb link messages bits) = link ∷ messages ∷ bits ∷ []
numbers_of (command.Ret link messages bits) = link ∷ messages ∷ bits ∷ []
numbers_of (command.Inr link) = link ∷ []
numbers_of (command.Ins link) = link ∷ []
numbers_of (command.Eco octet) = octet ∷ []
numbers_of (command.Erp octet) = octet ∷ []
numbers_of (command.Err code detail) = code ∷ []
numbers_of command.Rst = []
numbers_of command.Rrp = []

abbrev pub quoted_by : Command → List ℕ
quoted_by command.Nop = []
quoted_by (command.Rts receive send link) = []
quoted_by (command.Str send receive size) = []
quoted_by (command.Cls own foreign) = []
quoted_by (command.All link messages bits) = []
quoted_by (command.Gvb link messages bits) = []
quoted_by (command.Ret link messages bits) = []
quoted_by (command.Inr link) = []
quoted_by (command.Ins link) = []
quoted_by (command.Eco octet) = []
quoted_by (command.Erp octet) = []
quoted_by (command.Err code detail) = detail
quoted_by command.Rst = []
quoted_by command.Rrp = []

pub record IsCommandTold (c : Command) : Type 0 where
  pub numbers : All IsShort (numbers_of c)
  pub octets : IsBytes (quoted_by c)

pub record IsAllocationTold (a : Allocation) : Type 0 where
  pub messages : IsShort a.messages
  pub bits : IsShort a.bits

pub record IsEndTold (e : Entry) : Type 0 where
  pub own : IsShort e.own
  pub foreign : IsShort e.foreign
  pub asked : IfSome e.asked IsShort
  pub partner : IfSome e.partner IsShort
  pub link : IfSome e.link IsShort
  pub size : IfSome e.size IsShort
  pub allocation : IsAllocationTold e.allocation

pub record IsPairTold (p : Peer) : Type 0 where
  pub host : IsHostNamed p.host
  pub busy : All IsShort p.pair.busy
  pub ends : All IsEndTold p.pair.entries
  pub commands : All IsCommandTold p.pair.queue

pub record IsListenerTold (l : Listener) : Type 0 where
  pub socket : IsShort l.socket
  pub size : IsShort l.size

pub record IsProgramTold (s : NcpState) : Type 0 where
  pub peers : All IsPairTold s.peers
  pub listening : All IsListenerTold s.listening

pub record IsSeatTold (s : Seat) : Type 0 where
  pub host : IsHostNamed s.host
  pub program : IfSome s.program IsProgramTold

-- ---- services

pub record IsPartnerTold (p : Partner) : Type 0 where
  pub peer : IsHostNamed p.peer
  pub socket : IsShort p.socket

pub record IsServerTold (s : ServerState) : Type 0 where
  pub listen : IsShort s.listen
  pub receive : IsShort s.receive
  pub send : IsShort s.send
  pub user : IfSome s.user IsPartnerTold
  pub receiving : IfSome s.receiving IsPartnerTold
  pub sending : IfSome s.sending IsPartnerTold

pub record IsUserTold (u : UserState) : Type 0 where
  pub peer : IsHostNamed u.peer
  pub listen : IsShort u.listen
  pub own : IsShort u.own
  pub receive : IsShort u.receive
  pub send : IsShort u.send
  pub base : IfSome u.base IsShort

abbrev pub IsServiceTold : Service → Type 0
IsServiceTold (service.Server s) = IsServerTold s
IsServiceTold (service.User u) = IsUserTold u
IsServiceTold (service.Echo e) = IsShort e.receive × IsShort e.send
IsServiceTold (service.Terminal t) = IsShort t.receive × IsShort t.send × IsBytes t.rest

pub record IsServed (s : ServiceSeat) : Type 0 where
  pub host : IsHostNamed s.host
  pub typing : IfSome s.services.typing IsShort
  pub running : All IsServiceTold s.services.running

-- ---- worlds

-- all its numbers have decimals of their own, and octets are octets
pub record AreNumbersTold {C : Type 0} (w : WorldState C) : Type 0 where
  pub programs : All IsSeatTold w.seats
  pub services : All IsServed w.services

-- memory has not run out either, and there are no strangers
pub record IsWorldTold {C : Type 0} (w : WorldState C) : Type 0 where
  pub strangers : w.strangers ≡ []
  pub running : w.stopped ≡ false
  pub lasting : Lasts w
  pub numbers : AreNumbersTold w

-- the programs of two worlds have the same texts, and their services do
pub record HaveSameTexts {C : Type 0} (one other : WorldState C) : Type 0 where
  pub programs : programs_text one.seats ≡ programs_text other.seats
  pub services : services_text one.services ≡ services_text other.services
