-- The numbers that a host's program keeps, within the fields of the commands that carry them (NIC 8246, the control commands).
use Rattle.std.specs.Prelude.{◌≡◌, ℕ, IsTrue, List, [], ◌∷◌, Option, Some, None, All, map}
use Rattle.ncp_control.specs.Command.{IsCommand, IsDouble, IsOctet, IsWord}
use Rattle.ncp_control.specs.Numbers.{is_byte_size}
use Rattle.ncp_control.specs.declared.command.Command.{Command}
use Rattle.host_pairs.specs.Allowed.{commands_of}
use Rattle.host_pairs.specs.Control.{Legal, Order, Wrong, orders_of}
use Rattle.host_pairs.specs.Pair.{PairState}
use Rattle.host_pairs.specs.Parcels.{Bytes, Parcel, text_for}
use Rattle.host_pairs.specs.declared.entry.Entry.{Entry}
use Rattle.host_pairs.specs.declared.listener.Listener.{Listener}
use Rattle.sockets.specs.Pairs.{NcpState}
use Rattle.sockets.specs.declared.peer.Peer.{Peer}
use Rattle.sockets.specs.declared.request.Request.{Request}
use Rattle.sockets.specs.declared.request.Request.TheVariants as request

-- ---- ends

-- a link, where it is known, is an octet
abbrev pub IsLink : Option ℕ → Type 0
IsLink None = Unit {0}
IsLink (Some link) = IsOctet link

-- both sockets are numbers of four octets, and the counters fit an ALL and a RET
pub record IsInRange (e : Entry) : Type 0 where
  pub own : IsWord e.own
  pub foreign : IsWord e.foreign
  pub link : IsLink e.link
  pub messages : IsDouble e.allocation.messages
  pub bits : IsWord e.allocation.bits

abbrev pub AreInRange : List Entry → Type 0
AreInRange [] = Unit {0}
AreInRange (e ∷ entries) = IsInRange e × AreInRange entries

abbrev pub AreCommands : List Command → Type 0
AreCommands [] = Unit {0}
AreCommands (c ∷ commands) = IsCommand c × AreCommands commands

-- a socket listens with a byte size
abbrev pub AreSizes : List Listener → Type 0
AreSizes [] = Unit {0}
AreSizes (l ∷ listening) = (IsOctet l.size × IsTrue (is_byte_size l.size)) × AreSizes listening

-- ---- a host

pub record IsPair (q : PairState) : Type 0 where
  pub ends : AreInRange q.entries
  pub commands : AreCommands q.queue

abbrev pub ArePairs : List Peer → Type 0
ArePairs [] = Unit {0}
ArePairs (p ∷ peers) = IsPair p.pair × ArePairs peers

pub record IsRanged (s : NcpState) : Type 0 where
  pub pairs : ArePairs s.peers
  pub sizes : AreSizes s.listening

-- ---- what a user asks for: the numbers have their types' ranges

abbrev pub IsAsked : Request → Type 0
IsAsked (request.Listen socket size) = IsOctet size
IsAsked (request.OpenSend peer own foreign size) = IsWord own × IsWord foreign × IsOctet size
IsAsked (request.OpenReceive peer own foreign) = IsWord own × IsWord foreign
IsAsked (request.Grant socket messages bits) = IsDouble messages × IsWord bits
IsAsked (request.AskBack socket messages bits) = IsOctet messages × IsOctet bits
IsAsked (request.Echo peer octet) = IsOctet octet
IsAsked r = Unit {0}

-- ---- what is read

-- an order is a command, or an error whose octets are octets
abbrev pub IsOrder : Order → Type 0
IsOrder (Legal c) = IsCommand c
IsOrder (Wrong code octets) = IsOctet code × All IsOctet octets

abbrev pub AreOrders : List Order → Type 0
AreOrders [] = Unit {0}
AreOrders (o ∷ orders) = IsOrder o × AreOrders orders

-- whoever takes the message that a parcel goes out in reads just the commands that it was made of
abbrev pub IsReadBack : PairState → Parcel → Type 0
IsReadBack q (Bytes e size count) = Unit {0}
IsReadBack q parcel = orders_of (text_for q parcel) ≡ map Legal (commands_of q parcel)
