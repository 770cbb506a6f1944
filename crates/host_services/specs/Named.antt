-- What services ask for, and whom they name.
use Rattle.std.specs.Prelude.{◌≡◌, ◌<◌, List, [], ◌∷◌, ◌++◌, length, None, All}
use Rattle.std.specs.List.{fold}
use Rattle.interface.specs.Host.{IsAddress}
use Rattle.ncp_control.specs.Command.{IsWord}
use Rattle.sockets.specs.Pairs.{NcpState}
use Rattle.sockets.specs.Requests.{refusal, served}
use Rattle.sockets.specs.declared.request.Request.{Request}
use Rattle.sockets.specs.declared.request.Request.TheVariants as request
use Rattle.icp.specs.User.{UserState}
pub use Rattle.host_keeps_ranges.specs.Ranges.{IsAsked}
use Rattle.host_services.specs.Services.{Service, ServicesState, ServiceDeskState}
use Rattle.host_services.specs.declared.service.Service.TheVariants as service

-- a request names its peer by an address
abbrev pub IsAddressed : Request → Type 0
IsAddressed (request.Contact peer) = IsAddress peer
IsAddressed (request.OpenSend peer own foreign size) = IsAddress peer
IsAddressed (request.OpenReceive peer own foreign) = IsAddress peer
IsAddressed (request.Echo peer octet) = IsAddress peer
IsAddressed r = Unit {0}

-- a request about which the program notifies its user of nothing: only a contact has notices
abbrev pub IsSilent : Request → Type 0
IsSilent (request.Contact peer) = ⊥
IsSilent r = Unit {0}

-- a request that carries bits
abbrev pub HasBits : Request → Type 0
HasBits (request.Send socket bits) = 0 < length bits
HasBits r = ⊥

-- what a service may ask for: in numbers of their types, and no contact
pub record MayAsk (r : Request) : Type 0 where
  pub addressed : IsAddressed r
  pub ranged : IsAsked r
  pub silent : IsSilent r

-- a user names its peer by an address, and its own two sockets are numbers of four octets
abbrev pub IsUser : UserState → Type 0
IsUser s = IsAddress s.peer × IsWord s.receive × IsWord s.send

abbrev pub NamesPeer : Service → Type 0
NamesPeer (service.User s) = IsUser s
NamesPeer s = Unit {0}

abbrev pub NamePeers : ServicesState → Type 0
NamePeers s = All NamesPeer s.running

-- a program refuses none of these, one after another
abbrev pub NoneRefused : NcpState → List Request → Type 0
NoneRefused s [] = Unit {0}
NoneRefused s (r ∷ requests) = (refusal s r ≡ None) × NoneRefused (served s r) requests

-- services have asked for more: the program has served that in its order
pub record HasAsked (before after : ServiceDeskState) : Type 0 where
  pub more : List Request
  pub asked : after.asked ≡ before.asked ++ more
  pub program : after.program ≡ fold served before.program more
  pub each : All MayAsk more
  pub unrefused : NoneRefused before.program more
