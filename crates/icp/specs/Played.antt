-- The two machines over a list of notices.
use Rattle.std.specs.Prelude.{◌≡◌, true, ℕ, ◌+◌, ◌≤◌, Bool, if◌then◌else◌, List, [], ◌∷◌, ◌++◌, length, take, Option, Some, None}
use Rattle.std.specs.List.{list_any}
use Rattle.interface.specs.Host.{Host}
use Rattle.std.specs.Option.{option_or}
use Rattle.ncp_control.specs.Numbers.{is_receive_socket}
use Rattle.icp.specs.Notices.{arrived_on, is_opened, opened_on}
use Rattle.icp.specs.Outcomes.{IcpTurn}
use Rattle.icp.specs.Server.{ServerState, server_turn}
use Rattle.icp.specs.Sockets.{socket_of}
use Rattle.icp.specs.User.{UserState, user_turn}
use Rattle.icp.specs.declared.notices.Partner.{Partner}
use Rattle.icp.specs.declared.outcome.Outcome.{Outcome}
use Rattle.host_pairs.specs.declared.notice.Notice.{Notice}
use Rattle.sockets.specs.declared.request.Request.{Request}

-- a machine after some notices, all that it asked for, and all its outcomes
abbrev pub Played : Type 0 → Type 0
Played S = S × List Request × List Outcome

abbrev pub outcomes_of : Option Outcome → List Outcome
outcomes_of None = []
outcomes_of (Some o) = o ∷ []

-- a turn, and what came after it
abbrev pub before : {S : Type 0} → IcpTurn S → Played S → Played S
before t rest = (rest.0, t.1 ++ rest.1, outcomes_of t.2 ++ rest.2)

abbrev pub server_played : ServerState → List Notice → Played ServerState
server_played s [] = (s, [], [])
server_played s (n ∷ ns) = before (server_turn s n) (server_played (server_turn s n).0 ns)

abbrev pub user_played : UserState → List Notice → Played UserState
user_played s [] = (s, [], [])
user_played s (n ∷ ns) = before (user_turn s n) (user_played (user_turn s n).0 ns)

-- the far end of the first connection of a socket that these notices report
abbrev pub opened_in : ℕ → List Notice → Option Partner
opened_in socket [] = None
opened_in socket (n ∷ ns) = option_or (opened_on socket n) (opened_in socket ns)

-- ---- what a server's outcome says

-- the socket so far above that of a partner, at the same host
abbrev pub above : ℕ → Partner → Partner
above step p = record { peer = p.peer; socket = p.socket + step }

-- these notices report a user who asked the listening socket, and both ends with the sockets of that user, crosswise
pub record IsServed (listen base : ℕ) (notices : List Notice) : Type 0 where
  pub user : Partner
  pub asked : opened_in listen notices ≡ Some user
  pub receiving : opened_in base notices ≡ Some (above 3 user)
  pub sending : opened_in (base + 1) notices ≡ Some (above 2 user)

-- ---- what a user's outcome says

-- the notices after the first one that reports the connection of this socket with that partner
abbrev pub since_opened : ℕ → Host → ℕ → List Notice → List Notice
since_opened own peer foreign [] = []
since_opened own peer foreign (n ∷ ns) = if is_opened own peer foreign n then ns else since_opened own peer foreign ns

abbrev pub bits_in : Option (List Bool) → List Bool
bits_in None = []
bits_in (Some bits) = bits

-- all bits that arrive on a socket, in order
abbrev pub arrived_in : ℕ → List Notice → List Bool
arrived_in own [] = []
arrived_in own (n ∷ ns) = bits_in (arrived_on own n) ++ arrived_in own ns

-- what a server says: the bits that arrive on the socket that asks, once its connection with the server's socket is open
abbrev pub said_to : ℕ → Host → ℕ → List Notice → List Bool
said_to own peer listen notices = arrived_in own (since_opened own peer listen notices)

-- these notices report at least 32 bits that the server says, of which the first 32 are an even number, the base; and both
-- its ends with sockets of the server's host, crosswise: the base and the socket above it
pub record IsConnected (peer : Host) (listen own : ℕ) (notices : List Notice) : Type 0 where
  pub base : ℕ
  pub long : 32 ≤ length (said_to own peer listen notices)
  pub said : base ≡ socket_of (take 32 (said_to own peer listen notices))
  pub even : is_receive_socket base ≡ true
  pub receiving : list_any (λ n. is_opened (own + 2) peer (base + 1) n) notices ≡ true
  pub sending : list_any (λ n. is_opened (own + 3) peer base n) notices ≡ true
