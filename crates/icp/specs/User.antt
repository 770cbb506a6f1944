-- The user of an initial connection (RFC 165).
use Rattle.std.specs.Prelude.{ℕ, ◌+◌, Bool, true, false, ◌&&◌, ◌||◌, is_none, nat_lt, if◌then◌else◌, List, [], ◌∷◌, ◌++◌, length, take, Option, Some, None}
use Rattle.interface.specs.Host.{Host}
use Rattle.ncp_control.specs.Numbers.{is_receive_socket}
use Rattle.icp.specs.Notices.{is_opened, arrived_on, brings_bits, has_ended, is_reset}
use Rattle.icp.specs.Outcomes.{IcpTurn, passed, failed, local_outcome}
use Rattle.icp.specs.Sockets.{socket_of}
use Rattle.icp.specs.declared.outcome.Failure.{Failure}
use Rattle.icp.specs.declared.outcome.Failure.TheVariants as failure
use Rattle.icp.specs.declared.outcome.Outcome.{Outcome}
use Rattle.icp.specs.declared.outcome.Outcome.TheVariants as outcome
use Rattle.sockets.specs.declared.fault.NcpFault.{NcpFault}
use Rattle.host_pairs.specs.declared.notice.Notice.{Notice}
use Rattle.sockets.specs.declared.request.Request.{Request}
use Rattle.sockets.specs.declared.request.Request.TheVariants as request

-- the server's host and the socket that is asked there, its own socket that asks, and the two that are to be used; whether
-- the first connection was opened, the bits that came on it so far, the base once they said it, and which of the two
-- connections was opened since; whether there is an outcome, and whether running out of memory has made it useless
pub record UserState : Type 0 where
  pub peer : Host
  pub listen : ℕ
  pub own : ℕ
  pub receive : ℕ
  pub send : ℕ
  pub opened : Bool
  pub bits : List Bool
  pub base : Option ℕ
  pub receiving : Bool
  pub sending : Bool
  pub over : Bool
  pub spent : Bool

abbrev pub opening_user : Host → ℕ → ℕ → UserState
opening_user peer listen own = record {
  peer = peer;
  listen = listen;
  own = own;
  receive = own + 2;
  send = own + 3;
  opened = false;
  bits = [];
  base = None;
  receiving = false;
  sending = false;
  over = false;
  spent = false;
}

-- it asks the server's socket
abbrev pub user_requests : Host → ℕ → ℕ → List Request
user_requests peer listen own = request.OpenReceive peer own listen ∷ []

-- a connection that it has asked for has ended; its first one may end once the base is known
abbrev pub user_refused : UserState → Notice → Bool
user_refused s n = if is_none s.base then has_ended s.own n else has_ended s.receive n || has_ended s.send n

abbrev pub user_failure : UserState → Notice → Option Failure
user_failure s n = if user_refused s n then Some failure.Refused else (if is_reset s.peer n then Some failure.Reset else None)

-- one message and 32 bits are granted when the first connection is open
abbrev pub user_opened : UserState → Notice → IcpTurn UserState
user_opened s n =
    if is_opened s.own s.peer s.listen n then (record s { opened = true }, request.Grant s.own 1 32 ∷ [], None) else passed s

-- the base is known: the first connection is closed, and the two others are asked for. An odd base is none
abbrev pub user_told : UserState → ℕ → IcpTurn UserState
user_told s base =
    if is_receive_socket base
    then (record s { base = Some base }, request.Close s.own ∷ request.OpenReceive s.peer s.receive (base + 1) ∷ request.OpenSend s.peer s.send base 8 ∷ [], None)
    else (record s { over = true }, request.Close s.own ∷ [], Some (outcome.Failed failure.BadSocket))

-- the bits that come are joined until they are 32; what is beyond is ignored
abbrev pub user_joined : UserState → List Bool → IcpTurn UserState
user_joined s bits =
    if nat_lt (length bits) 32 then passed (record s { bits = bits }) else user_told (record s { bits = [] }) (socket_of (take 32 bits))

abbrev pub user_heard : UserState → Option (List Bool) → IcpTurn UserState
user_heard s None = passed s
user_heard s (Some bits) = user_joined s (s.bits ++ bits)

-- which of the two connections are open now: each with the server's socket, crosswise
abbrev pub user_met : UserState → ℕ → Notice → UserState
user_met s base n = record s {
  receiving = s.receiving || is_opened s.receive s.peer (base + 1) n;
  sending = s.sending || is_opened s.send s.peer base n;
}

-- it is done when both are open
abbrev pub user_judged : UserState → IcpTurn UserState
user_judged s =
    if s.receiving && s.sending then (record s { over = true }, [], Some (outcome.Done s.receive s.send)) else passed s

-- its three stages: it waits for the first connection, for the base, and for the two connections
abbrev pub user_stage : UserState → Notice → Option ℕ → IcpTurn UserState
user_stage s n None = if s.opened then user_heard s (arrived_on s.own n) else user_opened s n
user_stage s n (Some base) = user_judged (user_met s base n)

abbrev pub user_by : UserState → Notice → Option Failure → IcpTurn UserState
user_by s n (Some f) = failed (record s { over = true }) f
user_by s n None = user_stage s n s.base

-- its turn at a notice; with its outcome it has ended
unfoldable pub user_turn : UserState → Notice → IcpTurn UserState
user_turn s n = if s.over then passed s else user_by s n (user_failure s n)

-- bits of the base come, and it keeps them: it waits for the base on the open first connection
abbrev pub user_reads : UserState → Notice → Bool
user_reads s n = s.opened && (is_none s.base && brings_bits s.own n)

-- one of its requests was refused: it has an outcome then, an earlier one or this one
abbrev pub user_local : UserState → NcpFault → UserState × Option Outcome
user_local s f = (record s { over = true }, local_outcome s.over f)
