-- The server of an initial connection (RFC 165), which listens on all its three sockets from the beginning.
use Rattle.std.specs.Prelude.{ℕ, ◌+◌, Bool, true, false, ◌&&◌, ◌||◌, is_none, is_some, if◌then◌else◌, List, [], ◌∷◌, Option, Some, None}
use Rattle.std.specs.Option.{option_or}
use Rattle.icp.specs.Notices.{opened_on, is_partner, has_ended, is_reset_of}
use Rattle.icp.specs.Outcomes.{IcpTurn, passed, failed, local_outcome}
use Rattle.icp.specs.Sockets.{socket_bits}
use Rattle.icp.specs.declared.notices.Partner.{Partner}
use Rattle.icp.specs.declared.outcome.Failure.{Failure}
use Rattle.icp.specs.declared.outcome.Failure.TheVariants as failure
use Rattle.icp.specs.declared.outcome.Outcome.{Outcome}
use Rattle.icp.specs.declared.outcome.Outcome.TheVariants as outcome
use Rattle.sockets.specs.declared.fault.NcpFault.{NcpFault}
use Rattle.host_pairs.specs.declared.notice.Notice.{Notice}
use Rattle.sockets.specs.declared.request.Request.{Request}
use Rattle.sockets.specs.declared.request.Request.TheVariants as request

-- the socket on which users ask, the two on which one is served, the partner of each once it was opened, whether there is
-- an outcome, and whether running out of memory has made it useless
pub record ServerState : Type 0 where
  pub listen : ℕ
  pub receive : ℕ
  pub send : ℕ
  pub user : Option Partner
  pub receiving : Option Partner
  pub sending : Option Partner
  pub over : Bool
  pub spent : Bool

abbrev pub opening_server : ℕ → ℕ → ServerState
opening_server listen base =
    record { listen = listen; receive = base; send = base + 1; user = None; receiving = None; sending = None; over = false; spent = false }

-- it listens on all three
abbrev pub server_requests : ℕ → ℕ → List Request
server_requests listen base = request.Listen listen 32 ∷ request.Listen base 8 ∷ request.Listen (base + 1) 8 ∷ []

-- one of its connections ended before it was used
abbrev pub server_refused : ServerState → Notice → Bool
server_refused s n = has_ended s.receive n || (has_ended s.send n || (is_none s.user && has_ended s.listen n))

-- all connections are gone with a host with which one of its own was opened
abbrev pub server_reset : ServerState → Notice → Bool
server_reset s n = is_reset_of s.user n || (is_reset_of s.receiving n || is_reset_of s.sending n)

abbrev pub server_failure : ServerState → Notice → Option Failure
server_failure s n = if server_refused s n then Some failure.Refused else (if server_reset s n then Some failure.Reset else None)

-- the first opening of each socket counts
abbrev pub server_met : ServerState → Notice → ServerState
server_met s n = record s {
  user = option_or s.user (opened_on s.listen n);
  receiving = option_or s.receiving (opened_on s.receive n);
  sending = option_or s.sending (opened_on s.send n);
}

-- the first user who comes learns the base, and then that connection is closed
abbrev pub server_says : ServerState → Notice → List Request
server_says s n =
    if is_none s.user && is_some (opened_on s.listen n)
    then request.Send s.listen (socket_bits s.receive) ∷ request.Close s.listen ∷ []
    else []

-- the partners of its two ends are the user's sockets, crosswise: three and two above the one that asked
abbrev pub are_of : Option Partner → Partner → Partner → Bool
are_of None r t = false
are_of (Some u) r t = is_partner u.peer (u.socket + 3) r && is_partner u.peer (u.socket + 2) t

-- it is judged when both ends are open
abbrev pub server_verdict : ServerState → Option Partner → Option Partner → Option Outcome
server_verdict s (Some r) (Some t) = Some (if are_of s.user r t then outcome.Done s.receive s.send else outcome.Failed failure.Stranger)
server_verdict s (Some r) None = None
server_verdict s None t = None

abbrev pub server_judged : ServerState → List Request → IcpTurn ServerState
server_judged s requests =
    let o : Option Outcome = server_verdict s s.receiving s.sending in
    (record s { over = is_some o }, requests, o)

abbrev pub server_by : ServerState → Notice → Option Failure → IcpTurn ServerState
server_by s n (Some f) = failed (record s { over = true }) f
server_by s n None = server_judged (server_met s n) (server_says s n)

-- its turn at a notice; with its outcome it has ended
unfoldable pub server_turn : ServerState → Notice → IcpTurn ServerState
server_turn s n = if s.over then passed s else server_by s n (server_failure s n)

-- one of its requests was refused: it has an outcome then, an earlier one or this one
abbrev pub server_local : ServerState → NcpFault → ServerState × Option Outcome
server_local s f = (record s { over = true }, local_outcome s.over f)
