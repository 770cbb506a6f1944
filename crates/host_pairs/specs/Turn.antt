-- What a pair does with what comes in of its peer: commands, data, and answers to what was sent (NIC 8246; BBN Report 1822, RFNM).
use Rattle.std.specs.Prelude.{ℕ, Bool, true, false, not, ◌==◌, ◌&&◌, ◌||◌, if◌then◌else◌, List, [], ◌∷◌, ◌++◌, filter}
use Rattle.interface.specs.Host.{Host}
use Rattle.interface.specs.declared.crossing.Answer.{Answer}
use Rattle.interface.specs.declared.crossing.Answer.TheVariants as answer
use Rattle.ncp_control.specs.declared.command.Command.{Command}
use Rattle.ncp_control.specs.declared.command.Command.TheVariants as command
use Rattle.std.specs.List.{list_any}
use Rattle.host_pairs.specs.Commands.{desk_taken}
use Rattle.host_pairs.specs.Control.{Order, Legal, Wrong, orders_of, error}
use Rattle.host_pairs.specs.Data.{data_taken}
use Rattle.host_pairs.specs.Entries.{is_due}
use Rattle.host_pairs.specs.Pair.{PairState}
use Rattle.host_pairs.specs.Desk.{DeskState, desk_of, command_queued, settled}
use Rattle.host_pairs.specs.declared.listener.Listener.{Listener}
use Rattle.ncp_control.specs.Phases.{is_ready, reset_phase, reply_phase, rfnm_phase}
use Rattle.host_pairs.specs.declared.notice.Notice.{Notice}
use Rattle.host_pairs.specs.declared.notice.Notice.TheVariants as notice
use Rattle.ncp_control.specs.declared.phase.Phase.{Phase}
use Rattle.ncp_control.specs.declared.phase.Phase.TheVariants as phase

-- a pair, what listens, and what was reported
pub record TurnState : Type 0 where
  pub pair : PairState
  pub listening : List Listener
  pub notices : List Notice

-- ---- the connections, while the pair is opened

abbrev pub with_desk : TurnState → DeskState → TurnState
with_desk t d = record { pair = record t.pair { entries = d.entries; queue = d.queue }; listening = d.listening; notices = t.notices ++ d.notices }

-- outside the opened phase nothing is heard of connections, and no error is reported
abbrev pub if_ready : (DeskState → DeskState) → TurnState → TurnState
if_ready work t = if is_ready t.pair.phase then with_desk t (work (desk_of t.pair t.listening)) else t

-- ---- the reset

-- what is notified of an RST that was taken
abbrev pub reset_notices : Host → Phase → List Notice
reset_notices peer phase.Closed = notice.Ready peer ∷ []
reset_notices peer phase.Ready = notice.PairReset peer ∷ []
reset_notices peer p = []

-- an RST of the peer: all of the pair's connections are gone, and an RRP is owed
abbrev pub reset_taken : Host → TurnState → TurnState
reset_taken peer t = record t {
  pair = record t.pair { phase = reset_phase t.pair.phase; owed = true; entries = []; queue = [] };
  notices = t.notices ++ reset_notices peer t.pair.phase;
}

abbrev pub reply_notices : Host → Phase → List Notice
reply_notices peer phase.Heard = notice.Ready peer ∷ []
reply_notices peer p = []

-- an RRP of the peer
abbrev pub reply_taken : Host → TurnState → TurnState
reply_taken peer t = record t {
  pair = record t.pair { phase = reply_phase t.pair.phase };
  notices = t.notices ++ reply_notices peer t.pair.phase;
}

-- ---- messages

abbrev pub command_taken : Host → ℕ → Command → TurnState → TurnState
command_taken peer stamp command.Rst t = reset_taken peer t
command_taken peer stamp command.Rrp t = reply_taken peer t
command_taken peer stamp c t = if_ready (desk_taken peer t.pair.busy stamp c) t

abbrev pub order_taken : Host → ℕ → Order → TurnState → TurnState
order_taken peer stamp (Legal c) t = command_taken peer stamp c t
order_taken peer stamp (Wrong code octets) t = if_ready (command_queued (error code octets)) t

-- one order after another
abbrev pub orders_taken : Host → ℕ → List Order → TurnState → TurnState
orders_taken peer stamp [] t = t
orders_taken peer stamp (o ∷ os) t = orders_taken peer stamp os (order_taken peer stamp o t)

-- link 0 is the control link; every other one is a connection's or nobody's
abbrev pub message_taken : Host → ℕ → ℕ → List Bool → TurnState → TurnState
message_taken peer stamp link text t =
    if link == 0 then orders_taken peer stamp (orders_of text) t
    else if_ready (data_taken link text) t

-- ---- answers

abbrev pub freed : ℕ → PairState → PairState
freed link q = record q { busy = filter (λ l. not (l == link)) q.busy }

-- an end that waited for the answer closes now
abbrev pub settled_turn : TurnState → TurnState
settled_turn t = with_desk t (settled t.pair.busy (desk_of t.pair t.listening))

-- ready for next message: the peer has taken it
abbrev pub rfnm_taken : ℕ → TurnState → TurnState
rfnm_taken link t = settled_turn (record t { pair = record t.pair { phase = rfnm_phase link t.pair.phase } })

-- the pair is closed: its connections and what waits to be said are gone
abbrev pub closed : List Notice → TurnState → TurnState
closed notices t = record t {
  pair = record t.pair { phase = phase.Closed; entries = []; queue = [] };
  notices = t.notices ++ notices;
}

-- a message was lost, or the peer is dead. While the pair is closed, or an RST waits to go out, nothing more comes of it
abbrev pub failed_by : Host → Phase → TurnState → TurnState
failed_by peer phase.Closed t = t
failed_by peer phase.Want t = t
failed_by peer (phase.Gone early) t = closed (notice.ContactFailed peer ∷ []) t
failed_by peer phase.Heard t = closed (notice.ContactFailed peer ∷ []) t
failed_by peer phase.Ready t = closed (notice.PairReset peer ∷ []) t

abbrev pub is_gone : Phase → Bool
is_gone (phase.Gone early) = true
is_gone p = false

-- an RST that failed ends the contact in any case; any other message's failure is ignored while an RRP is owed
abbrev pub failed : Host → TurnState → TurnState
failed peer t = if is_gone t.pair.phase || not t.pair.owed then failed_by peer t.pair.phase t else settled_turn t

abbrev pub answer_taken : Host → Answer → ℕ → TurnState → TurnState
answer_taken peer answer.Rfnm link t = rfnm_taken link t
answer_taken peer answer.Incomplete link t = failed peer t
answer_taken peer answer.Dead link t = failed peer t
answer_taken peer answer.NotTaken link t = failed peer t

-- ---- the host

abbrev pub answered_turn : Host → Answer → ℕ → TurnState → TurnState
answered_turn peer kind link t = answer_taken peer kind link (record t { pair = freed link t.pair })

-- an RFNM frees its link and nothing else comes of it: the pair is ready, and no end waits to close
abbrev pub is_quiet : PairState → Bool
is_quiet q = is_ready q.phase && not (list_any (λ e. is_due e.closing) q.entries)
