-- A law of src/worked.rt: its fields are the clauses.
use Rattle.std.specs.Prelude.{None, Some, [], ℕ, ◌++◌, ◌∷◌, ◌≡◌}
use Rattle.host_pairs.specs.declared.notice.Notice.TheVariants as notice
use Rattle.interface.specs.declared.address.Flow.{Flow}
use Rattle.interface.specs.declared.crossing.Answer.TheVariants as answer
use Rattle.interface.specs.declared.crossing.Inbound.TheVariants as inbound
use Rattle.sockets.specs.Accepting.{accepted}
use Rattle.sockets.specs.Pairs.{NcpState}
use Rattle.sockets.specs.Requests.{refusal, served, served_notices}
use Rattle.sockets.specs.Sending.{next_out}
use Rattle.sockets.specs.Worked.{CLS, ECO, ERP, RRP, RST, RTS, STR, answer_heard, closed, control, control_heard}
use Rattle.sockets.specs.Worked.{delivered, first, first_in, gone, neighbour, on_link, opened_connection, own_opening}
use Rattle.sockets.specs.Worked.{own_reset, ready, reset, rst_out, rst_taken, second, second_in, sending, talk, third}
use Rattle.sockets.specs.Worked.{want_again}
use Rattle.sockets.specs.declared.fault.NcpFault.TheVariants as fault
use Rattle.sockets.specs.declared.request.Request.TheVariants as request

-- What a reset does, and what ends it.
pub record WorkedResets : Type 0 where
  -- a host may be its own peer: one contact, one reset, and both ends of a connection
  pub own_peer :
      (talk (own_reset ++ own_opening)).notices
      ≡ (first, notice.Ready first) ∷ (first, notice.Opened 33 first 16 9 7) ∷ (first, notice.Opened 16 first 33 6 10) ∷
      []
  -- an RST amid other commands drops what waited before it; what follows it is heard, since the pair is ready then. RRP
  -- goes before all that
  pub reset_amid_commands :
      (control_heard (second_in reset) first (ECO 65 ++ RST ++ ECO 66)).1 ≡ notice.PairReset first ∷ []
  pub reply_alone :
      next_out (control_heard (second_in reset) first (ECO 65 ++ RST ++ ECO 66)).0 ≡ Some (control second first RRP)
  pub heard_after_reset :
      next_out (delivered (control_heard (second_in reset) first (ECO 65 ++ RST ++ ECO 66)).0 first 0)
      ≡ Some (control second first (ERP 66))
  pub opened_amid_commands :
      next_out (delivered (control_heard closed second (ECO 65 ++ RST ++ ECO 66)).0 second 0)
      ≡ Some (control first second (ERP 66))
  -- a contact fails if its RST does, also while an RRP is owed, which then goes out
  pub failed_while_owing :
      (answer_heard (control_heard rst_out second RST).0 answer.Incomplete second 0).1
      ≡ notice.ContactFailed second ∷ []
  pub failed_by_dead :
      (answer_heard (control_heard rst_out second RST).0 answer.Dead second 0).1 ≡ notice.ContactFailed second ∷ []
  pub failed_by_not_taken :
      (answer_heard (control_heard rst_out second RST).0 answer.NotTaken second 0).1 ≡ notice.ContactFailed second ∷ []
  pub replies_when_failed :
      next_out (answer_heard (control_heard rst_out second RST).0 answer.Incomplete second 0).0
      ≡ Some (control first second RRP)
  pub closed_when_failed :
      (control_heard (answer_heard (control_heard rst_out second RST).0 answer.Incomplete second 0).0 second RST).1
      ≡ notice.Ready second ∷ []
  -- once the RST was taken another failure ends the contact, but not while an RRP is owed
  pub reply_failed :
      (answer_heard (gone (control_heard rst_taken second RST).0) answer.Incomplete second 0).1
      ≡ notice.ContactFailed second ∷ []
  pub reply_failed_while_owing :
      (answer_heard
      (control_heard (gone (control_heard rst_taken second RST).0) second RST).0 answer.Incomplete second 0).1
      ≡ []
  pub still_awaited :
      (control_heard
      (answer_heard
      (control_heard
      (gone (control_heard rst_taken second RST).0) second RST).0 answer.Incomplete second 0).0 second RRP).1
      ≡ notice.Ready second ∷ []
  -- so it is with a pair that is ready
  pub lost_when_ready :
      (answer_heard (gone (served ready (request.Echo second 65))) answer.Dead second 0).1
      ≡ notice.PairReset second ∷ []
  pub closed_when_lost :
      refusal (answer_heard (gone (served ready (request.Echo second 65))) answer.Dead second 0).0
      (request.Echo second 65)
      ≡ Some fault.NotContacted
  pub as_at_the_opening :
      answer_heard (served (gone (served ready (request.Echo second 65))) (request.Echo second 66)) answer.Dead second 0
      ≡ (closed, notice.PairReset second ∷ [])
  pub lost_drops_connections :
      refusal (answer_heard (gone (served (first_in opened_connection) (request.Interrupt 16))) answer.Dead second 0).0
      (request.Grant 16 0 0)
      ≡ Some fault.NoSuchSocket
  pub lost_by_not_taken :
      answer_heard
      (served (gone (served ready (request.Echo second 65))) (request.Echo second 66)) answer.NotTaken second 0
      ≡ (closed, notice.PairReset second ∷ [])
  pub reset_drops_connections :
      refusal (control_heard (first_in opened_connection) second RST).0 (request.Grant 16 0 0) ≡ Some fault.NoSuchSocket
  pub reset_of_another_peer :
      refusal (control_heard (first_in opened_connection) third RST).0 (request.Grant 16 0 0) ≡ None
  pub reply_lost :
      answer_heard (gone (control_heard ready second RST).0) answer.Dead second 0
      ≡ (closed, notice.PairReset second ∷ [])
  pub lost_while_owing :
      (answer_heard (control_heard (gone (served ready (request.Echo second 65))) second RST).0 answer.Dead second 0).1
      ≡ []
  pub not_taken_while_owing :
      (answer_heard
      (control_heard (gone (served ready (request.Echo second 65))) second RST).0 answer.NotTaken second 0).1
      ≡ []
  pub ready_while_owing :
      refusal
      (answer_heard (control_heard (gone (served ready (request.Echo second 65))) second RST).0 answer.Dead second 0).0
      (request.Echo second 65)
      ≡ None
  -- NotTaken does what Incomplete does, whatever the host has out
  pub as_incomplete :
      (s : NcpState) (f : Flow) (stamp : ℕ) →
      accepted s (inbound.Answer answer.NotTaken f) stamp ≡ accepted s (inbound.Answer answer.Incomplete f) stamp
  -- a link is free by any answer, also while an RRP is owed, and an end that waited for that closes then
  pub closes_after_failure :
      next_out
      (delivered
      (control_heard
      (answer_heard
      (served (control_heard (served (gone (second_in (opened_connection ++ sending))) (request.Listen 35 8)) first
      (RST ++ RTS 16 35 2)).0 (request.Close 35)) answer.Incomplete first 2).0 first (ECO 65)).0 first 0)
      ≡ Some (control second first (STR 35 16 8 ++ CLS 35 16 ++ ERP 65))
  -- an RRP that comes before the RFNM of the RST may belong to an older RST: another RST goes out. An RST of the peer
  -- changes nothing of that
  pub early_reply : (answer_heard (control_heard rst_out second RRP).0 answer.Rfnm second 0).1 ≡ []
  pub another_rst :
      next_out (answer_heard (control_heard rst_out second (RRP ++ RST)).0 answer.Rfnm second 0).0
      ≡ Some (control first second RST)
  -- what was remembered belongs to the RST that was out, and not to the next one
  pub early_reply_forgotten :
      next_out
      (delivered
      (answer_heard
      (served (control_heard rst_out second RRP).0 (request.Contact second)) answer.Rfnm second 0).0 second 0)
      ≡ None
  pub reply_to_the_next :
      (control_heard
      (delivered (answer_heard (control_heard want_again second RRP).0 answer.Rfnm second 0).0 second 0) second RRP).1
      ≡ notice.Ready second ∷ []
  -- a second contact waits until the first one's RST is answered, however that is
  pub rst_waits : next_out want_again ≡ None
  pub rst_after_failure :
      next_out (answer_heard want_again answer.Incomplete second 0).0 ≡ Some (control first second RST)
  pub no_failure : (answer_heard want_again answer.Incomplete second 0).1 ≡ []
  pub rst_after_rfnm : next_out (answer_heard want_again answer.Rfnm second 0).0 ≡ Some (control first second RST)
  -- RST and RRP wait for the answers of all links, and nothing else goes while they do. RST goes before RRP
  pub rst_is_silent : next_out (served (gone (second_in (opened_connection ++ sending))) (request.Contact first)) ≡ None
  pub rst_when_silent :
      next_out
      (answer_heard
      (served (gone (second_in (opened_connection ++ sending))) (request.Contact first)) answer.Rfnm first 2).0
      ≡ Some (control second first RST)
  pub rst_waits_for_each :
      next_out
      (answer_heard (served (gone (control_heard (gone (second_in (opened_connection ++ sending))) first (ECO 65)).0)
      (request.Contact first)) answer.Rfnm first 0).0
      ≡ None
  pub rrp_is_silent :
      next_out (control_heard (gone (second_in (opened_connection ++ sending))) first (RST ++ ECO 65)).0 ≡ None
  pub rrp_when_silent :
      next_out
      (answer_heard (control_heard (gone (second_in (opened_connection ++ sending))) first
      (RST ++ ECO 65)).0 answer.Rfnm first 2).0
      ≡ Some (control second first RRP)
  pub rst_first :
      next_out (served (control_heard ready second RST).0 (request.Contact second)) ≡ Some (control first second RST)
  pub rrp_after_rst :
      next_out (delivered (served (control_heard ready second RST).0 (request.Contact second)) second 0)
      ≡ Some (control first second RRP)
  -- one RRP answers every RST before it, and what waited to be said is gone
  pub one_reply :
      next_out (delivered (control_heard (served ready (request.Echo second 65)) second (RST ++ RST)).0 second 0) ≡ None
  -- a contact with a ready pair drops its connections, which the user is notified
  pub contact_tells :
      served_notices (first_in opened_connection) (request.Contact second) ≡ notice.PairReset second ∷ []
  pub contact_drops :
      refusal (served (first_in opened_connection) (request.Contact second)) (request.Grant 16 0 0)
      ≡ Some fault.NoSuchSocket
  pub contact_drops_commands :
      next_out
      (control_heard
      (delivered (served (served ready (request.Echo second 65)) (request.Contact second)) second 0) second RRP).0
      ≡ None
  -- peers come in order of their address octets: host 1 at IMP 1 has 65
  pub peers_in_order :
      next_out (served (served closed (request.Contact neighbour)) (request.Contact second))
      ≡ Some (control first second RST)
  pub next_peer :
      next_out (gone (served (served closed (request.Contact neighbour)) (request.Contact second)))
      ≡ Some (control first neighbour RST)
  -- what isn't for this host, and an answer that it doesn't wait for, does nothing
  pub not_for_this_host : next_out (accepted ready (inbound.Message (control second third (ECO 65))) 20).0 ≡ None
  pub nothing_outstanding : refusal (answer_heard ready answer.Dead second 5).0 (request.Echo second 65) ≡ None
  pub answer_of_another :
      refusal
      (accepted (gone (served ready (request.Echo second 65)))
      (inbound.Answer answer.Dead (on_link third second 0)) 20).0 (request.Echo second 65)
      ≡ None
