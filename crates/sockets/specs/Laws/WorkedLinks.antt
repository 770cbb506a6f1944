-- A law of src/worked.rt: its fields are the clauses.
use Rattle.std.specs.Prelude.{None, Some, [], ◌++◌, ◌∷◌, ◌≡◌}
use Rattle.host_pairs.specs.Parcels.{Bytes, next_bytes}
use Rattle.sockets.specs.Requests.{refusal, served}
use Rattle.sockets.specs.Sending.{next_out}
use Rattle.sockets.specs.Worked.{CLS, RST, RTS, STR, control, control_heard, delivered, first, first_in, many_opened}
use Rattle.sockets.specs.Worked.{one_refused, open_sender, opened_connection, refused_closed, reset, second, second_in}
use Rattle.sockets.specs.Worked.{third}
use Rattle.sockets.specs.declared.fault.NcpFault.TheVariants as fault
use Rattle.sockets.specs.declared.request.Request.TheVariants as request

-- Which link a receiving end has.
pub record WorkedLinks : Type 0 where
  -- the lowest link is given that no receiving end has; one that is closing still has its link
  pub lowest_free_link :
      next_out (served (first_in (reset ++ refused_closed)) (request.OpenReceive second 20 37))
      ≡ Some (control first second (RTS 20 37 2))
  pub link_of_closing :
      next_out (served (first_in (reset ++ one_refused)) (request.OpenReceive second 20 37))
      ≡ Some (control first second (CLS 16 33 ++ RTS 20 37 4))
  -- a sending end's link isn't the receiver's to give, and another peer has thirty links of its own
  pub links_of_senders :
      next_out (served (second_in opened_connection) (request.OpenReceive first 18 35))
      ≡ Some (control second first (RTS 18 35 2))
  pub links_of_another_peer :
      refusal (control_heard (first_in (reset ++ many_opened)) third RST).0 (request.OpenReceive third 76 33) ≡ None
  -- an open sending end sends on its link; one without a link, which no call leaves, would send nothing
  pub linked : next_bytes [] (open_sender (Some 2) ∷ []) ≡ Some (Bytes (open_sender (Some 2)) 8 1)
  pub not_linked : next_bytes [] (open_sender None ∷ []) ≡ None
  -- without a free link a request is refused, and the socket keeps listening
  pub listens_without_link :
      refusal (control_heard (served (first_in (reset ++ many_opened)) (request.Listen 76 8)) second (STR 33 76 8)).0
      (request.Grant 76 0 0)
      ≡ Some fault.NoSuchSocket
  pub listens_on :
      refusal (control_heard (served (first_in (reset ++ many_opened)) (request.Listen 76 8)) second (STR 33 76 8)).0
      (request.Listen 76 8)
      ≡ Some fault.InUse
  -- twelve requests go into each message, so the third one has six of them and the CLS
  pub refused_without_free_link :
      next_out
      (delivered
      (delivered (control_heard (served (first_in (reset ++ many_opened)) (request.Listen 76 8)) second
      (STR 33 76 8)).0 second 0) second 0)
      ≡ Some (control first second (RTS 64 33 26 ++ RTS 66 33 27 ++ RTS 68 33 28 ++ RTS 70 33 29 ++ RTS 72 33 30 ++
      RTS 74 33 31 ++ CLS 76 33))
