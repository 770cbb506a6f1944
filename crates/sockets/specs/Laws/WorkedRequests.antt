-- A law of src/worked.rt: its fields are the clauses.
use Rattle.std.specs.Prelude.{Some, [], ◌++◌, ◌∷◌, ◌≡◌}
use Rattle.bit_messages.specs.Octets.{bits_of}
use Rattle.host_pairs.specs.declared.notice.Notice.TheVariants as notice
use Rattle.sockets.specs.Requests.{served}
use Rattle.sockets.specs.Sending.{next_out, offered}
use Rattle.sockets.specs.Worked.{ALL, CLS, ERR, GVB, INR, INS, RET, RTS, STR, both_asking, closed_early, closed_unasked}
use Rattle.sockets.specs.Worked.{control, control_heard, first, first_in, got, news, opened_connection}
use Rattle.sockets.specs.Worked.{opening_by_sender, ready, reset, second, second_in, talk}
use Rattle.sockets.specs.declared.request.Request.TheVariants as request

-- What becomes of a request of the peer.
pub record WorkedRequests : Type 0 where
  -- a request for an end that this host has closed is taken, without an ERR and without an opening; a second one is an
  -- ERR
  pub taken_when_closed : next_out (first_in closed_early) ≡ Some (control first second (CLS 16 33))
  pub opens_nothing :
      (talk closed_early).notices
      ≡ (second, notice.Ready first) ∷ (first, notice.Ready second) ∷ (second, notice.Opened 33 first 16 8 7) ∷ []
  pub second_request :
      next_out (control_heard (first_in closed_early) second (STR 33 16 8)).0
      ≡ Some (control first second (CLS 16 33 ++ ERR 3 (STR 33 16 8) 0))
  -- a request that was refused was the first one too, but its link is free
  pub second_after_refusal :
      next_out (control_heard (second_in reset) first (RTS 16 33 5 ++ RTS 16 33 6)).0
      ≡ Some (control second first (CLS 33 16 ++ ERR 3 (RTS 16 33 6) 0))
  pub refused_without_link :
      next_out (control_heard (second_in reset) first (RTS 16 33 5 ++ RTS 18 35 5 ++ INR 5)).0
      ≡ Some (control second first (CLS 33 16 ++ CLS 35 18 ++ ERR 5 (INR 5) 8))
  -- a link in use is looked at before all else: the socket keeps listening. So it is while the end is closing
  pub link_in_use :
      next_out (control_heard (served (second_in opened_connection) (request.Listen 35 8)) first
      (RTS 18 35 2 ++ RTS 18 35 3)).0
      ≡ Some (control second first (ERR 3 (RTS 18 35 2) 0 ++ STR 35 18 8))
  pub link_of_closing :
      next_out (control_heard (second_in opened_connection) first (CLS 16 33 ++ RTS 18 35 2)).0
      ≡ Some (control second first (CLS 33 16 ++ ERR 3 (RTS 18 35 2) 0))
  -- a socket listens for one request, whoever makes it, and answers with its own size; a receiver takes the sender's
  pub listens_once :
      next_out (control_heard (served (second_in reset) (request.Listen 33 9)) first (RTS 16 33 5 ++ RTS 18 33 6)).0
      ≡ Some (control second first (STR 33 16 9 ++ CLS 33 18))
  pub opened_by_sender :
      news reset opening_by_sender
      ≡ (first, notice.Opened 16 second 33 8 7) ∷ (second, notice.Opened 33 first 16 6 10) ∷ []
  pub size_of_sender :
      (got (served (first_in (reset ++ opening_by_sender)) (request.Grant 16 1 9)) second 2
      (0 ∷ 8 ∷ 0 ∷ 1 ∷ 0 ∷ 65 ∷ [])).1
      ≡ notice.Arrived 16 (bits_of (65 ∷ [])) ∷ []
  -- a socket that has stopped listening refuses
  pub no_longer_listening :
      next_out (control_heard (served (served (second_in reset) (request.Listen 33 8)) (request.Close 33)) first
      (RTS 16 33 5)).0
      ≡ Some (control second first (CLS 33 16))
  -- until an end is open, its link is not connected
  pub receiver_not_open :
      next_out (got (served ready (request.OpenReceive second 16 33)) second 2 (0 ∷ 8 ∷ 0 ∷ 0 ∷ 0 ∷ [])).0
      ≡ Some (control first second (RTS 16 33 2 ++ ERR 5 (0 ∷ 8 ∷ 0 ∷ 0 ∷ 0 ∷ []) 5))
  pub sender_not_open :
      next_out (control_heard (served (second_in reset) (request.Listen 33 8)) first (RTS 16 33 5 ++ ALL 5 1 8)).0
      ≡ Some (control second first (STR 33 16 8 ++ ERR 5 (ALL 5 1 8) 2))
  -- what is closed before its request has gone out sends both, and its end is notified of; the refused end at the other
  -- host is not
  pub closed_unasked_says :
      next_out (served (served ready (request.OpenReceive second 16 33)) (request.Close 16))
      ≡ Some (control first second (RTS 16 33 2 ++ CLS 16 33))
  pub closed_unasked_tells : news reset closed_unasked ≡ (first, notice.Ended 16 second 33) ∷ []
  -- ends that ask for each other need nobody who listens; an end opens when both requests have crossed, its own too
  pub both_ask :
      news reset both_asking ≡ (first, notice.Opened 16 second 33 6 8) ∷ (second, notice.Opened 33 first 16 7 10) ∷ []
  pub asked_for : (control_heard (served ready (request.OpenReceive second 16 33)) second (STR 33 16 8)).1 ≡ []
  pub asks_too :
      (offered (control_heard (served ready (request.OpenReceive second 16 33)) second (STR 33 16 8)).0 21).1
      ≡ notice.Opened 16 second 33 21 20 ∷ []
  -- commands and data about the link of the other end's kind find no connection
  pub commands_of_a_sender :
      next_out (control_heard (first_in opened_connection) second (ALL 2 1 1 ++ GVB 2 1 1 ++ INR 2)).0
      ≡ Some (control first second (ERR 5 (ALL 2 1 1) 2 ++ ERR 5 (GVB 2 1 1) 6 ++ ERR 5 (INR 2) 8))
  pub commands_of_a_receiver :
      next_out (control_heard (second_in opened_connection) first (RET 2 0 0 ++ INS 2)).0
      ≡ Some (control second first (ERR 5 (RET 2 0 0) 2 ++ ERR 5 (INS 2) 8))
  pub data_to_a_sender :
      next_out (got (second_in opened_connection) first 2 (0 ∷ 8 ∷ 0 ∷ 0 ∷ 0 ∷ [])).0
      ≡ Some (control second first (ERR 5 (0 ∷ 8 ∷ 0 ∷ 0 ∷ 0 ∷ []) 5))
