-- A law of src/worked.rt: its fields are the clauses.
use Rattle.std.specs.Prelude.{None, Some, [], ◌++◌, ◌∷◌, ◌≡◌}
use Rattle.host_pairs.specs.declared.notice.Notice.TheVariants as notice
use Rattle.interface.specs.declared.crossing.Answer.TheVariants as answer
use Rattle.sockets.specs.Requests.{served}
use Rattle.sockets.specs.Sending.{next_out}
use Rattle.sockets.specs.Worked.{ALL, CLS, ERR, GVB, INR, INS, RET, RTS, answer_heard, closing, control, control_heard}
use Rattle.sockets.specs.Worked.{delivered, draining, first, first_in, gone, got, message, opened_connection, reset}
use Rattle.sockets.specs.Worked.{second, second_in, sending}
use Rattle.sockets.specs.declared.request.Request.TheVariants as request

-- How a connection ends.
pub record WorkedClosings : Type 0 where
  -- a second CLS does nothing; one without an end is an ERR, whatever its sockets
  pub second_cls :
      next_out (control_heard (second_in opened_connection) first (CLS 16 33 ++ CLS 16 33)).0
      ≡ Some (control second first (CLS 33 16))
  pub cls_after_the_end :
      next_out (control_heard (second_in (opened_connection ++ closing)) first (CLS 16 33)).0
      ≡ Some (control second first (ERR 4 (CLS 16 33) 1))
  pub cls_of_any_sockets :
      next_out (control_heard (second_in reset) first (CLS 33 33)).0 ≡ Some (control second first (ERR 4 (CLS 33 33) 1))
  -- an end that drains says nothing of its closing until what waits is sent and answered. Until then it is open: it
  -- takes what is granted, gives it back and is interrupted
  pub drains : next_out (second_in (opened_connection ++ draining)) ≡ None
  pub drains_into_a_grant :
      next_out (control_heard (second_in (opened_connection ++ draining)) first (ALL 2 1 8)).0
      ≡ Some (message second first 2 (0 ∷ 8 ∷ 0 ∷ 1 ∷ 0 ∷ 65 ∷ []))
  pub drains_until_answered :
      next_out (gone (control_heard (second_in (opened_connection ++ draining)) first (ALL 2 1 8)).0) ≡ None
  pub drained :
      next_out (delivered (control_heard (second_in (opened_connection ++ draining)) first (ALL 2 1 8)).0 first 2)
      ≡ Some (control second first (CLS 33 16))
  pub draining_gives_back :
      next_out (control_heard (second_in (opened_connection ++ draining)) first (ALL 2 1 7 ++ GVB 2 128 128)).0
      ≡ Some (control second first (RET 2 1 7))
  pub draining_is_interrupted :
      (control_heard (second_in (opened_connection ++ draining)) first (INR 2)).1 ≡ notice.Interrupt 33 ∷ []
  -- the partner's CLS drops what waits to be sent, and what is out has to be answered first; then commands about the
  -- link do nothing
  pub called_off :
      (control_heard (gone (second_in (opened_connection ++ sending))) first (CLS 16 33 ++ ALL 2 1 8 ++ GVB 2 128 128 ++
      INR 2)).1
      ≡ []
  pub called_off_waits :
      next_out (control_heard (gone (second_in (opened_connection ++ sending))) first
      (CLS 16 33 ++ ALL 2 1 8 ++ GVB 2 128 128 ++ INR 2)).0
      ≡ None
  pub called_off_closes :
      next_out
      (answer_heard (control_heard (gone (second_in (opened_connection ++ sending))) first
      (CLS 16 33 ++ ALL 2 1 8)).0 answer.Rfnm first 2).0
      ≡ Some (control second first (CLS 33 16))
  -- a receiving end closes at once; then data and commands about its link do nothing
  pub data_when_closing :
      next_out (got (served (first_in opened_connection) (request.Close 16)) second 2 (0 ∷ 8 ∷ 0 ∷ 1 ∷ 0 ∷ 65 ∷ [])).0
      ≡ Some (control first second (CLS 16 33))
  pub commands_when_closing :
      next_out (control_heard (served (first_in opened_connection) (request.Close 16)) second
      (RET 2 0 0 ++ RET 2 1 1 ++ INS 2)).0
      ≡ Some (control first second (CLS 16 33))
  pub untold_when_closing :
      (control_heard (served (first_in opened_connection) (request.Close 16)) second (RET 2 0 0 ++ INS 2)).1 ≡ []
  pub closes_at_once :
      next_out (served (served (gone (second_in (opened_connection ++ sending))) (request.OpenReceive first 18 35))
      (request.Close 18))
      ≡ Some (control second first (RTS 18 35 2 ++ CLS 18 35))
