-- A law of src/worked.rt: its fields are the clauses.
use Rattle.std.specs.Prelude.{None, Some, [], ◌++◌, ◌∷◌, ◌≡◌}
use Rattle.bit_messages.specs.Octets.{bits_of}
use Rattle.host_pairs.specs.declared.notice.Notice.TheVariants as notice
use Rattle.interface.specs.declared.crossing.Answer.TheVariants as answer
use Rattle.sockets.specs.Requests.{served}
use Rattle.sockets.specs.Sending.{next_out}
use Rattle.sockets.specs.Worked.{ALL, ECO, ERP, ERR, GVB, INR, INS, RET, answer_heard, control, control_heard, first}
use Rattle.sockets.specs.Worked.{first_in, gone, got, message, opened_connection, second, second_in, sending}
use Rattle.sockets.specs.Worked.{two_senders}
use Rattle.sockets.specs.declared.request.Request.TheVariants as request

-- What becomes of data, and of an allocation.
pub record WorkedData : Type 0 where
  -- what is granted may be used to the last bit. Bits after the data and the octets of zeros are ignored
  pub covered :
      (got (served (first_in opened_connection) (request.Grant 16 1 16)) second 2 (0 ∷ 8 ∷ 0 ∷ 2 ∷ 0 ∷ 65 ∷ 66 ∷ [])).1
      ≡ notice.Arrived 16 (bits_of (65 ∷ 66 ∷ [])) ∷ []
  pub more_than_announced :
      (got (served (first_in opened_connection) (request.Grant 16 1 16)) second 2
      (7 ∷ 8 ∷ 0 ∷ 1 ∷ 9 ∷ 65 ∷ 66 ∷ 67 ∷ [])).1
      ≡ notice.Arrived 16 (bits_of (65 ∷ [])) ∷ []
  -- no bytes are data too, and cost a message
  pub no_bytes :
      (got (served (first_in opened_connection) (request.Grant 16 1 16)) second 2 (0 ∷ 8 ∷ 0 ∷ 0 ∷ 0 ∷ [])).1
      ≡ notice.Arrived 16 [] ∷ []
  pub no_bytes_cost_a_message :
      next_out
      (got (got (served (first_in opened_connection) (request.Grant 16 1 16)) second 2
      (0 ∷ 8 ∷ 0 ∷ 0 ∷ 0 ∷ [])).0 second 2 (0 ∷ 8 ∷ 0 ∷ 0 ∷ 0 ∷ [])).0
      ≡ Some (control first second (ALL 2 1 16 ++ ERR 3 (0 ∷ 8 ∷ 0 ∷ 0 ∷ 0 ∷ []) 5))
  -- past what was granted, in bits or in messages, data are an ERR, and so is another size, and a message that ends too
  -- soon
  pub past_the_bits :
      next_out (got (served (first_in opened_connection) (request.Grant 16 1 16)) second 2
      (0 ∷ 8 ∷ 0 ∷ 3 ∷ 0 ∷ 65 ∷ 66 ∷ 67 ∷ [])).0
      ≡ Some (control first second (ALL 2 1 16 ++ ERR 3 (0 ∷ 8 ∷ 0 ∷ 3 ∷ 0 ∷ 65 ∷ 66 ∷ 67 ∷ []) 2))
  pub untold_past_the_bits :
      (got (served (first_in opened_connection) (request.Grant 16 1 16)) second 2
      (0 ∷ 8 ∷ 0 ∷ 3 ∷ 0 ∷ 65 ∷ 66 ∷ 67 ∷ [])).1
      ≡ []
  pub past_the_messages :
      next_out (got (served (first_in opened_connection) (request.Grant 16 0 16)) second 2
      (0 ∷ 8 ∷ 0 ∷ 1 ∷ 0 ∷ 65 ∷ [])).0
      ≡ Some (control first second (ALL 2 0 16 ++ ERR 3 (0 ∷ 8 ∷ 0 ∷ 1 ∷ 0 ∷ 65 ∷ []) 4))
  pub another_size :
      next_out (got (served (first_in opened_connection) (request.Grant 16 1 16)) second 2
      (0 ∷ 4 ∷ 0 ∷ 1 ∷ 0 ∷ 240 ∷ [])).0
      ≡ Some (control first second (ALL 2 1 16 ++ ERR 3 (0 ∷ 4 ∷ 0 ∷ 1 ∷ 0 ∷ 240 ∷ []) 4))
  pub too_short :
      next_out (got (served (first_in opened_connection) (request.Grant 16 1 16)) second 2
      (0 ∷ 8 ∷ 0 ∷ 2 ∷ 0 ∷ 65 ∷ [])).0
      ≡ Some (control first second (ALL 2 1 16 ++ ERR 3 (0 ∷ 8 ∷ 0 ∷ 2 ∷ 0 ∷ 65 ∷ []) 4))
  -- a RET of more than there is, in messages or in bits, is an ERR and takes nothing
  pub too_much_returned :
      next_out (control_heard (served (first_in opened_connection) (request.Grant 16 1 16)) second
      (RET 2 2 0 ++ RET 2 0 17 ++ RET 2 1 16)).0
      ≡ Some (control first second (ALL 2 1 16 ++ ERR 3 (RET 2 2 0) 2 ++ ERR 3 (RET 2 0 17) 2))
  pub returned :
      (control_heard (served (first_in opened_connection) (request.Grant 16 1 16)) second
      (RET 2 2 0 ++ RET 2 0 17 ++ RET 2 1 16)).1
      ≡ notice.Returned 16 1 16 ∷ []
  -- nothing may be granted, asked back and returned
  pub nothing_granted :
      next_out (served (first_in opened_connection) (request.Grant 16 0 0)) ≡ Some (control first second (ALL 2 0 0))
  pub asked_back :
      next_out (served (first_in opened_connection) (request.AskBack 16 64 200))
      ≡ Some (control first second (GVB 2 64 200))
  pub nothing_given_back :
      next_out (control_heard (second_in opened_connection) first (GVB 2 128 128)).0
      ≡ Some (control second first (RET 2 0 0))
  pub nothing_returned : (control_heard (first_in opened_connection) second (RET 2 0 0)).1 ≡ notice.Returned 16 0 0 ∷ []
  -- what was granted adds up; what was used, given back or returned is taken off
  pub bits_are_used :
      next_out
      (got (got (served (first_in opened_connection) (request.Grant 16 3 16)) second 2
      (0 ∷ 8 ∷ 0 ∷ 1 ∷ 0 ∷ 65 ∷ [])).0 second 2 (0 ∷ 8 ∷ 0 ∷ 2 ∷ 0 ∷ 65 ∷ 66 ∷ [])).0
      ≡ Some (control first second (ALL 2 3 16 ++ ERR 3 (0 ∷ 8 ∷ 0 ∷ 2 ∷ 0 ∷ 65 ∷ 66 ∷ []) 3))
  pub grants_add_up :
      (got (served (served (first_in opened_connection) (request.Grant 16 1 16)) (request.Grant 16 0 8)) second 2
      (0 ∷ 8 ∷ 0 ∷ 3 ∷ 0 ∷ 65 ∷ 66 ∷ 67 ∷ [])).1
      ≡ notice.Arrived 16 (bits_of (65 ∷ 66 ∷ 67 ∷ [])) ∷ []
  pub returned_once :
      next_out (control_heard (served (first_in opened_connection) (request.Grant 16 1 16)) second
      (RET 2 1 8 ++ RET 2 1 8 ++ RET 2 0 8)).0
      ≡ Some (control first second (ALL 2 1 16 ++ ERR 3 (RET 2 1 8) 2))
  pub given_back_once :
      next_out (control_heard (second_in (opened_connection ++ sending)) first (GVB 2 64 200 ++ GVB 2 128 128)).0
      ≡ Some (control second first (RET 2 1 100 ++ RET 2 1 0))
  -- bits go out in the order of the calls, and what is left goes next
  pub in_order :
      next_out
      (control_heard (served (served (second_in opened_connection) (request.Send 33 (bits_of (65 ∷ []))))
      (request.Send 33 (bits_of (66 ∷ [])))) first (ALL 2 1 8 ++ ALL 2 1 8)).0
      ≡ Some (message second first 2 (0 ∷ 8 ∷ 0 ∷ 2 ∷ 0 ∷ 65 ∷ 66 ∷ []))
  pub what_is_left :
      next_out
      (control_heard (answer_heard (gone (second_in (opened_connection ++ sending))) answer.Rfnm first 2).0 first
      (ALL 2 0 4)).0
      ≡ Some (message second first 2 (0 ∷ 8 ∷ 0 ∷ 1 ∷ 0 ∷ 13 ∷ []))
  pub nothing_sent :
      next_out (control_heard (served (second_in opened_connection) (request.Send 33 [])) first (ALL 2 1 8)).0 ≡ None
  -- either end is informed that the other interrupts
  pub interrupted_by_sender : (control_heard (first_in opened_connection) second (INS 2)).1 ≡ notice.Interrupt 16 ∷ []
  pub interrupted_by_receiver : (control_heard (second_in opened_connection) first (INR 2)).1 ≡ notice.Interrupt 33 ∷ []
  -- of the ends that may send, that with the lowest link does, and each waits for its answer. Commands go first if link
  -- 0 is free
  pub lowest_link : next_out two_senders ≡ Some (message second first 4 (0 ∷ 8 ∷ 0 ∷ 1 ∷ 0 ∷ 66 ∷ []))
  pub next_link : next_out (gone two_senders) ≡ Some (message second first 9 (0 ∷ 8 ∷ 0 ∷ 1 ∷ 0 ∷ 65 ∷ []))
  pub no_link_left : next_out (gone (gone two_senders)) ≡ None
  pub waits_for_the_answer :
      next_out (control_heard (gone (second_in (opened_connection ++ sending))) first (ALL 2 0 4)).0 ≡ None
  pub commands_wait :
      next_out (control_heard two_senders first (ECO 65)).0
      ≡ Some (message second first 4 (0 ∷ 8 ∷ 0 ∷ 1 ∷ 0 ∷ 66 ∷ []))
  pub commands_first :
      next_out (control_heard (answer_heard two_senders answer.Rfnm first 0).0 first (ECO 65)).0
      ≡ Some (control second first (ERP 65))
