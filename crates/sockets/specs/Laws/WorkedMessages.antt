-- A law of src/law.rt: its fields are the clauses.
use Rattle.std.specs.Prelude.{None, Some, [], replicate, ◌++◌, ◌∷◌, ◌≡◌}
use Rattle.sockets.specs.Dialogue.{state_of}
use Rattle.sockets.specs.Requests.{served}
use Rattle.sockets.specs.Sending.{next_out, offered}
use Rattle.sockets.specs.Worked.{control, first, giving_back, message, opening_connection, reset, second, second_after}
use Rattle.sockets.specs.Worked.{sending, talk, twelve}
use Rattle.sockets.specs.declared.request.Request.TheVariants as request

-- What a host says next, octet by octet.
pub record WorkedMessages : Type 0 where
  -- an illegal code, a command that ends too soon, and a message that is no control message are answered by ERR
  pub illegal_code :
      next_out (second_after (control first second (14 ∷ 7 ∷ [])))
      ≡ Some (control second first (11 ∷ 1 ∷ 14 ∷ 7 ∷ replicate 8 0))
  pub short :
      next_out (second_after (control first second (1 ∷ 0 ∷ 0 ∷ 0 ∷ [])))
      ≡ Some (control second first (11 ∷ 2 ∷ 1 ∷ replicate 9 0))
  pub malformed :
      next_out (second_after (message first second 0 (0 ∷ 7 ∷ 0 ∷ 1 ∷ 0 ∷ 254 ∷ [])))
      ≡ Some (control second first (11 ∷ 3 ∷ 0 ∷ 7 ∷ 0 ∷ 1 ∷ 0 ∷ 254 ∷ replicate 4 0))
  -- a CLS of an unknown connection, and data on a link that no connection has
  pub no_socket :
      next_out (second_after (control first second (3 ∷ 0 ∷ 0 ∷ 0 ∷ 16 ∷ 0 ∷ 0 ∷ 0 ∷ 33 ∷ [])))
      ≡ Some (control second first (11 ∷ 4 ∷ 3 ∷ 0 ∷ 0 ∷ 0 ∷ 16 ∷ 0 ∷ 0 ∷ 0 ∷ 33 ∷ 0 ∷ []))
  pub not_connected :
      next_out (second_after (message first second 7 (0 ∷ 8 ∷ 0 ∷ 1 ∷ 0 ∷ 65 ∷ [])))
      ≡ Some (control second first (11 ∷ 5 ∷ 0 ∷ 8 ∷ 0 ∷ 1 ∷ 0 ∷ 65 ∷ replicate 4 0))
  -- a request that nobody waits for is refused by a CLS
  pub refused :
      next_out (second_after (control first second (1 ∷ 0 ∷ 0 ∷ 0 ∷ 16 ∷ 0 ∷ 0 ∷ 0 ∷ 33 ∷ 5 ∷ [])))
      ≡ Some (control second first (3 ∷ 0 ∷ 0 ∷ 0 ∷ 33 ∷ 0 ∷ 0 ∷ 0 ∷ 16 ∷ []))
  -- an ECO is asked for, and answered by an ERP
  pub echo :
      next_out (served (state_of (talk reset) first) (request.Echo second 65))
      ≡ Some (control first second (9 ∷ 65 ∷ []))
  pub echoed : next_out (second_after (control first second (9 ∷ 65 ∷ []))) ≡ Some (control second first (10 ∷ 65 ∷ []))
  -- each end interrupts with a command of its own
  pub interrupt_by_receiver :
      next_out (served (state_of (talk (reset ++ opening_connection)) first) (request.Interrupt 16))
      ≡ Some (control first second (7 ∷ 2 ∷ []))
  pub interrupt_by_sender :
      next_out (served (state_of (talk (reset ++ opening_connection)) second) (request.Interrupt 33))
      ≡ Some (control second first (8 ∷ 2 ∷ []))
  -- twelve whole octets go out within 100 bits, and nothing more after them
  pub «data» :
      next_out (state_of (talk (reset ++ opening_connection ++ sending)) second)
      ≡ Some (message second first 2 (0 ∷ 8 ∷ 0 ∷ 12 ∷ 0 ∷ twelve))
  pub no_more : next_out (offered (state_of (talk (reset ++ opening_connection ++ sending)) second) 15).0 ≡ None
  -- half of three messages and the whole of 100 bits are given back: a fraction above 128 counts as the whole
  pub given_back :
      next_out (state_of (talk (reset ++ opening_connection ++ giving_back)) second)
      ≡ Some (control second first (6 ∷ 2 ∷ 0 ∷ 1 ∷ 0 ∷ 0 ∷ 0 ∷ 100 ∷ []))
