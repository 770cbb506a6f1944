-- The laws of src/ that are longer than a line: each is a record, and its fields are the clauses.
use Rattle.std.specs.Prelude.{[], false, true, ◌++◌, ◌∷◌, ◌≡◌}
use Rattle.bit_messages.specs.Octets.{bits_of}
use Rattle.host_pairs.specs.declared.notice.Notice.TheVariants as notice
use Rattle.interface.specs.Host.{Host}
use Rattle.sockets.specs.declared.request.Request.TheVariants as request
use Rattle.terminal.specs.Machines.{echo_turn, opening_echo, opening_terminal, terminal_turn, turn}
use Rattle.terminal.specs.Played.{echo_played, terminal_played}

-- What the echo service does, with the sockets 100 and 101.
pub record WorkedEcho : Type 0 where
  -- an octet is granted again, and then goes back
  pub octet :
      echo_turn (opening_echo 100 101) (notice.Arrived 100 (bits_of (65 ∷ [])))
      ≡ (opening_echo 100 101, request.Grant 100 1 8 ∷ request.Send 101 (bits_of (65 ∷ [])) ∷ [])
  -- a message without bits costs a message too; there is nothing to send
  pub no_bits :
      echo_turn (opening_echo 100 101) (notice.Arrived 100 []) ≡ (opening_echo 100 101, request.Grant 100 1 0 ∷ [])
  -- twelve bits go back at once, and so do the four that come next: nothing waits for a whole octet
  pub in_parts :
      echo_played (opening_echo 100 101) (notice.Arrived 100 (bits_of (65 ∷ []) ++ false ∷ true ∷ false ∷ false ∷ []) ∷
      notice.Arrived 100 (false ∷ false ∷ true ∷ false ∷ []) ∷ [])
      ≡ (
        opening_echo 100 101,
        request.Grant 100 1 12 ∷ request.Send 101 (bits_of (65 ∷ []) ++ false ∷ true ∷ false ∷
            false ∷ []) ∷ request.Grant 100 1 4 ∷ request.Send 101 (false ∷ false ∷ true ∷ false ∷ []) ∷ [],
      )
  -- bytes of five bits and of seven: two of five are no octet either, and come back in one piece
  pub fives :
      echo_turn (opening_echo 100 101)
      (notice.Arrived 100 (true ∷ false ∷ true ∷ false ∷ true ∷ false ∷ false ∷ true ∷ true ∷ false ∷ []))
      ≡ (
        opening_echo 100 101,
        request.Grant 100 1 10 ∷ request.Send 101 (true ∷ false ∷ true ∷ false ∷ true ∷ false ∷
            false ∷ true ∷ true ∷ false ∷ []) ∷ [],
      )
  pub seven :
      echo_turn (opening_echo 100 101) (notice.Arrived 100 (true ∷ false ∷ false ∷ true ∷ false ∷ false ∷ true ∷ []))
      ≡ (
        opening_echo 100 101,
        request.Grant 100 1 7 ∷ request.Send 101 (true ∷ false ∷ false ∷ true ∷ false ∷ false ∷
            true ∷ []) ∷ [],
      )
  -- bits on another socket aren't for it, and what it has sent itself is no arrival
  pub others_bits :
      echo_turn (opening_echo 100 101) (notice.Arrived 16 (bits_of (65 ∷ []))) ≡ (opening_echo 100 101, [])
  pub own_bits : echo_turn (opening_echo 100 101) (notice.Sent 101 (bits_of (65 ∷ []))) ≡ (opening_echo 100 101, [])
  -- where one end has ended the other is closed
  pub receive_ended :
      (peer : Host) →
      echo_turn (opening_echo 100 101) (notice.Ended 100 peer 19) ≡ (opening_echo 100 101, request.Close 101 ∷ [])
  pub send_ended :
      (peer : Host) →
      echo_turn (opening_echo 100 101) (notice.Ended 101 peer 18) ≡ (opening_echo 100 101, request.Close 100 ∷ [])
  pub other_ended :
      (peer : Host) → echo_turn (opening_echo 100 101) (notice.Ended 7 peer 16) ≡ (opening_echo 100 101, [])

-- What the line terminal does, with the sockets 18 and 19.
pub record WorkedTerminal : Type 0 where
  -- a line and the beginning of the next: all is granted again, and the line is reported
  pub line :
      terminal_turn (opening_terminal 18 19) (notice.Arrived 18 (bits_of (72 ∷ 73 ∷ 13 ∷ 10 ∷ 74 ∷ [])))
      ≡ turn (record (opening_terminal 18 19) { rest = 74 ∷ [] }) (request.Grant 18 1 40 ∷ []) ((72 ∷ 73 ∷ []) ∷ [])
  -- a line that comes in three messages, cut within an octet and within its end, is reported once
  pub in_parts :
      terminal_played (opening_terminal 18 19) (notice.Arrived 18 (false ∷ true ∷ false ∷ []) ∷
      notice.Arrived 18 (false ∷ true ∷ false ∷ false ∷ false ∷ bits_of (13 ∷ [])) ∷
      notice.Arrived 18 (bits_of (10 ∷ [])) ∷ [])
      ≡ (opening_terminal 18 19, (72 ∷ []) ∷ [])
  -- its other socket and its ends
  pub others_bits :
      terminal_turn (opening_terminal 18 19) (notice.Arrived 19 (bits_of (72 ∷ 13 ∷ 10 ∷ [])))
      ≡ turn (opening_terminal 18 19) [] []
  pub receive_ended :
      (peer : Host) →
      terminal_turn (opening_terminal 18 19) (notice.Ended 18 peer 101)
      ≡ turn (opening_terminal 18 19) (request.Close 19 ∷ []) []
  pub send_ended :
      (peer : Host) →
      terminal_turn (opening_terminal 18 19) (notice.Ended 19 peer 100)
      ≡ turn (opening_terminal 18 19) (request.Close 18 ∷ []) []
