-- The echo service and the line terminal.
use Rattle.std.specs.Prelude.{ℕ, Bool, false, List, [], ◌∷◌, ◌++◌, Option, Some, None}
use Rattle.bit_messages.specs.Octets.{octets_of}
use Rattle.host_pairs.specs.declared.notice.Notice.{Notice}
use Rattle.sockets.specs.declared.request.Request.{Request}
use Rattle.terminal.specs.Ends.{granted_again, closed_by, sending, arrived_on}
use Rattle.terminal.specs.Lines.{lines_heard}
use Rattle.terminal.specs.Octets.{whole, part}

-- ---- the echo service

-- its two sockets, and whether running out of memory has made it useless: it keeps no bits
pub record EchoState : Type 0 where
  pub receive : ℕ
  pub send : ℕ
  pub spent : Bool

abbrev pub opening_echo : ℕ → ℕ → EchoState
opening_echo receive send = record { receive = receive; send = send; spent = false }

-- what arrived is granted again, and goes back in one piece, whatever the size of the bytes
abbrev pub echo_heard : EchoState → List Bool → List Request
echo_heard s bits = granted_again s.receive bits ∷ sending s.send bits

abbrev pub echo_by : EchoState → Option (List Bool) → List Request → EchoState × List Request
echo_by s (Some bits) closes = (s, echo_heard s bits)
echo_by s None closes = (s, closes)

-- its turn at a notice
unfoldable pub echo_turn : EchoState → Notice → EchoState × List Request
echo_turn s n = echo_by s (arrived_on s.receive n) (closed_by s.receive s.send n)

-- ---- the line terminal

-- beside these the octets that came since the last line's end
pub record TerminalState : Type 0 where
  pub receive : ℕ
  pub send : ℕ
  pub part : List Bool
  pub rest : List ℕ
  pub spent : Bool

abbrev pub opening_terminal : ℕ → ℕ → TerminalState
opening_terminal receive send = record { receive = receive; send = send; part = []; rest = []; spent = false }

-- what a notice leaves of a terminal, what it asks for, and the lines that have ended
pub record TerminalTurn : Type 0 where
  pub state : TerminalState
  pub requests : List Request
  pub lines : List (List ℕ)

abbrev pub turn : TerminalState → List Request → List (List ℕ) → TerminalTurn
turn s requests lines = record { state = s; requests = requests; lines = lines }

-- these bits came: with those that were kept they are octets, and the octets are lines
unfoldable pub terminal_heard : TerminalState → List Bool → TerminalState × List (List ℕ)
terminal_heard s bits =
    let h : List (List ℕ) × List ℕ = lines_heard s.rest (octets_of (whole (s.part ++ bits))) in
    (record s { part = part (s.part ++ bits); rest = h.1 }, h.0)

abbrev pub terminal_by : TerminalState → Option (List Bool) → List Request → TerminalTurn
terminal_by s (Some bits) closes =
    let h : TerminalState × List (List ℕ) = terminal_heard s bits in
    turn h.0 (granted_again s.receive bits ∷ []) h.1
terminal_by s None closes = turn s closes []

-- its turn at a notice
unfoldable pub terminal_turn : TerminalState → Notice → TerminalTurn
terminal_turn s n = terminal_by s (arrived_on s.receive n) (closed_by s.receive s.send n)
