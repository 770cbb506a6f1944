-- The two programs over a list of notices.
use Rattle.std.specs.Prelude.{ℕ, Bool, List, [], ◌∷◌, ◌++◌, Option, Some, None}
use Rattle.std.specs.List.{flat_map}
use Rattle.bit_messages.specs.Octets.{bits_of}
use Rattle.host_pairs.specs.declared.notice.Notice.{Notice}
use Rattle.sockets.specs.declared.request.Request.{Request}
use Rattle.sockets.specs.declared.request.Request.TheVariants as request
use Rattle.terminal.specs.Ends.{arrived_on}
use Rattle.terminal.specs.Lines.{spelled}
use Rattle.terminal.specs.Machines.{EchoState, echo_turn, TerminalState, TerminalTurn, terminal_turn}

-- ---- what comes in, and what is sent

abbrev pub bits_in : Option (List Bool) → List Bool
bits_in None = []
bits_in (Some bits) = bits

-- all bits that arrived on a socket, in order
abbrev pub arrivals : ℕ → List Notice → List Bool
arrivals receive notices = flat_map (λ n. bits_in (arrived_on receive n)) notices

-- the bits that one request, and that these requests ask to be sent
abbrev pub sent_by : Request → List Bool
sent_by (request.Send socket bits) = bits
sent_by r = []

abbrev pub bits_sent : List Request → List Bool
bits_sent requests = flat_map sent_by requests

-- ---- the echo service

-- what these notices leave of it, and all that it asks for
abbrev pub echo_played : EchoState → List Notice → EchoState × List Request
echo_played s [] = (s, [])
echo_played s (n ∷ ns) =
    let t : EchoState × List Request = echo_turn s n in
    let rest : EchoState × List Request = echo_played t.0 ns in
    (rest.0, t.1 ++ rest.1)

-- ---- the line terminal

-- what these notices leave of it, and all lines that it reports
abbrev pub terminal_played : TerminalState → List Notice → TerminalState × List (List ℕ)
terminal_played s [] = (s, [])
terminal_played s (n ∷ ns) =
    let t : TerminalTurn = terminal_turn s n in
    let rest : TerminalState × List (List ℕ) = terminal_played t.state ns in
    (rest.0, t.lines ++ rest.1)

-- the bits that it keeps: of octets that are no whole line, and of no whole octet
abbrev pub kept : TerminalState → List Bool
kept s = bits_of s.rest ++ s.part

-- the bits of lines, each with its end
abbrev pub line_bits : List (List ℕ) → List Bool
line_bits lines = bits_of (flat_map spelled lines)
