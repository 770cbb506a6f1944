-- The two programs over a list of notices: nothing is lost.
use Rattle.std.proofs.Common.{◌≡◌, ℕ, Bool, List, [], ◌∷◌, ◌++◌, Option, Some, None, refl, ap, sym, ◌∙◌, ◌==◌, true, false}
use Rattle.std.proofs.lemmas.List.{append_assoc, append-nil}
use Rattle.std.proofs.lemmas.Grind.{flat_map-append}
use Rattle.std.specs.List.{flat_map}
use Rattle.bit_messages.specs.Octets.{bits_of, octets_of}
use Rattle.bit_messages.proofs.lemmas.{bits_of-append}
use Rattle.host_pairs.specs.declared.notice.Notice.{Notice}
use Rattle.host_pairs.specs.declared.notice.Notice.TheVariants as notice
use Rattle.sockets.specs.declared.request.Request.{Request}
use Rattle.terminal.specs.Ends.{arrived_on, closed_by, closing, sending}
use Rattle.terminal.specs.Lines.{Heard, lines_heard, spelled}
use Rattle.terminal.specs.Machines.{EchoState, echo_by, echo_turn, TerminalState, TerminalTurn, terminal_by, terminal_heard, terminal_turn}
use Rattle.terminal.specs.Octets.{whole, part}
use Rattle.terminal.specs.Played.{arrivals, bits_in, echo_played, kept, line_bits, bits_sent, sent_by, terminal_played}
use Rattle.terminal.proofs.LineLemmas.{nothing_lost}
use Rattle.terminal.proofs.OctetLemmas.{whole_and_part, whole_octets}

-- ---- the echo service

sent_sending : (send : ℕ) (bits : List Bool) → bits_sent (sending send bits) ≡ bits
sent_sending send [] = refl
sent_sending send (b ∷ bs) = append-nil (b ∷ bs)

closing_sends : (receive send ended : ℕ) (a b : Bool) → ended == receive ≡ a → ended == send ≡ b → bits_sent (closing receive send ended) ≡ []
closing_sends receive send ended true b e f = rw e refl
closing_sends receive send ended false true e f = rw (e, f) refl
closing_sends receive send ended false false e f = rw (e, f) refl

closed_sends : (receive send : ℕ) (n : Notice) → bits_sent (closed_by receive send n) ≡ []
closed_sends receive send (notice.Ended s p f) = closing_sends receive send s (s == receive) (s == send) refl refl
closed_sends receive send n = refl

pub record EchoKeeps (s : EchoState) (news : List Bool) (t : EchoState × List Request) : Type 0 where
  pub bits : bits_sent t.1 ≡ news
  pub receive : t.0.receive ≡ s.receive

echo_keeps_by : (s : EchoState) (o : Option (List Bool)) (closes : List Request) → bits_sent closes ≡ [] → EchoKeeps s (bits_in o) (echo_by s o closes)
echo_keeps_by s (Some bits) closes none = record { bits = sent_sending s.send bits; receive = refl }
echo_keeps_by s None closes none = record { bits = none; receive = refl }

echo_keeps : (s : EchoState) (n : Notice) → EchoKeeps s (bits_in (arrived_on s.receive n)) (echo_turn s n)
unfolding echo_turn
echo_keeps s n = echo_keeps_by s (arrived_on s.receive n) (closed_by s.receive s.send n) (closed_sends s.receive s.send n)

pub echoes : (s : EchoState) (ns : List Notice) → bits_sent (echo_played s ns).1 ≡ arrivals s.receive ns
echoes s [] = refl
echoes s (n ∷ ns) =
    let k : EchoKeeps s (bits_in (arrived_on s.receive n)) (echo_turn s n) = echo_keeps s n in
    let t : EchoState × List Request = echo_turn s n in
    let rest : bits_sent (echo_played t.0 ns).1 ≡ arrivals s.receive ns = echoes t.0 ns ∙ ap (λ (r : ℕ). arrivals r ns) k.receive in
    flat_map-append sent_by t.1 (echo_played t.0 ns).1
    ∙ ap (λ (b : List Bool). b ++ bits_sent (echo_played t.0 ns).1) k.bits
    ∙ ap (λ (b : List Bool). bits_in (arrived_on s.receive n) ++ b) rest

-- ---- the line terminal

terminal_keeps : (s : TerminalState) (bits : List Bool) → kept s ++ bits ≡ line_bits (terminal_heard s bits).1 ++ kept (terminal_heard s bits).0
unfolding terminal_heard
terminal_keeps s bits =
    let all : List Bool = s.part ++ bits in
    let octets : List ℕ = octets_of (whole all) in
    let h : Heard = lines_heard s.rest octets in
    append_assoc (bits_of s.rest) s.part bits
    ∙ ap (λ (b : List Bool). bits_of s.rest ++ b) (sym (whole_and_part all) ∙ ap (λ (b : List Bool). b ++ part all) (sym (whole_octets all)))
    ∙ sym (append_assoc (bits_of s.rest) (bits_of octets) (part all))
    ∙ ap (λ (b : List Bool). b ++ part all) (sym (bits_of-append s.rest octets) ∙ ap bits_of (sym (nothing_lost s.rest octets)) ∙ bits_of-append (flat_map spelled h.0) h.1)
    ∙ append_assoc (line_bits h.0) (bits_of h.1) (part all)

pub record TerminalKeeps (s : TerminalState) (news : List Bool) (t : TerminalTurn) : Type 0 where
  pub bits : kept s ++ news ≡ line_bits t.lines ++ kept t.state
  pub receive : t.state.receive ≡ s.receive

terminal_keeps_by : (s : TerminalState) (o : Option (List Bool)) (closes : List Request) → TerminalKeeps s (bits_in o) (terminal_by s o closes)
unfolding terminal_heard
terminal_keeps_by s (Some bits) closes = record { bits = terminal_keeps s bits; receive = refl }
terminal_keeps_by s None closes = record { bits = append-nil (kept s); receive = refl }

terminal_turn_keeps : (s : TerminalState) (n : Notice) → TerminalKeeps s (bits_in (arrived_on s.receive n)) (terminal_turn s n)
unfolding terminal_turn
terminal_turn_keeps s n = terminal_keeps_by s (arrived_on s.receive n) (closed_by s.receive s.send n)

pub tells : (s : TerminalState) (ns : List Notice) → kept s ++ arrivals s.receive ns ≡ line_bits (terminal_played s ns).1 ++ kept (terminal_played s ns).0
tells s [] = append-nil (kept s)
tells s (n ∷ ns) =
    let k : TerminalKeeps s (bits_in (arrived_on s.receive n)) (terminal_turn s n) = terminal_turn_keeps s n in
    let t : TerminalTurn = terminal_turn s n in
    let last : TerminalState × List (List ℕ) = terminal_played t.state ns in
    let rest : kept t.state ++ arrivals s.receive ns ≡ line_bits last.1 ++ kept last.0 =
    ap (λ (r : ℕ). kept t.state ++ arrivals r ns) (sym k.receive) ∙ tells t.state ns in
    sym (append_assoc (kept s) (bits_in (arrived_on s.receive n)) (arrivals s.receive ns))
    ∙ ap (λ (b : List Bool). b ++ arrivals s.receive ns) k.bits
    ∙ append_assoc (line_bits t.lines) (kept t.state) (arrivals s.receive ns)
    ∙ ap (λ (b : List Bool). line_bits t.lines ++ b) rest
    ∙ sym (append_assoc (line_bits t.lines) (line_bits last.1) (kept last.0))
    ∙ ap (λ (b : List Bool). b ++ kept last.0) (sym (bits_of-append (flat_map spelled t.lines) (flat_map spelled last.1)) ∙ ap bits_of (sym (flat_map-append spelled t.lines last.1)))
