-- What is said of two sockets in texts, each with the place where it went out, as a word of the law of pairing (NIC 8246, RTS, STR
-- and CLS).
use Rattle.std.specs.Prelude.{ℕ, suc, Bool, true, false, List, [], ◌∷◌}
use Rattle.interface.specs.Host.{Host}
use Rattle.ncp_control.specs.Packing.{spellings}
use Rattle.ncp_control.specs.declared.command.Command.TheVariants as command
use Rattle.host_pairs.specs.Control.{control_text, orders_of}
use Rattle.pairing_law.specs.Marks.{IsOlder, Mark}
use Rattle.pairing_law.specs.Places.{placed}
use Rattle.reset_law.specs.Events.{Event}
use Rattle.reset_law.specs.Example as example
use Rattle.reset_law.specs.Stays as stays
use Rattle.host_keeps_pairing.specs.Words.{marks_in}

-- a text that begins with its place is split again
abbrev pub one_more : ℕ × List Bool → ℕ × List Bool
one_more parts = (suc parts.0, parts.1)

abbrev pub untagged : List Bool → ℕ × List Bool
untagged [] = (0, [])
untagged (false ∷ text) = (0, text)
untagged (true ∷ text) = one_more (untagged text)

-- marks upon a word, whose newest comes first
abbrev pub upon : List Mark → List Mark → List Mark
upon [] word = word
upon (m ∷ marks) word = upon marks (m ∷ word)

abbrev pub marks_of_text : ℕ → ℕ → ℕ × List Bool → List Mark
marks_of_text own foreign parts = marks_in parts.0 own foreign (orders_of parts.1)

-- what texts say upon a word, the first first
abbrev pub spoken_upon : ℕ → ℕ → List (List Bool) → List Mark → List Mark
spoken_upon own foreign [] word = word
spoken_upon own foreign (text ∷ texts) word = spoken_upon own foreign texts (upon (marks_of_text own foreign (untagged text)) word)

-- what host `a` said to `b` of two sockets, which are `a`'s own and the foreign one, in its last stay
abbrev pub spoken : Host → Host → ℕ → ℕ → List Event → List Mark
spoken a b own foreign events = spoken_upon own foreign (stays.said_in_stay a b 0 (placed events)) []

-- what `b` heard of it
abbrev pub listened : Host → Host → ℕ → ℕ → List Event → List Mark
listened a b own foreign events = spoken_upon own foreign (stays.heard_in_stay a b 0 (placed events)) []

-- of any two sockets, what `b` heard is what `a` said first, mark by mark and place by place
abbrev pub IsHeardAsSaid : Host → Host → List Event → Type 0
IsHeardAsSaid a b events = (own foreign : ℕ) → IsOlder (listened a b own foreign events) (spoken a b own foreign events)

-- ---- words for a worked example

-- two hosts through a reset
abbrev pub reset_of_two : List Event
reset_of_two = example.reset

-- a request for sockets 16 and 33, on link 2, and a CLS for them
abbrev pub asking : List Bool
asking = control_text (spellings (command.Rts 16 33 2 ∷ command.Cls 16 33 ∷ []))
