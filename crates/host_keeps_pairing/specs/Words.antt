-- What a host's program says to a peer of one pair of sockets: its requests and its CLS (NIC 8246, RTS, STR and CLS).
use Rattle.std.specs.Prelude.{◌≡◌, ℕ, true, ◌==◌, ◌&&◌, if◌then◌else◌, List, [], ◌∷◌, ◌++◌}
use Rattle.ncp_control.specs.declared.command.Command.{Command}
use Rattle.ncp_control.specs.declared.command.Command.TheVariants as command
use Rattle.host_pairs.specs.Control.{Order, Legal, Wrong}
use Rattle.pairing_law.specs.Marks.{Mark, Ask, Close}
use Rattle.pairing_law.specs.Ends.{End, MayGo, gone, fits, mark_taken}
use Rattle.pairing_law.specs.Sides.{above, IsLater}

-- ---- in commands

-- what a command says of these two sockets, which are its sender's own and the foreign one: an RTS goes from the receiving socket,
-- an STR from the sending one. A request is given by the place where its message goes out
abbrev pub mark_of : ℕ → ℕ → ℕ → Command → List Mark
mark_of place own foreign (command.Rts receive send link) = if receive == own && send == foreign then Ask place ∷ [] else []
mark_of place own foreign (command.Str send receive size) = if send == own && receive == foreign then Ask place ∷ [] else []
mark_of place own foreign (command.Cls mine yours) = if mine == own && yours == foreign then Close ∷ [] else []
mark_of place own foreign c = []

-- what commands say of them, the first first
abbrev pub marks : ℕ → ℕ → ℕ → List Command → List Mark
marks place own foreign [] = []
marks place own foreign (c ∷ commands) = mark_of place own foreign c ++ marks place own foreign commands

-- what is read in a text is a command, or an error that says nothing
abbrev pub mark_in : ℕ → ℕ → ℕ → Order → List Mark
mark_in place own foreign (Legal c) = mark_of place own foreign c
mark_in place own foreign (Wrong code octets) = []

abbrev pub marks_in : ℕ → ℕ → ℕ → List Order → List Mark
marks_in place own foreign [] = []
marks_in place own foreign (o ∷ orders) = mark_in place own foreign o ++ marks_in place own foreign orders

-- ---- one mark after another

-- an end after all that its host said of it
abbrev pub all_gone : List Mark → End → End
all_gone [] x = x
all_gone (m ∷ marks) x = all_gone marks (gone m x)

-- and after all that it heard
abbrev pub all_taken : List Mark → End → End
all_taken [] x = x
all_taken (m ∷ marks) x = all_taken marks (mark_taken m x)

-- each of them may be said, by the law of pairing, where all requests before went out below a number
abbrev pub MayAllGo : List Mark → End → ℕ → Type 0
MayAllGo [] x next = Unit {0}
MayAllGo (m ∷ marks) x next = MayGo m x × IsLater m next × MayAllGo marks (gone m x) (above m next)

-- each of them is in order
abbrev pub AllFit : List Mark → End → Type 0
AllFit [] x = Unit {0}
AllFit (m ∷ marks) x = (fits m x ≡ true) × AllFit marks (mark_taken m x)
