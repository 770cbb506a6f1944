-- What a host heard of two sockets by its calls, as marks of the law of pairing: the newest first.
use Rattle.world_keeps_streams.proofs.Common.{ℕ, List, [], ◌∷◌, ◌++◌, mark_of, Mark}
use Rattle.host_keeps_streams.specs.Histories.{Hears, Call}
use Rattle.host_keeps_streams.specs.Histories as calls

-- what a command of the peer says of them, the peer's own socket first. A request is named by the place where its message went out
abbrev pub mark_heard : (ℕ → ℕ) → ℕ → ℕ → Call → List Mark
mark_heard origin foreign own (Hears stamp said c) = mark_of (origin stamp) foreign own c
mark_heard origin foreign own k = []

abbrev pub heard_list : (ℕ → ℕ) → ℕ → ℕ → List calls.Moment → List Mark
heard_list origin foreign own [] = []
heard_list origin foreign own (m ∷ ms) = mark_heard origin foreign own m.call ++ heard_list origin foreign own ms
