-- What is asked of the moments of a world: where messages went out, and that links are free.
use Rattle.std.specs.Prelude.{◌≡◌, ℕ, ◌==◌, Bool, true, List, [], ◌∷◌, Option, Some, None}
use Rattle.interface.specs.Host.{Host}
use Rattle.interface.specs.declared.crossing.Crossing.{Crossing}
use Rattle.interface.specs.declared.crossing.Crossing.TheVariants as crossing
use Rattle.host_pairs.specs.Control.{orders_of}
use Rattle.ncp_control.specs.Phases.{is_ready}
use Rattle.sockets.specs.Accepting.{turn_of}
use Rattle.sockets.specs.Pairs.{pair_with}
use Rattle.host_keeps_pairing.specs.Hearing.{AreFree}
use Rattle.pairing_law.specs.Places.{placed, placed_event}
use Rattle.pairing_law.specs.Links.{Word, Receiver, Sender, Step, Says, NamesFree}
use Rattle.reset_law.specs.Events.{Event}
use Rattle.reset_law.specs.Stays as stay
use Rattle.net_sim.specs.Story.{Moment, Crossed, event_in, events_of, places, program}
use Rattle.promise.specs.Safe.{before, control_flow, last_out}
use Rattle.world_keeps_pairing.specs.Steps.{all_said, steps, words_of}
use Rattle.reset_law.specs.Network.{AreOurs, Network}

-- a place, or this number where there is none
abbrev pub place_or : ℕ → Option ℕ → ℕ
place_or none None = none
place_or none (Some place) = place

-- the place where the message went out that a host took of its peer when there were this many crossings; and this number where nothing
-- had gone out
abbrev pub origin_or : ℕ → List Crossing → Host → Host → ℕ → ℕ
origin_or none log h peer stamp = place_or none (last_out (control_flow peer h) (before stamp log))

abbrev pub origin_in : List Crossing → Host → Host → ℕ → ℕ
origin_in log h peer stamp = origin_or 0 log h peer stamp

-- the events of moments, each text with its place
abbrev pub law_events : List Moment → List Event
law_events moments = placed (events_of moments)

-- ---- links

-- each request of a receiver names a link that is free, where its turn comes
abbrev pub NameFree : List Word → List Step → Type 0
NameFree [] xs = Unit {0}
NameFree (w ∷ ws) xs = NamesFree w.mark w.link xs × NameFree ws (Says Receiver w ∷ xs)

-- what `a` says to `b` by a moment names free links
abbrev pub NamesFreeAt : Host → Host → Moment → List Moment → Type 0
NamesFreeAt a b x moments =
    NameFree (words_of Receiver (stay.said_by a b 0 (placed_event (event_in x) (events_of moments))))
    (all_said Sender (words_of Sender (stay.said_by b a 0 (placed_event (event_in x) (events_of moments)))) (steps a b (law_events moments)))

-- each RTS that a host takes of another with a program names a link that none of its sending ends has
abbrev pub TakesFreeAt : Network → Moment → List Moment → Type 0
TakesFreeAt hosts (Crossed (crossing.In m)) moments =
    AreOurs hosts m.flow.source m.flow.destination → is_ready (pair_with m.flow.source (program m.flow.destination moments).peers).phase ≡ true → (m.flow.link.0 == 0) ≡ true
    → AreFree m.flow.source (places moments) (orders_of m.text) (turn_of (program m.flow.destination moments) m.flow.source)
TakesFreeAt hosts x moments = Unit {0}
