-- What the users of a world's hosts know of their ends, by all that their programs notified them of (NIC 8246, RTS, STR and CLS).
use Rattle.std.specs.Prelude.{◌≡◌, ℕ, Bool, true, false, if◌then◌else◌, List, [], ◌∷◌}
use Rattle.interface.specs.Host.{Host, same_host}
use Rattle.interface.specs.declared.crossing.Crossing.TheVariants as crossing
use Rattle.pairing_law.specs.Sides.{Life}
use Rattle.host_keeps_pairing.specs.Known.{all_known}
use Rattle.promise.specs.declared.life.Life as book
use Rattle.net_sim.specs.Story.{Moment, Crossed}
use Rattle.net_sim.specs.Told.{host_in, notices_by}

-- a host stops, or starts
abbrev pub is_outage : Moment → Bool
is_outage (Crossed (crossing.Down h)) = true
is_outage (Crossed (crossing.Up h)) = true
is_outage x = false

-- the openings on two sockets with a peer that the user of a host knows of after these moments: none where the host starts, and then what
-- its program reported
abbrev pub known_in : (ℕ → ℕ) → Host → Host → ℕ → ℕ → List Moment → List Life
known_in origin host peer own foreign [] = []
known_in origin host peer own foreign (x ∷ moments) =
    if same_host host (host_in x)
    then (if is_outage x then [] else all_known origin peer own foreign (notices_by x moments) (known_in origin host peer own foreign moments))
    else known_in origin host peer own foreign moments

-- two lives of a book are at the two ends of the same sockets
abbrev pub AreOpposite : book.Life → book.Life → Type 0
AreOpposite x y = (x.peer ≡ y.host) × (y.peer ≡ x.host) × (x.foreign ≡ y.socket) × (y.foreign ≡ x.socket)
