-- The lives of a book beside the openings of the law of pairing (NIC 8246, RTS and STR).
use Rattle.std.specs.Prelude.{◌≡◌, ◌⊎◌, ℕ, ◌==◌, Bool, true, ◌&&◌, if◌then◌else◌, List, [], ◌∷◌}
use Rattle.interface.specs.Host.{Host, same_host}
use Rattle.ncp_control.specs.Numbers.{is_receive_socket, is_send_socket}
use Rattle.pairing_law.specs.Sides.{Life}
use Rattle.pairing_law.specs.Links.{receiver, sender}
use Rattle.promise.specs.declared.life.Life as book
use Rattle.net_sim.specs.Story.{Moment}
use Rattle.world_keeps_pairing.specs.Free.{law_events}
use Rattle.world_keeps_pairing.specs.Steps.{steps}

-- ---- by the law

-- the ends that a host opened with a peer, by the law, for a socket of its own and a foreign one, newest first: the host is the receiver
-- or the sender, by its own socket. Two sockets that both receive or both send have none
abbrev pub openings : Host → Host → ℕ → ℕ → List Moment → List Life
openings h peer own foreign moments =
    if is_receive_socket own && is_send_socket foreign then (receiver (record { receive = own; send = foreign }) (steps h peer (law_events moments))).lives
    else (if is_send_socket own && is_receive_socket foreign then (sender (record { receive = foreign; send = own }) (steps peer h (law_events moments))).lives
    else [])

-- ---- in a book

-- a life of this host's socket with this peer's
abbrev pub is_between : Host → Host → ℕ → ℕ → book.Life → Bool
is_between h peer own foreign x = same_host h x.host && (same_host peer x.peer && (x.socket == own && x.foreign == foreign))

-- a life as the law describes it: the place where the own request went out, and that where the partner's did
abbrev pub life_of : (ℕ → ℕ) → book.Life → Life
life_of origin x = record { own = x.own_stamp; partner = origin x.partner_stamp }

-- upon others, where it is of these ends
abbrev pub with_life : (ℕ → ℕ) → Host → Host → ℕ → ℕ → book.Life → List Life → List Life
with_life origin h peer own foreign x lives =
    if is_between h peer own foreign x then life_of origin x ∷ lives else lives

-- all such lives of a book, newest first, upon others
abbrev pub with_lives : (ℕ → ℕ) → Host → Host → ℕ → ℕ → List book.Life → List Life → List Life
with_lives origin h peer own foreign [] lives = lives
with_lives origin h peer own foreign (x ∷ written) lives = with_lives origin h peer own foreign written (with_life origin h peer own foreign x lives)

-- its own socket receives and the foreign one sends, or the other way
abbrev pub ArePaired : book.Life → Type 0
ArePaired x = ((is_receive_socket x.socket ≡ true) × (is_send_socket x.foreign ≡ true)) ⊎ ((is_send_socket x.socket ≡ true) × (is_receive_socket x.foreign ≡ true))
