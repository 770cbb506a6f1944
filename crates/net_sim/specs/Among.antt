-- The part of a book that is between hosts with programs: its lives, and the contacts that users asked for.
use Rattle.std.specs.Prelude.{◌&&◌, Bool, not, if◌then◌else◌, List, [], ◌∷◌, filter}
use Rattle.interface.specs.Host.{Host}
use Rattle.promise.specs.declared.book.Called.{Called}
use Rattle.promise.specs.declared.life.Life.{Life}

-- a life of such a host with such a peer
abbrev pub is_among : (Host → Bool) → Life → Bool
is_among strange x = not (strange x.host) && not (strange x.peer)

abbrev pub lives_among : (Host → Bool) → List Life → List Life
lives_among strange lives = filter (is_among strange) lives

-- what another list has beside these lives
abbrev pub beside_among : {A : Type 0} → (Host → Bool) → List Life → List A → List A
beside_among strange [] others = others
beside_among strange (x ∷ lives) [] = []
beside_among strange (x ∷ lives) (a ∷ others) = if is_among strange x then a ∷ beside_among strange lives others
    else beside_among strange lives others

-- the contacts of such a host with such a peer
abbrev pub contacts_among : (Host → Bool) → List Called → List Called
contacts_among strange contacts = filter (λ c. not (strange c.host) && not (strange c.peer)) contacts
