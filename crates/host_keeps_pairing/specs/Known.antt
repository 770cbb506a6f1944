-- What a host's user knows of an end: its program reports when a connection opens, and when it is over (NIC 8246, RTS, STR and CLS).
use Rattle.std.specs.Prelude.{◌≡◌, ℕ, ◌==◌, ◌&&◌, if◌then◌else◌, List, [], ◌∷◌}
use Rattle.interface.specs.Host.{Host, same_host}
use Rattle.pairing_law.specs.Ends.{End}
use Rattle.pairing_law.specs.Partners.{IsOpen}
use Rattle.pairing_law.specs.Sides.{Life}
use Rattle.host_pairs.specs.declared.notice.Notice.{Notice}
use Rattle.host_pairs.specs.declared.notice.Notice.TheVariants as notice

-- the openings, on these two sockets with this peer, that are known after a notice: each by its own request and its partner's, from where
-- it is reported until the end is known to be over, or all connections with the peer are. Other notices change nothing
abbrev pub known_after : (ℕ → ℕ) → Host → ℕ → ℕ → Notice → List Life → List Life
known_after origin peer own foreign (notice.Opened socket host other asked partner) known =
    if same_host peer host && (socket == own && other == foreign) then record { own = asked; partner = origin partner } ∷ known else known
known_after origin peer own foreign (notice.Ended socket host other) known = if same_host peer host && (socket == own && other == foreign) then [] else known
known_after origin peer own foreign (notice.PairReset host) known = if same_host peer host then [] else known
known_after origin peer own foreign n known = known

-- notices, the first first
abbrev pub all_known : (ℕ → ℕ) → Host → ℕ → ℕ → List Notice → List Life → List Life
all_known origin peer own foreign [] known = known
all_known origin peer own foreign (n ∷ notices) known = all_known origin peer own foreign notices (known_after origin peer own foreign n known)

-- what is known is true: the law's end is open by these two requests
abbrev pub Knows : List Life → End → Type 0
Knows [] x = Unit {0}
Knows (l ∷ known) x = IsOpen l.own l.partner x × Knows known x

-- each of the two ends is the other's partner
abbrev pub ArePartners : Life → Life → Type 0
ArePartners x y = (x.partner ≡ y.own) × (y.partner ≡ x.own)
