-- The openings of which a host's program notifies its user, as lives of the law of pairing (NIC 8246, RTS and STR).
use Rattle.std.specs.Prelude.{◌≡◌, ◌⊎◌, ℕ, ◌==◌, ◌&&◌, if◌then◌else◌, List, [], ◌∷◌}
use Rattle.pairing_law.specs.Ends.{End, gone, mark_taken}
use Rattle.pairing_law.specs.Marks.{Mark}
use Rattle.pairing_law.specs.Sides.{Life, lives_gone, lives_taken}
use Rattle.host_pairs.specs.declared.notice.Notice.{Notice}
use Rattle.host_pairs.specs.declared.notice.Notice.TheVariants as notice

-- an opening of these two sockets is a life: the place where the own request went out, and that where the partner's did
abbrev pub with_opening : (ℕ → ℕ) → ℕ → ℕ → Notice → List Life → List Life
with_opening origin own foreign (notice.Opened socket peer other asked partner) lives =
    if socket == own && other == foreign then record { own = asked; partner = origin partner } ∷ lives else lives
with_opening origin own foreign n lives = lives

-- notices, the first first
abbrev pub with_openings : (ℕ → ℕ) → ℕ → ℕ → List Notice → List Life → List Life
with_openings origin own foreign [] lives = lives
with_openings origin own foreign (n ∷ notices) lives = with_openings origin own foreign notices (with_opening origin own foreign n lives)

-- the law's lives after all that was said, and after all that was heard
abbrev pub all_lives_gone : List Mark → End → List Life → List Life
all_lives_gone [] x lives = lives
all_lives_gone (m ∷ marks) x lives = all_lives_gone marks (gone m x) (lives_gone m x lives)

abbrev pub all_lives_taken : List Mark → End → List Life → List Life
all_lives_taken [] x lives = lives
all_lives_taken (m ∷ marks) x lives = all_lives_taken marks (mark_taken m x) (lives_taken m x lives)

-- these are some of those, in the same order
abbrev pub AreAmong : List Life → List Life → Type 0
AreAmong [] others = Unit {0}
AreAmong (x ∷ lives) [] = ⊥
AreAmong (x ∷ lives) (y ∷ others) = ((x ≡ y) × AreAmong lives others) ⊎ AreAmong (x ∷ lives) others
