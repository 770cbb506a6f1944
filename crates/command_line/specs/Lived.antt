-- Which lives crossings and notices make.
use Rattle.std.specs.Prelude.{◌≡◌, ℕ, suc, ◌==◌, if◌then◌else◌, List, [], ◌∷◌, map, length}
use Rattle.interface.specs.declared.crossing.Crossing.{Crossing}
use Rattle.net_sim.specs.Book.{lives_crossed, lives_told, nothing}
use Rattle.promise.specs.declared.book.Told.{Told}
use Rattle.promise.specs.declared.life.Life.{Life}

-- a life without what its user granted, of which no line is printed
abbrev pub ungranted : Life → Life
ungranted x = record x { granted = nothing }

-- the notices at a place, after this many crossings
abbrev pub told_at : ℕ → List Told → List Told
told_at place [] = []
told_at place (t ∷ told) = if t.place == place then t ∷ told_at place told else told_at place told

-- what notices do to lives, one after the other
abbrev pub all_lives_told : List Told → List Life → List Life
all_lives_told [] lives = lives
all_lives_told (t ∷ told) lives = all_lives_told told (lives_told t.host t.notice lives)

-- the lives that crossings, newest first, and notices make, except for grants: one begins with each notice that an end is open, carries what its notices of
-- data have, and ends with the notice that its end is over, that its pair is reset, or where its host stops
abbrev pub lives_in : List Crossing → List Told → List Life
lives_in [] told = all_lives_told (told_at 0 told) []
lives_in (c ∷ log) told = all_lives_told (told_at (suc (length log)) told) (lives_crossed c (lives_in log told))

abbrev pub AreLived : List Crossing → List Told → List Life → Type 0
AreLived log told lives = map ungranted lives ≡ lives_in log told
