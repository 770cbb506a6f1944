-- What happens to the lives and to what was handed over, apart from all else that is kept.
use Rattle.std.specs.Prelude.{ℕ, ◌+◌, Bool, List, [], ◌∷◌, ◌++◌, Option, Some, None, length, map, reverse}
use Rattle.interface.specs.Host.{Host}
use Rattle.interface.specs.declared.crossing.Crossing.{Crossing}
use Rattle.host_pairs.specs.declared.notice.Notice.{Notice}
use Rattle.sockets.specs.declared.request.Request.{Request}
use Rattle.net_sim.specs.Book as book
use Rattle.promise.specs.declared.life.Life.{Life}
use Rattle.promise.specs.declared.life.Fate.{Fate}
use Rattle.promise.specs.declared.life.Fate.TheVariants as fate
use Rattle.promise.specs.declared.book.Told.{Told}
use Rattle.promise.specs.declared.book.Called.{Called}
use Rattle.host_services.specs.declared.report.Reported.{Reported}
use Rattle.net_sim.specs.Book.{Kept, lives_at, where_it, handed_to, lives_crossed, lives_told, lives_asked, handed_told, handed_asked, fates_where, fates_crossed, fates_told, fates_asked}
use Rattle.net_sim.specs.Inside.Endings.{Ending, Turn, ends, turn_by, turned, turns}
use Rattle.net_sim.specs.Inside.Growing.{Growth, grown}

pub record LivesState : Type 0 where
  pub lives : List Life
  pub handed : List (List Bool)
  pub fates : List Fate

abbrev pub none : LivesState
none = record { lives = []; handed = []; fates = [] }

abbrev pub state : List Life → List (List Bool) → List Fate → LivesState
state lives handed fates = record { lives = lives; handed = handed; fates = fates }

abbrev pub of_kept : Kept → LivesState
of_kept k = record { lives = k.book.lives; handed = k.handed; fates = k.fates }

abbrev pub begun : Life → LivesState → LivesState
begun x l = record { lives = l.lives ++ x ∷ []; handed = l.handed ++ [] ∷ []; fates = l.fates ++ fate.Open ∷ [] }

abbrev pub crossed : Crossing → LivesState → LivesState
crossed c l = record { lives = lives_crossed c l.lives; handed = l.handed; fates = fates_crossed c l.lives l.fates }

abbrev pub lives_state_ended : Ending → LivesState → LivesState
lives_state_ended e l = record { lives = where_it (ends e) book.life_ended l.lives; handed = l.handed; fates = l.fates }

-- the fates change
abbrev pub lives_state_turned : Turn → LivesState → LivesState
lives_state_turned t l = state l.lives l.handed (fates_where (turns t) (turned t) l.lives l.fates)

-- the fates change, and the lives end
abbrev pub lives_state_over : Ending → LivesState → LivesState
lives_state_over e l = state (where_it (ends e) book.life_ended l.lives) l.handed (fates_where (turns (turn_by e)) (turned (turn_by e)) l.lives l.fates)

abbrev pub lives_state_told : Host → Notice → LivesState → LivesState
lives_state_told h n l = record { lives = lives_told h n l.lives; handed = handed_told n l.handed; fates = fates_told h n l.lives l.fates }

abbrev pub asked : Host → Request → LivesState → LivesState
asked h r l = record { lives = lives_asked h r l.lives; handed = handed_asked h r l.lives l.handed; fates = fates_asked h r l.lives l.fates }

-- the life of a host's socket grows
abbrev pub lives_grown : Host → ℕ → Growth → LivesState → LivesState
lives_grown h socket g l = state (where_it (lives_at h socket) (grown g) l.lives) l.handed l.fates

-- bits were handed over to be sent at a host's socket
abbrev pub handed_over : Host → ℕ → List Bool → LivesState → LivesState
handed_over h socket bits l = state l.lives (handed_to (lives_at h socket) bits l.lives l.handed) l.fates

-- in the order in which they are
abbrev pub all_crossed : List Crossing → LivesState → LivesState
all_crossed [] l = l
all_crossed (c ∷ cs) l = all_crossed cs (crossed c l)

abbrev pub all_told : List Told → LivesState → LivesState
all_told [] l = l
all_told (t ∷ ts) l = all_told ts (lives_state_told t.host t.notice l)

abbrev pub asked_by : Option (Host × Request) → LivesState → LivesState
asked_by None l = l
asked_by (Some a) l = asked a.0 a.1 l

-- a host's services asked for all this
abbrev pub all_asked : Host → List Request → LivesState → LivesState
all_asked h [] l = l
all_asked h (r ∷ requests) l = all_asked h requests (asked h r l)

abbrev pub ran_by : Option Host → List Request → LivesState → LivesState
ran_by None requests l = l
ran_by (Some h) requests l = all_asked h requests l

-- what crossed, what a user asked for, the notices to users, and what the services of a host asked for then
abbrev pub followed : List Crossing → Option (Host × Request) → List Told → Option Host → List Request → LivesState → LivesState
followed cs a ts h rs l = ran_by h rs (all_told ts (asked_by a (all_crossed cs l)))

-- all of that, written down, with the contacts among what was asked for, and what was reported
abbrev pub written : List Crossing → Option (Host × Request) → List Called → List Told → Option Host → List Request → List Reported → Kept → Kept
written cs a calls ts h rs reports k = record {
  book = record {
    crossings = reverse cs ++ k.book.crossings;
    notices = k.book.notices ++ ts;
    contacts = k.book.contacts ++ calls;
    reports = k.book.reports ++ reports;
    lives = (followed cs a ts h rs (of_kept k)).lives;
  };
  handed = (followed cs a ts h rs (of_kept k)).handed;
  fates = (followed cs a ts h rs (of_kept k)).fates;
}

-- the notices to a host when there were this many crossings
abbrev pub told_at : Host → ℕ → Notice → Told
told_at h place n = record { host = h; place = place; notice = n }

-- the same of one host, which gets these notices after what crossed
abbrev pub entered : List Crossing → Option (Host × Request) → List Called → Host → List Notice → List Request → List Reported → Kept → Kept
entered cs a calls h ns rs reports k = written cs a calls (map (told_at h (length k.book.crossings + length cs)) ns) (Some h) rs reports k
