-- Which places are known of the lives that haven't ended.
use Rattle.std.specs.Prelude.{◌≡◌, ◌⊎◌, ℕ, ◌+◌, ◌*◌, ◌/◌, ◌%◌, ◌==◌, ◌&&◌, suc, Bool, true, false, not, if◌then◌else◌, List, [], ◌∷◌, ◌++◌, filter, map, slice_index_or}
use Rattle.interface.specs.Host.{Host, address_octet}
use Rattle.promise.specs.declared.life.Life.{Life}
use Rattle.net_sim.specs.Inside.Endings.{Ending, Turn}
use Rattle.net_sim.specs.Inside.Places.{is_open_at}
use Rattle.net_sim.specs.declared.life.Ending.TheVariants as ending
use Rattle.net_sim.specs.declared.life.Turn.TheVariants as turn

-- ---- numbers of lists

-- a host's, by its address octet
abbrev pub host_key : Host → ℕ
host_key h = address_octet h

-- that of a host's socket, one of 1024
abbrev pub socket_key : Host → ℕ → ℕ
socket_key h socket = (address_octet h * 61 + socket / 2) % 1024

-- an open life has this number by its host, and by its host and socket
abbrev pub has_host : ℕ → Life → Bool
has_host k x = host_key x.host == k && not x.ended

abbrev pub has_socket : ℕ → Life → Bool
has_socket k x = socket_key x.host x.socket == k && not x.ended

-- ---- lists of places

-- the places of marks, in order
abbrev pub marked : List Bool → List ℕ
marked [] = []
marked (b ∷ bs) = if b then 0 ∷ map suc (marked bs) else map suc (marked bs)

-- there is a mark for each life, and it is set wherever the test holds
abbrev pub AreMarked : (Life → Bool) → List Bool → List Life → Type 0
AreMarked test [] [] = Unit {0}
AreMarked test [] (x ∷ xs) = ⊥
AreMarked test (b ∷ bs) [] = ⊥
AreMarked test (b ∷ bs) (x ∷ xs) = (test x ≡ true → b ≡ true) × AreMarked test bs xs

-- places of lives, in order, among them each where the test holds
abbrev pub Holds : (Life → Bool) → List ℕ → List Life → Type 0
Holds test ats xs = (bs : List Bool) × (ats ≡ marked bs) × AreMarked test bs xs

-- a place is one more, and those of lives that have ended may be gone
abbrev pub Extends : List Life → ℕ → List ℕ → List ℕ → Type 0
Extends lives at old new = (new ≡ old ++ at ∷ []) ⊎ (new ≡ filter (is_open_at lives) old ++ at ∷ [])

-- ---- lives that stay where they are

-- a life has its host and its socket still, and has ended if it had
abbrev pub IsKept : Life → Life → Type 0
IsKept x y = (y.host ≡ x.host) × (y.socket ≡ x.socket) × (y.ended ≡ false → x.ended ≡ false)

abbrev pub AreKept : List Life → List Life → Type 0
AreKept [] [] = Unit {0}
AreKept [] (y ∷ ys) = ⊥
AreKept (x ∷ xs) [] = ⊥
AreKept (x ∷ xs) (y ∷ ys) = IsKept x y × AreKept xs ys

-- ---- what is known

-- the lists of hosts and of sockets have all open lives
pub record Covers (hosts sockets : List (List ℕ)) (lives : List Life) : Type 0 where
  pub by_host : (k : ℕ) → Holds (has_host k) (slice_index_or hosts k []) lives
  pub by_socket : (k : ℕ) → Holds (has_socket k) (slice_index_or sockets k []) lives

-- where to look for the life of a host's socket, and for the lives that end
abbrev pub places_at : Host → ℕ → List (List ℕ) → List ℕ
places_at h socket sockets = slice_index_or sockets (socket_key h socket) []

abbrev pub places_of : Ending → List (List ℕ) → List (List ℕ) → List ℕ
places_of (ending.Between h socket peer foreign) hosts sockets = places_at h socket sockets
places_of (ending.With h peer) hosts sockets = slice_index_or hosts (host_key h) []
places_of (ending.On h) hosts sockets = slice_index_or hosts (host_key h) []

abbrev pub places_by : Turn → List (List ℕ) → List (List ℕ) → List ℕ
places_by (turn.Closes h socket) hosts sockets = places_at h socket sockets
places_by (turn.Over h socket peer foreign) hosts sockets = places_at h socket sockets
places_by (turn.Resets h peer) hosts sockets = slice_index_or hosts (host_key h) []
places_by (turn.Stops h) hosts sockets = slice_index_or hosts (host_key h) []

-- where the places are known, they are those of all open lives
abbrev pub AreKnown : Bool → List (List ℕ) → List (List ℕ) → List Life → Type 0
AreKnown known hosts sockets lives = known ≡ true → Covers hosts sockets lives

-- with a life of a host's socket after these, what was known of these lives is known of all
abbrev pub Enters : Host → ℕ → List Life → (List Life → Type 0) → (List Life → Type 0) → Type 0
Enters host socket lives Old New = (x : Life) → x.host ≡ host → x.socket ≡ socket → Old lives → New (lives ++ x ∷ [])
