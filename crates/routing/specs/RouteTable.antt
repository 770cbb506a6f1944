-- What an IMP knows of routes, and what it concludes (Heart et al., SJCC 1970, routing).
use Rattle.std.specs.Prelude.{◌≡◌, ℕ, ◌+◌, ◌-◌, ◌<◌, ◌==◌, ◌||◌, min, map, position, if◌then◌else◌, Bool, true, false, List, [], ◌∷◌, slice_index_or, slice_set, length, Option, Some, None, IsSome, replicate}
use Rattle.std.specs.List.{range_with_len}
use Rattle.interface.specs.Host.{most_imps}
use Rattle.routing.specs.Vector.{infinite}

-- the IMP's own number, and the distances last heard on each port; None where nothing was heard since the line came up.
-- And whether it claims to be nearest to every IMP, as Harvard's did in 1973
pub record Table : Type 0 where
  pub own : ℕ
  pub heard : List (Option (List ℕ))
  pub claims : Bool

-- the opening: nothing was heard on any port
abbrev pub opening_table : ℕ → ℕ → Table
opening_table own ports = record { own = own; heard = replicate ports None; claims = false }

-- the IMP heard these distances on a port
abbrev pub hears : Table → ℕ → List ℕ → Table
hears t port distances = record t { heard = slice_set t.heard port (Some distances) }

-- the line at a port was lost: what was heard there is forgotten
abbrev pub loses : Table → ℕ → Table
loses t port = record t { heard = slice_set t.heard port None }

-- from now on the IMP claims to be nearest to every IMP
abbrev pub claiming : Table → Table
claiming t = record t { claims = true }

-- the distance to an IMP in a list of distances; infinite to an IMP that there can't be
abbrev pub distance_in : List ℕ → ℕ → ℕ
distance_in distances imp = if imp == 0 then infinite else slice_index_or distances (imp - 1) infinite

-- the distance to an IMP that was heard on a port
abbrev pub heard_distance : Option (List ℕ) → ℕ → ℕ
heard_distance (Some distances) imp = distance_in distances imp
heard_distance None imp = infinite

-- the least distance to an IMP that was heard on any port
abbrev pub least_heard : List (Option (List ℕ)) → ℕ → ℕ
least_heard [] imp = infinite
least_heard (heard ∷ others) imp = min (heard_distance heard imp) (least_heard others imp)

-- the own distance is 0. Any other is the least that was heard plus one, and at most infinite
unfoldable pub distance_to : Table → ℕ → ℕ
distance_to t imp = if imp == t.own then 0 else min (least_heard t.heard imp + 1) infinite

-- the distances to all IMPs, from IMP 1 on
abbrev pub distances_of : Table → List ℕ
distances_of t = map (λ place. distance_to t (place + 1)) (range_with_len 0 most_imps)

-- the distances of an IMP that claims to be nearest to every IMP: 0 to each
unfoldable pub nearest : List ℕ
nearest = replicate most_imps 0

-- what the IMP announces: its distances, or those where it claims that
unfoldable pub vector_of : Table → List ℕ
vector_of t = if t.claims then nearest else distances_of t

-- the lowest port on which the table's distance to another IMP is attained, where that distance is finite
unfoldable pub next_of : Table → ℕ → Option ℕ
next_of t imp =
    if imp == t.own || distance_to t imp == infinite
    then None
    else position (λ heard. heard_distance heard imp + 1 == distance_to t imp) t.heard

-- a next line: its neighbour was heard and is one nearer, and no lower port was heard as near
pub record IsNext (t : Table) (imp port : ℕ) : Type 0 where
  pub there : port < length t.heard
  pub live : IsSome (slice_index_or t.heard port None)
  pub attains : heard_distance (slice_index_or t.heard port None) imp + 1 ≡ distance_to t imp
  pub lowest : (lower : ℕ) → lower < port → distance_to t imp < heard_distance (slice_index_or t.heard lower None) imp + 1
