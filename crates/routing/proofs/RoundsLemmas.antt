-- Tables that exchange distances in rounds converge to the lengths of shortest walks.
use Rattle.std.proofs.Common.{◌≡◌, ℕ, zero, suc, ◌+◌, ◌-◌, ◌<◌, ◌≤◌, List, [], ◌∷◌, length, get_or, map, Option, Some, None, refl, sym, ◌∙◌, ap, arith, inl, inr, subst, All, add-one, ◌==◌, true}
use Rattle.std.proofs.lemmas.Bool.{cases_lt}
use Rattle.std.proofs.lemmas.Bool.Decides.{nat_tests}
use Rattle.std.proofs.lemmas.List.{get_or-map, length-map}
use Rattle.interface.specs.Host.{most_imps}
use Rattle.routing.specs.Vector.{infinite}
use Rattle.routing.specs.RouteTable.{Table, heard_distance, distance_in, distance_to, vector_of, next_of, IsNext}
use Rattle.routing.specs.Walks.{AreJoined, IsWalk, IsDistance}
use Rattle.routing.specs.Settle.{neighbours, no_table, table_of, after_round, one_round, settled, IsImp, AreTablesOf, IsNearer, IsRight}
use Rattle.routing.proofs.Tables.{IsHeardOn}
use Rattle.routing.proofs.Joining.{LeadsTo, joined_port, port_joined}
use Rattle.routing.proofs.Walking.{named_ends, IsSimple, simple_walk, simple_length}
use Rattle.routing.proofs.Nexts.{distance-own, distance-le, distance-zero, distance-heard, distance-attained, next-own, next-nowhere, next-line, vector-distance}

-- ---- one round

told : List Table → List (List ℕ)
told tables = map vector_of tables

after_table : (graph : List (ℕ × ℕ)) (tables : List Table) (imp : ℕ) → IsImp (length tables) imp → table_of (one_round graph tables) imp ≡ after_round graph (map vector_of tables) (table_of tables imp)
after_table graph tables imp there = get_or-map (after_round graph (map vector_of tables)) tables (imp - 1) no_table no_table (omega (arith, there.0, there.1))

one_round-length : (graph : List (ℕ × ℕ)) (tables : List Table) → length (one_round graph tables) ≡ length tables
one_round-length graph tables = length-map tables (after_round graph (map vector_of tables))

-- tables that heard one another have as many ports as before
pub round_keeps : (graph : List (ℕ × ℕ)) (tables : List Table) → AreTablesOf graph tables → AreTablesOf graph (one_round graph tables)
round_keeps graph tables are =
    let same : length tables ≡ length (one_round graph tables) = sym (one_round-length graph tables) in
    record {
      count = omega (arith, same, are.count);
      named = subst (λ (n : ℕ). All (λ line. IsImp n line.0 × IsImp n line.1) graph) same are.named;
      numbered = λ imp there.
          let before : IsImp (length tables) imp = subst (λ (n : ℕ). IsImp n imp) (sym same) there in
          ap (λ (t : Table). t.own) (after_table graph tables imp before) ∙ are.numbered imp before;
      true_vectors = λ imp there.
          let before : IsImp (length tables) imp = subst (λ (n : ℕ). IsImp n imp) (sym same) there in
          ap (λ (t : Table). t.claims) (after_table graph tables imp before) ∙ are.true_vectors imp before;
      ports = λ place default there.
          let at : get_or (one_round graph tables) place default ≡ after_round graph (map vector_of tables) (get_or tables place default) =
          get_or-map (after_round graph (map vector_of tables)) tables place default default (omega (arith, same, there)) in
          rw at (length-map (neighbours graph (get_or tables place default).own) (λ (imp : ℕ). Some (get_or (map vector_of tables) (imp - 1) [])));
    }

pub settled_keeps : (graph : List (ℕ × ℕ)) (tables : List Table) (rounds : ℕ) → AreTablesOf graph tables → AreTablesOf graph (settled graph tables rounds)
unfolding settled
settled_keeps graph tables zero are = are
settled_keeps graph tables (suc rounds) are = round_keeps graph (settled graph tables rounds) (settled_keeps graph tables rounds are)

settled-length : (graph : List (ℕ × ℕ)) (tables : List Table) (rounds : ℕ) → length (settled graph tables rounds) ≡ length tables
unfolding settled
settled-length graph tables zero = refl
settled-length graph tables (suc rounds) = one_round-length graph (settled graph tables rounds) ∙ settled-length graph tables rounds

-- where there are no tables there is nothing to change
pub settled_none : (graph : List (ℕ × ℕ)) (tables : List Table) (rounds : ℕ) → (length tables == 0) ≡ true → settled graph tables rounds ≡ tables
unfolding settled
settled_none graph [] zero none = refl
settled_none graph [] (suc rounds) none = ap (one_round graph) (settled_none graph [] rounds none)
settled_none graph (t ∷ ts) rounds none = absurd (grind (arith, nat_tests))

pub settled-more : (graph : List (ℕ × ℕ)) (tables : List Table) (rounds : ℕ) → one_round graph (settled graph tables rounds) ≡ settled graph tables (rounds + 1)
unfolding settled
settled-more graph tables rounds = rw add-one refl

-- what a port of an IMP heard in a round is what its neighbour had
ports_after : (graph : List (ℕ × ℕ)) (tables : List Table) (imp : ℕ) → AreTablesOf graph tables → IsImp (length tables) imp
    → (table_of (one_round graph tables) imp).heard ≡ map (λ (imp : ℕ). Some (get_or (map vector_of tables) (imp - 1) [])) (neighbours graph imp)
ports_after graph tables imp are there =
    ap (λ (t : Table). t.heard) (after_table graph tables imp there)
    ∙ ap (λ (own : ℕ). map (λ (imp : ℕ). Some (get_or (map vector_of tables) (imp - 1) [])) (neighbours graph own)) (are.numbered imp there)

neighbour_is_imp : (graph : List (ℕ × ℕ)) (tables : List Table) (imp port : ℕ) → AreTablesOf graph tables → port < length (neighbours graph imp) → IsImp (length tables) (get_or (neighbours graph imp) port 0)
neighbour_is_imp graph tables imp port are there = named_ends (length tables) graph imp (get_or (neighbours graph imp) port 0) are.named (port_joined graph imp port there)

heard_after : (graph : List (ℕ × ℕ)) (tables : List Table) (imp port to : ℕ) → AreTablesOf graph tables → IsImp (length tables) imp → IsImp most_imps to → port < length (neighbours graph imp)
    → heard_distance (get_or (table_of (one_round graph tables) imp).heard port None) to ≡ distance_to (table_of tables (get_or (neighbours graph imp) port 0)) to
heard_after graph tables imp port to are there is_imp at =
    let neighbour : ℕ = get_or (neighbours graph imp) port 0 in
    let tells : ℕ → Option (List ℕ) = λ (imp : ℕ). Some (get_or (map vector_of tables) (imp - 1) []) in
    let is : IsImp (length tables) neighbour = neighbour_is_imp graph tables imp port are at in
    let port_heard : get_or (map tells (neighbours graph imp)) port None ≡ tells neighbour = get_or-map tells (neighbours graph imp) port 0 None at in
    let had : get_or (map vector_of tables) (neighbour - 1) [] ≡ vector_of (table_of tables neighbour) =
    get_or-map vector_of tables (neighbour - 1) no_table [] (omega (arith, is.0, is.1)) in
    ap (λ (heard : List (Option (List ℕ))). heard_distance (get_or heard port None) to) (ports_after graph tables imp are there)
    ∙ ap (λ (heard : Option (List ℕ)). heard_distance heard to) port_heard
    ∙ ap (λ (distances : List ℕ). distance_in distances to) had
    ∙ vector-distance (table_of tables neighbour) to is_imp.0 is_imp.1 (are.true_vectors neighbour is)

ports_count : (graph : List (ℕ × ℕ)) (tables : List Table) (imp : ℕ) → AreTablesOf graph tables → IsImp (length tables) imp → length (table_of (one_round graph tables) imp).heard ≡ length (neighbours graph imp)
ports_count graph tables imp are there =
    ap (λ (heard : List (Option (List ℕ))). length heard) (ports_after graph tables imp are there)
    ∙ length-map (neighbours graph imp) (λ (imp : ℕ). Some (get_or (map vector_of tables) (imp - 1) []))

own_after : (graph : List (ℕ × ℕ)) (tables : List Table) (imp : ℕ) → AreTablesOf graph tables → IsImp (length tables) imp → (table_of (one_round graph tables) imp).own ≡ imp
own_after graph tables imp are there = ap (λ (t : Table). t.own) (after_table graph tables imp there) ∙ are.numbered imp there

-- an IMP is at most one farther than each IMP that it is joined to was
step_most : (graph : List (ℕ × ℕ)) (tables : List Table) (from next to : ℕ) → AreTablesOf graph tables → IsImp (length tables) from → IsImp most_imps to → AreJoined graph from next
    → distance_to (table_of (one_round graph tables) from) to ≤ distance_to (table_of tables next) to + 1
step_most graph tables from next to are there is_imp joined =
    let p : LeadsTo (neighbours graph from) next = joined_port graph from next joined in
    let most : distance_to (table_of (one_round graph tables) from) to ≤ heard_distance (get_or (table_of (one_round graph tables) from).heard p.port None) to + 1 =
    distance-heard (table_of (one_round graph tables) from) to p.port (omega (arith, ports_count graph tables from are there, p.there)) in
    let heard : heard_distance (get_or (table_of (one_round graph tables) from).heard p.port None) to ≡ distance_to (table_of tables next) to =
    heard_after graph tables from p.port to are there is_imp p.there ∙ ap (λ (imp : ℕ). distance_to (table_of tables imp) to) p.is in
    omega (arith, most, heard)

-- and where its distance to another IMP is finite, exactly one farther than one of them was
record IsStep (graph : List (ℕ × ℕ)) (tables : List Table) (from to distance : ℕ) : Type 0 where
  port : ℕ
  there : port < length (neighbours graph from)
  one_less : distance_to (table_of tables (get_or (neighbours graph from) port 0)) to + 1 ≡ distance

step_least : (graph : List (ℕ × ℕ)) (tables : List Table) (from to : ℕ) → AreTablesOf graph tables → IsImp (length tables) from → IsImp most_imps to → (to ≡ from → ⊥)
    → 0 < distance_to (table_of (one_round graph tables) from) to → distance_to (table_of (one_round graph tables) from) to < infinite
    → IsStep graph tables from to (distance_to (table_of (one_round graph tables) from) to)
step_least graph tables from to are there is_imp other some finite =
    let t : Table = table_of (one_round graph tables) from in
    let on : IsHeardOn t.heard to (distance_to t to - 1) = distance-attained t to (λ own. other (own ∙ own_after graph tables from are there)) finite in
    let at : on.port < length (neighbours graph from) = omega (arith, ports_count graph tables from are there, on.there) in
    let heard : heard_distance (get_or t.heard on.port None) to ≡ distance_to (table_of tables (get_or (neighbours graph from) on.port 0)) to = heard_after graph tables from on.port to are there is_imp at in
    record { port = on.port; there = at; one_less = omega (arith, heard, on.is, some) }

-- ---- many rounds

-- no distance is above the length of a walk that the rounds had time for
most_walk : (graph : List (ℕ × ℕ)) (tables : List Table) (rounds from to : ℕ) (walk : List ℕ) → AreTablesOf graph tables → IsImp (length tables) from → IsImp most_imps to → IsWalk graph from walk to → length walk ≤ rounds
    → distance_to (table_of (settled graph tables rounds) from) to ≤ length walk
unfolding settled
most_walk graph tables rounds from to [] are there is_imp is_walk short =
    let kept : AreTablesOf graph (settled graph tables rounds) = settled_keeps graph tables rounds are in
    let there_still : IsImp (length (settled graph tables rounds)) from = subst (λ (n : ℕ). IsImp n from) (sym (settled-length graph tables rounds)) there in
    omega (arith, distance-own (table_of (settled graph tables rounds) from) to (sym is_walk ∙ sym (kept.numbered from there_still)))
most_walk graph tables zero from to (next ∷ walk) are there is_imp is_walk short = absurd (omega (arith, short))
most_walk graph tables (suc rounds) from to (next ∷ walk) are there is_imp is_walk short =
    let kept : AreTablesOf graph (settled graph tables rounds) = settled_keeps graph tables rounds are in
    let there_still : IsImp (length (settled graph tables rounds)) from = subst (λ (n : ℕ). IsImp n from) (sym (settled-length graph tables rounds)) there in
    let rest : distance_to (table_of (settled graph tables rounds) next) to ≤ length walk =
    most_walk graph tables rounds next to walk are (named_ends (length tables) graph from next are.named is_walk.0) is_imp is_walk.1 (omega (arith, short)) in
    let step : distance_to (table_of (one_round graph (settled graph tables rounds)) from) to ≤ distance_to (table_of (settled graph tables rounds) next) to + 1 =
    step_most graph (settled graph tables rounds) from next to kept there_still is_imp is_walk.0 in
    omega (arith, step, rest)

-- a walk of a length
record HasWalk (graph : List (ℕ × ℕ)) (from to distance : ℕ) : Type 0 where
  walk : List ℕ
  is_walk : IsWalk graph from walk to
  long : length walk ≡ distance

walk_on : (graph : List (ℕ × ℕ)) (from next to distance longer : ℕ) → AreJoined graph from next → HasWalk graph next to distance → distance + 1 ≡ longer → HasWalk graph from to longer
walk_on graph from next to distance longer joined h e = record { walk = next ∷ h.walk; is_walk = (joined, h.is_walk); long = omega (arith, h.long, e) }

-- a finite distance below the number of rounds is the length of a walk
has_walk : (graph : List (ℕ × ℕ)) (tables : List Table) (rounds from to : ℕ) → AreTablesOf graph tables → IsImp (length tables) from → IsImp most_imps to
    → distance_to (table_of (settled graph tables rounds) from) to < rounds → distance_to (table_of (settled graph tables rounds) from) to < infinite
    → HasWalk graph from to (distance_to (table_of (settled graph tables rounds) from) to)
unfolding settled
has_walk graph tables zero from to are there is_imp early finite = absurd (omega (arith, early))
has_walk graph tables (suc rounds) from to are there is_imp early finite =
    let before : List Table = settled graph tables rounds in
    let kept : AreTablesOf graph before = settled_keeps graph tables rounds are in
    let there_still : IsImp (length before) from = subst (λ (n : ℕ). IsImp n from) (sym (settled-length graph tables rounds)) there in
    let own : (table_of (one_round graph before) from).own ≡ from = own_after graph before from kept there_still in
    elim (cases_lt 0 (distance_to (table_of (one_round graph before) from) to)) [
      | inl some ↦
          let s : IsStep graph before from to (distance_to (table_of (one_round graph before) from) to) =
          step_least graph before from to kept there_still is_imp
          (λ same. omega (arith, some, distance-own (table_of (one_round graph before) from) to (same ∙ sym own))) some finite in
          let next : ℕ = get_or (neighbours graph from) s.port 0 in
          walk_on graph from next to (distance_to (table_of before next) to) _ (port_joined graph from s.port s.there)
          (has_walk graph tables rounds next to are (neighbour_is_imp graph tables from s.port are s.there) is_imp (omega (arith, s.one_less, early)) (omega (arith, s.one_less, finite)))
          s.one_less
      | inr none ↦
          let nothing : distance_to (table_of (one_round graph before) from) to ≡ 0 = omega (arith, none) in
          let same : to ≡ from = distance-zero (table_of (one_round graph before) from) to nothing ∙ own in
          record { walk = []; is_walk = sym same; long = sym nothing }
    ]

-- ---- after as many rounds as the infinite distance

-- no distance is above the length of any walk
below_walks : (graph : List (ℕ × ℕ)) (tables : List Table) (rounds from to : ℕ) → AreTablesOf graph tables → IsImp (length tables) from → IsImp most_imps to → infinite ≤ rounds
    → (walk : List ℕ) → IsWalk graph from walk to → distance_to (table_of (settled graph tables rounds) from) to ≤ length walk
below_walks graph tables rounds from to are there is_imp long walk is_walk = elim (cases_lt rounds (length walk)) [
  | inl more ↦ omega (arith, more, long, distance-le (table_of (settled graph tables rounds) from) to)
  | inr fits ↦ most_walk graph tables rounds from to walk are there is_imp is_walk fits
]

-- to an IMP at the infinite distance there is no walk, since a walk that meets no IMP twice would be short
unreachable : (graph : List (ℕ × ℕ)) (tables : List Table) (rounds from to : ℕ) → AreTablesOf graph tables → IsImp (length tables) from → IsImp most_imps to → infinite ≤ rounds
    → distance_to (table_of (settled graph tables rounds) from) to ≡ infinite → (walk : List ℕ) → IsWalk graph from walk to → ⊥
unreachable graph tables rounds from to are there is_imp long far walk is_walk =
    let s : IsSimple graph from to = simple_walk graph from walk to is_walk in
    let short : length s.walk < length tables = simple_length (length tables) graph from to are.named there s in
    let at_most : distance_to (table_of (settled graph tables rounds) from) to ≤ length s.walk = below_walks graph tables rounds from to are there is_imp long s.walk s.is_walk in
    omega (arith, short, at_most, far, are.count)

is_distance : (graph : List (ℕ × ℕ)) (tables : List Table) (rounds from to : ℕ) → AreTablesOf graph tables → IsImp (length tables) from → IsImp most_imps to → infinite ≤ rounds
    → IsDistance graph from to (distance_to (table_of (settled graph tables rounds) from) to)
is_distance graph tables rounds from to are there is_imp long = elim (cases_lt (distance_to (table_of (settled graph tables rounds) from) to) infinite) [
  | inl finite ↦
      let h : HasWalk graph from to (distance_to (table_of (settled graph tables rounds) from) to) = has_walk graph tables rounds from to are there is_imp (omega (arith, finite, long)) finite in
      inl record { finite = finite; walk = h.walk; is_walk = h.is_walk; attained = h.long; shortest = below_walks graph tables rounds from to are there is_imp long }
  | inr le ↦
      let far : distance_to (table_of (settled graph tables rounds) from) to ≡ infinite = omega (arith, le, distance-le (table_of (settled graph tables rounds) from) to) in
      inr record { infinite_distance = far; no_walk = unreachable graph tables rounds from to are there is_imp long far }
]

-- the next line leads to an IMP that is one nearer
nearer : (graph : List (ℕ × ℕ)) (tables : List Table) (rounds from to : ℕ) → AreTablesOf graph tables → IsImp (length tables) from → IsImp most_imps to → infinite ≤ rounds
    → 0 < distance_to (table_of (settled graph tables rounds) from) to → distance_to (table_of (settled graph tables rounds) from) to < infinite
    → (port : ℕ) × (next_of (table_of (settled graph tables rounds) from) to ≡ Some port) × IsNearer graph from to (distance_to (table_of (settled graph tables rounds) from) to) port
unfolding settled
nearer graph tables zero from to are there is_imp long some finite = absurd (omega (arith, long))
nearer graph tables (suc rounds) from to are there is_imp long some finite =
    let before : List Table = settled graph tables rounds in
    let t : Table = table_of (one_round graph before) from in
    let kept : AreTablesOf graph before = settled_keeps graph tables rounds are in
    let there_still : IsImp (length before) from = subst (λ (n : ℕ). IsImp n from) (sym (settled-length graph tables rounds)) there in
    let other : to ≡ t.own → ⊥ = λ own. omega (arith, some, distance-own t to own) in
    let line : (port : ℕ) × (next_of t to ≡ Some port) × IsNext t to port = next-line t to other finite in
    let port : ℕ = line.0 in
    let at : port < length (neighbours graph from) = omega (arith, line.2.there, ports_count graph before from kept there_still) in
    let next : ℕ = get_or (neighbours graph from) port 0 in
    let had : heard_distance (get_or t.heard port None) to ≡ distance_to (table_of before next) to = heard_after graph before from port to kept there_still is_imp at in
    let one_less : distance_to (table_of before next) to + 1 ≡ distance_to t to = omega (arith, had, line.2.attains) in
    let h : HasWalk graph next to (distance_to (table_of before next) to) =
    has_walk graph tables rounds next to are (neighbour_is_imp graph tables from port are at) is_imp (omega (arith, one_less, finite, long)) (omega (arith, one_less, finite)) in (
      port,
      line.1,
      (
        at,
        inl record {
          finite = omega (arith, finite);
          walk = h.walk;
          is_walk = h.is_walk;
          attained = omega (arith, h.long, one_less);
          shortest = λ walk is_walk.
              let longer : distance_to t to ≤ length (next ∷ walk) =
              below_walks graph tables (suc rounds) from to are there is_imp long (next ∷ walk) (port_joined graph from port at, is_walk) in
              omega (arith, longer);
        },
      ),
    )

pub right : (graph : List (ℕ × ℕ)) (tables : List Table) (rounds : ℕ) → AreTablesOf graph tables → infinite ≤ rounds
    → (imp : ℕ) → IsImp (length tables) imp → IsRight graph (table_of (settled graph tables rounds) imp)
right graph tables rounds are long imp there =
    let t : Table = table_of (settled graph tables rounds) imp in
    let kept : AreTablesOf graph (settled graph tables rounds) = settled_keeps graph tables rounds are in
    let own : imp ≡ t.own = sym (kept.numbered imp (subst (λ (n : ℕ). IsImp n imp) (sym (settled-length graph tables rounds)) there)) in
    record {
      distances = λ to is_imp. subst (λ (from : ℕ). IsDistance graph from to (distance_to t to)) own (is_distance graph tables rounds imp to are there is_imp long);
      next = λ to is_imp some finite.
          subst (λ (from : ℕ). (port : ℕ) × (next_of t to ≡ Some port) × IsNearer graph from to (distance_to t to) port) own
          (nearer graph tables rounds imp to are there is_imp long some finite);
      itself = λ to nothing. next-own t to (distance-zero t to nothing);
      nowhere = next-nowhere t;
    }
