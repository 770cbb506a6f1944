-- Walks without an IMP twice.
use Rattle.std.proofs.Common.{◌≡◌, ℕ, suc, ◌<◌, ◌≤◌, Bool, true, false, List, [], ◌∷◌, length, get_or, refl, sym, arith, inl, inr, subst, All, eqb, ◌||◌}
use Rattle.std.specs.List.{IsDistinct, AllByRecursion, list_any}
use Rattle.std.proofs.lemmas.Bool.{eqb-true}
use Rattle.std.proofs.lemmas.Map.Steps.{length-le_from_distinct_below}
use Rattle.routing.specs.Walks.{AreJoined, IsWalk}
use Rattle.routing.specs.Settle.{IsImp}

-- the ends of lines are IMPs
pub named_ends : (count : ℕ) (graph : List (ℕ × ℕ)) (a b : ℕ) → All (λ line. IsImp count line.0 × IsImp count line.1) graph → AreJoined graph a b → IsImp count b
named_ends count graph a b named (inl l) =
    let line : (ℕ × ℕ) = get_or graph l.0 (a, b) in
    let ends : IsImp count line.0 × IsImp count line.1 = named l.0 (a, b) l.1 in
    subst (λ (line : ℕ × ℕ). IsImp count line.1) l.2 ends.1
named_ends count graph a b named (inr l) =
    let line : (ℕ × ℕ) = get_or graph l.0 (b, a) in
    let ends : IsImp count line.0 × IsImp count line.1 = named l.0 (b, a) l.1 in
    subst (λ (line : ℕ × ℕ). IsImp count line.0) l.2 ends.0

-- a walk that meets no IMP twice
pub record IsSimple (graph : List (ℕ × ℕ)) (from to : ℕ) : Type 0 where
  pub walk : List ℕ
  pub is_walk : IsWalk graph from walk to
  pub distinct : IsDistinct eqb (from ∷ walk)

-- an IMP that is none of these
none_pass_by : (t : Bool) (imp x : ℕ) (imps : List ℕ) → eqb imp x ≡ t → (list_any (eqb imp) imps ≡ false → AllByRecursion (λ other. eqb imp other ≡ false) imps)
    → (t || list_any (eqb imp) imps) ≡ false → AllByRecursion (λ other. eqb imp other ≡ false) (x ∷ imps)
none_pass_by true imp x imps is rest e = absurd cc
none_pass_by false imp x imps is rest e = (is, rest e)

none_pass : (imp : ℕ) (imps : List ℕ) → list_any (eqb imp) imps ≡ false → AllByRecursion (λ other. eqb imp other ≡ false) imps
none_pass imp [] e = tt
none_pass imp (x ∷ imps) e = none_pass_by (eqb imp x) imp x imps refl (λ e. none_pass imp imps e) e

-- a simple walk that comes through an IMP, from there on
cut_by : (t : Bool) (graph : List (ℕ × ℕ)) (imp from : ℕ) (walk : List ℕ) (to : ℕ) → eqb imp from ≡ t → (list_any (eqb imp) walk ≡ true → IsSimple graph imp to)
    → (t || list_any (eqb imp) walk) ≡ true → IsWalk graph from walk to → IsDistinct eqb (from ∷ walk) → IsSimple graph imp to
cut_by true graph imp from walk to here later e is_walk distinct =
    subst (λ (imp : ℕ). IsSimple graph imp to) (sym (eqb-true imp from here)) record { walk = walk; is_walk = is_walk; distinct = distinct }
cut_by false graph imp from walk to here later e is_walk distinct = later e

cut : (graph : List (ℕ × ℕ)) (imp from : ℕ) (walk : List ℕ) (to : ℕ) → list_any (eqb imp) (from ∷ walk) ≡ true → IsWalk graph from walk to → IsDistinct eqb (from ∷ walk) → IsSimple graph imp to
unfolding IsDistinct
cut graph imp from [] to e is_walk distinct = cut_by (eqb imp from) graph imp from [] to refl (λ e. absurd cc) e is_walk distinct
cut graph imp from (next ∷ walk) to e is_walk distinct =
    cut_by (eqb imp from) graph imp from (next ∷ walk) to refl (λ e. cut graph imp next walk to e is_walk.1 distinct.1) e is_walk distinct

-- one more IMP before a simple walk
lengthened : (t : Bool) (graph : List (ℕ × ℕ)) (from next to : ℕ) → AreJoined graph from next → (s : IsSimple graph next to) → list_any (eqb from) (next ∷ s.walk) ≡ t → IsSimple graph from to
unfolding IsDistinct
lengthened true graph from next to joined s e = cut graph from next s.walk to e s.is_walk s.distinct
lengthened false graph from next to joined s e = record { walk = next ∷ s.walk; is_walk = (joined, s.is_walk); distinct = (none_pass from (next ∷ s.walk) e, s.distinct) }

pub simple_walk : (graph : List (ℕ × ℕ)) (from : ℕ) (walk : List ℕ) (to : ℕ) → IsWalk graph from walk to → IsSimple graph from to
unfolding IsDistinct
simple_walk graph from [] to e = record { walk = []; is_walk = e; distinct = (tt, tt) }
simple_walk graph from (next ∷ walk) to (joined, rest) =
    let s : IsSimple graph next to = simple_walk graph next walk to rest in
    lengthened (list_any (eqb from) (next ∷ s.walk)) graph from next to joined s refl

-- each IMP on a walk is one of the network's
on_walk_by : (t : Bool) (count from : ℕ) (walk : List ℕ) (imp : ℕ) → IsImp count from → eqb imp from ≡ t → (list_any (eqb imp) walk ≡ true → IsImp count imp)
    → (t || list_any (eqb imp) walk) ≡ true → IsImp count imp
on_walk_by true count from walk imp there here later e = subst (λ (imp : ℕ). IsImp count imp) (sym (eqb-true imp from here)) there
on_walk_by false count from walk imp there here later e = later e

on_walk : (count : ℕ) (graph : List (ℕ × ℕ)) (from : ℕ) (walk : List ℕ) (to : ℕ) → All (λ line. IsImp count line.0 × IsImp count line.1) graph → IsImp count from → IsWalk graph from walk to
    → (imp : ℕ) → list_any (eqb imp) (from ∷ walk) ≡ true → IsImp count imp
on_walk count graph from [] to named there is_walk imp e = on_walk_by (eqb imp from) count from [] imp there refl (λ e. absurd cc) e
on_walk count graph from (next ∷ walk) to named there is_walk imp e =
    on_walk_by (eqb imp from) count from (next ∷ walk) imp there refl
    (λ e. on_walk count graph next walk to named (named_ends count graph from next named is_walk.0) is_walk.1 imp e) e

-- zero is no IMP
zero_is_none_by : (t : Bool) (count : ℕ) (imps : List ℕ) → ((imp : ℕ) → list_any (eqb imp) imps ≡ true → IsImp count imp) → list_any (eqb 0) imps ≡ t → t ≡ false
zero_is_none_by false count imps are e = refl
zero_is_none_by true count imps are e = absurd (omega (arith, (are 0 e).0))

zero_is_none : (count : ℕ) (imps : List ℕ) → ((imp : ℕ) → list_any (eqb imp) imps ≡ true → IsImp count imp) → list_any (eqb 0) imps ≡ false
zero_is_none count imps are = zero_is_none_by (list_any (eqb 0) imps) count imps are refl

below_by : (t : Bool) (count imp : ℕ) (imps : List ℕ) → ((imp : ℕ) → list_any (eqb imp) imps ≡ true → IsImp count imp) → eqb imp 0 ≡ t → (t || list_any (eqb imp) imps) ≡ true → imp < suc count
below_by true count imp imps are e any = omega (arith, eqb-true imp 0 e)
below_by false count imp imps are e any = omega (arith, (are imp any).1)

-- a simple walk has fewer lines than there are IMPs
pub simple_length : (count : ℕ) (graph : List (ℕ × ℕ)) (from to : ℕ) → All (λ line. IsImp count line.0 × IsImp count line.1) graph → IsImp count from → (s : IsSimple graph from to) → length s.walk < count
unfolding IsDistinct
simple_length count graph from to named there s =
    let imps : List ℕ = from ∷ s.walk in
    let are : (imp : ℕ) → list_any (eqb imp) imps ≡ true → IsImp count imp = on_walk count graph from s.walk to named there s.is_walk in
    let most : length (0 ∷ imps) ≤ suc count =
    length-le_from_distinct_below (0 ∷ imps) (suc count) (none_pass 0 imps (zero_is_none count imps are), s.distinct)
    (λ imp any. below_by (eqb imp 0) count imp imps are refl any) in
    omega (arith, most)
