-- How what ALLs grant is looked up, and what one more adds.
use Rattle.book_judge.proofs.Common.{◌≡◌, ℕ, zero, suc, ◌+◌, ◌<◌, ◌≤◌, ◌-◌, ◌==◌, ◌&&◌, ◌⊎◌, Bool, true, false, if◌then◌else◌, List, [], ◌∷◌, ◌++◌, length, Option, Some, None, refl, ap, sym, subst, ◌∙◌, inl, inr, arith, get_or, get_or_from_slice_get, drop, cases_lt, slice_get_read, slice_get_within, drop_all, drop_more, eqb-true, Crossing, HostMessage, Order, orders_of, Flow, flow_cmp, same_flow, same_flow-refl, same_flow-true, Host, orders_within}
use Rattle.std.specs.Prelude.{◌^◌, min, nat_le, slice_index_or, slice_set}
use Rattle.std.specs.List.{slice_get}
use Rattle.std.specs.List.Sorted.{IsPartitionPoint, IsPartitionedBy}
use Rattle.std.specs.FinMap as map
use Rattle.std.proofs.lemmas.Bool.{le-leb, leb-false, leb-true, lt-leb}
use Rattle.std.proofs.lemmas.List.{get_or_default, length-drop}
use Rattle.host_pairs.specs.Control.{orders_in}
use Rattle.interface.specs.declared.crossing.Crossing.TheVariants as crossing
use Rattle.net_sim.specs.Book.{more, nothing}
use Rattle.promise.specs.declared.life.Amount.{Amount}
use Rattle.book_judge.specs.Inside.Allocations.{Adds, AreHeld, AreLeft, BeginsWith, Falls, Grants, Grows, IsHeld, IsHeldFrom, IsNumbered, IsSupply, SupplyOf, both, by_any, by_crossing, by_grant, by_grants, by_log, capped, data_flow, grants_in, held, with_grant}
use Rattle.book_judge.specs.declared.allocations.Allocations.{Allocations}
use Rattle.book_judge.specs.declared.allocations.Grant.{Grant}
use Rattle.book_judge.specs.declared.allocations.Supply.{Supply}
use Rattle.book_judge.specs.declared.allocations.Total.{Total}
use Rattle.book_judge.proofs.Crossed.Mailboxes.{get_set}
use Rattle.book_judge.proofs.Crossed.Streamed.{IsChanged, changed_at}
use Rattle.book_judge.proofs.Identities.Named.{get_front, get_seam, none_within, same_flow_is}

-- ---- amounts

abbrev pub amount : ℕ → ℕ → Amount
amount messages bits = record { messages = messages; bits = bits }

pub one_amount : (a b : Amount) → a.messages ≡ b.messages → a.bits ≡ b.bits → a ≡ b
one_amount a b e g = ap (λ (m : ℕ). amount m a.bits) e ∙ ap (λ (s : ℕ). amount b.messages s) g

pub both_nothing : (a : Amount) → both nothing a ≡ a
both_nothing a = one_amount (both nothing a) a (omega arith) (omega arith)

pub both_turned : (a b c : Amount) → both a (both b c) ≡ both (both b a) c
both_turned a b c = one_amount (both a (both b c)) (both (both b a) c) (omega arith) (omega arith)

pub both_apart : (a b c : Amount) → both a (both b c) ≡ both (both a b) c
both_apart a b c = one_amount (both a (both b c)) (both (both a b) c) (omega arith) (omega arith)

pub both_other : (a b : Amount) → both a b ≡ both b a
both_other a b = one_amount (both a b) (both b a) (omega arith) (omega arith)

min_more : (n m most : ℕ) → min (min n most + m) most ≡ min (n + m) most
min_more n m most = omega arith

min_none : (most : ℕ) → min 0 most ≡ 0
min_none most = omega arith

pub capped_more : (messages bits : ℕ) (a : Amount) → capped (more messages bits (capped a)) ≡ capped (more messages bits a)
capped_more messages bits a =
    one_amount (capped (more messages bits (capped a))) (capped (more messages bits a)) (min_more a.messages messages (2 ^ 128 - 1)) (min_more a.bits bits (2 ^ 128 - 1))

pub capped_nothing : capped nothing ≡ nothing
capped_nothing = one_amount (capped nothing) nothing (min_none (2 ^ 128 - 1)) (min_none (2 ^ 128 - 1))

-- ---- totals

floor_low : (top floor : ℕ) (ts : List Total) → Falls top floor ts → floor ≤ top
floor_low top floor [] falls = falls
floor_low top floor (t ∷ ts) falls =
    let low : floor ≤ t.place = floor_low t.place floor ts falls.1 in
    let high : t.place ≤ top = falls.0 in
    omega (arith, low, high)

falls_less : (top floor place : ℕ) (ts : List Total) → place ≤ floor → Falls top floor ts → Falls top place ts
falls_less top floor place [] less falls = omega (arith, less, falls)
falls_less top floor place (t ∷ ts) less falls = (falls.0, falls_less t.place floor place ts less falls.1)

falls_more : (top place : ℕ) (ts : List Total) (t : Total) → t.place ≡ place → Falls top place ts → Falls top place (ts ++ t ∷ [])
falls_more top place [] t e falls = (omega (arith, e, falls), omega (arith, e))
falls_more top place (x ∷ ts) t e falls = (falls.0, falls_more x.place place ts t e falls.1)

held_more : (last : Amount) (from top place : ℕ) (ts : List Total) (t : Total) → t.place ≡ place → from ≤ place
    → Falls top place ts → held last from (ts ++ t ∷ []) ≡ t.all
held_more last from top place [] t e less falls =
    ap (λ (b : Bool). if b then t.all else last) (le-leb from t.place (omega (arith, e, less)))
held_more last from top place (x ∷ ts) t e less falls =
    let low : place ≤ x.place = floor_low x.place place ts falls.1 in
    ap (λ (b : Bool). if b then held x.all from (ts ++ t ∷ []) else last) (le-leb from x.place (omega (arith, less, low)))
    ∙ held_more x.all from x.place place ts t e less falls.1

held_same : (last : Amount) (from : ℕ) (ts : List Total) (t : Total) → t.place < from
    → held last from (ts ++ t ∷ []) ≡ held last from ts
held_same last from [] t past = ap (λ (b : Bool). if b then t.all else last) (lt-leb from t.place past)
held_same last from (x ∷ ts) t past = ap (λ (a : Amount). if nat_le from x.place then a else last) (held_same x.all from ts t past)

falls_at : (top floor : ℕ) (ts : List Total) (i : ℕ) (t : Total) → Falls top floor ts → slice_get ts i ≡ Some t → t.place ≤ top
falls_at top floor [] i t falls at = absurd (cc)
falls_at top floor (x ∷ ts) zero t falls at = let one : x ≡ t = cc in subst (λ (u : Total). u.place ≤ top) one falls.0
falls_at top floor (x ∷ ts) (suc i) t falls at =
    let low : t.place ≤ x.place = falls_at x.place floor ts i t falls.1 at in
    let high : x.place ≤ top = falls.0 in
    omega (arith, low, high)

falls_two : (top floor : ℕ) (ts : List Total) (i j : ℕ) (t u : Total) → i ≤ j → Falls top floor ts → slice_get ts i ≡ Some t
    → slice_get ts j ≡ Some u → u.place ≤ t.place
falls_two top floor [] i j t u less falls at also = absurd (cc)
falls_two top floor (x ∷ ts) zero zero t u less falls at also =
    let one : t ≡ u = cc in subst (λ (v : Total). v.place ≤ t.place) one (let same : t.place ≤ t.place = omega arith in same)
falls_two top floor (x ∷ ts) zero (suc j) t u less falls at also =
    let one : x ≡ t = cc in subst (λ (v : Total). u.place ≤ v.place) one (falls_at x.place floor ts j u falls.1 also)
falls_two top floor (x ∷ ts) (suc i) zero t u less falls at also = absurd (omega (arith, less))
falls_two top floor (x ∷ ts) (suc i) (suc j) t u less falls at also = falls_two x.place floor ts i j t u (omega (arith, less)) falls.1 at also

-- what the search finds
pub totals_parted : (ts : List Total) (from top floor : ℕ) → Falls top floor ts → IsPartitionedBy (λ (t : Total). nat_le from t.place) ts
totals_parted ts from top floor falls = λ i j d le less t.
    (let a : slice_get ts i ≡ Some (slice_index_or ts i d) = slice_get_read ts (length ts) i (slice_index_or ts i d) refl (omega (arith, le, less)) (get_or_default ts i d (slice_index_or ts i d) (omega (arith, le, less))) in
    let b : slice_get ts j ≡ Some (slice_index_or ts j d) = slice_get_read ts (length ts) j (slice_index_or ts j d) refl less (get_or_default ts j d (slice_index_or ts j d) less) in
    let low : (slice_index_or ts j d).place ≤ (slice_index_or ts i d).place = falls_two top floor ts i j (slice_index_or ts i d) (slice_index_or ts j d) le falls a b in
    let high : from ≤ (slice_index_or ts j d).place = leb-true from (slice_index_or ts j d).place t in
    le-leb from (slice_index_or ts i d).place (omega (arith, low, high)))

pub held_by : (ts : List Total) (from n : ℕ)
    → IsPartitionPoint (λ (t : Total). nat_le from t.place ≡ true) (λ (t : Total). nat_le from t.place ≡ false) ts n
    → ((i : ℕ) (t : Total) → slice_get ts i ≡ Some t → i < n → from ≤ t.place)
    × ((i : ℕ) (t : Total) → slice_get ts i ≡ Some t → n ≤ i → t.place < from)
held_by ts from n point = (
  λ i t at less. leb-true from t.place (ap (λ (u : Total). nat_le from u.place) (sym (get_or_from_slice_get ts i t t at)) ∙ point.0 i t (omega arith) less),
  λ i t at past. leb-false from t.place (ap (λ (u : Total). nat_le from u.place) (sym (get_or_from_slice_get ts i t t at)) ∙ point.1 i t past (slice_get_within ts i t at)),
)

-- the last of those that are not before a place
pub held_none : (last : Amount) (from : ℕ) (ts : List Total) → ((i : ℕ) (t : Total) → slice_get ts i ≡ Some t → 0 ≤ i → t.place < from)
    → held last from ts ≡ last
held_none last from [] after = refl
held_none last from (t ∷ ts) after = ap (λ (b : Bool). if b then held t.all from ts else last) (lt-leb from t.place (after 0 t refl (omega arith)))

pub held_last : (last : Amount) (from n : ℕ) (ts : List Total) (t : Total)
    → ((i : ℕ) (u : Total) → slice_get ts i ≡ Some u → i < suc n → from ≤ u.place)
    → ((i : ℕ) (u : Total) → slice_get ts i ≡ Some u → suc n ≤ i → u.place < from)
    → slice_get ts n ≡ Some t → held last from ts ≡ t.all
held_last last from n [] t before after at = absurd (cc)
held_last last from zero (x ∷ ts) t before after at =
    let one : x ≡ t = cc in
    ap (λ (b : Bool). if b then held x.all from ts else last) (le-leb from x.place (before 0 x refl (omega arith)))
    ∙ held_none x.all from ts (λ i u e _. after (suc i) u e (omega arith)) ∙ ap (λ (u : Total). u.all) one
held_last last from (suc n) (x ∷ ts) t before after at =
    ap (λ (b : Bool). if b then held x.all from ts else last) (le-leb from x.place (before 0 x refl (omega arith)))
    ∙ held_last x.all from n ts t (λ i u e less. before (suc i) u e (omega (arith, less))) (λ i u e past. after (suc i) u e (omega (arith, past))) at

-- ---- a supply

-- an ALL is counted from its place back
abbrev given : ℕ → ℕ → ℕ → ℕ → Amount
given place messages bits from = if nat_le from place then amount messages bits else nothing

pub supply_same : (was is : ℕ → Amount) (floor : ℕ) (s : Supply) → ((from : ℕ) → was from ≡ is from) → IsSupply was floor s → IsSupply is floor s
supply_same was is floor s same h = record {
  top = h.top;
  falls = h.falls;
  all = λ from low. h.all from low ∙ ap capped (same from);
  since = λ from. h.since from ∙ ap capped (same from);
}

pub supply_less : (granted : ℕ → Amount) (floor place : ℕ) (s : Supply) → place ≤ floor → IsSupply granted floor s → IsSupply granted place s
supply_less granted floor place s less h = record {
  top = h.top;
  falls = falls_less h.top floor place s.totals.items less h.falls;
  all = λ from low. h.all from (omega (arith, low, less));
  since = h.since;
}

pub empty_supply : (granted : ℕ → Amount) (place : ℕ) (s : Supply) → ((from : ℕ) → granted from ≡ nothing) → s.all ≡ nothing
    → s.totals.items ≡ [] → IsSupply granted place s
empty_supply granted place s none all totals =
    let low : place ≤ place = omega arith in
    record {
      top = place;
      falls = subst (λ (ts : List Total). Falls place place ts) (sym totals) low;
      all = λ from _. all ∙ sym capped_nothing ∙ ap capped (sym (none from));
      since = λ from. ap (held nothing from) totals ∙ sym capped_nothing ∙ ap capped (sym (none from));
    }

module _ (place messages bits : ℕ) (old new : Supply) (all : new.all ≡ capped (more messages bits old.all))
    (totals : new.totals.items ≡ old.totals.items ++ record { place = place; all = new.all } ∷ []) (granted : ℕ → Amount)
    (h : IsSupply granted place old) where
  abbrev last : Total
  last = record { place = place; all = new.all }

  abbrev whole : ℕ → Amount
  whole from = both (given place messages bits from) (granted from)

  all_more : (from : ℕ) → from ≤ place → new.all ≡ capped (whole from)
  all_more from low =
      all ∙ ap (λ (a : Amount). capped (more messages bits a)) (h.all from low) ∙ capped_more messages bits (granted from)
      ∙ ap (λ (b : Bool). capped (both (if b then amount messages bits else nothing) (granted from))) (sym (le-leb from place low))

  since_more : (from : ℕ) → (place < from) ⊎ (from ≤ place) → held nothing from new.totals.items ≡ capped (whole from)
  since_more from (inl past) =
      ap (held nothing from) totals ∙ held_same nothing from old.totals.items last past ∙ h.since from
      ∙ ap capped (sym (both_nothing (granted from)))
      ∙ ap (λ (b : Bool). capped (both (if b then amount messages bits else nothing) (granted from))) (sym (lt-leb from place past))
  since_more from (inr low) =
      ap (held nothing from) totals ∙ held_more nothing from h.top place old.totals.items last refl low h.falls ∙ all_more from low

  supply_whole : IsSupply whole place new
  supply_whole = record {
    top = h.top;
    falls = subst (λ (ts : List Total). Falls h.top place ts) (sym totals) (falls_more h.top place old.totals.items last refl h.falls);
    all = all_more;
    since = λ from. since_more from (cases_lt place from);
  }

pub supply_more : (place messages bits : ℕ) (old new : Supply) → new.all ≡ capped (more messages bits old.all)
    → new.totals.items ≡ old.totals.items ++ record { place = place; all = new.all } ∷ [] → Grows place messages bits old new
supply_more place messages bits old new all totals granted h = supply_whole place messages bits old new all totals granted h

-- what is looked up
pub since_none : (granted : ℕ → Amount) (floor from count : ℕ) (s : Supply) → IsSupply granted floor s
    → IsHeldFrom s.totals.items from count → count ≡ 0 → nothing ≡ capped (granted from)
since_none granted floor from count s h is none =
    let parts = is.parts h.top floor h.falls in
    sym (held_none nothing from s.totals.items (λ i t at _. parts.1 i t at (omega (arith, none)))) ∙ h.since from

pub since_last : (granted : ℕ → Amount) (floor from count n : ℕ) (s : Supply) (t : Total) → IsSupply granted floor s
    → IsHeldFrom s.totals.items from count → count ≡ suc n → slice_get s.totals.items n ≡ Some t → t.all ≡ capped (granted from)
since_last granted floor from count n s t h is more_than at =
    let parts = is.parts h.top floor h.falls in
    sym
    (held_last nothing from n s.totals.items t (λ i u e less. parts.0 i u e (omega (arith, less, more_than)))
    (λ i u e past. parts.1 i u e (omega (arith, past, more_than))) at) ∙ h.since from

-- ---- all supplies

pub same_held : (place : ℕ) (was is : Grants) (a : Allocations) → ((f : Flow) (from : ℕ) → was f from ≡ is f from)
    → AreHeld place was a → AreHeld place is a
same_held place was is a same h = record {
  supplies = λ f. by f (map.get a.numbers f) (h.supplies f);
  apart = h.apart;
} where
  by : (f : Flow) (o : Option ℕ) → SupplyOf (was f) place o a.supplies.items → SupplyOf (is f) place o a.supplies.items
  by f None k = λ from. sym (same f from) ∙ k from
  by f (Some n) k = (k.0, k.1, supply_same (was f) (is f) place k.0 (same f) k.2)

pub held_less : (floor place : ℕ) (granted : Grants) (a : Allocations) → place ≤ floor → AreHeld floor granted a → AreHeld place granted a
held_less floor place granted a less h = record {
  supplies = λ f. by f (map.get a.numbers f) (h.supplies f);
  apart = h.apart;
} where
  by : (f : Flow) (o : Option ℕ) → SupplyOf (granted f) floor o a.supplies.items → SupplyOf (granted f) place o a.supplies.items
  by f None k = k
  by f (Some n) k = (k.0, k.1, supply_less (granted f) floor place k.0 less k.2)

pub numbered_new : (n : ℕ) (f : Flow) (old new : Allocations) (s : Supply) → map.get old.numbers f ≡ None
    → n ≡ length old.supplies.items → new.numbers ≡ map.insert old.numbers f n → new.supplies.items ≡ old.supplies.items ++ s ∷ []
    → s.all ≡ nothing → s.totals.items ≡ [] → IsNumbered n f old new
numbered_new n f old new s none last numbers supplies all totals place granted h = (
  record {
    supplies = λ g. subst (λ (o : Option ℕ). SupplyOf (granted g) place o new.supplies.items) (sym (get_is g)) (by g (same_flow g f) refl);
    apart = λ g k i a b. one g k i (same_flow g f) (same_flow k f) refl refl (sym (get_is g) ∙ a) (sym (get_is k) ∙ b);
  },
  get_is f ∙ ap (λ (b : Bool). if b then Some n else map.get old.numbers f) (same_flow-refl f),
) where
  get_is : (g : Flow) → map.get new.numbers g ≡ (if same_flow g f then Some n else map.get old.numbers g)
  get_is g = ap (λ (m : map.FinMap flow_cmp ℕ). map.get m g) numbers ∙ get_set old.numbers f n g

  nothing_yet : (from : ℕ) → granted f from ≡ nothing
  nothing_yet = subst (λ (o : Option ℕ). SupplyOf (granted f) place o old.supplies.items) none (h.supplies f)

  at : (g : Flow) (o : Option ℕ) → SupplyOf (granted g) place o old.supplies.items → SupplyOf (granted g) place o new.supplies.items
  at g None k = k
  at g (Some i) k =
      (k.0, subst (λ (xs : List Supply). slice_get xs i ≡ Some k.0) (sym supplies) (get_front old.supplies.items s k.0 i k.1), k.2)

  by : (g : Flow) (v : Bool) → same_flow g f ≡ v
      → SupplyOf (granted g) place (if v then Some n else map.get old.numbers g) new.supplies.items
  by g true e = (
    s,
    subst (λ (xs : List Supply). slice_get xs n ≡ Some s) (sym supplies) (ap (λ (i : ℕ). slice_get (old.supplies.items ++ s ∷ []) i) last ∙ get_seam old.supplies.items s),
    empty_supply (granted g) place s (λ from. ap (λ (k : Flow). granted k from) (same_flow-true g f e) ∙ nothing_yet from) all totals,
  )
  by g false e = at g (map.get old.numbers g) (h.supplies g)

  -- numbers that there were before are less
  older : (g : Flow) (i : ℕ) → map.get old.numbers g ≡ Some i → i < n
  older g i e =
      let k : SupplyOf (granted g) place (Some i) old.supplies.items = subst (λ (o : Option ℕ). SupplyOf (granted g) place o old.supplies.items) e (h.supplies g) in
      let less : i < length old.supplies.items = slice_get_within old.supplies.items i k.0 k.1 in
      omega (arith, less, last)

  one : (g k : Flow) (i : ℕ) (v w : Bool) → same_flow g f ≡ v → same_flow k f ≡ w
      → (if v then Some n else map.get old.numbers g) ≡ Some i → (if w then Some n else map.get old.numbers k) ≡ Some i → g ≡ k
  one g k i true true e u a b = same_flow-true g f e ∙ sym (same_flow-true k f u)
  one g k i true false e u a b = let same : n ≡ i = cc in let less : i < n = older k i b in absurd (omega (arith, same, less))
  one g k i false true e u a b = let same : n ≡ i = cc in let less : i < n = older g i a in absurd (omega (arith, same, less))
  one g k i false false e u a b = h.apart g k i a b

-- ---- one ALL more

module _ (place : ℕ) (host peer : Host) (g : Grant) (n : ℕ) (mid new : Allocations) (was is : Supply) (granted : Grants)
    (h : AreHeld place granted mid) (number : map.get mid.numbers (data_flow host peer g.link) ≡ Some n)
    (found : was ≡ get_or mid.supplies.items n was) (numbers : new.numbers ≡ mid.numbers)
    (supplies : new.supplies.items ≡ slice_set mid.supplies.items n is) (grows : Grows place g.messages g.bits was is) where
  abbrev flow : Flow
  flow = data_flow host peer g.link

  abbrev with_it : Grants
  with_it f from = both (by_grant place host peer g f from) (granted f from)

  one_map : (f : Flow) → map.get new.numbers f ≡ map.get mid.numbers f
  one_map f = ap (λ (m : map.FinMap flow_cmp ℕ). map.get m f) numbers

  there : SupplyOf (granted flow) place (Some n) mid.supplies.items
  there = subst (λ (o : Option ℕ). SupplyOf (granted flow) place o mid.supplies.items) number (h.supplies flow)

  less : n < length mid.supplies.items
  less = slice_get_within mid.supplies.items n there.0 there.1

  changed : IsChanged n is mid.supplies.items new.supplies.items
  changed = subst (λ (xs : List Supply). IsChanged n is mid.supplies.items xs) (sym supplies) (changed_at mid.supplies.items n is less)

  had : IsSupply (granted flow) place was
  had =
      let at : slice_get mid.supplies.items n ≡ Some was = slice_get_read mid.supplies.items (length mid.supplies.items) n was refl less found in
      let same : there.0 ≡ was = (let some : Some there.0 ≡ Some was = sym there.1 ∙ at in cc) in
      subst (λ (s : Supply). IsSupply (granted flow) place s) same there.2

  abbrev test : Bool → ℕ → Amount
  test b from = if nat_le from place && b then amount g.messages g.bits else nothing

  and_all : (b : Bool) → (b && true) ≡ b
  and_all true = refl
  and_all false = refl

  and_none : (b : Bool) → (b && false) ≡ false
  and_none true = refl
  and_none false = refl

  beside : (f : Flow) (from : ℕ) → same_flow f flow ≡ false → with_it f from ≡ granted f from
  beside f from e =
      ap (λ (b : Bool). both (test b from) (granted f from)) e
      ∙ ap (λ (b : Bool). both (if b then amount g.messages g.bits else nothing) (granted f from)) (and_none (nat_le from place))
      ∙ both_nothing (granted f from)

  on : (f : Flow) (from : ℕ) → same_flow f flow ≡ true → both (given place g.messages g.bits from) (granted flow from) ≡ with_it f from
  on f from e =
      ap (λ (b : Bool). both (if b then amount g.messages g.bits else nothing) (granted flow from)) (sym (and_all (nat_le from place)))
      ∙ ap (λ (b : Bool). both (test b from) (granted flow from)) (sym e)
      ∙ ap (λ (k : Flow). both (by_grant place host peer g f from) (granted k from)) (sym (same_flow-true f flow e))

  apart_from : (f : Flow) (i : ℕ) → same_flow f flow ≡ false → map.get mid.numbers f ≡ Some i → i ≡ n → ⊥
  apart_from f i e k same =
      let one : f ≡ flow = h.apart f flow n (k ∙ ap (λ (x : ℕ). Some x) same) number in
      let wrong : true ≡ false = sym (same_flow_is f flow (sym one)) ∙ e in
      cc

  other_flow : (f : Flow) (o : Option ℕ) → same_flow f flow ≡ false → map.get mid.numbers f ≡ o
      → SupplyOf (granted f) place o mid.supplies.items → SupplyOf (with_it f) place o new.supplies.items
  other_flow f None e k none = λ from. beside f from e ∙ none from
  other_flow f (Some i) e k some = (
    some.0,
    changed.others i (λ same. apart_from f i e k same) ∙ some.1,
    supply_same (granted f) (with_it f) place some.0 (λ from. sym (beside f from e)) some.2,
  )

  each_flow : (f : Flow) (v : Bool) → same_flow f flow ≡ v → SupplyOf (with_it f) place (map.get mid.numbers f) new.supplies.items
  each_flow f true e =
      subst (λ (o : Option ℕ). SupplyOf (with_it f) place o new.supplies.items) (sym (ap (map.get mid.numbers) (same_flow-true f flow e) ∙ number))
      (is, changed.here, supply_same (λ from. both (given place g.messages g.bits from) (granted flow from)) (with_it f) place is (λ from. on f from e) (grows (granted flow) had))
  each_flow f false e = other_flow f (map.get mid.numbers f) e refl (h.supplies f)

  held_with : AreHeld place with_it new
  held_with = record {
    supplies = λ f. subst (λ (o : Option ℕ). SupplyOf (with_it f) place o new.supplies.items) (sym (one_map f)) (each_flow f (same_flow f flow) refl);
    apart = λ f k i a b. h.apart f k i (sym (one_map f) ∙ a) (sym (one_map k) ∙ b);
  }

pub grant_added : (place : ℕ) (host peer : Host) (g : Grant) (n : ℕ) (old mid new : Allocations) (was is : Supply)
    → IsNumbered n (data_flow host peer g.link) old mid → was ≡ get_or mid.supplies.items n was → new.numbers ≡ mid.numbers
    → new.supplies.items ≡ slice_set mid.supplies.items n is → Grows place g.messages g.bits was is
    → Adds place (by_grant place host peer g) old new
grant_added place host peer g n old mid new was is numbered found numbers supplies grows granted before =
    (let m = numbered place granted before in held_with place host peer g n mid new was is granted m.0 m.1 found numbers supplies grows)

pub number_there : (place n : ℕ) (f : Flow) (old new : Allocations) → IsNumbered n f old new → IsHeld place old
    → n < length new.supplies.items
number_there place n f old new numbered held =
    let m = numbered place held.0 held.1 in
    let k : SupplyOf (held.0 f) place (Some n) new.supplies.items =
    subst (λ (o : Option ℕ). SupplyOf (held.0 f) place o new.supplies.items) m.1 (m.0.supplies f) in
    slice_get_within new.supplies.items n k.0 k.1

pub none_held : (place : ℕ) (a : Allocations) → a.numbers ≡ map.empty → AreHeld place (by_log place []) a
none_held place a e = record {
  supplies = λ f. subst (λ (o : Option ℕ). SupplyOf (by_log place [] f) place o a.supplies.items) (sym (none f)) (λ from. refl);
  apart = λ f g n x y. absurd (let wrong : None ≡ Some n = sym (none f) ∙ x in cc);
} where
  none : (f : Flow) → map.get a.numbers f ≡ None
  none f = ap (λ (m : map.FinMap flow_cmp ℕ). map.get m f) e ∙ map.get-empty flow_cmp f

pub any_added : (place : ℕ) (host peer : Host) (a : Allocations) → Adds place (by_any place host peer None) a a
any_added place host peer a granted h = same_held place granted (λ f from. both nothing (granted f from)) a (λ f from. sym (both_nothing (granted f from))) h

-- ---- the ALLs of a text

-- with what is still to be read, all is granted that is to be
pub record AreOwed (place : ℕ) (host peer : Host) (octets : List ℕ) (whole : Grants) (a : Allocations) : Type 0 where
  pub most : ℕ
  pub enough : length octets ≤ most
  pub left : AreLeft place host peer (grants_in (orders_within most octets)) whole a

left_next : (place : ℕ) (host peer : Host) (o : Option Grant) (grants : List Grant) (whole : Grants) (old new : Allocations)
    → AreLeft place host peer (with_grant o grants) whole old → Adds place (by_any place host peer o) old new
    → AreLeft place host peer grants whole new
left_next place host peer None grants whole old new l adds = record {
  granted = λ f from. both nothing (l.granted f from);
  same = λ f from. ap (λ (a : Amount). both (by_grants place host peer grants f from) a) (both_nothing (l.granted f from)) ∙ l.same f from;
  held = adds l.granted l.held;
}
left_next place host peer (Some g) grants whole old new l adds = record {
  granted = λ f from. both (by_grant place host peer g f from) (l.granted f from);
  same = λ f from.
      both_turned (by_grants place host peer grants f from) (by_grant place host peer g f from) (l.granted f from) ∙ l.same f from;
  held = adds l.granted l.held;
}

pub owed_next : (place : ℕ) (host peer : Host) (octets rest : List ℕ) (whole : Grants) (old new : Allocations) (o : Option Grant) (read : ℕ)
    → AreOwed place host peer octets whole old → 0 < length octets → 0 < read → read ≤ length octets → rest ≡ drop read octets
    → BeginsWith octets o read → Adds place (by_any place host peer o) old new → AreOwed place host peer rest whole new
owed_next place host peer octets rest whole old new o read are some reads there e begins adds = by are.most refl where
  by : (most : ℕ) → are.most ≡ most → AreOwed place host peer rest whole new
  by zero m = absurd (let enough : length octets ≤ are.most = are.enough in omega (arith, enough, some, m))
  by (suc n) m = record {
    most = n;
    enough =
        (let enough : length octets ≤ are.most = are.enough in
        let short : length rest ≡ length octets - read = ap length e ∙ length-drop read octets in
        omega (arith, short, enough, reads, there, m));
    left =
        subst (λ (os : List ℕ). AreLeft place host peer (grants_in (orders_within n os)) whole new) (sym e)
        (left_next place host peer o (grants_in (orders_within n (drop read octets))) whole old new
        (subst (λ (gs : List Grant). AreLeft place host peer gs whole old) (begins n)
        (subst (λ (k : ℕ). AreLeft place host peer (grants_in (orders_within k octets)) whole old) (let more_than : are.most ≡ 1 + n = omega (arith, m) in more_than) are.left)) adds);
  }

pub owed_none : (place : ℕ) (host peer : Host) (octets : List ℕ) (whole : Grants) (a : Allocations) → octets ≡ []
    → AreOwed place host peer octets whole a → AreHeld place whole a
owed_none place host peer octets whole a none are =
    same_held place are.left.granted whole a
    (λ f from.
    sym (both_nothing (are.left.granted f from))
    ∙ ap (λ (gs : List Grant). both (by_grants place host peer gs f from) (are.left.granted f from)) (sym empty)
    ∙ are.left.same f from) are.left.held where
      empty : grants_in (orders_within are.most octets) ≡ []
      empty = ap (λ (os : List ℕ). grants_in (orders_within are.most os)) none ∙ ap grants_in (none_within are.most)

pub owed_all : (place : ℕ) (host peer : Host) (octets : List ℕ) (granted : Grants) (a : Allocations)
    → AreHeld place granted a
    → AreOwed place host peer octets (λ f from. both (by_grants place host peer (grants_in (orders_within (length octets) octets)) f from) (granted f from)) a
owed_all place host peer octets granted a h = record {
  most = length octets;
  enough = omega arith;
  left = record { granted = granted; same = λ f from. refl; held = h };
}

pub owed_text : (place : ℕ) (host peer : Host) (octets : List ℕ) (orders : List Order) (granted : Grants) (a : Allocations)
    → orders ≡ orders_in octets → AreHeld place granted a
    → AreOwed place host peer octets (λ f from. both (by_grants place host peer (grants_in orders) f from) (granted f from)) a
owed_text place host peer octets orders granted a e h =
    subst (λ (os : List Order). AreOwed place host peer octets (λ f from. both (by_grants place host peer (grants_in os) f from) (granted f from)) a) (sym e)
    (owed_all place host peer octets granted a h)

-- what is no control message grants nothing
pub none_added : (place : ℕ) (host peer : Host) (orders : List Order) (a : Allocations) → grants_in orders ≡ []
    → Adds place (by_grants place host peer (grants_in orders)) a a
none_added place host peer orders a none granted h =
    same_held place granted (λ f from. both (by_grants place host peer (grants_in orders) f from) (granted f from)) a
    (λ f from. sym (both_nothing (granted f from)) ∙ ap (λ (gs : List Grant). both (by_grants place host peer gs f from) (granted f from)) (sym none)) h

-- ---- a crossing

-- what is granted may be written otherwise
pub adds_same : (place : ℕ) (was is : Grants) (old new : Allocations) → ((f : Flow) (from : ℕ) → was f from ≡ is f from)
    → Adds place was old new → Adds place is old new
adds_same place was is old new same adds granted h =
    same_held place (λ f from. both (was f from) (granted f from)) (λ f from. both (is f from) (granted f from)) new
    (λ f from. ap (λ (a : Amount). both a (granted f from)) (same f from)) (adds granted h)

pub on_control : (place : ℕ) (m : HostMessage) (old new : Allocations) → (0 == m.flow.link.0) ≡ true
    → Adds place (by_grants place m.flow.destination m.flow.source (grants_in (orders_of m.text))) old new
    → Adds place (by_crossing place (crossing.In m)) old new
on_control place m old new e adds =
    adds_same place (by_grants place m.flow.destination m.flow.source (grants_in (orders_of m.text))) (by_crossing place (crossing.In m)) old new
    (λ f from. ap (λ (b : Bool). if b then by_grants place m.flow.destination m.flow.source (grants_in (orders_of m.text)) f from else nothing) (sym e)) adds

-- ---- a log

pub log_next : (place p : ℕ) (log : List Crossing) (c : Crossing) (old new : Allocations) → place ≡ suc p → p < length log
    → c ≡ get_or log p c → AreHeld place (by_log place (drop place log)) old → Adds p (by_crossing p c) old new
    → AreHeld p (by_log p (drop p log)) new
log_next place p log c old new e less at h adds =
    subst (λ (cs : List Crossing). AreHeld p (by_log p cs) new) (sym (drop_more log p c less ∙ ap (λ (d : Crossing). d ∷ drop (p + 1) log) (sym at) ∙ ap (λ (k : ℕ). c ∷ drop k log) (let next : p + 1 ≡ suc p = omega arith in next)))
    (adds (by_log (suc p) (drop (suc p) log))
    (held_less (suc p) p (by_log (suc p) (drop (suc p) log)) old (omega arith)
    (subst (λ (k : ℕ). AreHeld k (by_log k (drop k log)) old) e h)))

pub held_before : (place p : ℕ) (log : List Crossing) (a : Allocations) → p ≤ place
    → AreHeld place (by_log place (drop place log)) a → IsHeld p a
held_before place p log a less h = (by_log place (drop place log), held_less place p (by_log place (drop place log)) a less h)

pub log_start : (place : ℕ) (log : List Crossing) (a : Allocations) → length log ≤ place
    → ((p : ℕ) → AreHeld p (by_log p []) a) → AreHeld place (by_log place (drop place log)) a
log_start place log a long h = subst (λ (cs : List Crossing). AreHeld place (by_log place cs) a) (sym (drop_all place log long)) (h place)

-- ---- what is granted from a place on

pub since_there : (log : List Crossing) (a : Allocations) (f : Flow) (o : Option ℕ) (n from : ℕ) (s : Supply) (found : Amount)
    → AreHeld 0 (by_log 0 log) a → o ≡ map.get a.numbers f → o ≡ Some n → slice_get a.supplies.items n ≡ Some s
    → ((granted : ℕ → Amount) (floor : ℕ) → IsSupply granted floor s → found ≡ capped (granted from))
    → found ≡ capped (by_log 0 log f from)
since_there log a f o n from s found h get is at looked =
    let k : SupplyOf (by_log 0 log f) 0 (Some n) a.supplies.items = subst (λ (p : Option ℕ). SupplyOf (by_log 0 log f) 0 p a.supplies.items) (sym get ∙ is) (h.supplies f) in
    let one : k.0 ≡ s = (let same : Some k.0 ≡ Some s = sym k.1 ∙ at in cc) in
    looked (by_log 0 log f) 0 (subst (λ (x : Supply). IsSupply (by_log 0 log f) 0 x) one k.2)

pub since_past : (log : List Crossing) (a : Allocations) (f : Flow) (o : Option ℕ) (n : ℕ) → AreHeld 0 (by_log 0 log) a
    → o ≡ map.get a.numbers f → o ≡ Some n → length a.supplies.items ≤ n → ⊥
since_past log a f o n h get is past =
    let k : SupplyOf (by_log 0 log f) 0 (Some n) a.supplies.items = subst (λ (p : Option ℕ). SupplyOf (by_log 0 log f) 0 p a.supplies.items) (sym get ∙ is) (h.supplies f) in
    let less : n < length a.supplies.items = slice_get_within a.supplies.items n k.0 k.1 in
    omega (arith, less, past)

pub since_unknown : (log : List Crossing) (a : Allocations) (f : Flow) (o : Option ℕ) (from : ℕ) → AreHeld 0 (by_log 0 log) a
    → o ≡ map.get a.numbers f → o ≡ None → nothing ≡ capped (by_log 0 log f from)
since_unknown log a f o from h get is =
    let none : (k : ℕ) → by_log 0 log f k ≡ nothing = subst (λ (p : Option ℕ). SupplyOf (by_log 0 log f) 0 p a.supplies.items) (sym get ∙ is) (h.supplies f) in
    sym capped_nothing ∙ ap capped (sym (none from))

pub none_left : (xs : List ℕ) → true ≡ (length xs == 0) → xs ≡ []
none_left [] e = refl
none_left (x ∷ xs) e = absurd (let none : length (x ∷ xs) ≡ 0 = eqb-true (length (x ∷ xs)) 0 (sym e) in omega (arith, none))

pub not_none : (n : ℕ) → (n ≡ 0 → ⊥) → n ≡ suc (n - 1)
not_none zero some = absurd (some refl)
not_none (suc n) some = omega arith
