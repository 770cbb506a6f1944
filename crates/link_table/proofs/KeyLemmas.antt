-- The map that a list of entries makes.
use Rattle.std.proofs.Common.{◌≡◌, ℕ, Bool, true, false, not, List, [], ◌∷◌, ◌||◌, None, refl, ap, sym, ◌∙◌, cond, map, length, arith}
use Rattle.std.specs.List.{list_any, filter}
use Rattle.std.specs.declared.cmp.Ordering.{Ordering}
use Rattle.std.specs.declared.cmp.Ordering.TheVariants.{Less, Equal, Greater}
use Rattle.std.specs.FinMap.{find, from_entries, same_map, get-from_entries}
use Rattle.interface.specs.declared.address.Flow.{Flow}
use Rattle.std.specs.FinMap.Entries.{find-where_key, put, by_order}
use Rattle.std.specs.FinMap.{entries, entries-insert, get-retain_keys, empty, len-entries, len-empty}
use Rattle.std.specs.Map.{keys_of}
use Rattle.interface.proofs.lemmas.{exact_flows, flows_total}
use Rattle.link_table.specs.Keys.{flow_cmp, is_from, drop_from, has_from}

-- flows that compare alike are from the same IMP
from_alike : (imp : ℕ) (f g : Flow) → flow_cmp f g ≡ Equal → is_from imp g ≡ is_from imp f
from_alike imp f g e = ap (is_from imp) (sym (exact_flows f g e))

-- the map of the entries that are kept
pub dropped : {V : Type 0} (imp : ℕ) (es ds : List (Flow × V)) → ds ≡ filter (λ e. not (is_from imp e.0)) es → from_entries {R = flow_cmp} ds ≡ drop_from imp (from_entries es)
dropped imp es ds h = same_map flows_total exact_flows _ _ (λ g.
    get-from_entries flows_total ds g ∙ ap (find flow_cmp g) h
    ∙ find-where_key flow_cmp (λ f. not (is_from imp f)) g (λ f e. ap not (from_alike imp g f e)) es
    ∙ ap (λ o. cond (not (is_from imp g)) o None) (sym (get-from_entries flows_total es g))
    ∙ sym (get-retain_keys (from_entries es) (λ f. not (is_from imp f)) g (λ f e. ap not (from_alike imp g f e))))

-- the tests of two keys, one before the other
or_twice : (a b rest : Bool) → b ≡ a → (b || rest) ≡ (a || (b || rest))
or_twice true true rest e = refl
or_twice false false rest e = refl
or_twice true false rest e = absurd (cc)
or_twice false true rest e = absurd (cc)

or_turned : (a b rest : Bool) → (b || (a || rest)) ≡ (a || (b || rest))
or_turned true true rest = refl
or_turned false false rest = refl
or_turned true false rest = refl
or_turned false true rest = refl

-- whether an entry's flow is from an IMP
any_from : {V : Type 0} → ℕ → List (Flow × V) → Bool
any_from imp es = list_any (is_from imp) (map (λ e. e.0) es)

-- one more entry, put in its place, is one more to ask
any_put : {V : Type 0} (imp : ℕ) (f : Flow) (v : V) (es : List (Flow × V)) → any_from imp (put flow_cmp f v es) ≡ (is_from imp f || any_from imp es)
unfolding any_from
any_put imp f v [] = refl
any_put {V} imp f v (e ∷ es) = by (flow_cmp f e.0) refl (any_put imp f v es) where
  by : (o : Ordering) → flow_cmp f e.0 ≡ o → any_from imp (put flow_cmp f v es) ≡ (is_from imp f || any_from imp es)
      → any_from imp (by_order o ((f, v) ∷ e ∷ es) ((e.0, v) ∷ es) (e ∷ put flow_cmp f v es)) ≡ (is_from imp f || any_from imp (e ∷ es))
  by Less t rest = refl
  by Equal t rest = or_twice (is_from imp f) (is_from imp e.0) (any_from imp es) (from_alike imp f e.0 t)
  by Greater t rest = ap (λ b. is_from imp e.0 || b) rest ∙ or_turned (is_from imp f) (is_from imp e.0) (any_from imp es)

any_none : {V : Type 0} (imp : ℕ) (es : List (Flow × V)) → length es ≡ 0 → any_from imp es ≡ false
unfolding any_from
any_none imp [] none = refl
any_none imp (e ∷ es) none = absurd (omega arith)

-- whether a flow is from an IMP, asked of the entries and of the map that they make
pub asked : {V : Type 0} (imp : ℕ) (es : List (Flow × V)) → list_any (is_from imp) (keys_of es) ≡ has_from imp (from_entries {R = flow_cmp} es)
unfolding any_from
asked {V} imp [] = sym (any_none imp (entries (empty {X = V} {R = flow_cmp})) (sym (len-entries (empty {X = V} {R = flow_cmp})) ∙ len-empty flow_cmp V))
asked imp (e ∷ es) =
    ap (λ b. is_from imp e.0 || b) (asked imp es)
    ∙ sym (any_put imp e.0 e.1 (entries (from_entries {R = flow_cmp} es)))
    ∙ ap (λ ds. any_from imp ds) (sym (entries-insert flows_total (from_entries {R = flow_cmp} es) e.0 e.1))
