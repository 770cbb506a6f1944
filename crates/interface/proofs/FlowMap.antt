-- The map that a list of entries by flow makes.
use Rattle.std.proofs.Common.{◌≡◌, true, List, [], ◌∷◌, Option, Some, None, refl, ap, sym, subst, ◌∙◌, cond}
use Rattle.std.specs.Map.{lookup}
use Rattle.std.specs.BTreeMap.{is_at}
use Rattle.std.specs.Ordering.{eq_by_cmp, is_eq}
use Rattle.std.specs.Cmp.{eq_by_cmp_equiv}
use Rattle.std.specs.declared.cmp.Ordering.{Ordering}
use Rattle.std.specs.declared.cmp.Ordering.TheVariants.{Less, Equal, Greater}
use Rattle.std.specs.FinMap.{find, from_entries, get, insert, remove, same_map, get-from_entries, get-insert, get-remove}
use Rattle.interface.specs.Flow.{flow_cmp, same_flow}
use Rattle.interface.specs.declared.address.Flow.{Flow}
use Rattle.interface.proofs.Lists.{both_ways, same_flow-true, same_flow-refl}
use Rattle.interface.proofs.Order.{flows_total, exact_flows}

-- what a list of entries has at a flow
abbrev pub value_at : {V : Type 0} → List (Flow × V) → Flow → Option V
value_at es f = lookup (is_at (flow_cmp f)) es

find_flow : {V : Type 0} (es : List (Flow × V)) (f : Flow) → find flow_cmp f es ≡ value_at es f
find_flow [] f = refl
find_flow (e ∷ es) f = ap (cond (is_at (flow_cmp f) e.0) (Some e.1)) (find_flow es f)

-- what the map that the entries make has at a flow
pub get_flow : {V : Type 0} (es : List (Flow × V)) (f : Flow) → get (from_entries {R = flow_cmp} es) f ≡ value_at es f
get_flow es f = get-from_entries flows_total es f ∙ find_flow es f

-- entries that differ at one flow make maps that differ there
pub one_set : {V : Type 0} (es ds : List (Flow × V)) (f : Flow) (v : V)
    → ((g : Flow) → value_at ds g ≡ cond (is_at (flow_cmp f) g) (Some v) (value_at es g)) → from_entries {R = flow_cmp} ds ≡ insert (from_entries es) f v
one_set es ds f v h = same_map flows_total exact_flows _ _ (λ g.
    get_flow ds g ∙ h g ∙ ap (λ b. cond b (Some v) (value_at es g)) ((eq_by_cmp_equiv flows_total).symm f g)
    ∙ sym (get-insert flows_total (from_entries es) f v g ∙ ap (cond (is_at (flow_cmp g) f) (Some v)) (get_flow es g)))

pub one_removed : {V : Type 0} (es ds : List (Flow × V)) (f : Flow)
    → ((g : Flow) → value_at ds g ≡ cond (is_at (flow_cmp f) g) None (value_at es g)) → from_entries {R = flow_cmp} ds ≡ remove (from_entries es) f
one_removed es ds f h = same_map flows_total exact_flows _ _ (λ g.
    get_flow ds g ∙ h g ∙ ap (λ b. cond b None (value_at es g)) ((eq_by_cmp_equiv flows_total).symm f g)
    ∙ sym (get-remove flows_total (from_entries es) f g ∙ ap (cond (is_at (flow_cmp g) f) None) (get_flow es g)))

pub is_equal : (o : Ordering) → is_eq o ≡ true → o ≡ Equal
is_equal Less e = absurd (cc)
is_equal Equal e = refl
is_equal Greater e = absurd (cc)

-- flows compare alike exactly where they are one
pub eq_flow : (f g : Flow) → eq_by_cmp flow_cmp f g ≡ same_flow f g
eq_flow f g = both_ways (eq_by_cmp flow_cmp f g) (same_flow f g)
    (λ e. let P : Flow → Type 0 = λ x. same_flow f x ≡ true in subst P (exact_flows f g (is_equal (flow_cmp f g) e)) (same_flow-refl f))
    (λ e. let P : Flow → Type 0 = λ x. eq_by_cmp flow_cmp f x ≡ true in subst P (same_flow-true f g e) ((eq_by_cmp_equiv flows_total).refl f))
