-- Flows as the keys of a map.
use Rattle.std.specs.Prelude.{ℕ, Bool, ◌==◌, not, refl}
use Rattle.std.specs.List.{list_any}
use Rattle.std.specs.Coded.{Coded, code_by, coded×, coded_ℕ}
use Rattle.std.specs.FinMap as map
use Rattle.interface.specs.Host.{Host}
pub use Rattle.interface.specs.Flow.{flow_cmp}
use Rattle.interface.specs.declared.address.Flow.{Flow}

-- a flow as five numbers
abbrev pub coded_host : Coded Host
coded_host = code_by (ℕ × ℕ) (coded× coded_ℕ coded_ℕ) (λ h. (h.imp, h.host)) (λ p. record { imp = p.0; host = p.1 }) (λ _. refl)

abbrev pub coded_flow : Coded Flow
coded_flow = code_by (Host × (Host × ℕ)) (coded× coded_host (coded× coded_host coded_ℕ))
    (λ f. (f.source, (f.destination, f.link.0))) (λ p. record { source = p.0; destination = p.1.0; link = record { 0 = p.1.1 } }) (λ _. refl)

-- whether a flow's source is at this IMP
abbrev pub is_from : ℕ → Flow → Bool
is_from imp f = f.source.imp == imp

-- without the flows from an IMP
abbrev pub drop_from : {V : Type 0} → ℕ → map.FinMap flow_cmp V → map.FinMap flow_cmp V
drop_from imp m = map.retain_keys m (λ f. not (is_from imp f))

-- whether there is a flow from an IMP
abbrev pub has_from : {V : Type 0} → ℕ → map.FinMap flow_cmp V → Bool
has_from imp m = list_any (is_from imp) (map.keys m)
