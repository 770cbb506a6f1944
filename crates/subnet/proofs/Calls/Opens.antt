-- A subnet opens.
use Rattle.subnet.proofs.Common.{IfSome, get_or_default, most_imps, State, Wire, ends_at, port_of, Ends, empty_wire, opened_imp, opened_from, IsLive, AreLive}
use Rattle.std.proofs.Common.{◌≡◌, ℕ, ◌+◌, ◌<◌, ◌≤◌, zero, suc, List, [], ◌∷◌, length, map, get_or, count_by, Option, Some, None, refl, ap, sym, subst, ◌∙◌, arith, All}
use Rattle.std.proofs.lemmas.List.Elements.{All-get_or}
use Rattle.subnet.proofs.Calls.Starts as starts

pub places_opened : (i : ℕ) (sites : List (Option ℕ)) (ports : ℕ → ℕ) → length (opened_from i sites ports) ≡ length sites
places_opened i [] ports = refl
places_opened i (site ∷ sites) ports = ap suc (places_opened (i + 1) sites ports)

-- each IMP has its number
live_one : (i : ℕ) (site : Option ℕ) (ports : ℕ) → IsLive i (opened_imp i site ports)
live_one i None ports = tt
live_one i (Some hosts) ports = (refl, refl)

live_from : (i k : ℕ) (sites : List (Option ℕ)) (ports : ℕ → ℕ) → IsLive (i + k) (get_or (opened_from i sites ports) k None)
live_from i k [] ports = tt
live_from i zero (site ∷ sites) ports =
    let same : i + 0 ≡ i = omega arith in
    subst (λ (n : ℕ). IsLive n (opened_imp i site (ports i))) (sym same) (live_one i site _)
live_from i (suc k) (site ∷ sites) ports =
    let same : i + suc k ≡ i + 1 + k = omega arith in
    subst (λ (n : ℕ). IsLive n (get_or (opened_from (i + 1) sites ports) k None)) (sym same) (live_from (i + 1) k sites ports)

none_more : (h : ℕ) → 0 + h ≡ h
none_more h = omega arith

pub opened_live : (imps : List (Option State)) (sites : List (Option ℕ)) (ports : ℕ → ℕ) → imps ≡ opened_from 0 sites ports → AreLive imps
opened_live imps sites ports is = subst (λ (xs : List (Option State)). AreLive xs) (sym is) (λ h. subst (λ (n : ℕ). IsLive n (get_or (opened_from 0 sites ports) h None)) (none_more h) (live_from 0 h sites ports))

none_here : {count : ℕ} → Some count ≡ None → ⊥
none_here e = cc

-- a site that is there has a number and a few hosts
some_fits : (k : ℕ) (site : Option ℕ) → (k ≡ 0 → site ≡ None) → k ≤ most_imps → IfSome site (λ count. count ≤ 4) → IfSome site (λ count. (1 ≤ k) × (k ≤ most_imps) × (count ≤ 4))
some_fits k None first within few = tt
some_fits zero (Some count) first within few = absurd (none_here (first refl))
some_fits (suc k) (Some count) first within few = (omega arith, within, few)

first_none : (sites : List (Option ℕ)) (k : ℕ) (d : Option ℕ) → get_or sites 0 None ≡ None → k < length sites → k ≡ 0 → get_or sites k d ≡ None
first_none [] k d none within at = absurd (omega arith)
first_none (site ∷ sites) zero d none within at = none
first_none (site ∷ sites) (suc k) d none within at = absurd (omega arith)

pub site_fits : (sites : List (Option ℕ)) (k : ℕ) (site : Option ℕ) → site ≡ get_or sites k site → k < length sites → get_or sites 0 None ≡ None → length sites ≤ most_imps + 1 → All (λ site. IfSome site (λ count. count ≤ 4)) sites → IfSome site (λ count. (1 ≤ k) × (k ≤ most_imps) × (count ≤ 4))
site_fits sites k site is within none most few =
    let inside : k ≤ most_imps = omega arith in
    some_fits k site (λ at. is ∙ first_none sites k site none within at) inside
    (subst (λ (s : Option ℕ). IfSome s (λ count. count ≤ 4)) (sym is) (All-get_or (λ (s : Option ℕ). IfSome s (λ count. count ≤ 4)) sites k site within few))

pub lines_opened : (lines : List Wire) (ends : List Ends) → lines ≡ map empty_wire ends → length lines ≡ length ends
lines_opened lines [] is = ap length is
lines_opened lines (e ∷ ends) is = ap length is ∙ ap suc (lines_opened (map empty_wire ends) ends refl)

pub site_read : (sites : List (Option ℕ)) (k : ℕ) → k < length sites → get_or sites 0 None ≡ None → length sites ≤ most_imps + 1 → All (λ site. IfSome site (λ count. count ≤ 4)) sites → IfSome (get_or sites k None) (λ count. (1 ≤ k) × (k ≤ most_imps) × (count ≤ 4))
site_read sites k within none most few = site_fits sites k _ (get_or_default sites k None (get_or sites k None) within) within none most few
