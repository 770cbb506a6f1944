-- An IMP starts.
use Rattle.subnet.proofs.Common.{cases_Bool, IfSome, All-head, All-tail, most_imps, host_down, at_set, Wire, Net, ends_at, port_of, says, started_imp, hosts_at, is_imp, IsLive, AreLive}
use Rattle.std.proofs.Common.{◌≡◌, ℕ, ◌+◌, ◌-◌, ◌<◌, ◌≤◌, zero, suc, ◌==◌, ◌&&◌, not, Bool, true, false, List, [], ◌∷◌, ◌++◌, length, replicate, get_or, set, count_by, Option, Some, None, is_some, refl, ap, sym, subst, ◌∙◌, arith, All, eqb-true, eq-eqb, inl, inr}
use Rattle.std.proofs.Math.Seq.{take-length}
use Rattle.imp_node.specs.State.{State, HostState, number, host_at, no_host, up_host, opening_node}
use Rattle.imp_node.specs.Queries as queries
use Rattle.subnet.proofs.Calls.SiteHosts.{unlike}

-- ---- hosts that go down one after another

-- an IMP as it opens, save that its first hosts are down
abbrev pub down_to : ℕ → ℕ → ℕ → ℕ → State
down_to own ports down up = record (opening_node own 0 ports) { hosts = replicate down no_host ++ replicate up up_host }

next_up : (down up : ℕ) → get_or (replicate down no_host ++ replicate (suc up) up_host) down no_host ≡ up_host
next_up zero up = refl
next_up (suc down) up = next_up down up

next_down : (down up : ℕ) → set (replicate down no_host ++ replicate (suc up) up_host) down no_host ≡ replicate (suc down) no_host ++ replicate up up_host
next_down zero up = refl
next_down (suc down) up = ap (λ (hosts : List HostState). no_host ∷ hosts) (next_down down up)

-- a host for which nothing waits goes down
quiet_down : (s : State) (h : ℕ) → host_at s h ≡ up_host → s.store ≡ [] → (host_down s h).state ≡ record s { hosts = set s.hosts h no_host }
quiet_down s h up empty = rw (up, empty) refl

pub one_more_down : (own ports k hosts : ℕ) → k < hosts → (host_down (down_to own ports k (hosts - k)) k).state ≡ down_to own ports (k + 1) (hosts - (k + 1))
one_more_down own ports k hosts below =
    let left : hosts - k ≡ suc (hosts - (k + 1)) = omega arith in
    let next : suc k ≡ k + 1 = omega arith in
    subst (λ (m : ℕ). (host_down (down_to own ports k m) k).state ≡ down_to own ports (k + 1) (hosts - (k + 1))) (sym left)
    (quiet_down _ k (next_up k _) refl
    ∙ ap (λ (hosts : List HostState). record (opening_node own 0 ports) { hosts = hosts }) (next_down k _)
    ∙ ap (λ (m : ℕ). down_to own ports m (hosts - (k + 1))) next)

pub opened : (own ports hosts : ℕ) → opening_node own hosts ports ≡ down_to own ports 0 (hosts - 0)
opened own ports hosts =
    let all : hosts - 0 ≡ hosts = omega arith in
    ap (λ (n : ℕ). record (opening_node own 0 ports) { hosts = replicate n up_host }) (sym all)

-- ---- sites

pub few_hosts : (sites : List (Option ℕ)) (i : ℕ) → All (λ site. IfSome site (λ count. count ≤ 4)) sites → hosts_at (get_or sites i None) ≤ 4
few_hosts [] i few = omega arith
few_hosts (None ∷ sites) zero few = omega arith
few_hosts (Some count ∷ sites) zero few = All-head (λ (site : Option ℕ). IfSome site (λ count. count ≤ 4)) (Some count) sites few
few_hosts (site ∷ sites) (suc i) few = few_hosts sites i (All-tail (λ (site : Option ℕ). IfSome site (λ count. count ≤ 4)) site sites few)

below_sites : (sites : List (Option ℕ)) (i m : ℕ) → is_some (get_or sites i None) ≡ true → length sites ≤ m → i + 1 ≤ m
below_sites [] i m there few = cc
below_sites (site ∷ sites) zero m there few = omega arith
below_sites (site ∷ sites) (suc i) zero there few = absurd (omega arith)
below_sites (site ∷ sites) (suc i) (suc m) there few =
    let rest : i + 1 ≤ m = below_sites sites i m there (omega arith) in
    omega arith

pub few_sites : (n : Net) (i : ℕ) → is_imp n i ≡ true → length n.sites ≤ most_imps + 1 → i + 1 ≤ most_imps + 1
few_sites n i there few = below_sites _ i _ there few

pub all_ports : (lines : List Wire) (i : ℕ) → port_of lines i (length lines) ≡ count_by (ends_at i) lines
all_ports lines i = ap (count_by (ends_at i)) (take-length lines)

-- ---- IMPs beside it

abbrev pub is_beside : ℕ → Option State → Bool
is_beside i = says (λ s. not (number s == i) && queries.keeps s i)

pub beside_same : (i at : ℕ) (o : Option State) → IsLive at o → at ≡ i → is_beside i o ≡ false
beside_same i at None live same = refl
beside_same i at (Some s) live same =
    let own : (number s == i) ≡ true = eq-eqb (number s) i (live.0 ∙ same) in
    rw own refl

pub beside_other : (i at : ℕ) (o : Option State) → IsLive at o → (at ≡ i → ⊥) → says (λ s. queries.keeps s i) o ≡ is_beside i o
beside_other i at None live other = refl
beside_other i at (Some s) live other =
    let foreign : (number s == i) ≡ false = unlike _ i (λ same. other (sym live.0 ∙ same)) in
    rw foreign refl

abbrev pub is_awaited_beside_it : ℕ → Option State → Bool
is_awaited_beside_it i = says (λ s. not (number s == i) && queries.awaits s i)

pub awaited_same : (i at : ℕ) (o : Option State) → IsLive at o → at ≡ i → is_awaited_beside_it i o ≡ false
awaited_same i at None live same = refl
awaited_same i at (Some s) live same =
    let own : (number s == i) ≡ true = eq-eqb (number s) i (live.0 ∙ same) in
    rw own refl

pub awaited_other : (i at : ℕ) (o : Option State) → IsLive at o → (at ≡ i → ⊥) → says (λ s. queries.awaits s i) o ≡ is_awaited_beside_it i o
awaited_other i at None live other = refl
awaited_other i at (Some s) live other =
    let foreign : (number s == i) ≡ false = unlike _ i (λ same. other (sym live.0 ∙ same)) in
    rw foreign refl

pub started_lives : (imps : List (Option State)) (i hosts ports : ℕ) → AreLive imps → AreLive (set imps i (Some (started_imp i hosts ports)))
started_lives imps i hosts ports live = λ h. at_set IsLive imps i h (Some (started_imp i hosts ports)) None (live h) (refl, refl)
