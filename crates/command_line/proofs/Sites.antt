-- The hosts that the sites of a topology list are those that a subnet wants.
use Rattle.std.proofs.Common.{◌≡◌, ℕ, ◌+◌, List, [], ◌∷◌, ◌++◌, map, Option, Some, None, refl, ap, ◌∙◌, zero, suc}
use Rattle.interface.specs.Host.{Host}
use Rattle.std.specs.List.{range_with_len}
use Rattle.subnet.specs.Opening.{hosts_of_one}
use Rattle.subnet.specs.Opening as subnet
use Rattle.topology.specs.Topology.{hosts_from}

one_site : (number k count : ℕ) → map (λ (host : ℕ). record { imp = number; host = host }) (range_with_len k count) ≡ hosts_of_one number k count
one_site number k zero = refl
one_site number k (suc count) = ap (λ (hosts : List Host). record { imp = number; host = k } ∷ hosts) (one_site number (k + 1) count)

pub same_hosts : (number : ℕ) (sites : List (Option ℕ)) → hosts_from number sites ≡ subnet.hosts_from number sites
same_hosts number [] = refl
same_hosts number (None ∷ sites) = same_hosts (number + 1) sites
same_hosts number (Some count ∷ sites) =
    ap (λ (hosts : List Host). hosts ++ hosts_from (number + 1) sites) (one_site number 0 count)
    ∙ ap (λ (hosts : List Host). hosts_of_one number 0 count ++ hosts) (same_hosts (number + 1) sites)
