-- A subnet at its opening: all IMPs, ends of lines and hosts are up.
use Rattle.std.specs.Prelude.{◌≡◌, ℕ, ◌+◌, zero, suc, Bool, false, List, [], ◌∷◌, ◌++◌, map, Option, Some, None, slice_index_or, nat_lt, count_by}
use Rattle.interface.specs.Host.{Host, is_host}
use Rattle.imp_node.specs.State.{State}
use Rattle.imp_node.specs.State as imp
pub use Rattle.subnet.specs.declared.wire.Ends.{Ends}
use Rattle.subnet.specs.Net.{Net, Wire, ends_at}

abbrev pub empty_wire : Ends → Wire
empty_wire e = record { a = e.a; b = e.b; forward = []; back = [] }

abbrev pub opened_imp : ℕ → Option ℕ → ℕ → Option State
opened_imp i None ports = None
opened_imp i (Some hosts) ports = Some (imp.opening_node i hosts ports)

abbrev pub opened_from : ℕ → List (Option ℕ) → (ℕ → ℕ) → List (Option State)
opened_from i [] ports = []
opened_from i (site ∷ sites) ports = opened_imp i site (ports i) ∷ opened_from (i + 1) sites ports

abbrev pub opening_subnet : List Host → List (Option ℕ) → List Ends → Net
opening_subnet hosts sites ends = record {
  hosts = hosts;
  sites = sites;
  imps = opened_from 0 sites (λ i. count_by (ends_at i) (map empty_wire ends));
  lines = map empty_wire ends;
  log = [];
}

-- an IMP with this many hosts has this one
abbrev pub host_there : Option ℕ → ℕ → Bool
host_there None h = false
host_there (Some hosts) h = nat_lt h hosts

-- the hosts are those of the sites
abbrev pub AreHosts : List Host → List (Option ℕ) → Type 0
AreHosts hosts sites = (h : Host) → is_host hosts h ≡ host_there (slice_index_or sites h.imp None) h.host

-- the hosts of sites, in order: those of one IMP, and of all
abbrev pub hosts_of_one : ℕ → ℕ → ℕ → List Host
hosts_of_one i k zero = []
hosts_of_one i k (suc count) = record { imp = i; host = k } ∷ hosts_of_one i (k + 1) count

abbrev pub hosts_from : ℕ → List (Option ℕ) → List Host
hosts_from i [] = []
hosts_from i (None ∷ sites) = hosts_from (i + 1) sites
hosts_from i (Some count ∷ sites) = hosts_of_one i 0 count ++ hosts_from (i + 1) sites
