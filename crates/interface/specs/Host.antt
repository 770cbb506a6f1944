-- Hosts, their order, and how the leader spells them (BBN Report 1822).
use Rattle.std.specs.Prelude.{◌≡◌, ℕ, ◌+◌, ◌*◌, ◌/◌, ◌%◌, ◌≤◌, Bool, true, ◌==◌, ◌&&◌, nat_le, Option, Some, None, if◌then◌else◌, List, [], ◌∷◌}
use Rattle.std.specs.List.{list_any}
use Rattle.std.specs.declared.cmp.Ordering.{Ordering}
use Rattle.std.specs.Ordering.{nat_cmp, ordering_then, is_lt}

-- a host: its number at its IMP, and the IMP's
pub record Host : Type 0 where
  pub imp : ℕ
  pub host : ℕ

abbrev pub is_imp : ℕ → Bool
is_imp imp = nat_le 1 imp && nat_le imp 63

-- IMPs are numbered from 1 to 63
abbrev pub imp_at : ℕ → Option ℕ
imp_at imp = if is_imp imp then Some imp else None

-- the IMPs of a network are numbered from 1 to 63, the greatest number that an address can name
abbrev pub most_imps : ℕ
most_imps = 63

-- an IMP has hosts 0 to 3
abbrev pub host_at : ℕ → ℕ → Option Host
host_at host imp = if nat_le host 3 && is_imp imp then Some (record { imp = imp; host = host }) else None

-- the upper two bits name the host, the lower six the IMP
abbrev pub address_octet : Host → ℕ
address_octet h = 64 * h.host + h.imp

abbrev pub host_of_octet : ℕ → Option Host
host_of_octet octet = host_at (octet / 64) (octet % 64)

abbrev pub same_host : Host → Host → Bool
same_host g h = g.imp == h.imp && g.host == h.host

-- whether a host is one of these
abbrev pub is_host : List Host → Host → Bool
is_host hosts h = list_any (same_host h) hosts

-- hosts in order of their IMPs, and at one IMP of their own numbers
abbrev pub host_cmp : Host → Host → Ordering
host_cmp g h = ordering_then (nat_cmp g.imp h.imp) (nat_cmp g.host h.host)

abbrev pub host_before : Host → Host → Bool
host_before g h = is_lt (host_cmp g h)

-- each host is before the next one
abbrev pub InOrder : List Host → Type 0
InOrder [] = Unit {0}
InOrder (g ∷ []) = Unit {0}
InOrder (g ∷ h ∷ hosts) = (host_before g h ≡ true) × InOrder (h ∷ hosts)

-- a host that an address octet can name
pub record IsAddress (h : Host) : Type 0 where
  pub imp_from : 1 ≤ h.imp
  pub imp_to : h.imp ≤ 63
  pub host_to : h.host ≤ 3
