-- Some hosts, of hosts that are there once each.
use Rattle.net_sim.proofs.Common.{◌≡◌, Bool, true, false, List, [], ◌∷◌, refl, sym, ◌∙◌, Host, is_host, IsOnce}
use Rattle.std.specs.List.{filter}
use Rattle.net_sim.proofs.Books.Whole.{some_hosts}

-- ---- of some hosts that are there once each

not_some : (test : Host → Bool) (hosts : List Host) (h : Host) → is_host hosts h ≡ false → is_host (filter test hosts) h ≡ false
not_some test hosts h away = by (is_host (filter test hosts) h) refl where
  by : (b : Bool) → is_host (filter test hosts) h ≡ b → is_host (filter test hosts) h ≡ false
  by true e = absurd (let no : true ≡ false = sym (some_hosts test hosts h e) ∙ away in cc)
  by false e = e

pub some_once : (test : Host → Bool) (hosts : List Host) → IsOnce hosts → IsOnce (filter test hosts)
some_once test [] once = tt
some_once test (g ∷ hosts) once = by (some_once test hosts once.1) (test g) refl where
  by : IsOnce (filter test hosts) → (b : Bool) → test g ≡ b → IsOnce (filter test (g ∷ hosts))
  by rest true e = rw e ((λ h same. not_some test hosts h (once.0 h same)), rest)
  by rest false e = rw e rest
