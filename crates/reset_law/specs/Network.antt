-- The hosts of a network, some of which may be strangers.
use Rattle.std.specs.Prelude.{◌≡◌, Bool, false, List}
use Rattle.interface.specs.Host.{Host}

-- all its hosts, and which of them are strangers: these run anything, the others the program
pub record Network : Type 0 where
  pub all : List Host
  pub strange : Host → Bool

-- two hosts that both run the program
abbrev pub AreOurs : Network → Host → Host → Type 0
AreOurs hosts a b = (hosts.strange a ≡ false) × (hosts.strange b ≡ false)

-- a network all of whose hosts run the program
abbrev pub all_ours : List Host → Network
all_ours hosts = record { all = hosts; strange = λ h. false }
