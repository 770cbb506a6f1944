-- One socket of a host that runs the program, whatever strangers do.
use Rattle.mixed_worlds.proofs.Common.{◌≡◌, ℕ, Bool, true, false, List, ◌∷◌, Host, same_host, opening_state, Request, Asked, Moment, program, IsMixed, Holds, mixed_kept, Network}
use Rattle.net_sim.specs.Timeline.{crossings_of, Happens}
use Rattle.interface.specs.Mailboxes as mail
pub use Rattle.world_keeps_lives.proofs.lemmas.{IsFit}
use Rattle.world_keeps_lives.proofs.lemmas.Sockets as sockets

module _ (strange : Host → Bool) (hosts : List Host) (a : Host) (off : strange a ≡ false) where
  abbrev all : Network
  all = record { all = hosts; strange = strange }

  -- a request of this host
  pub own_request : (h : Host) (r : Request) (moments : List Moment) → IsMixed strange hosts (Asked h r ∷ moments)
      → same_host a h ≡ true → Happens hosts (Asked a r) moments
  own_request h r moments mixed e = sockets.own_request all mixed.addresses a off h r moments mixed.happen e

  pub fit : (moments : List Moment) → IsMixed strange hosts moments → IsFit (program a moments)
  fit moments mixed = sockets.fit all mixed.addresses a off moments mixed.run mixed.happen

  -- a host that is down has a program that does nothing
  pub idle : (moments : List Moment) → IsMixed strange hosts moments → mail.is_up hosts a (crossings_of moments) ≡ false
      → program a moments ≡ opening_state a
  idle moments mixed down = sockets.idle all mixed.addresses a off moments mixed.run mixed.happen down

  pub held : (k : ℕ) (moments : List Moment) → IsMixed strange hosts moments
      → Holds a k (program a moments) (mixed_kept strange moments)
  held k moments mixed = sockets.held all mixed.addresses a off k moments mixed.run mixed.happen
