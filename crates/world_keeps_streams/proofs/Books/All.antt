-- What a safe book asks of all lives between hosts with programs: what was taken has a source, and what was sent is granted.
use Rattle.world_keeps_streams.proofs.Common.{◌≡◌, true, List, [], length, Contains, Seen, Host, HaveAddresses, IsLawful, Moment, crossings_of, WorldState, AreOurs, Network, all_ours, Happened}
use Rattle.promise.specs.Safe.{IsGranted, Match, Source, receives}
use Rattle.interface.specs.Mailboxes as mail
use Rattle.net_sim.specs.Told.{kept_in}
use Rattle.promise.specs.declared.life.Life.{Life}
use Rattle.world_keeps_streams.proofs.Carried.World.{carries_numbered, carries_turned}
use Rattle.world_keeps_streams.proofs.Books.Books as books
use Rattle.world_keeps_streams.proofs.Books.Given.{Lives, given}
use Rattle.world_keeps_streams.proofs.Lives.Leaves.{leaves, none_begins}
use Rattle.world_keeps_streams.proofs.Lives.Present.{lives}
use Rattle.world_keeps_streams.proofs.Books.Run.{Given}
use Rattle.world_keeps_streams.proofs.Requests.Sides.{Heard, Own}

module _ (hosts : Network) where
  -- the lives of two hosts
  two_lives : (a b : Host) → AreOurs hosts a b → Lives hosts a b
  two_lives a b ours =
      lives hosts a b ours (λ ms l. carries_numbered hosts l.0 a b ours ms l.1 l.2) (λ ms l. carries_turned hosts l.0 b a (ours.1, ours.0) ms l.1 l.2) (none_begins hosts a b ours) (none_begins hosts b a (ours.1, ours.0))
      (leaves hosts a b ours) (leaves hosts b a (ours.1, ours.0))

  pub all_given : (a b : Host) → AreOurs hosts a b → Given hosts a b (Own a b) (Heard a b)
  all_given a b ours = given hosts a b ours (two_lives a b ours)

  -- ---- moments

  module _ (moments : List Moment) (addresses : HaveAddresses hosts.all)
      (run : mail.IsRun hosts.all (crossings_of moments)) (time : Happened hosts moments) where
    pub source : (receiver : Life) → AreOurs hosts receiver.host receiver.peer
        → Contains (kept_in moments).book.lives receiver → receives receiver ≡ true → (receiver.bits ≡ [] → ⊥)
        → Source (crossings_of moments) (kept_in moments).book.lives receiver
    source x ours there q some = books.source hosts Own Heard all_given moments (addresses, run, time) x ours there q some

    pub sent : (receiver sender : Life) → AreOurs hosts receiver.host receiver.peer
        → Contains (kept_in moments).book.lives receiver → Contains (kept_in moments).book.lives sender
        → Match (crossings_of moments) receiver sender → IsGranted receiver sender.messages (length sender.bits)
    sent x s ours here there m = books.sent hosts Own Heard all_given moments (addresses, run, time) x s ours here there m

-- ---- worlds

module _ (hosts : List Host) {C : Type 0} (seen : C → Seen) (w : WorldState C) (lawful : IsLawful seen hosts w) where
  pub world_source : (receiver : Life) → Contains w.kept.book.lives receiver → receives receiver ≡ true
      → (receiver.bits ≡ [] → ⊥) → Source w.kept.book.crossings w.kept.book.lives receiver
  world_source x there q some = books.world_source hosts Own Heard (all_given (all_ours hosts)) seen w lawful x there q some

  pub world_sent : (receiver sender : Life) → Contains w.kept.book.lives receiver → Contains w.kept.book.lives sender
      → Match w.kept.book.crossings receiver sender → IsGranted receiver sender.messages (length sender.bits)
  world_sent x s here there m = books.world_sent hosts Own Heard (all_given (all_ours hosts)) seen w lawful x s here there m
