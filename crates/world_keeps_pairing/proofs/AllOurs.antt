-- The same where all hosts run the program: then all lives of the book are between two that do. So it is of the book of a world.
use Rattle.world_keeps_pairing.proofs.Common.{◌≡◌, false, true, List, ◌++◌, refl, ap, sym, subst, Some, IsSome, Contains, Crossing, Host, Moment, IsStory, events_of, IsTimeline, crossings_of, mixed_kept}
use Rattle.net_sim.proofs.lemmas.{Coupled, kept_same}
use Rattle.net_sim.specs.Book.{Kept}
use Rattle.promise.specs.Safe.{AreTwo, Match, SafePartners, own_request, partner_request, receives}
use Rattle.interface.specs.Calls.{Seen}
use Rattle.interface.specs.Mailboxes as mail
use Rattle.interface.proofs.lemmas.{run_below}
use Rattle.promise.specs.declared.life.Life.{Life}
use Rattle.reset_law.specs.Network.{all_ours}
use Rattle.reset_law.specs.Runs.{IsRun}
use Rattle.net_sim.proofs.lemmas.AllOurs.{coupled, happened}
use Rattle.net_sim.specs.Clean.{IsLawful}
use Rattle.net_sim.specs.Told.{kept_in}
use Rattle.net_sim.specs.World.{WorldState}
use Rattle.world_keeps_pairing.proofs.BookPartners as partners
use Rattle.world_keeps_pairing.proofs.Served as all
use Rattle.world_keeps_pairing.proofs.Served.{AreServed}

pub served_in : (hosts : List Host) (moments : List Moment) → IsTimeline hosts moments → AreServed (all_ours hosts) moments
served_in hosts moments time = all.served_in (all_ours hosts) moments (happened hosts moments time)

module _ (hosts : List Host) (moments : List Moment) (story : IsStory (all_ours hosts) moments) (run : IsRun (all_ours hosts) (events_of moments)) (mails : mail.IsRun hosts (crossings_of moments)) (served : AreServed (all_ours hosts) moments) where
  abbrev book : List Life
  book = (kept_in moments).book.lives

  there : (x : Life) → Contains book x → Contains (mixed_kept (λ h. false) moments).book.lives x
  there x c = subst (λ (k : Kept). Contains k.book.lives x) (sym (kept_same moments)) c

  two_there : (x y : Life) → AreTwo book x y → AreTwo (mixed_kept (λ h. false) moments).book.lives x y
  two_there x y two = subst (λ (k : Kept). AreTwo k.book.lives x y) (sym (kept_same moments)) two

  pub partner_named : (x : Life) → Contains book x → IsSome (partner_request (crossings_of moments) x)
  partner_named x c = partners.partner_named (all_ours hosts) moments story run mails served x (refl, refl) (there x c)

  pub safe_partners : SafePartners (crossings_of moments) book
  safe_partners = partners.safe_partners (all_ours hosts) moments story run mails served book (λ x c. (there x c, (refl, refl))) two_there

  pub life_matches : (x y : Life) → Contains book x → Contains book y → receives x ≡ true → partner_request (crossings_of moments) x ≡ Some (own_request y) → Match (crossings_of moments) x y
  life_matches x y cx cy = partners.life_matches (all_ours hosts) moments story run mails served x y (refl, refl) (refl, refl) (there x cx) (there y cy)

  pub life_alone : (receiver x y : Life) → AreTwo book x y → Match (crossings_of moments) receiver x → Match (crossings_of moments) receiver y → ⊥
  life_alone receiver x y two = partners.life_alone (all_ours hosts) moments story run mails served receiver x y (refl, refl) (refl, refl) (two_there x y two)

-- ---- the book of a world

module _ {C : Type 0} (seen : C → Seen) (hosts : List Host) (w : WorldState C) (lawful : IsLawful seen hosts w) where
  pub book_run : mail.IsRun hosts (crossings_of lawful.whole.moments)
  book_run =
      let all : mail.IsRun hosts (lawful.booked.unbooked ++ w.kept.book.crossings) = subst (λ (xs : List Crossing). mail.IsRun hosts xs) lawful.booked.book lawful.run in
      subst (λ (xs : List Crossing). mail.IsRun hosts xs) lawful.whole.crossings (run_below hosts lawful.booked.unbooked w.kept.book.crossings all)

  book_coupled : Coupled (all_ours hosts) lawful.whole.moments
  book_coupled = coupled hosts lawful.addresses lawful.whole.moments book_run lawful.whole.timeline

  book_served : AreServed (all_ours hosts) lawful.whole.moments
  book_served = served_in hosts lawful.whole.moments lawful.whole.timeline

  pub book_lives : w.kept.book.lives ≡ (kept_in lawful.whole.moments).book.lives
  book_lives = ap (λ (k : Kept). k.book.lives) lawful.whole.kept

  pub world_partners : SafePartners w.kept.book.crossings w.kept.book.lives
  world_partners =
      subst (λ (log : List Crossing). SafePartners log w.kept.book.lives) (sym lawful.whole.crossings)
      (subst (λ (lives : List Life). SafePartners (crossings_of lawful.whole.moments) lives) (sym book_lives)
      (safe_partners hosts lawful.whole.moments book_coupled.story book_coupled.run book_run book_served))

  pub world_named : (x : Life) → Contains w.kept.book.lives x → IsSome (partner_request w.kept.book.crossings x)
  world_named x there =
      subst (λ (log : List Crossing). IsSome (partner_request log x)) (sym lawful.whole.crossings)
      (partner_named hosts lawful.whole.moments book_coupled.story book_coupled.run book_run book_served x (subst (λ (lives : List Life). Contains lives x) book_lives there))

  pub world_matches : (receiver sender : Life) → Contains w.kept.book.lives receiver → Contains w.kept.book.lives sender → receives receiver ≡ true → partner_request w.kept.book.crossings receiver ≡ Some (own_request sender) → Match w.kept.book.crossings receiver sender
  world_matches receiver sender here there receiving asked =
      subst (λ (log : List Crossing). Match log receiver sender) (sym lawful.whole.crossings)
      (life_matches hosts lawful.whole.moments book_coupled.story book_coupled.run book_run book_served receiver sender (subst (λ (lives : List Life). Contains lives receiver) book_lives here)
      (subst (λ (lives : List Life). Contains lives sender) book_lives there) receiving (subst (λ (log : List Crossing). partner_request log receiver ≡ Some (own_request sender)) lawful.whole.crossings asked))

  pub world_alone : (receiver x y : Life) → AreTwo w.kept.book.lives x y → Match w.kept.book.crossings receiver x → Match w.kept.book.crossings receiver y → ⊥
  world_alone receiver x y two mx my =
      life_alone hosts lawful.whole.moments book_coupled.story book_coupled.run book_run book_served receiver x y (subst (λ (lives : List Life). AreTwo lives x y) book_lives two)
      (subst (λ (log : List Crossing). Match log receiver x) lawful.whole.crossings mx) (subst (λ (log : List Crossing). Match log receiver y) lawful.whole.crossings my)
