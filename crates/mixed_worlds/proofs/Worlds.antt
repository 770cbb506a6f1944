-- The book of a world with strangers.
use Rattle.mixed_worlds.proofs.Common.{Contains, Host, Crossing, ClosesWhole, IsBeside, AreFated, Life, IsMixed, Kept, Moment, crossings_of, contacts_of, beside_among, contacts_among, lives_among, mixed_kept, JoinedBook, IsBacked, Called, EachWasSent, CountNothingLater, ArrivedAmong}
use Rattle.std.proofs.Common.{◌≡◌, Bool, true, false, List, length, subst, sym, All}
use Rattle.interface.proofs.lemmas.{safe_messages, run_below}
use Rattle.promise.specs.Safe.{receives, sends, IsGranted, IsPrefix, SafeBook}
use Rattle.mixed_worlds.specs.Toward.{HasAsked, IsCarried, AreOnce}
use Rattle.promise.specs.Formed.{FormedBook}
use Rattle.interface.specs.Mailboxes.{IsRun}
use Rattle.mixed_worlds.specs.Arrived.{BetweenAmong}
use Rattle.mixed_worlds.specs.Told.{ToldAmong}
use Rattle.interface.specs.Calls.{Seen}
use Rattle.promise.specs.Ends.{AreContacts, AreLeft}
use Rattle.net_sim.specs.Clean.{IsLawfulAmong}
use Rattle.net_sim.specs.Told.{without_reports}
use Rattle.net_sim.specs.World.{WorldState}
use Rattle.world_keeps_lives.specs.Lives.{IsBounded}
use Rattle.world_keeps_streams.specs.Granted.{EachIsWithin}
use Rattle.mixed_worlds.specs.Laws.{Among, KeepsAmong, KeepsToward, Toward}

module _ {C : Type 0} (strange : Host → Bool) (seen : C → Seen) (hosts : List Host) (w : WorldState C)
    (lawful : IsLawfulAmong strange seen hosts w) where
  abbrev moments : List Moment
  moments = lawful.whole.moments

  abbrev log : List Crossing
  log = w.kept.book.crossings

  book_run : IsRun hosts log
  book_run = run_below hosts lawful.booked.unbooked log
      (subst (λ (xs : List Crossing). IsRun hosts xs) lawful.booked.book lawful.run)

  pub world_mixed : IsMixed strange hosts lawful.whole.moments
  world_mixed = record {
    addresses = lawful.addresses;
    strangers = lawful.strangers;
    run = subst (λ (xs : List Crossing). IsRun hosts xs) lawful.whole.crossings book_run;
    happen = lawful.whole.mixed;
  }

  -- what is so of the moments is so of what is kept
  kept : (P : List Crossing → Kept → Type 0) → P (crossings_of moments) (mixed_kept strange moments)
      → P log (without_reports w.kept)
  kept P x = subst (λ (xs : List Crossing). P xs (without_reports w.kept)) (sym lawful.whole.crossings)
      (subst (λ (k : Kept). P (crossings_of moments) k) (sym lawful.whole.kept) x)

  -- and so it is with the contacts
  kept_with : (P : List Called → List Crossing → Kept → Type 0)
      → P (contacts_of moments) (crossings_of moments) (mixed_kept strange moments)
      → P w.kept.book.contacts log (without_reports w.kept)
  kept_with P x = kept (λ xs k. P w.kept.book.contacts xs k)
      (subst (λ (cs : List Called). P cs (crossings_of moments) (mixed_kept strange moments))
      (sym lawful.whole.contacts) x)

  pub keeps_among : Among → KeepsAmong strange hosts w
  keeps_among law = record {
    run = book_run;
    formed = kept (λ xs k. FormedBook xs (lives_among strange k.book.lives)) (law.formed strange hosts moments world_mixed);
    told = kept (λ xs k. ToldAmong strange xs k.book.notices) (law.told strange hosts moments world_mixed);
    safe = kept (λ xs k. SafeBook xs (lives_among strange k.book.lives)
        (beside_among strange k.book.lives k.handed)) (law.safe strange hosts moments world_mixed);
    whole = kept (λ xs k. ClosesWhole xs (lives_among strange k.book.lives)
        (beside_among strange k.book.lives k.handed) (beside_among strange k.book.lives k.fates))
        (law.whole strange hosts moments world_mixed);
    fated = kept (λ xs k. AreFated (lives_among strange k.book.lives)
        (beside_among strange k.book.lives k.fates)) (law.fated strange hosts moments world_mixed);
    arrived = kept_with (λ cs xs k. ArrivedAmong strange (contacts_among strange cs) xs
        (lives_among strange k.book.lives) (beside_among strange k.book.lives k.fates)) (law.arrived strange hosts moments world_mixed);
    over = kept_with (λ cs xs k. AreLeft (contacts_among strange cs) xs (lives_among strange k.book.lives)
        (beside_among strange k.book.lives k.fates)) (law.over strange hosts moments world_mixed);
    contacts = kept_with (λ cs xs k. AreContacts (contacts_among strange cs) xs)
        (law.contacts strange hosts moments world_mixed);
    within = kept_with (λ cs xs k. CountNothingLater (contacts_among strange cs) xs
        (lives_among strange k.book.lives)) (law.within strange hosts moments world_mixed);
    sent = kept (λ xs k. EachWasSent xs (lives_among strange k.book.lives))
        (law.sent strange hosts moments world_mixed);
    between = kept (λ xs k. BetweenAmong strange xs (lives_among strange k.book.lives))
        (law.between strange hosts moments world_mixed);
    granted = kept (λ xs k. EachIsWithin xs (lives_among strange k.book.lives))
        (law.granted strange hosts moments world_mixed);
    joined = kept (λ xs k. JoinedBook (record k.book {
      reports = w.kept.book.reports;
      lives = lives_among strange k.book.lives;
    })) (law.joined strange hosts moments world_mixed w.kept.book.reports backed);
  } where
    backed : All (IsBacked (mixed_kept strange moments).book.notices) w.kept.book.reports
    backed = subst (λ (k : Kept). All (IsBacked k.book.notices) w.kept.book.reports) lawful.whole.kept
        lawful.reported.reports

  pub keeps_toward : Toward → KeepsToward strange w
  keeps_toward law = record {
    owner = kept (λ xs k. (x : Life) → Contains k.book.lives x → strange x.host ≡ false)
        (law.owner strange hosts moments world_mixed);
    asked = kept (λ xs k. (x : Life) → Contains k.book.lives x → HasAsked xs x)
        (law.asked strange hosts moments world_mixed);
    once = kept (λ xs k. AreOnce k.book.lives) (law.once strange hosts moments world_mixed);
    carried = kept (λ xs k. (x : Life) → Contains k.book.lives x → IsCarried xs x)
        (law.carried strange hosts moments world_mixed);
    handed = kept
        (λ xs k. (sender : Life) (text : List Bool) → IsBeside sender text k.book.lives k.handed
        → sends sender ≡ true → IsPrefix sender.bits text)
        (law.handed strange hosts moments world_mixed);
    taken = kept
        (λ xs k. (receiver : Life) → Contains k.book.lives receiver → receives receiver ≡ true
        → IsGranted receiver receiver.messages (length receiver.bits))
        (λ x there kind. law.taken strange hosts moments world_mixed x there
        (law.owner strange hosts moments world_mixed x there) kind);
    bounded = kept
        (λ xs k. (receiver : Life) → Contains k.book.lives receiver → receives receiver ≡ true → IsBounded receiver)
        (λ x there kind. law.bounded strange hosts moments world_mixed x there
        (law.owner strange hosts moments world_mixed x there) kind);
    messages = safe_messages hosts log book_run;
  }
