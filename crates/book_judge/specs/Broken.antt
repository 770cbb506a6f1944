-- What is wrong with the lives of a book: where they are malformed, and else which of partners, streams, grants, what was sent, and closes are broken.
use Rattle.std.specs.Prelude.{◌≡◌, ℕ, Bool, true, List, MatchOption, Option, Some, None, take}
use Rattle.std.specs.List.{Contains}
use Rattle.interface.specs.declared.crossing.Crossing.{Crossing}
use Rattle.interface.specs.declared.crossing.Crossing.TheVariants as crossing
use Rattle.interface.specs.declared.message.HostMessage.{HostMessage}
use Rattle.net_sim.specs.Audit.{IsWellFormed}
use Rattle.net_sim.specs.Findings.{AreFed, HaveGranted, ShowsLife, ShowsMalformed, ShowsTwo, first_fed}
use Rattle.net_sim.specs.declared.auditing.findings.Finding.{Finding}
use Rattle.promise.specs.Arrived.{IsCounted}
use Rattle.promise.specs.Fates.{ClosesWhole}
use Rattle.promise.specs.Formed.{CrossedAt}
use Rattle.promise.specs.Safe.{SafeGrants, SafePartners, receives}
use Rattle.promise.specs.declared.life.Fate.{Fate}
use Rattle.promise.specs.declared.life.Life.{Life}
use Rattle.world_keeps_streams.specs.Granted.{EachIsWithin}
use Rattle.world_keeps_streams.specs.Sent.{EachWasSent, WasSent}
use Rattle.book_judge.specs.declared.broken.Broken.{Broken}

-- partners, streams, grants and closes are about the requests that stamps name: of a malformed book nothing is said of them
abbrev pub IfFormed : {F : Type 0} → Option Finding → Option F → Type 0 → (F → Type 0) → Type 0
IfFormed {F} None found Holds ShowsAt = MatchOption found Holds ShowsAt
IfFormed {F} (Some malformed) found Holds ShowsAt = found ≡ None

-- what was taken and sent is within what the lives that took it granted, and what was sent within what ALLs granted
pub record KeepsGrants (log : List Crossing) (lives : List Life) : Type 0 where
  pub counted : SafeGrants log lives
  pub crossed : EachIsWithin log lives

-- the same of the first lives
abbrev pub first_grants : List Crossing → List Life → ℕ → Type 0
first_grants log lives n = HaveGranted log lives (take n lives) × EachIsWithin log (take n lives)

-- what closes promise of the first lives, each with its fate
abbrev pub first_closed : List Crossing → List Life → List (List Bool) → List Fate → ℕ → Type 0
first_closed log lives handed fates n = ClosesWhole log lives handed (take n fates)

-- what is promised of the messages that the first lives count
abbrev pub first_sent : List Crossing → List Life → ℕ → Type 0
first_sent log lives n =
    (receiver : Life) (place : ℕ) (m : HostMessage) → Contains (take n lives) receiver → receives receiver ≡ true
    → CrossedAt place (crossing.In m) log → IsCounted log place m receiver → WasSent log lives place m receiver

-- a part that isn't named holds, and of one that is it is said where it shows; the log is the newest first
pub record IsBroken (b : Broken) (log : List Crossing) (lives : List Life) (handed : List (List Bool)) (fates : List Fate) : Type 0 where
  -- there is a list for each life, and their stamps name requests
  pub formed : MatchOption b.malformed (IsWellFormed log lives handed) (λ found. ShowsMalformed found log lives handed)
  -- that a receiving life matches one sender at most is of partners
  pub partners : IfFormed b.malformed b.partners (SafePartners log lives) (λ found. ShowsTwo found log lives)
  pub streams : IfFormed b.malformed b.streams (AreFed log lives lives handed) (λ found. ShowsLife (first_fed log lives handed) found log lives)
  -- of what was granted: by the lives that took it, and by the ALLs that crossed
  pub grants : IfFormed b.malformed b.grants (KeepsGrants log lives) (λ found. ShowsLife (first_grants log lives) found log lives)
  -- that each message which a receiving life counts is, by its number, that of a life that it matches
  pub sent : IfFormed b.malformed b.sent (EachWasSent log lives) (λ found. ShowsLife (first_sent log lives) found log lives)
  -- what a life whose partner ended it has lost
  pub closes : IfFormed b.malformed b.closes (ClosesWhole log lives handed fates) (λ found. ShowsLife (first_closed log lives handed fates) found log lives)

-- nothing is named
abbrev pub unbroken : Broken
unbroken = record { malformed = None; partners = None; streams = None; grants = None; sent = None; closes = None }

-- only this: the book is malformed
abbrev pub only_malformed : Finding → Broken
only_malformed found = record { malformed = Some found; partners = None; streams = None; grants = None; sent = None; closes = None }
