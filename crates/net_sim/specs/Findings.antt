-- Where it shows that a book isn't safe: at a crossing, at one or two lives, or at a list of what was handed over.
use Rattle.std.specs.Prelude.{◌≡◌, ◌⊎◌, ◌<◌, ◌+◌, ℕ, Bool, true, List, [], ◌∷◌, length, take, Some}
use Rattle.std.specs.List.{Contains, slice_get}
use Rattle.interface.specs.Messages.{SafeMessages}
use Rattle.interface.specs.declared.crossing.Crossing.{Crossing}
use Rattle.net_sim.specs.Audit.{IsStamped}
use Rattle.promise.specs.declared.life.Life.{Life}
use Rattle.promise.specs.Safe.{AreHanded, IsGranted, Match, SafePartners, Source, before, receives}
use Rattle.net_sim.specs.declared.auditing.findings.Finding.{Finding}
use Rattle.net_sim.specs.declared.auditing.findings.Finding.TheVariants as finding
use Rattle.net_sim.specs.declared.auditing.said.Audit.{Audit}
use Rattle.net_sim.specs.declared.auditing.said.Audit.TheVariants as audit
use Rattle.net_sim.specs.declared.auditing.said.Part.TheVariants as part

-- this many of the first entries are well, and with one more they are not
abbrev pub EndsAt : (ℕ → Type 0) → ℕ → Type 0
EndsAt AreWell place = AreWell place × (AreWell (place + 1) → ⊥)

-- ---- malformed

abbrev pub AreStamped : List Crossing → List Life → Type 0
AreStamped log lives = (x : Life) → Contains lives x → IsStamped log x

-- the first life that has no list, or the first list that has no life; else the first life with a stamp that names no message
abbrev pub ShowsMalformed : Finding → List Crossing → List Life → List (List Bool) → Type 0
ShowsMalformed (finding.Crossing place) log lives handed = ⊥
ShowsMalformed (finding.Life place) log lives handed =
    ((length handed < length lives) × (place ≡ length handed)) ⊎ ((length lives ≡ length handed) × EndsAt (λ n. AreStamped log (take n lives)) place)
ShowsMalformed (finding.Lives place other) log lives handed = ⊥
ShowsMalformed (finding.List place) log lives handed = (length lives < length handed) × (place ≡ length lives)

-- ---- messages

-- the first crossing with which the messages of the log are not safe
abbrev pub ShowsCrossing : Finding → List Crossing → Type 0
ShowsCrossing (finding.Crossing place) log = EndsAt (λ n. SafeMessages (before n log)) place
ShowsCrossing (finding.Life place) log = ⊥
ShowsCrossing (finding.Lives place other) log = ⊥
ShowsCrossing (finding.List place) log = ⊥

-- ---- partners

-- one life beside each of these would have safe partners, if there were no others
abbrev pub AreAtPeace : List Crossing → List Life → Life → Type 0
AreAtPeace log lives y = (x : Life) → Contains lives x → SafePartners log (x ∷ y ∷ [])

-- the first life with which the partners are not safe, and the first of those before it with which they would not be
abbrev pub ShowsTwo : Finding → List Crossing → List Life → Type 0
ShowsTwo (finding.Crossing place) log lives = ⊥
ShowsTwo (finding.Life place) log lives = ⊥
ShowsTwo (finding.Lives first second) log lives =
    EndsAt (λ n. SafePartners log (take n lives)) second × ((y : Life) × (slice_get lives second ≡ Some y) × (first < second) × EndsAt (λ n. AreAtPeace log (take n lives) y) first)
ShowsTwo (finding.List place) log lives = ⊥

-- ---- streams and grants

-- what the streams promise of some of the lives, and of what was handed over in these
pub record AreFed (log : List Crossing) (lives some : List Life) (handed : List (List Bool)) : Type 0 where
  pub source : (receiver : Life) → Contains some receiver → receives receiver ≡ true → (receiver.bits ≡ [] → ⊥) → Source log lives receiver
  pub sent : AreHanded some handed

-- what the grants promise of some of the lives
pub record HaveGranted (log : List Crossing) (lives some : List Life) : Type 0 where
  pub taken : (receiver : Life) → Contains some receiver → receives receiver ≡ true → IsGranted receiver receiver.messages (length receiver.bits)
  pub sent : (receiver sender : Life) → Contains some receiver → Contains lives sender → Match log receiver sender → IsGranted receiver sender.messages (length sender.bits)

-- of the first lives
abbrev pub first_fed : List Crossing → List Life → List (List Bool) → ℕ → Type 0
first_fed log lives handed n = AreFed log lives (take n lives) (take n handed)

abbrev pub first_granted : List Crossing → List Life → ℕ → Type 0
first_granted log lives n = HaveGranted log lives (take n lives)

-- none of these lives is matched by a receiving one
abbrev pub AreUnmatched : List Crossing → List Life → Life → Type 0
AreUnmatched log lives x = (y : Life) → Contains lives y → Match log x y → ⊥

-- a life, and the first that it matches, where it matches one
abbrev pub WithMatch : Finding → ℕ → List Crossing → List Life → Type 0
WithMatch (finding.Crossing at) place log lives = ⊥
WithMatch (finding.Life at) place log lives = (at ≡ place) × ((x : Life) × (slice_get lives place ≡ Some x) × AreUnmatched log lives x)
WithMatch (finding.Lives at other) place log lives =
    (at ≡ place) × ((x : Life) × (slice_get lives place ≡ Some x) × (other < length lives) × EndsAt (λ n. AreUnmatched log (take n lives) x) other)
WithMatch (finding.List at) place log lives = ⊥

-- the first life with which what is promised of the lives doesn't hold, with its match
pub record ShowsLife (AreWell : ℕ → Type 0) (found : Finding) (log : List Crossing) (lives : List Life) : Type 0 where
  pub place : ℕ
  pub first : EndsAt AreWell place
  pub at : WithMatch found place log lives

-- ---- what an audit says

-- where it shows
abbrev pub Shows : Audit → Finding → List Crossing → List Life → List (List Bool) → Type 0
Shows audit.Kept found log lives handed = ⊥
Shows audit.Malformed found log lives handed = ShowsMalformed found log lives handed
Shows (audit.Broken part.Messages) found log lives handed = ShowsCrossing found log
Shows (audit.Broken part.Partners) found log lives handed = ShowsTwo found log lives
Shows (audit.Broken part.Streams) found log lives handed = ShowsLife (first_fed log lives handed) found log lives
Shows (audit.Broken part.Grants) found log lives handed = ShowsLife (first_granted log lives) found log lives
