-- What the contracts of the parts of a judgement say. No public clause cites this file.
use Rattle.std.specs.Prelude.{Bool, List, MatchOption, Option, length}
use Rattle.interface.specs.declared.crossing.Crossing.{Crossing}
use Rattle.net_sim.specs.Findings.{AreFed, ShowsLife, ShowsTwo, first_fed}
use Rattle.net_sim.specs.declared.auditing.findings.Finding.{Finding}
use Rattle.promise.specs.Fates.{ClosesWhole}
use Rattle.promise.specs.Safe.{Name, SafePartners}
use Rattle.promise.specs.declared.life.Fate.{Fate}
use Rattle.promise.specs.declared.life.Life.{Life}
use Rattle.book_judge.specs.Broken.{first_closed}
use Rattle.book_judge.specs.Inside.Asked.{AreNamed}

-- of any log in which these are the requests of the partners of the lives

abbrev pub TellsPartners : Option Finding → List Name → List Life → Type 0
TellsPartners found names lives =
    (log : List Crossing) → AreNamed (length lives) names lives log → MatchOption found (SafePartners log lives) (λ at. ShowsTwo at log lives)

abbrev pub TellsStreams : Option Finding → List Name → List Life → List (List Bool) → Type 0
TellsStreams found names lives handed =
    (log : List Crossing) → AreNamed (length lives) names lives log
    → MatchOption found (AreFed log lives lives handed) (λ at. ShowsLife (first_fed log lives handed) at log lives)

abbrev pub TellsCloses : Option Finding → List Name → List Life → List (List Bool) → List Fate → Type 0
TellsCloses found names lives handed fates =
    (log : List Crossing) → AreNamed (length lives) names lives log
    → MatchOption found (ClosesWhole log lives handed fates) (λ at. ShowsLife (first_closed log lives handed fates) at log lives)
