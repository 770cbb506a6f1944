-- Words for worked rows: what is said of no book.
use Rattle.std.specs.Prelude.{Bool, List}
use Rattle.interface.specs.declared.crossing.Crossing.{Crossing}
use Rattle.net_sim.specs.Findings.{ShowsMalformed}
use Rattle.net_sim.specs.declared.auditing.findings.Finding.{Finding}
use Rattle.promise.specs.declared.life.Fate.{Fate}
use Rattle.promise.specs.declared.life.Life.{Life}
use Rattle.book_judge.specs.Broken.{IsBroken}
use Rattle.book_judge.specs.declared.broken.Broken.{Broken}

-- of no book with these lives
abbrev pub NeverOf : Broken → List Life → Type 0
NeverOf b lives =
    (log : List Crossing) (handed : List (List Bool)) (fates : List Fate) → IsBroken b log lives handed fates → ⊥

-- these lives and lists never show it there
abbrev pub NeverAt : Finding → List Life → List (List Bool) → Type 0
NeverAt found lives handed = (log : List Crossing) → ShowsMalformed found log lives handed → ⊥
