use Rattle.std.proofs.Common.{◌≡◌, ap, inl, inr, true, false, refl}
use Rattle.promise.specs.declared.book.Told.{Told}
use Rattle.mixed_worlds.proofs.law.worked_told.Goals as goal

pub returns-clause-nothing : goal.returns-clause-nothing
returns-clause-nothing c none = none

pub returns-clause-elsewhere : goal.returns-clause-elsewhere
returns-clause-elsewhere c told = elim told [
  | inl older ↦ older.1
  | inr this ↦ absurd (let no : 1 ≡ 2 = ap (λ (t : Told). t.host.imp) this.0.told in cc)
]

pub returns-clause-untaken : goal.returns-clause-untaken
returns-clause-untaken c told = elim told [
  | inl older ↦ older.1
  | inr this ↦ absurd (let no : 2 ≡ 3 = ap (λ (t : Told). t.host.imp) this.0.told in cc)
]

pub returns-clause-unreported : goal.returns-clause-unreported
returns-clause-unreported c told = elim told.0 [
  | inl is ↦ absurd (let no : false ≡ true = is in cc)
  | inr is ↦ absurd (let no : false ≡ true = is in cc)
]

pub returns-clause-free : goal.returns-clause-free
returns-clause-free c = (inl refl, tt)
