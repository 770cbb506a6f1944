use Rattle.command_line.proofs.Common.{AreSuited, AreMade, IsSomeRun, AreToward, Host, is_host, SafeMessages, Crossing, Life}
use Rattle.std.proofs.Common.{◌≡◌, ℕ, ◌+◌, ◌-◌, ◌≤◌, List, inl, inr, ap, arith, drop, length, reverse, subst, sym, take, ◌∙◌}
use Rattle.std.proofs.lemmas.List.{length-reverse, take_all}
use Rattle.book_log.specs.Log.{Book, fates_of, lives_of}
use Rattle.net_sim.specs.Findings.{AreStamped, EndsAt}
use Rattle.promise.specs.Safe.{before}
use Rattle.command_line.specs.Audits.{program_fates, program_lives}
use Rattle.command_line.proofs.law.worked_first.Goals as goal

-- the first ones of a list are all of them from its end on
past : {T : Type 0} (AreWell : List T → Type 0) (xs : List T) (n : ℕ) → length xs ≤ n
    → EndsAt (λ k. AreWell (take k xs)) n → ⊥
past AreWell xs n le h = h.1 (subst AreWell (take_all n xs le ∙ sym (take_all (n + 1) xs (omega (arith, le)))) h.0)

all_before : (log : List Crossing) (n : ℕ) → length log ≤ n → before n log ≡ log
all_before log n le =
    let none : length log - n ≡ 0 = omega (arith, le) in
    ap (λ (k : ℕ). drop k log) none

pub returns-clause-run : goal.returns-clause-run
returns-clause-run c = λ hosts b says.
    past (λ cs. IsSomeRun (reverse cs)) b.crossings (length b.crossings) (omega arith) says.run

pub returns-clause-lives : goal.returns-clause-lives
returns-clause-lives c = λ hosts b says.
    past (λ xs. AreMade (reverse b.crossings) xs) (program_lives hosts b) (length (program_lives hosts b))
    (omega arith) says.made

pub returns-clause-malformed : goal.returns-clause-malformed
returns-clause-malformed c = λ hosts b says. elim says.formed [
  | inl short ↦ (let is : length (lives_of b) ≡ length b.handed = short.1 in omega (arith, short.0, is))
  | inr ends ↦ past (λ xs. AreStamped (reverse b.crossings) xs) (lives_of b) (length (lives_of b)) (omega arith)
      ends.1
]

pub returns-clause-messages : goal.returns-clause-messages
returns-clause-messages c = λ hosts b says. (
    let log : List Crossing = reverse b.crossings in
    let n : ℕ = length b.crossings in
    let long : length log ≡ n = length-reverse b.crossings in
    says.messages.1 (subst SafeMessages
    (all_before log n (omega (arith, long)) ∙ sym (all_before log (n + 1) (omega (arith, long)))) says.messages.0)
    )

pub returns-clause-fates : goal.returns-clause-fates
returns-clause-fates c = λ hosts b says. past (λ xs. AreSuited (reverse b.crossings) xs (program_fates hosts b))
    (program_lives hosts b) (length (program_lives hosts b)) (omega arith) says.suited

pub returns-clause-toward : goal.returns-clause-toward
returns-clause-toward c = λ hosts b says. (
    let strange = λ (h : Host). is_host hosts h in
    let lives : List Life = lives_of b in
    let n : ℕ = length lives + length b.handed in
    let one : take n lives ≡ take (n + 1) lives =
    take_all n lives (omega arith) ∙ sym (take_all (n + 1) lives (omega arith)) in
    let other : take n b.handed ≡ take (n + 1) b.handed =
    take_all n b.handed (omega arith) ∙ sym (take_all (n + 1) b.handed (omega arith)) in
    says.toward.1 (subst (λ xs. AreToward strange xs (take (n + 1) b.handed)) one
    (subst (λ ys. AreToward strange (take n lives) ys) other says.toward.0))
    )
