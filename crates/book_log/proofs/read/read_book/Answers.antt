use Rattle.book_log.proofs.Common.{◌≡◌, ◌∙◌, [], ◌∷◌, Err, List, arith, inl, inr, rules, subst, sym, ℕ, BeginsBook}
use Rattle.book_log.specs.declared.fault.LogFault.TheVariants as fault
use Rattle.book_log.proofs.Going.{bad_behind, bad_end, bad_here, bad_place, line_more, shorter, whole}
use Rattle.book_log.proofs.Memory.{begins_one, ran_out}
use Rattle.book_log.proofs.read.read_book.Goals as goal

pub returns-in_default-2 : goal.returns-in_default-2
returns-in_default-2 c =
    bad_here c.args.text.now c.lines.left.now c.in-Some.line.now c.in-Some.more.now c.lines.book c.lines.passed
    c.lines.invariant.0 c.in-Some.ensures.0 c.in-Some.ensures.1 (rw c.in_default-2.is at c.in_ok-told.ensures)

pub returns-then-is_empty : goal.returns-then-is_empty
returns-then-is_empty c =
    let read = rw c.in-End.is at (rw c.in-Some-2.is at c.in_ok-told.ensures) in
    whole c.args.text.now c.lines.left.now c.in-Some.line.now c.in-Some.more.now c.lines.book c.lines.passed
    c.lines.invariant.0 c.in-Some.ensures.0 read.0 (sym c.is_empty.ensures ∙ c.if-is_empty.true)

pub returns-else-is_empty : goal.returns-else-is_empty
returns-else-is_empty c =
    let read = rw c.in-End.is at (rw c.in-Some-2.is at c.in_ok-told.ensures) in
    bad_behind c.args.text.now c.lines.left.now c.in-Some.line.now c.in-Some.more.now c.lines.book c.lines.passed
    c.lines.invariant.0 c.in-Some.ensures.0 read.0 (sym c.is_empty.ensures ∙ c.if-is_empty.false)

pub returns-then-not-branch : goal.returns-then-not-branch
returns-then-not-branch c =
    let read = rw c.in-Some-2.is at c.in_ok-told.ensures in
    bad_place c.args.text.now c.lines.left.now c.in-Some.line.now c.in-Some.more.now c.lines.book c.lines.passed
    c.in-Some-2.told c.lines.invariant.0 c.in-Some.ensures.0 c.in-Some.ensures.1 read.0 c.in_default-told.not-End
    (rw c.if-not-branch.true at c.in_ok-add.ensures).0

pub lines-preserved : goal.lines-preserved
lines-preserved c =
    let read = rw c.in-Some-2.is at c.in_ok-told.ensures in (
      line_more c.args.text.now c.lines.left.now c.in-Some.line.now c.in-Some.more.now c.lines.book c.add.new.self
          c.lines.passed c.in-Some-2.told c.lines.invariant.0 c.in-Some.ensures.0 read.0 read.1
          (rw c.if-not-branch.false at c.in_ok-add.ensures),
      omega
          (arith, c.lines.invariant.1, shorter c.lines.left.now c.in-Some.line.now c.in-Some.more.now c.in-Some.ensures.0),
      c.lines.invariant.2,
    )

pub returns : goal.returns
returns c =
    bad_end c.args.text.now c.lines.left.now c.lines.book c.lines.passed c.lines.invariant.0 c.in_default.ensures

-- ---- memory

pub returns-in_err-told : goal.returns-in_err-told
returns-in_err-told c =
    let same : c.from_residual.result ≡ Err fault.OutOfMemory = search rules in
    rw same (ran_out c.args.text.now c.lines.left.now c.in-Some.line.now c.in-Some.more.now c.lines.book c.lines.passed
    c.lines.invariant.0 c.in-Some.ensures.0 (inl c.in_err-told.ensures))

pub returns-in_err-add : goal.returns-in_err-add
returns-in_err-add c =
    let same : c.from_residual-in_err-add.result ≡ Err fault.OutOfMemory = search rules in
    let read = rw c.in-Some-2.is at c.in_ok-told.ensures in
    rw same (ran_out c.args.text.now c.lines.left.now c.in-Some.line.now c.in-Some.more.now c.lines.book c.lines.passed
    c.lines.invariant.0 c.in-Some.ensures.0
    (inr (subst (λ (t : List ℕ). BeginsBook (t ∷ [])) (sym read.0) (begins_one c.in-Some-2.told read.1 c.in_default-told.not-End))))
