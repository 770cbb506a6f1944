use Rattle.book_log.proofs.Common.{◌≡◌, codes, rules, differs}
use Rattle.book_log.proofs.Named.{no_space, other_word, read_word}
use Rattle.book_log.proofs.strangers.read_stranger.Goals as goal

pub returns-in_err-word : goal.returns-in_err-word
returns-in_err-word c = rw c.from_residual.ensures (λ h meant. no_space c.args.line.now c.in_err-word.ensures h)

pub returns-then-eq : goal.returns-then-eq
returns-then-eq c =
    let is : c.in_ok-word.word.now ≡ codes "foreign" = search rules in
    read_word c.args.line.now c.in_ok-word.word.now c.in_ok-word.rest.now c.read_host.result c.in_ok-word.ensures.0
    c.in_ok-word.ensures.1 is c.read_host.ensures

pub returns : goal.returns
returns c = λ h meant.
    other_word c.args.line.now c.in_ok-word.word.now c.in_ok-word.rest.now c.in_ok-word.ensures.0 c.in_ok-word.ensures.1
    (differs c.in_ok-word.word.now (codes "foreign") c.as_slice.result.now c.eq.result c.eq.ensures c.as_slice.ensures c.if-eq.false)
    h
