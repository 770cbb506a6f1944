use Rattle.book_log.proofs.Common.{◌≡◌, ◌∙◌, Err, codes, refl, rules, sym, words_left, differs}
use Rattle.interface.specs.declared.crossing.Crossing.TheVariants as crossing
use Rattle.book_log.specs.declared.lines.Line.TheVariants as line
use Rattle.book_log.proofs.Keywords.{no_operand, read_as, short_read}
use Rattle.book_log.proofs.Memory.{has_octets}
use Rattle.book_log.proofs.lines.read_line.Goals as goal

pub returns-in_default-2 : goal.returns-in_default-2
returns-in_default-2 c =
    let is : c.in-Some.first.now ≡ codes "out" = search rules in
    no_operand (codes "out") c.args.line.now c.in-Some.first.now (words_left c.next.new.self) (sym c.of-words.ensures ∙ c.in-Some.ensures) is (rw c.in_default-2.is at c.in_ok-message.ensures)

pub returns-then-eq : goal.returns-then-eq
returns-then-eq c =
    let is : c.in-Some.first.now ≡ codes "out" = search rules in
    let read = rw c.in-Some-2.is at c.in_ok-message.ensures in
    (read_as c.args.line.now c.in-Some.first.now (words_left c.next.new.self) (line.Crossed (crossing.Out c.in-Some-2.message)) (sym c.of-words.ensures ∙ c.in-Some.ensures) is read.0, read.1)

pub returns-in_default-3 : goal.returns-in_default-3
returns-in_default-3 c =
    let is : c.in-Some.first.now ≡ codes "in" = search rules in
    no_operand (codes "in") c.args.line.now c.in-Some.first.now (words_left c.next.new.self) (sym c.of-words.ensures ∙ c.in-Some.ensures) is (rw c.in_default-3.is at c.in_ok-message-2.ensures)

pub returns-then-eq-2 : goal.returns-then-eq-2
returns-then-eq-2 c =
    let is : c.in-Some.first.now ≡ codes "in" = search rules in
    let read = rw c.in-Some-3.is at c.in_ok-message-2.ensures in
    (read_as c.args.line.now c.in-Some.first.now (words_left c.next.new.self) (line.Crossed (crossing.In c.in-Some-3.message)) (sym c.of-words.ensures ∙ c.in-Some.ensures) is read.0, read.1)

pub returns-in_default-4 : goal.returns-in_default-4
returns-in_default-4 c =
    let is : c.in-Some.first.now ≡ codes "life" = search rules in
    no_operand (codes "life") c.args.line.now c.in-Some.first.now (words_left c.next.new.self) (sym c.of-words.ensures ∙ c.in-Some.ensures) is (rw c.in_default-4.is at c.in_ok-life.ensures)

pub returns-then-eq-3 : goal.returns-then-eq-3
returns-then-eq-3 c =
    let is : c.in-Some.first.now ≡ codes "life" = search rules in
    let read = rw c.in-Some-4.is at c.in_ok-life.ensures in
    (read_as c.args.line.now c.in-Some.first.now (words_left c.next.new.self) (line.Lived c.in-Some-4.life c.in-Some-4.fate) (sym c.of-words.ensures ∙ c.in-Some.ensures) is read.0, read.1)

pub returns-in_default-5 : goal.returns-in_default-5
returns-in_default-5 c =
    let is : c.in-Some.first.now ≡ codes "handed" = search rules in
    no_operand (codes "handed") c.args.line.now c.in-Some.first.now (words_left c.next.new.self) (sym c.of-words.ensures ∙ c.in-Some.ensures) is (rw c.in_default-5.is at c.in_ok-bits.ensures)

pub returns-then-eq-4 : goal.returns-then-eq-4
returns-then-eq-4 c =
    let is : c.in-Some.first.now ≡ codes "handed" = search rules in
    let read = rw c.in-Some-5.is at c.in_ok-bits.ensures in
    (read_as c.args.line.now c.in-Some.first.now (words_left c.next.new.self) (line.Handed c.in-Some-5.bits) (sym c.of-words.ensures ∙ c.in-Some.ensures) is read.0, read.1)

pub returns : goal.returns
returns c =
    short_read c.args.line.now c.in-Some.first.now (words_left c.next.new.self) c.read_short.result (sym c.of-words.ensures ∙ c.in-Some.ensures)
    (differs c.in-Some.first.now (codes "out") c.as_slice.result.now c.eq.result c.eq.ensures c.as_slice.ensures c.if-eq.false)
    (differs c.in-Some.first.now (codes "in") c.as_slice-2.result.now c.eq-2.result c.eq-2.ensures c.as_slice-2.ensures c.if-eq-2.false)
    (differs c.in-Some.first.now (codes "life") c.as_slice-3.result.now c.eq-3.result c.eq-3.ensures c.as_slice-3.ensures c.if-eq-3.false)
    (differs c.in-Some.first.now (codes "handed") c.as_slice-4.result.now c.eq-4.result c.eq-4.ensures c.as_slice-4.ensures c.if-eq-4.false)
    c.read_short.ensures

-- ---- memory

pub returns-in_err-message : goal.returns-in_err-message
returns-in_err-message c =
    let is : c.in-Some.first.now ≡ codes "out" = search rules in
    let same : c.from_residual.result ≡ Err c.in_err-message.field-0.0 = search rules in
    rw same (has_octets (codes "out") c.args.line.now c.in-Some.first.now (words_left c.next.new.self) refl (sym c.of-words.ensures ∙ c.in-Some.ensures) is)

pub returns-in_err-message-2 : goal.returns-in_err-message-2
returns-in_err-message-2 c =
    let is : c.in-Some.first.now ≡ codes "in" = search rules in
    let same : c.from_residual-in_err-message-2.result ≡ Err c.in_err-message-2.field-0.0 = search rules in
    rw same (has_octets (codes "in") c.args.line.now c.in-Some.first.now (words_left c.next.new.self) refl (sym c.of-words.ensures ∙ c.in-Some.ensures) is)

pub returns-in_err-life : goal.returns-in_err-life
returns-in_err-life c =
    let is : c.in-Some.first.now ≡ codes "life" = search rules in
    let same : c.from_residual-in_err-life.result ≡ Err c.in_err-life.field-0.0 = search rules in
    rw same (has_octets (codes "life") c.args.line.now c.in-Some.first.now (words_left c.next.new.self) refl (sym c.of-words.ensures ∙ c.in-Some.ensures) is)

pub returns-in_err-bits : goal.returns-in_err-bits
returns-in_err-bits c =
    let is : c.in-Some.first.now ≡ codes "handed" = search rules in
    let same : c.from_residual-in_err-bits.result ≡ Err c.in_err-bits.field-0.0 = search rules in
    rw same (has_octets (codes "handed") c.args.line.now c.in-Some.first.now (words_left c.next.new.self) refl (sym c.of-words.ensures ∙ c.in-Some.ensures) is)
