use Rattle.script.proofs.Common.{encode_upper, bits_of, octets_of}
use Rattle.std.proofs.Common.{arith, ◌<◌, ◌*◌, ◌≡◌, sym, ap, ◌∙◌, length, take}
use Rattle.std.specs.Cmp.Lexicographic.{same_text, other_text}
use Rattle.script.proofs.Texts.{no_octets, too_few, other_case, this_case}
use Rattle.script.proofs.word.read_bits.Goals as goal

pub returns-in_default-clause-read : goal.returns-in_default-clause-read
returns-in_default-clause-read c = no_octets c.args.word.now c.args.count (omega arith) (rw c.in_default.is at c.in_ok-octets.ensures.read)

pub returns-in_default-2-clause-read : goal.returns-in_default-2-clause-read
returns-in_default-2-clause-read c =
    let read = rw c.in-Some.is at c.in_ok-octets.ensures.read in
    let few : 8 * length c.deref.result.now < c.args.count = rw c.in_default-2.is at c.in_ok-bits.ensures.read in
    let same : length c.deref.result.now ≡ length c.in-Some.octets.items = ap length c.deref.ensures.value in
    too_few c.args.word.now c.in-Some.octets.items c.args.count (omega arith) read.0 (omega arith)

pub returns-then-eq-clause-read : goal.returns-then-eq-clause-read
returns-then-eq-clause-read c =
    let read = rw c.in-Some.is at c.in_ok-octets.ensures.read in
    let first = rw c.in-Some-2.is at c.in_ok-bits.ensures.read in
    let same : c.as_octets.result.now ≡ c.as_slice.result.now = same_text c.as_octets.result.now c.as_slice.result.now (sym c.if-eq.true ∙ c.eq.ensures) in
    let whole : octets_of c.in-Some-2.bits ≡ c.deref.result.now = sym c.as_octets.ensures ∙ same ∙ c.as_slice.ensures.value ∙ sym c.deref.ensures.value in
    let spelled = this_case c.args.word.now c.deref.result.now c.in-Some-2.bits c.args.count (omega arith) first.0 first.1 whole (read.1 ∙ ap encode_upper (sym c.deref.ensures.value)) in
    (spelled.text, spelled.long)

pub returns-clause-read : goal.returns-clause-read
returns-clause-read c =
    let read = rw c.in-Some.is at c.in_ok-octets.ensures.read in
    let first = rw c.in-Some-2.is at c.in_ok-bits.ensures.read in
    other_case c.args.word.now c.in-Some.octets.items c.in-Some-2.bits c.args.count (omega arith) read.0 (first.1 ∙ ap (λ os. take c.args.count (bits_of os)) c.deref.ensures.value)
    (λ same. other_text c.as_octets.result.now c.as_slice.result.now (sym c.if-eq.false ∙ c.eq.ensures) (c.as_octets.ensures ∙ same ∙ sym c.as_slice.ensures.value))
