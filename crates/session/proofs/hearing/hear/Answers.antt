use Rattle.session.proofs.Common.{All-append, IsLine}
use Rattle.std.proofs.Common.{rules, ◌≡◌, ◌+◌, ◌==◌, ◌++◌, ℕ, List, false, length, take, sym, ap, ◌∙◌, arith, subst}
use Rattle.session.proofs.Lines.{end_came, grown, takes}
use Rattle.session.proofs.hearing.hear.Goals as goal

pub returns-in-Some-line_end-clause-hears : goal.returns-in-Some-line_end-clause-hears
returns-in-Some-line_end-clause-hears g c =
    let came : List ℕ = take c.in_ok-count.count c.read.new.buf in
    let is : c.extend_from_slice.new.self.items ≡ c.chunks.ahead.items ++ came = search rules in
    let long : length c.in_ok-line-2.line.items ≡ c.len-seen.result + c.in-Some-line_end.end = c.in_ok-line-2.ensures.1 in
    takes _ _ c.extend_from_slice.new.self.items c.in_ok-line-2.line.items c.first_part-in-Some-line_end.new.ahead.items _ _
    (grown _ _ _ c.chunks.ahead.items c.extend_from_slice.new.self.items came c.chunks.invariant.4 c.in_ok-count.ensures.octets.0 is)
    c.in_ok-line-2.ensures.0 (omega (arith, long))

pub returns-in-Some-line_end-clause-heard : goal.returns-in-Some-line_end-clause-heard
returns-in-Some-line_end-clause-heard g c =
    let came : List ℕ = take c.in_ok-count.count c.read.new.buf in
    let is : c.extend_from_slice.new.self.items ≡ c.chunks.ahead.items ++ came = search rules in
    let long : c.len-seen.result ≡ length c.chunks.ahead.items = search rules in
    end_came c.chunks.ahead.items came c.in_ok-line-2.line.items c.first_part-in-Some-line_end.new.ahead.items c.in-Some-line_end.end
    c.chunks.invariant.3 c.in-Some-line_end.ensures (sym is ∙ c.in_ok-line-2.ensures.0)
    (c.in_ok-line-2.ensures.1 ∙ ap (λ (n : ℕ). n + c.in-Some-line_end.end) long)

pub chunks-preserved : goal.chunks-preserved
chunks-preserved g c =
    let came : List ℕ = take c.in_ok-count.count c.read.new.buf in
    let is : c.extend_from_slice.new.self.items ≡ c.chunks.ahead.items ++ came = search rules in (
      search rules,
      search rules,
      search rules,
      subst IsLine (sym is) (All-append (λ x. (x == 10) ≡ false) c.chunks.ahead.items came c.chunks.invariant.3 c.in_default-line_end.ensures),
      grown _ _ _ c.chunks.ahead.items c.extend_from_slice.new.self.items came c.chunks.invariant.4 c.in_ok-count.ensures.octets.0 is,
    )
