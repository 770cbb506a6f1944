use Rattle.session.proofs.Common.{append_assoc, length-append}
use Rattle.std.proofs.Common.{[], ◌∷◌, sym, ◌∙◌}
use Rattle.session.proofs.hearing.line_end.Goals as goal

pub returns : goal.returns
returns c = record {
  line = c.in_ok-line.line.now;
  rest = c.in_ok-line.field-0-1.now;
  is_line = c.in_ok-line.ensures.1;
  parts = c.in_ok-line.ensures.0 ∙ sym (append_assoc c.in_ok-line.line.now (10 ∷ []) c.in_ok-line.field-0-1.now);
  counted = sym (length-append c.in_ok-line.line.now (10 ∷ []));
}
