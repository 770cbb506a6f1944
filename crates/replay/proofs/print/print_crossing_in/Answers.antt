use Rattle.replay.proofs.Common.{Appends}
use Rattle.std.proofs.Common.{◌≡◌, ℕ, List, ◌++◌, ap, subst, ◌∙◌}
use Rattle.std.proofs.lemmas.List.{append-nil}
use Rattle.interface.specs.Printed.{crossing_text}
use Rattle.replay.proofs.Spelled.{text_line}
use Rattle.replay.proofs.print.print_crossing_in.Goals as goal

pub returns-in_ok-print_spelled-in-Texts-clause-written : goal.returns-in_ok-print_spelled-in-Texts-clause-written
returns-in_ok-print_spelled-in-Texts-clause-written g c =
    let crossed : c.as_octets-in-Texts.result.now ≡ crossing_text c.args.crossing.now =
    c.as_octets-in-Texts.ensures ∙ c.put_crossing-in-Texts.ensures ∙ ap (λ (xs : List ℕ). crossing_text c.args.crossing.now ++ xs) c.clear.ensures ∙ append-nil (crossing_text c.args.crossing.now) in
    text_line c.args.detail c.args.crossing.now c.write_all-in-Texts-2.result
    (g.W.Output.contents c.args.writer.now) (g.W.Output.contents c.write_all-in-Texts.new.self) (g.W.Output.contents c.print_spelled.new.writer) (g.W.Output.contents c.write_all-in-Texts-2.new.self)
    c.in-Texts.is (subst (Appends (g.W.Output.contents c.args.writer.now) (g.W.Output.contents c.write_all-in-Texts.new.self)) crossed c.in_ok-write_all-in-Texts.ensures.written)
    c.in_ok-print_spelled-in-Texts.ensures.written c.write_all-in-Texts-2.ensures.written
