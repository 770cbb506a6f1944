use Rattle.trace.proofs.Common.{◌++◌, codes, map, shown_crossings, shown_refusal, shown_text, Sizes, appends_more, on_ok}
use Rattle.trace.specs.Texts.{array, crossing_object, strings}
use Rattle.trace.proofs.Printed.{three}
use Rattle.trace.proofs.line.print_outcome.Goals as goal

pub returns-clause-written : goal.returns-clause-written
returns-clause-written g c =
    let crossed = array (map crossing_object c.args.crossings.now) in
    let printed = strings (map (shown_text Sizes) (shown_crossings c.args.crossings.now ++ shown_refusal c.args.outcome)) in
    on_ok c.print_shown.result
    (λ end. appends_more (g.W.Output.contents c.args.writer.now) (g.W.Output.contents c.write_all.new.self) (g.W.Output.contents c.print_shown.new.writer) (codes ",\"crossed\":") (crossed ++ (codes ",\"printed\":" ++ printed)) c.in_ok-write_all.ensures.written
    (three crossed (codes ",\"printed\":") printed (g.W.Output.contents c.write_all.new.self) (g.W.Output.contents c.print_array.new.writer) (g.W.Output.contents c.write_all-2.new.self) (g.W.Output.contents c.print_shown.new.writer)
    c.in_ok-print_array.ensures.written c.in_ok-write_all-2.ensures.written end))
    c.print_shown.ensures.written
