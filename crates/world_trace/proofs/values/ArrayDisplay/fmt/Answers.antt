use Rattle.world_trace.proofs.Common.{◌++◌, ap, codes, map, rules, has_written_append, has_written_of_eq}
use Rattle.world_trace.proofs.Lists.{marked_is}
use Rattle.world_trace.proofs.values.ArrayDisplay.fmt.Goals as goal

pub returns-clause-writes : goal.returns-clause-writes
returns-clause-writes g c = λ plain ok.
    let begin = c.write_str.ensures.writes plain (search rules) in
    let items = c.show_each.ensures.written begin.plain (search rules) in
    let end = c.write_str-2.ensures.writes items.plain ok in
    has_written_of_eq _ _ _ _ _ (ap (λ xs. codes "[" ++ xs) (marked_is (codes "]") (map g.T.Json.text c.args.self.now.0.now)))
    (has_written_append _ _ _ _ _ _ begin (has_written_append _ _ _ _ _ _ items end))
