use Rattle.world_trace.proofs.Common.{List, ℕ, [], ◌++◌, ap, codes, map, rules, ◌∙◌, has_written_append, has_written_of_eq, all_in, marked, service_object}
use Rattle.world_trace.proofs.Lists.{running_is}
use Rattle.world_trace.proofs.services.RunningDisplay.fmt.Goals as goal

pub returns-clause-writes : goal.returns-clause-writes
returns-clause-writes g c = λ plain ok.
    let begin = c.write_str.ensures.writes plain (search rules) in
    let blocks = c.show_blocks.ensures.written begin.plain (search rules) in
    let last = c.show_each.ensures.written blocks.plain (search rules) in
    let end = c.write_str-2.ensures.writes last.plain ok in
    let a : List (List ℕ) = map service_object (all_in c.running.result.0.now) in
    has_written_of_eq _ _ _ _ _
    (ap (λ m. codes "[" ++ (marked [] a ++ (marked m (map service_object c.running.result.1.now) ++ codes "]"))) c.in_ok-mark.ensures.next ∙ running_is c.running.result.0.now c.running.result.1.now c.args.self.now.0.now.running c.running.ensures)
    (has_written_append _ _ _ _ _ _ begin (has_written_append _ _ _ _ _ _ blocks (has_written_append _ _ _ _ _ _ last end)))
