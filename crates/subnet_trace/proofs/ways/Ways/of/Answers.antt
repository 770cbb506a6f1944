use Rattle.subnet_trace.proofs.Common.{◌≡◌, ◌∙◌, List, Option, ℕ, ap, sym, Table, concluded_text, heard_list}
use Rattle.subnet_trace.proofs.ways.Ways.of.Goals as goal

pub invariant_of-result : goal.invariant_of-result
invariant_of-result c =
    let copied : c.in_ok-copies_of.field-0.items ≡ c.args.routes.now.heard = c.in_ok-copies_of.ensures ∙ c.heard.ensures in
    let same : c.args.routes.now ≡ record { own = c.own.result; heard = c.in_ok-copies_of.field-0.items; claims = c.claims.result } =
    sym (λ j. record { own = c.own.ensures j; heard = copied j; claims = c.claims.ensures j }) in
    record { heard_is = c.in_ok-text_of.ensures ∙ ap heard_list same; concluded_is = c.in_ok-text_of-2.ensures ∙ ap concluded_text same }
