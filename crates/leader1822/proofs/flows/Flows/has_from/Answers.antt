use Rattle.leader1822.proofs.Common.{◌≡◌, filter, ap, sym, ◌∙◌, is_some, get_flow}
use Rattle.std.specs.FinMap as map
use Rattle.std.specs.Range.{range_inclusive_end}
use Rattle.leader1822.proofs.FlowRange.{lowest, highest, is_between, between_source, named_between, none_between, some_between, IsThere, is_one, is_no}
use Rattle.leader1822.proofs.flows.Flows.has_from.Goals as goal

pub returns-clause-some : goal.returns-clause-some
returns-clause-some c = λ yes.
    let h = c.args.host in
    let es = c.self.inside.flows.entries in
    let all : c.range.result ≡ filter (λ e. is_between (lowest h) (highest h) e.0) es =
    c.range.ensures.between c.new.ensures.exhausted
    ∙ ap (λ f. filter (λ e. is_between f (range_inclusive_end c.new.result) e.0) es) (c.new.ensures.start ∙ ap (λ d. record { source = h; destination = d; link = record { 0 = 0 } }) c.first.ensures)
    ∙ ap (λ f. filter (λ e. is_between (lowest h) f e.0) es) (c.new.ensures.end ∙ ap (λ d. record { source = h; destination = d; link = record { 0 = 255 } }) c.last.ensures) in
    let one = is_one _ _ c.next.result c.next.ensures.steps (sym c.is_some.ensures ∙ yes) in
    let there : IsThere (is_between (lowest h) (highest h)) es one.0.0.now = some_between (is_between (lowest h) (highest h)) es (one.0.0.now, one.0.1.now) c.next.new.self (sym all ∙ one.1) in
    (one.0.0.now, between_source h one.0.0.now there.passes, ap (λ m. is_some (map.get m one.0.0.now)) (sym c.self.view_is) ∙ ap is_some (get_flow es one.0.0.now) ∙ there.known)

pub returns-clause-none : goal.returns-clause-none
returns-clause-none c = λ no f named from.
    let h = c.args.host in
    let es = c.self.inside.flows.entries in
    let all : c.range.result ≡ filter (λ e. is_between (lowest h) (highest h) e.0) es =
    c.range.ensures.between c.new.ensures.exhausted
    ∙ ap (λ f. filter (λ e. is_between f (range_inclusive_end c.new.result) e.0) es) (c.new.ensures.start ∙ ap (λ d. record { source = h; destination = d; link = record { 0 = 0 } }) c.first.ensures)
    ∙ ap (λ f. filter (λ e. is_between (lowest h) f e.0) es) (c.new.ensures.end ∙ ap (λ d. record { source = h; destination = d; link = record { 0 = 255 } }) c.last.ensures) in
    let none = is_no _ _ c.next.result c.next.ensures.steps (sym c.is_some.ensures ∙ no) in
    ap (λ m. map.get m f) (sym c.self.view_is) ∙ get_flow es f
    ∙ none_between (is_between (lowest h) (highest h)) es (sym all ∙ none.0) f (named_between h f named from)
