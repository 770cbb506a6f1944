use Rattle.subnet_trace.proofs.Common.{◌≡◌, ◌∙◌, ◌++◌, List, ap, map, subst, ℕ, Appends, IfOk-weaker, on_ok, kept_part, told}
use Rattle.subnet_trace.specs.Texts.{source_part}
use Rattle.subnet_trace.specs.Printing.{members_behind, place_after_members}
use Rattle.std.specs.FinMap as fin
use Rattle.subnet_trace.proofs.PrintedParts.{both_after, both_printed}
use Rattle.subnet_trace.proofs.flows.print_known.Goals as goal

pub returns-clause-written : goal.returns-clause-written
returns-clause-written g c =
    let s = c.args.imp.now in
    let sources : c.iter.result ≡ fin.entries s.sources = c.iter.ensures ∙ ap fin.entries c.sources.ensures in
    let kept : c.iter-2.result ≡ fin.entries s.kept = c.iter-2.ensures ∙ ap fin.entries c.kept_flows.ensures in
    on_ok c.print_flows-2.result
    (λ end. both_printed (g.W.Output.contents c.args.writer.now) (g.W.Output.contents c.print_flows.new.writer) (g.W.Output.contents c.print_flows-2.new.writer) c.args.place c.in_ok-place.place (map told (map (source_part s) (fin.entries s.sources))) (map told (map kept_part (fin.entries s.kept)))
    (subst (λ es. Appends (g.W.Output.contents c.args.writer.now) (g.W.Output.contents c.print_flows.new.writer) (members_behind c.args.place (map told (map (source_part s) es)))) sources c.in_ok-place.ensures.written)
    (c.in_ok-place.ensures.place ∙ ap (λ es. place_after_members c.args.place (map told (map (source_part s) es))) sources)
    (subst (λ es. Appends (g.W.Output.contents c.print_flows.new.writer) (g.W.Output.contents c.print_flows-2.new.writer) (members_behind c.in_ok-place.place (map told (map kept_part es)))) kept end))
    c.print_flows-2.ensures.written

pub returns-clause-place : goal.returns-clause-place
returns-clause-place g c =
    let s = c.args.imp.now in
    let sources : c.iter.result ≡ fin.entries s.sources = c.iter.ensures ∙ ap fin.entries c.sources.ensures in
    let kept : c.iter-2.result ≡ fin.entries s.kept = c.iter-2.ensures ∙ ap fin.entries c.kept_flows.ensures in
    let xs : List (List ℕ) = map told (map (source_part s) (fin.entries s.sources)) in
    let ys : List (List ℕ) = map told (map kept_part (fin.entries s.kept)) in
    IfOk-weaker c.print_flows-2.result (λ next. next ≡ place_after_members c.in_ok-place.place (map told (map kept_part c.iter-2.result))) (λ next. next ≡ place_after_members c.args.place (xs ++ ys))
    (λ next is. both_after c.args.place c.in_ok-place.place next xs ys (c.in_ok-place.ensures.place ∙ ap (λ es. place_after_members c.args.place (map told (map (source_part s) es))) sources)
    (is ∙ ap (λ es. place_after_members c.in_ok-place.place (map told (map kept_part es))) kept))
    c.print_flows-2.ensures.place
