use Rattle.subnet_trace.proofs.Common.{◌≡◌, ◌∙◌, ◌++◌, [], ℕ, List, ap, codes, map, rules, subst, sym, Appends, Appends-trans, Flow, mark, known_part, told, FlowPart}
use Rattle.subnet_trace.proofs.PrintedParts.{AreLeft, all_are_left, all_written, last_place, one_printed}
use Rattle.subnet_trace.proofs.flows.print_flows.Goals as goal

pub loop-flow-init : goal.loop-flow-init
loop-flow-init g c =
    let part = known_part c.args.side (g.V.Known.state c.args.imp.now) g.V.Known.number in
    let all : List (List ℕ) = map told (map part c.args.flows) in
    let same : c.into_iter-flow-iterator.result ≡ c.args.flows = search rules in (
      c.requires,
      subst (λ es. AreLeft (g.W.Output.contents c.args.writer.now) (g.W.Output.contents c.args.writer.now) c.args.place c.args.place (map told (map part es)) all) (sym same)
          (all_are_left (g.W.Output.contents c.args.writer.now) c.args.place all),
    )

pub loop-flow-preserved : goal.loop-flow-preserved
loop-flow-preserved g c =
    let part = known_part c.args.side (g.V.Known.state c.args.imp.now) g.V.Known.number in
    let all : List (List ℕ) = map told (map part c.args.flows) in
    let here : List ℕ = told (part (c.in-Some.flow.now, c.in-Some.known.now)) in
    let left = subst (λ es. AreLeft (g.W.Output.contents c.args.writer.now) (g.W.Output.contents c.loop-flow.writer) c.loop-flow.place c.args.place (map told (map part es)) all) c.in-Some.ensures.steps c.loop-flow.invariant.1 in (
      c.in_ok-print.ensures.failed,
      one_printed (g.W.Output.contents c.args.writer.now) (g.W.Output.contents c.loop-flow.writer) (g.W.Output.contents c.print.new.writer) c.loop-flow.place c.args.place here (map told (map part c.next.new.self)) all left
          (Appends-trans (g.W.Output.contents c.loop-flow.writer) (g.W.Output.contents c.write_all.new.self) (g.W.Output.contents c.print.new.writer) (mark (codes "{") (codes ",") c.loop-flow.place) here
          (subst (Appends (g.W.Output.contents c.loop-flow.writer) (g.W.Output.contents c.write_all.new.self)) (c.as_bytes.ensures.value ∙ c.mark.ensures) c.in_ok-write_all.ensures.written)
          (subst (λ (p : FlowPart). Appends (g.W.Output.contents c.write_all.new.self) (g.W.Output.contents c.print.new.writer) (told p)) c.part_of.ensures c.in_ok-print.ensures.written)),
    )

pub returns-clause-written : goal.returns-clause-written
returns-clause-written g c =
    let part = known_part c.args.side (g.V.Known.state c.args.imp.now) g.V.Known.number in
    all_written (g.W.Output.contents c.args.writer.now) (g.W.Output.contents c.loop-flow.writer) c.loop-flow.place c.args.place (map told (map part c.loop-flow.flow-iterator)) (map told (map part c.args.flows))
    (ap (λ es. map told (map part es)) c.in-None.ensures.steps.0) c.loop-flow.invariant.1

pub returns-clause-place : goal.returns-clause-place
returns-clause-place g c =
    let part = known_part c.args.side (g.V.Known.state c.args.imp.now) g.V.Known.number in
    last_place (g.W.Output.contents c.args.writer.now) (g.W.Output.contents c.loop-flow.writer) c.loop-flow.place c.args.place (map told (map part c.loop-flow.flow-iterator)) (map told (map part c.args.flows))
    (ap (λ es. map told (map part es)) c.in-None.ensures.steps.0) c.loop-flow.invariant.1
