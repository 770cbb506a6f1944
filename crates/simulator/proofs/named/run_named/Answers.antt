use Rattle.std.proofs.Common.{rules, ◌≡◌, ◌∙◌, ℕ, List, Option, Some, IfSome, ap, map, string_bytes, subst, sym}
use Rattle.simulator.specs.Named.{RunsOn, input_in, others_in, taken_name}
use Rattle.simulator.proofs.named.run_named.Goals as goal

pub returns-clause-ends : goal.returns-clause-ends
returns-clause-ends g c =
    let named : input_in c.args.words.items ≡ Some (taken_name c.in_ok-name.name) = search rules in
    let others : map string_bytes c.deref.result.now ≡ others_in c.args.words.items = search rules in
    let octets : g.I.Reader.Source.remaining c.open-reader.result ≡ g.I.Inputs.octets_of c.args.inputs.now (taken_name c.in_ok-name.name) = search rules in
    let runs : RunsOn (g.I.Inputs.octets_of c.args.inputs.now (taken_name c.in_ok-name.name)) (others_in c.args.words.items) (g.W.Output.contents c.args.writer.now) (g.W.Output.contents c.run_program.new.writer) (g.W.Output.failed c.run_program.new.writer) (g.W.Output.flushed c.run_program.new.writer) (c.run_program.new.writer ≡ c.args.writer.now) c.run_program.result = record {
      left = g.I.Reader.Source.remaining c.run_program.new.reader;
      unread = g.I.Reader.Source.failed c.run_program.new.reader;
      ends = rw (others, octets) at c.run_program.ensures.ends;
      closes = c.run_program.ensures.closes;
      refused = λ task options. let both = (rw others at c.run_program.ensures.refused) task options in (ap (g.I.Reader.Source.remaining) both.0 ∙ octets, both.1);
      untouched = rw others at c.run_program.ensures.untouched;
    } in
    subst (λ (o : Option (List ℕ)). IfSome o (λ name. RunsOn (g.I.Inputs.octets_of c.args.inputs.now name) (others_in c.args.words.items) (g.W.Output.contents c.args.writer.now) (g.W.Output.contents c.run_program.new.writer) (g.W.Output.failed c.run_program.new.writer) (g.W.Output.flushed c.run_program.new.writer) (c.run_program.new.writer ≡ c.args.writer.now) c.run_program.result)) (sym named) runs
