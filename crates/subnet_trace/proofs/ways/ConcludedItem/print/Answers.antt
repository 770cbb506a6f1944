use Rattle.subnet_trace.proofs.Common.{codes, subst, Appends, on_ok, vector_of, five}
use Rattle.subnet_trace.specs.Texts.{distances_text, next_text}
use Rattle.subnet_trace.proofs.ways.ConcludedItem.print.Goals as goal

pub returns-clause-written : goal.returns-clause-written
returns-clause-written g c =
    let t = c.args.self.now.0.now in
    on_ok c.write_all-3.result
    (λ end. five (codes ",\"distances\":") (distances_text (vector_of t)) (codes ",\"next\":") (next_text t) (codes "}")
    (g.W.Output.contents c.args.writer.now) (g.W.Output.contents c.write_all.new.self) (g.W.Output.contents c.print_vector.new.writer) (g.W.Output.contents c.write_all-2.new.self) (g.W.Output.contents c.print_ports.new.writer) (g.W.Output.contents c.write_all-3.new.self)
    c.in_ok-write_all.ensures.written (subst (λ ds. Appends (g.W.Output.contents c.write_all.new.self) (g.W.Output.contents c.print_vector.new.writer) (distances_text ds)) c.distances.ensures c.in_ok-print_vector.ensures.written)
    c.in_ok-write_all-2.ensures.written c.in_ok-print_ports.ensures.written end)
    c.write_all-3.ensures.written
