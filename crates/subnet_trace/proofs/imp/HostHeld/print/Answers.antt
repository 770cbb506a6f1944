use Rattle.subnet_trace.proofs.Common.{◌≡◌, ◌++◌, ap, codes, map, subst, ◌∙◌, Appends, on_ok, array, bool_text}
use Rattle.subnet_trace.specs.Texts.{told_text, whole_text}
use Rattle.subnet_trace.proofs.Members.{host_printed}
use Rattle.subnet_trace.proofs.imp.HostHeld.print.Goals as goal

pub returns-clause-written : goal.returns-clause-written
returns-clause-written g c =
    let h = c.args.self.now in
    let front : c.host_front.result.now ≡ codes "{\"up\":" ++ (bool_text h.up ++ codes ",\"messages\":") = c.host_front.ensures ∙ ap (λ up. codes "{\"up\":" ++ (bool_text up ++ codes ",\"messages\":")) c.is_up.ensures in
    on_ok c.write_all-3.result
    (λ end. host_printed (bool_text h.up) (array (map whole_text h.queue)) (array (map told_text h.answers)) (g.W.Output.contents c.args.writer.now) (g.W.Output.contents c.write_all.new.self) (g.W.Output.contents c.print_array.new.writer) (g.W.Output.contents c.write_all-2.new.self) (g.W.Output.contents c.print_array-2.new.writer) (g.W.Output.contents c.write_all-3.new.self)
    (subst (Appends (g.W.Output.contents c.args.writer.now) (g.W.Output.contents c.write_all.new.self)) (c.as_bytes.ensures.value ∙ front) c.in_ok-write_all.ensures.written)
    c.in_ok-print_array.ensures.written c.in_ok-write_all-2.ensures.written c.in_ok-print_array-2.ensures.written end)
    c.write_all-3.ensures.written
