use Rattle.subnet_trace.proofs.Common.{map, subst, Appends, on_ok, Table, vector_of, concluded_text, array}
use Rattle.subnet_trace.specs.Texts.{distances_text, heard_text, host_object, next_text, packet_text, port_object, slot_text}
use Rattle.subnet_trace.proofs.Members.{imp_printed}
use Rattle.subnet_trace.proofs.imp.print_imp.Goals as goal

pub returns-clause-written : goal.returns-clause-written
returns-clause-written g c =
    let s = c.args.imp.now in
    on_ok c.print_concluded.result
    (λ concluded. imp_printed (array (map host_object s.hosts)) (array (map port_object s.ports)) (array (map heard_text s.routes.heard)) (array (map packet_text s.store)) (array (map slot_text s.slots)) (distances_text (vector_of s.routes)) (next_text s.routes)
    (g.W.Output.contents c.args.writer.now) (g.W.Output.contents c.print_ends.new.writer) (g.W.Output.contents c.print_held.new.writer) (g.W.Output.contents c.print_concluded.new.writer) c.in_ok-print_ends.ensures.written c.in_ok-print_held.ensures.written
    (subst (λ (t : Table). Appends (g.W.Output.contents c.print_held.new.writer) (g.W.Output.contents c.print_concluded.new.writer) (concluded_text t)) c.routes.ensures concluded))
    c.print_concluded.ensures.written
