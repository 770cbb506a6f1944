use Rattle.subnet_trace.proofs.Common.{◌++◌, codes, map, subst, Appends, Appends-trans, on_ok, Table, heard_list, five, array}
use Rattle.subnet_trace.specs.Texts.{host_object, port_object}
use Rattle.subnet_trace.proofs.imp.print_ends.Goals as goal

pub returns-clause-written : goal.returns-clause-written
returns-clause-written g c =
    let s = c.args.imp.now in
    on_ok c.print_heard.result
    (λ end. Appends-trans (g.W.Output.contents c.args.writer.now) (g.W.Output.contents c.write_all.new.self) (g.W.Output.contents c.print_heard.new.writer) (codes "{\"hosts\":")
    (array (map host_object s.hosts) ++ (codes ",\"ports\":" ++ (array (map port_object s.ports) ++ (codes ",\"routes\":" ++ heard_list s.routes)))) c.in_ok-write_all.ensures.written
    (five (array (map host_object s.hosts)) (codes ",\"ports\":") (array (map port_object s.ports)) (codes ",\"routes\":") (heard_list s.routes)
    (g.W.Output.contents c.write_all.new.self) (g.W.Output.contents c.print_array.new.writer) (g.W.Output.contents c.write_all-2.new.self) (g.W.Output.contents c.print_array-2.new.writer) (g.W.Output.contents c.write_all-3.new.self) (g.W.Output.contents c.print_heard.new.writer)
    (subst (λ hosts. Appends (g.W.Output.contents c.write_all.new.self) (g.W.Output.contents c.print_array.new.writer) (array (map host_object hosts))) c.hosts.ensures c.in_ok-print_array.ensures.written) c.in_ok-write_all-2.ensures.written
    (subst (λ ports. Appends (g.W.Output.contents c.write_all-2.new.self) (g.W.Output.contents c.print_array-2.new.writer) (array (map port_object ports))) c.ports.ensures c.in_ok-print_array-2.ensures.written) c.in_ok-write_all-3.ensures.written
    (subst (λ (t : Table). Appends (g.W.Output.contents c.write_all-3.new.self) (g.W.Output.contents c.print_heard.new.writer) (heard_list t)) c.routes.ensures end)))
    c.print_heard.ensures.written
