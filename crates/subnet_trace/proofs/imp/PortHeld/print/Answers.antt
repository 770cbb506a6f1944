use Rattle.subnet_trace.proofs.Common.{◌≡◌, ◌++◌, ap, codes, map, subst, ◌∙◌, Appends, on_ok, array, bool_text}
use Rattle.subnet_trace.specs.Texts.{bits_text, channel_text}
use Rattle.subnet_trace.proofs.Members.{port_printed}
use Rattle.subnet_trace.proofs.imp.PortHeld.print.Goals as goal

pub returns-clause-written : goal.returns-clause-written
returns-clause-written g c =
    let p = c.args.self.now in
    let digits : c.digits.result ≡ bits_text p.line.expected = c.digits.ensures ∙ ap bits_text c.expected.ensures in
    on_ok c.write_all-4.result
    (λ end. port_printed (bool_text p.up) (array (map channel_text p.line.sending)) (bits_text p.line.expected) (g.W.Output.contents c.args.writer.now) (g.W.Output.contents c.write_all.new.self) (g.W.Output.contents c.print_channels.new.writer) (g.W.Output.contents c.write_all-2.new.self) (g.W.Output.contents c.write_all-3.new.self) (g.W.Output.contents c.write_all-4.new.self)
    (subst (Appends (g.W.Output.contents c.args.writer.now) (g.W.Output.contents c.write_all.new.self)) (c.as_bytes.ensures.value ∙ c.port_front.ensures) c.in_ok-write_all.ensures.written)
    (subst (λ channels. Appends (g.W.Output.contents c.write_all.new.self) (g.W.Output.contents c.print_channels.new.writer) (array (map channel_text channels))) c.channels.ensures c.in_ok-print_channels.ensures.written)
    c.in_ok-write_all-2.ensures.written (subst (Appends (g.W.Output.contents c.write_all-2.new.self) (g.W.Output.contents c.write_all-3.new.self)) digits c.in_ok-write_all-3.ensures.written) end)
    c.write_all-4.ensures.written
