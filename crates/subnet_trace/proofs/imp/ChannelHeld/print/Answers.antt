use Rattle.subnet_trace.proofs.Common.{◌++◌, ◌∷◌, ap, codes, subst, sym, Appends, on_ok, member, object}
use Rattle.subnet_trace.specs.Texts.{bit_text, held_members, packet_text}
use Rattle.subnet_trace.proofs.Members.{channel_printed}
use Rattle.subnet_trace.proofs.imp.ChannelHeld.print.Goals as goal

pub returns-clause-written : goal.returns-clause-written
returns-clause-written g c =
    let channel = c.args.self.now in
    let bit = bit_text channel.bit in
    let whole = ap (λ o. object (member (codes "bit") bit ∷ held_members o)) (sym c.in-Some.is) in
    on_ok c.write_all-2.result
    (λ end. subst (Appends (g.W.Output.contents c.args.writer.now) (g.W.Output.contents c.write_all-2.new.self)) whole
    (channel_printed bit (packet_text c.in-Some.packet) (g.W.Output.contents c.args.writer.now) (g.W.Output.contents c.write.new.self) (g.W.Output.contents c.print.new.writer) (g.W.Output.contents c.write_all-2.new.self)
    (subst (λ word. Appends (g.W.Output.contents c.args.writer.now) (g.W.Output.contents c.write.new.self) (codes "{\"bit\":" ++ (word ++ codes ",\"packet\":"))) c.digit-bit.ensures c.in_ok-write.ensures.written)
    c.in_ok-print.ensures.written end))
    c.write_all-2.ensures.written
