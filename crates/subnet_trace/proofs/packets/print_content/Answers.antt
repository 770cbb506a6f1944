use Rattle.subnet_trace.proofs.Common.{◌≡◌, ◌++◌, codes, subst, decimal, Appends, Carriage, on_ok}
use Rattle.subnet_trace.specs.Texts.{bit_text, packet_text}
use Rattle.subnet_trace.proofs.Printing.{carried_printed, routes_printed}
use Rattle.subnet_trace.proofs.packets.print_content.Goals as goal

pub returns-in_ok-print-in-Packet-clause-written :
    goal.returns-in_ok-print-in-Packet-clause-written
returns-in_ok-print-in-Packet-clause-written g c =
    let carried : Carriage = c.in-Packet.carried in
    let n1 = c.channel-channel.ensures.value in
    let b1 = c.bit.ensures in
    let b2 = c.digit-bit.ensures in
    let p1 = c.packet.ensures in
    let head : codes "\",\"channel\":" ++ (decimal c.channel-channel.result ++ (codes ",\"bit\":" ++ (c.digit-bit.result.now ++ codes ",\"packet\":"))) ≡ codes "\",\"channel\":" ++ (decimal carried.channel ++ (codes ",\"bit\":" ++ (bit_text carried.bit ++ codes ",\"packet\":"))) = cc in
    let middle : packet_text c.packet.result.now ≡ packet_text carried.packet = cc in
    on_ok c.write_all.result
    (λ end. carried_printed c.args.content.now carried (g.W.Output.contents c.args.writer.now) (g.W.Output.contents c.write.new.self) (g.W.Output.contents c.print.new.writer) (g.W.Output.contents c.write_all.new.self) c.in-Packet.is
    (subst (Appends (g.W.Output.contents c.args.writer.now) (g.W.Output.contents c.write.new.self)) head c.in_ok-write-in-Packet.ensures.written)
    (subst (Appends (g.W.Output.contents c.write.new.self) (g.W.Output.contents c.print.new.writer)) middle c.in_ok-print-in-Packet.ensures.written) end)
    c.write_all.ensures.written

pub returns-in_ok-print_vector-in-Routes-clause-written :
    goal.returns-in_ok-print_vector-in-Routes-clause-written
returns-in_ok-print_vector-in-Routes-clause-written g c =
    on_ok c.write_all-in-Routes-2.result
    (λ end. routes_printed c.args.content.now c.in-Routes.vector (g.W.Output.contents c.args.writer.now) (g.W.Output.contents c.write_all-in-Routes.new.self) (g.W.Output.contents c.print_vector.new.writer) (g.W.Output.contents c.write_all-in-Routes-2.new.self) c.in-Routes.is
    c.in_ok-write_all-in-Routes.ensures.written c.in_ok-print_vector-in-Routes.ensures.written end)
    c.write_all-in-Routes-2.ensures.written
