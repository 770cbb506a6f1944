use Rattle.subnet_trace.proofs.Common.{◌≡◌, ◌∙◌, ℕ, List, Bool, ap, length, subst, decimal, Appends, encode_upper, octets_of, host_text, Flow, flow_of, on_ok, bool_text, quoted}
use Rattle.subnet_trace.specs.Texts.{kind_word}
use Rattle.subnet_trace.proofs.Members.{packet_four, packet_one, packet_printed, packet_three, packet_two}
use Rattle.subnet_trace.proofs.packets.PacketHeld.print.Goals as goal

pub returns-clause-written : goal.returns-clause-written
returns-clause-written g c =
    let p = c.args.self.now in
    let kind : c.word_of-kind.result.now ≡ kind_word p.kind = c.word_of-kind.ensures ∙ ap kind_word c.kind.ensures.same in
    let flow : c.flow-flow.result ≡ flow_of p = c.flow-flow.ensures in
    let last : c.bool_word-last.result.now ≡ bool_text p.last = c.bool_word-last.ensures ∙ ap bool_text c.is_last.ensures in
    let count : c.len-count.result ≡ length p.bits = c.len-count.ensures ∙ ap length c.bits-bits.ensures in
    on_ok c.write_all.result
    (λ end. packet_printed (kind_word p.kind) (host_text p.source) (host_text p.destination) (decimal p.link) (decimal p.number) (decimal p.place) (bool_text p.last) (decimal (length p.bits)) (quoted (encode_upper (octets_of p.bits)))
    (g.W.Output.contents c.args.writer.now) (g.W.Output.contents c.write.new.self) (g.W.Output.contents c.write-2.new.self) (g.W.Output.contents c.write-3.new.self) (g.W.Output.contents c.write-4.new.self) (g.W.Output.contents c.print_octets.new.writer) (g.W.Output.contents c.write_all.new.self)
    (subst (λ (word : List ℕ). Appends (g.W.Output.contents c.args.writer.now) (g.W.Output.contents c.write.new.self) (packet_one word (host_text p.source))) kind
    (subst (λ (f : Flow). Appends (g.W.Output.contents c.args.writer.now) (g.W.Output.contents c.write.new.self) (packet_one c.word_of-kind.result.now (host_text f.source))) flow c.in_ok-write.ensures.written))
    (subst (λ (f : Flow). Appends (g.W.Output.contents c.write.new.self) (g.W.Output.contents c.write-2.new.self) (packet_two (host_text f.destination) (decimal f.link.0))) flow c.in_ok-write-2.ensures.written)
    (subst (λ (n : ℕ). Appends (g.W.Output.contents c.write-2.new.self) (g.W.Output.contents c.write-3.new.self) (packet_three (decimal n) (decimal p.place))) c.number-number.ensures
    (subst (λ (n : ℕ). Appends (g.W.Output.contents c.write-2.new.self) (g.W.Output.contents c.write-3.new.self) (packet_three (decimal c.number-number.result) (decimal n))) c.place-place.ensures.same c.in_ok-write-3.ensures.written))
    (subst (λ (word : List ℕ). Appends (g.W.Output.contents c.write-3.new.self) (g.W.Output.contents c.write-4.new.self) (packet_four word (decimal (length p.bits)))) last
    (subst (λ (n : ℕ). Appends (g.W.Output.contents c.write-3.new.self) (g.W.Output.contents c.write-4.new.self) (packet_four c.bool_word-last.result.now (decimal n))) count c.in_ok-write-4.ensures.written))
    (subst (λ (bits : List Bool). Appends (g.W.Output.contents c.write-4.new.self) (g.W.Output.contents c.print_octets.new.writer) (quoted (encode_upper (octets_of bits)))) c.bits-bits.ensures c.in_ok-print_octets.ensures.written) end)
    c.write_all.ensures.written
