use Rattle.trace.proofs.Common.{◌≡◌, ℕ, ap, length, subst, ◌∙◌, decimal, Appends, encode_upper, octets_of, host_text, on_ok, quoted}
use Rattle.trace.proofs.Printed.{crossed_front, crossed_printed}
use Rattle.trace.proofs.values.print_crossed.Goals as goal

pub returns-clause-written : goal.returns-clause-written
returns-clause-written g c =
    let m = c.args.message.now in
    let long : c.len-count.result ≡ length m.text = c.len-count.ensures ∙ ap length c.bits-bits.ensures.same in
    on_ok c.write_all.result
    (λ end. crossed_printed c.args.word.now (host_text m.flow.source) (host_text m.flow.destination) (decimal m.flow.link.0) (decimal (length m.text)) (quoted (encode_upper (octets_of m.text)))
    (g.W.Output.contents c.args.writer.now) (g.W.Output.contents c.write.new.self) (g.W.Output.contents c.print_octets.new.writer) (g.W.Output.contents c.write_all.new.self)
    (subst (λ (n : ℕ). Appends (g.W.Output.contents c.args.writer.now) (g.W.Output.contents c.write.new.self) (crossed_front c.args.word.now (host_text m.flow.source) (host_text m.flow.destination) (decimal m.flow.link.0) (decimal n))) long c.in_ok-write.ensures.written)
    (subst (λ bits. Appends (g.W.Output.contents c.write.new.self) (g.W.Output.contents c.print_octets.new.writer) (quoted (encode_upper (octets_of bits)))) c.bits-bits.ensures.same c.in_ok-print_octets.ensures.written) end)
    c.write_all.ensures.written
