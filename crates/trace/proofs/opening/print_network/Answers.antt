use Rattle.trace.proofs.Common.{◌++◌, ap, codes, map, subst, ◌∙◌, Appends, on_ok}
use Rattle.trace.specs.Texts.{array, bool_text, carrier_word, ends_text, site_text}
use Rattle.trace.proofs.Joined.{network_is}
use Rattle.trace.proofs.Printed.{five}
use Rattle.trace.proofs.opening.print_network.Goals as goal

pub returns-clause-written : goal.returns-clause-written
returns-clause-written g c =
    let t = c.args.network.now in
    let carrier = c.word_of-carrier.ensures ∙ ap carrier_word c.carrier.ensures in
    let raw = c.bool_word-raw.ensures ∙ ap bool_text c.is_raw.ensures in
    on_ok c.write_all-2.result
    (λ end. subst (Appends (g.W.Output.contents c.args.writer.now) (g.W.Output.contents c.write_all-2.new.self)) (network_is (carrier_word t.carrier) (bool_text t.raw) (array (map site_text t.imps)) (array (map ends_text t.lines)))
    (five (codes "{\"trace\":3,\"carrier\":\"" ++ (carrier_word t.carrier ++ (codes "\",\"raw\":" ++ (bool_text t.raw ++ codes ",\"imps\":")))) (array (map site_text t.imps)) (codes ",\"lines\":") (array (map ends_text t.lines)) (codes ",\"parts\":")
    (g.W.Output.contents c.args.writer.now) (g.W.Output.contents c.write.new.self) (g.W.Output.contents c.print_array.new.writer) (g.W.Output.contents c.write_all.new.self) (g.W.Output.contents c.print_array-2.new.writer) (g.W.Output.contents c.write_all-2.new.self)
    (subst (λ word. Appends (g.W.Output.contents c.args.writer.now) (g.W.Output.contents c.write.new.self) (codes "{\"trace\":3,\"carrier\":\"" ++ (word ++ (codes "\",\"raw\":" ++ (bool_text t.raw ++ codes ",\"imps\":"))))) carrier
    (subst (λ word. Appends (g.W.Output.contents c.args.writer.now) (g.W.Output.contents c.write.new.self) (codes "{\"trace\":3,\"carrier\":\"" ++ (c.word_of-carrier.result.now ++ (codes "\",\"raw\":" ++ (word ++ codes ",\"imps\":"))))) raw c.in_ok-write.ensures.written))
    (subst (λ imps. Appends (g.W.Output.contents c.write.new.self) (g.W.Output.contents c.print_array.new.writer) (array (map site_text imps))) c.imps.ensures c.in_ok-print_array.ensures.written) c.in_ok-write_all.ensures.written
    (subst (λ lines. Appends (g.W.Output.contents c.write_all.new.self) (g.W.Output.contents c.print_array-2.new.writer) (array (map ends_text lines))) c.lines.ensures.all c.in_ok-print_array-2.ensures.written) end))
    c.write_all-2.ensures.written
