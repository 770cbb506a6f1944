use Rattle.subnet_trace.proofs.Common.{◌++◌, List, codes, map, subst, ℕ, drop, Appends, on_ok, channel_text, three, flat_map}
use Rattle.subnet_trace.proofs.Members.{commas_array}
use Rattle.subnet_trace.proofs.imp.print_channels.Goals as goal

pub returns-clause-written : goal.returns-clause-written
returns-clause-written g c =
    let w0 = g.W.Output.contents c.args.writer.now in
    let w1 = g.W.Output.contents c.write_all.new.self in
    let w2 = g.W.Output.contents c.write_all-2.new.self in
    let w3 = g.W.Output.contents c.write_all-3.new.self in
    let items : List ℕ = drop 1 (flat_map (λ x. x) (map (λ x. codes "," ++ channel_text x) c.args.channels.now)) in
    on_ok c.write_all-3.result
    (λ end. subst (Appends w0 w3) (commas_array channel_text c.args.channels.now)
    (three (codes "[") items (codes "]") w0 w1 w2 w3 c.in_ok-write_all.ensures.written
    (subst (λ (v : List (List ℕ)). Appends w1 w2 (drop 1 (flat_map (λ x. x) v))) c.in-Some.ensures
    (subst (λ (v : List ℕ). Appends w1 w2 (drop 1 v)) c.as_flattened.ensures.value
    (subst (Appends w1 w2) c.split_at.ensures.back c.in_ok-write_all-2.ensures.written))) end))
    c.write_all-3.ensures.written
