use Rattle.subnet_trace.proofs.Common.{◌≡◌, ◌<◌, ◌+◌, ◌++◌, [], ◌∷◌, ◌∙◌, List, Option, ℕ, ap, arith, length, rules, sym, take, take_all, take_more}
use Rattle.subnet_trace.proofs.ways.copies_of.Goals as goal

pub loop-port-preserved : goal.loop-port-preserved
loop-port-preserved c =
    let heard : List (Option (List ℕ)) = c.args.heard.now in
    let i : ℕ = c.loop-port.port in
    let x : Option (List ℕ) = c.index-heard-port.result in
    let within : i < length heard = omega (arith, c.loop-port-test.true, c.loop-port.invariant.0) in
    let more : take (i + 1) heard ≡ take i heard ++ x ∷ [] = take_more heard i x within ∙ ap (λ (y : Option (List ℕ)). take i heard ++ y ∷ []) (sym c.index-heard-port.is) in
    let pushed : c.push.new.self.items ≡ c.loop-port.copies.items ++ c.in_ok-copy.copy ∷ [] = search rules in
    (c.loop-port.invariant.0, pushed ∙ ap (λ (y : Option (List ℕ)). c.loop-port.copies.items ++ y ∷ []) c.in_ok-copy.ensures ∙ ap (λ (zs : List (Option (List ℕ))). zs ++ x ∷ []) c.loop-port.invariant.1 ∙ sym more)

pub returns : goal.returns
returns c = c.loop-port.invariant.1 ∙ take_all c.loop-port.port c.args.heard.now (omega (arith, c.loop-port-test.false, c.loop-port.invariant.0))
