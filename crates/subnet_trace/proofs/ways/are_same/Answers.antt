use Rattle.subnet_trace.proofs.Common.{◌≡◌, ◌<◌, ◌+◌, ◌++◌, [], ◌∷◌, ◌∙◌, List, Option, ℕ, ap, ap₂, arith, length, sym, take, take_all, take_more}
use Rattle.subnet_trace.proofs.ways.are_same.Goals as goal

pub loop-port-preserved : goal.loop-port-preserved
loop-port-preserved c =
    let these : List (Option (List ℕ)) = c.args.these.now in
    let those : List (Option (List ℕ)) = c.args.those.now in
    let i : ℕ = c.loop-port.port in
    let x : Option (List ℕ) = c.index-these-port.result in
    let y : Option (List ℕ) = c.index-those-port.result in
    let (end, long, front) = c.loop-port.invariant in
    let one : i < length these = omega (arith, c.loop-port-test.true, end) in
    let other : i < length those = omega (arith, one, long) in
    let more : take (i + 1) these ≡ take i these ++ x ∷ [] = take_more these i x one ∙ ap (λ (z : Option (List ℕ)). take i these ++ z ∷ []) (sym c.index-these-port.is) in
    let others : take (i + 1) those ≡ take i those ++ y ∷ [] = take_more those i y other ∙ ap (λ (z : Option (List ℕ)). take i those ++ z ∷ []) (sym c.index-those-port.is) in
    (end, long, more ∙ ap₂ (λ (zs : List (Option (List ℕ))) (z : Option (List ℕ)). zs ++ z ∷ []) front (c.is_same-same.ensures c.if-not-same.false) ∙ sym others)

pub returns : goal.returns
returns c = λ yes.
    let (end, long, front) = c.loop-port.invariant in
    sym (take_all c.loop-port.port c.args.these.now (omega (arith, c.loop-port-test.false, end))) ∙ front ∙ take_all c.loop-port.port c.args.those.now (omega (arith, c.loop-port-test.false, end, long))
