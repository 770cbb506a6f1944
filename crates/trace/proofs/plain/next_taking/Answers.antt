use Rattle.trace.proofs.Common.{◌≡◌, ◌<◌, ◌-◌, ℕ, suc, false, true, List, arith, get_or, length, refl, subst, sym, ◌∙◌, Host, from_boxes, is_given}
use Rattle.trace.proofs.Courses.{passes, takes_here}
use Rattle.trace.proofs.plain.next_taking.Goals.{else-times-gt0-via-then-times-gt0+else-is_given, else-times-gt0-via-else-times-gt0}
use Rattle.trace.proofs.plain.next_taking.Goals as goal

pub returns-then-is_given : goal.returns-then-is_given
returns-then-is_given c =
    let i : ℕ = c.loop-place.place in
    let h : Host = c.index-hosts-place.result in
    let hosts : List Host = c.args.boxes.now.hosts in
    let lt : i < length hosts = subst (λ (hs : List Host). i < length hs) c.hosts-hosts.ensures.value c.loop-place-test.true in
    let is : h ≡ get_or hosts i h = subst (λ (hs : List Host). h ≡ get_or hs i h) c.hosts-hosts.ensures.value c.index-hosts-place.is in
    let more : c.loop-place.times ≡ suc (c.loop-place.times - 1) = omega (arith, c.if-times-gt0.true) in
    let given : is_given c.args.boxes.now h ≡ true = sym c.is_given.ensures ∙ c.if-is_given.true in
    (h, refl, given, refl, refl, sym c.loop-place.invariant.1 ∙ takes_here from_boxes c.args.turn.round i (c.loop-place.times - 1) c.loop-place.times hosts h c.args.boxes.now lt is more given)

pub loop-place-preserved : goal.loop-place-preserved
loop-place-preserved c =
    let i : ℕ = c.loop-place.place in
    let h : Host = c.index-hosts-place.result in
    let hosts : List Host = c.args.boxes.now.hosts in
    let lt : i < length hosts = subst (λ (hs : List Host). i < length hs) c.hosts-hosts.ensures.value c.loop-place-test.true in
    let is : h ≡ get_or hosts i h = subst (λ (hs : List Host). h ≡ get_or hs i h) c.hosts-hosts.ensures.value c.index-hosts-place.is in
    let none : (n : ℕ) → c.loop-place.times ≡ suc n → is_given c.args.boxes.now h ≡ false = elim c.else-times-gt0.branch [
      | else-times-gt0-via-then-times-gt0+else-is_given w ↦ λ n e. sym w.is_given.ensures ∙ w.if-is_given.false
      | else-times-gt0-via-else-times-gt0 w ↦ λ n e. absurd (omega (arith, w.if-times-gt0.false, e))
    ] in
    (refl, sym (passes from_boxes c.args.turn.round i c.loop-place.times hosts h c.args.boxes.now lt is none) ∙ c.loop-place.invariant.1)
