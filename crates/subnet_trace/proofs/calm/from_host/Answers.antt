use Rattle.subnet_trace.proofs.Common.{◌≡◌, ◌<◌, ◌-◌, ◌≤◌, ℕ, suc, false, true, List, Some, arith, get_or, length, refl, subst, sym, ◌∙◌, Host, Net}
use Rattle.subnet.specs.Events.{gives}
use Rattle.script.specs.declared.event.RawEvent.TheVariants as event
use Rattle.subnet_trace.specs.declared.place.Stage.TheVariants as stage
use Rattle.subnet_trace.proofs.Stages.{hosts_over, next_as, taking_next, taking_passed}
use Rattle.subnet_trace.proofs.calm.from_host.Goals.{else-times-gt0-via-then-times-gt0+else-gives, else-times-gt0-via-else-times-gt0}
use Rattle.subnet_trace.proofs.calm.from_host.Goals as goal

pub returns-then-gives : goal.returns-then-gives
returns-then-gives c =
    let n : Net = c.args.subnet.now.net in
    let i : ℕ = c.loop-place.place in
    let h : Host = c.index-hosts-place.result in
    let lt : i < length n.hosts = subst (λ (hs : List Host). i < length hs) c.hosts-hosts.ensures.value c.loop-place-test.true in
    let is : h ≡ get_or n.hosts i h = subst (λ (hs : List Host). h ≡ get_or hs i h) c.hosts-hosts.ensures.value c.index-hosts-place.is in
    let more : c.loop-place.times ≡ suc (c.loop-place.times - 1) = omega (arith, c.if-times-gt0.true) in
    let given : gives n h ≡ true = sym c.gives.ensures ∙ c.if-gives.true in
    next_as n _ _ (Some (event.Take h, stage.Taking i (c.loop-place.times - 1))) (λ round. sym (c.loop-place.invariant.1 round)) (taking_next n i (c.loop-place.times - 1) c.loop-place.times h lt is more given)

pub loop-place-preserved : goal.loop-place-preserved
loop-place-preserved c =
    let n : Net = c.args.subnet.now.net in
    let i : ℕ = c.loop-place.place in
    let h : Host = c.index-hosts-place.result in
    let lt : i < length n.hosts = subst (λ (hs : List Host). i < length hs) c.hosts-hosts.ensures.value c.loop-place-test.true in
    let is : h ≡ get_or n.hosts i h = subst (λ (hs : List Host). h ≡ get_or hs i h) c.hosts-hosts.ensures.value c.index-hosts-place.is in
    let none : (k : ℕ) → c.loop-place.times ≡ suc k → gives n h ≡ false = elim c.else-times-gt0.branch [
      | else-times-gt0-via-then-times-gt0+else-gives w ↦ λ k e. sym w.gives.ensures ∙ w.if-gives.false
      | else-times-gt0-via-else-times-gt0 w ↦ λ k e. absurd (omega (arith, w.if-times-gt0.false, e))
    ] in
    (refl, λ round. taking_passed n i c.loop-place.times h lt is none round ∙ c.loop-place.invariant.1 round)

pub returns : goal.returns
returns c =
    let n : Net = c.args.subnet.now.net in
    let past : length n.hosts ≤ c.loop-place.place = subst (λ (hs : List Host). length hs ≤ c.loop-place.place) c.hosts-hosts.ensures.value c.loop-place-test.false in
    λ round. sym (c.loop-place.invariant.1 round) ∙ hosts_over n c.loop-place.place c.loop-place.times past round
