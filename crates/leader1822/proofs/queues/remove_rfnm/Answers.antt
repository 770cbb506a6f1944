use Rattle.leader1822.proofs.Common.{◌≡◌, ◌-◌, ◌<◌, ◌≤◌, true, false, not, Some, length, drop, filter, rules, refl, ap, sym, ◌∙◌, arith, ℕ, slice_get_read, is_rfnm_about}
use Rattle.std.specs.List.{list_any, slice_get}
use Rattle.leader1822.proofs.Newest.{remove_only, on_some, never_none}
use Rattle.leader1822.proofs.queues.remove_rfnm.Goals as goal

pub returns-then-eq-2-clause-left : goal.returns-then-eq-2-clause-left
returns-then-eq-2-clause-left c =
    let q = c.places.queue.items in
    let k : ℕ = c.places.place - 1 in
    let same : q ≡ c.args.queue.now.items = ap (λ d. d.items) c.places.invariant.0 in
    let bound : c.places.place ≤ length c.args.queue.now.items = c.places.invariant.1 in
    let long : length q ≡ length c.args.queue.now.items = ap length same in
    let full = c.places.queue.ok.0 in
    let some = c.places-test.true in
    let within : k < length q = omega (arith, bound, long, some) in
    let short : k < c.places.queue.len = omega (arith, within, full) in
    let at : slice_get q k ≡ Some c.index.result.now = slice_get_read q (length q) k c.index.result.now refl within c.index.ensures in
    let passes : is_rfnm_about c.args.flow.now c.index.result.now ≡ true = search rules in
    let one : length (filter (is_rfnm_about c.args.flow.now) q) ≡ 1 = ap (λ xs. length (filter (is_rfnm_about c.args.flow.now) xs)) same ∙ c.requires in
    on_some c.remove.result _ (c.remove.ensures.succeeds c.index.result.now short) c.remove.ensures.items
    ∙ remove_only (is_rfnm_about c.args.flow.now) q k c.index.result.now at passes one ∙ ap (filter (λ x. not (is_rfnm_about c.args.flow.now x))) same

pub returns-then-eq-4-clause-left : goal.returns-then-eq-4-clause-left
returns-then-eq-4-clause-left c =
    let q = c.places.queue.items in
    let k : ℕ = c.len.result - 1 - (c.places.place - 1) in
    let same : q ≡ c.args.queue.now.items = ap (λ d. d.items) c.places.invariant.0 in
    let bound : c.places.place ≤ length c.args.queue.now.items = c.places.invariant.1 in
    let long : length q ≡ length c.args.queue.now.items = ap length same in
    let full = c.places.queue.ok.0 in
    let some = c.places-test.true in
    let all = c.len.ensures in
    let within : k < length q = omega (arith, bound, long, full, some, all) in
    let short : k < c.places.queue.len = omega (arith, within, full) in
    let at : slice_get q k ≡ Some c.index-in-places.result.now = slice_get_read q (length q) k c.index-in-places.result.now refl within c.index-in-places.ensures in
    let passes : is_rfnm_about c.args.flow.now c.index-in-places.result.now ≡ true = search rules in
    let one : length (filter (is_rfnm_about c.args.flow.now) q) ≡ 1 = ap (λ xs. length (filter (is_rfnm_about c.args.flow.now) xs)) same ∙ c.requires in
    on_some c.remove-then-eq-4.result _ (c.remove-then-eq-4.ensures.succeeds c.index-in-places.result.now short) c.remove-then-eq-4.ensures.items
    ∙ remove_only (is_rfnm_about c.args.flow.now) q k c.index-in-places.result.now at passes one ∙ ap (filter (λ x. not (is_rfnm_about c.args.flow.now x))) same

pub returns-clause-left : goal.returns-clause-left
returns-clause-left c =
    let done : c.places.place ≡ 0 = omega (arith, c.places-test.false) in
    let none : list_any (is_rfnm_about c.args.flow.now) c.args.queue.now.items ≡ false =
    ap (λ k. list_any (is_rfnm_about c.args.flow.now) (drop k c.args.queue.now.items)) (sym done) ∙ c.places.invariant.2 in
    absurd (never_none (is_rfnm_about c.args.flow.now) c.args.queue.now.items c.requires none)

pub returns-clause-room : goal.returns-clause-room
returns-clause-room c =
    let done : c.places.place ≡ 0 = omega (arith, c.places-test.false) in
    let none : list_any (is_rfnm_about c.args.flow.now) c.args.queue.now.items ≡ false =
    ap (λ k. list_any (is_rfnm_about c.args.flow.now) (drop k c.args.queue.now.items)) (sym done) ∙ c.places.invariant.2 in
    absurd (never_none (is_rfnm_about c.args.flow.now) c.args.queue.now.items c.requires none)
