use Rattle.std.proofs.Common.{◌≡◌, ℕ, ◌+◌, suc, Bool, true, false, ◌||◌, List, drop, None, sym, ap, ◌∙◌, arith, rules}
use Rattle.std.specs.List.{list_any}
use Rattle.packetiser.specs.Slots.{SlotState, in_some_order}
use Rattle.imp_node.specs.Inside.Seeking.{is_sought}
use Rattle.imp_node.proofs.Searching.{slot_is, any_in_slots, slot_step, slot_end, few_named}
use Rattle.imp_node.proofs.seeking.Sought.is_in_slots.Goals as goal

pub returns-then-is_sought : goal.returns-then-is_sought
returns-then-is_sought c =
    let q = c.args.self.now in
    let order : List SlotState = in_some_order c.args.reassembly.now in
    let step = slot_step q order c.slots.k c.in-Some.held c.in-Some.ensures.message in
    let yes : is_sought q true c.in-Some.held.flow c.in-Some.held.number ≡ true = cc in
    sym (any_in_slots q c.args.reassembly.now c.in-Some.ensures.table ∙ (sym c.slots.invariant ∙ (step.1 ∙ ap (λ (b : Bool). b || list_any (slot_is q) (drop (suc c.slots.k) order)) yes)))

pub overflow_add-k : goal.overflow_add-k
overflow_add-k c =
    let step = slot_step c.args.self.now (in_some_order c.args.reassembly.now) c.slots.k c.in-Some.held c.in-Some.ensures.message in
    omega (arith, step.0, few_named c.args.reassembly.now c.in-Some.ensures.table)

pub slots-smaller : goal.slots-smaller
slots-smaller c =
    let step = slot_step c.args.self.now (in_some_order c.args.reassembly.now) c.slots.k c.in-Some.held c.in-Some.ensures.message in
    omega (arith, step.0)

pub slots-preserved : goal.slots-preserved
slots-preserved c =
    let q = c.args.self.now in
    let order : List SlotState = in_some_order c.args.reassembly.now in
    let step = slot_step q order c.slots.k c.in-Some.held c.in-Some.ensures.message in
    let no : is_sought q true c.in-Some.held.flow c.in-Some.held.number ≡ false = cc in
    let next : c.slots.k + 1 ≡ suc c.slots.k = omega arith in
    ap (λ (n : ℕ). list_any (slot_is q) (drop n order)) next
    ∙ (sym (step.1 ∙ ap (λ (b : Bool). b || list_any (slot_is q) (drop (suc c.slots.k) order)) no) ∙ c.slots.invariant)

pub returns : goal.returns
returns c =
    let q = c.args.self.now in
    let none : c.held.result ≡ None = search rules in
    sym (any_in_slots q c.args.reassembly.now c.held.ensures.table ∙ (sym c.slots.invariant ∙ slot_end q (in_some_order c.args.reassembly.now) c.slots.k (sym none ∙ c.held.ensures.message)))
