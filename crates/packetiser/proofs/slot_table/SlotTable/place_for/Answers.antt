use Rattle.std.proofs.Common.{◌≡◌, ◌∙◌, ap, ℕ, List, not, length, Option, unwrap_or}
use Rattle.std.specs.List.{position, position_or_len}
use Rattle.interface.specs.Flow.{flow_before}
use Rattle.slab.specs.Slab.{get}
use Rattle.packetiser.specs.Inside.{is_there_and}
use Rattle.packetiser.specs.Slots.{SlotState}
use Rattle.packetiser.proofs.Slots.{position_given, position_within}
use Rattle.packetiser.proofs.Table.{first_not_is}
use Rattle.packetiser.proofs.slot_table.SlotTable.place_for.Goals as goal

place : (c : goal.After-unwrap_or) → c.unwrap_or.result ≡ position_or_len (λ (s : SlotState). not (flow_before s.flow c.args.flow.now)) c.args.self.now
place c =
    let test : ℕ → _ = λ (key : ℕ). not (is_there_and (λ (s : SlotState). flow_before s.flow c.args.flow.now) (get c.self.inside.slots key)) in
    rw (← c.self.view_is) (
    c.unwrap_or.ensures
    ∙ ap (λ (n : ℕ). unwrap_or c.first_after.result n) (c.len.ensures ∙ c.self.inside.order.ok.0)
    ∙ ap (λ (o : Option ℕ). unwrap_or o (length c.self.inside.order.items)) (c.first_after.ensures ∙ ap (λ (keys : List ℕ). position test keys) c.deref.ensures.value)
    ∙ position_given test c.self.inside.order.items
    ∙ first_not_is (λ (s : SlotState). flow_before s.flow c.args.flow.now) c.self.inside.slots c.self.inside.order.items _ c.self.invariant)

pub returns-clause-place : goal.returns-clause-place
returns-clause-place c = place c

pub returns-clause-within : goal.returns-clause-within
returns-clause-within c = rw (place c) (position_within (λ (s : SlotState). not (flow_before s.flow c.args.flow.now)) c.args.self.now)
