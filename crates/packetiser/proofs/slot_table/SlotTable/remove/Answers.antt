use Rattle.std.proofs.Common.{◌≡◌, ◌<◌, ◌∙◌, ap, ℕ, List, length, remove, arith, vec_capacity}
use Rattle.packetiser.specs.Inside.{slots_at, IsKept}
use Rattle.packetiser.specs.Slots.{SlotState}
use Rattle.packetiser.proofs.Table.{size_is, slots_remove, kept_remove}
use Rattle.packetiser.proofs.slot_table.SlotTable.remove.Goals as goal

pub remove-key-requires : goal.remove-key-requires
remove-key-requires c =
    let size : length c.args.self.now ≡ length c.self.inside.order.items = size_is c.self.inside.slots c.self.inside.order.items _ c.args.self.now c.self.invariant c.self.view_is in
    omega (arith, size, c.self.inside.order.ok.0, c.requires)

pub invariant_of-self : goal.invariant_of-self
invariant_of-self c =
    let size : length c.args.self.now ≡ length c.self.inside.order.items = size_is c.self.inside.slots c.self.inside.order.items _ c.args.self.now c.self.invariant c.self.view_is in
    let within : c.args.at < length c.self.inside.order.items = omega (arith, size, c.requires) in
    let kept : IsKept c.remove.new.self (remove c.self.inside.order.items c.args.at) (vec_capacity c.self.inside.order) =
    kept_remove c.self.inside.slots c.remove.new.self c.self.inside.order.items (vec_capacity c.self.inside.order) c.args.at c.remove-key.result c.self.invariant within c.remove-key.ensures.value c.remove.ensures.updates c.remove.ensures.len c.remove.ensures.capacity in
    rw (c.remove-key.ensures.items, c.remove-key.ensures.capacity) kept

pub returns : goal.returns
returns c =
    let size : length c.args.self.now ≡ length c.self.inside.order.items = size_is c.self.inside.slots c.self.inside.order.items _ c.args.self.now c.self.invariant c.self.view_is in
    let within : c.args.at < length c.self.inside.order.items = omega (arith, size, c.requires) in
    ap (λ (keys : List ℕ). slots_at c.remove.new.self keys) c.remove-key.ensures.items
    ∙ slots_remove c.self.inside.slots c.remove.new.self c.self.inside.order.items (vec_capacity c.self.inside.order) c.args.at c.remove-key.result c.self.invariant within c.remove-key.ensures.value c.remove.ensures.updates
    ∙ ap (λ (slots : List SlotState). remove slots c.args.at) c.self.view_is
