use Rattle.std.proofs.Common.{◌≡◌, ◌≤◌, ◌<◌, ◌∙◌, ap, ℕ, List, length, insert, is_ok, not, true, false, sym, subst, arith, vec_len, vec_capacity}
use Rattle.packetiser.specs.Inside.{slots_at, IsKept}
use Rattle.packetiser.specs.Slots.{SlotState}
use Rattle.packetiser.proofs.Table.{size_is, slots_insert, kept_insert}
use Rattle.packetiser.proofs.slot_table.SlotTable.insert.Goals as goal

pub insert_reserved-key-requires : goal.insert_reserved-key-requires
insert_reserved-key-requires c =
    let size : length c.args.self.now ≡ length c.self.inside.order.items = size_is c.self.inside.slots c.self.inside.order.items _ c.args.self.now c.self.invariant c.self.view_is in
    omega (arith, size, c.self.invariant.no_other, c.self.invariant.slots_reserved, c.requires.room)

pub insert-requires : goal.insert-requires
insert-requires c =
    let size : length c.args.self.now ≡ length c.self.inside.order.items = size_is c.self.inside.slots c.self.inside.order.items _ c.args.self.now c.self.invariant c.self.view_is in
    omega (arith, size, c.self.inside.order.ok.0, c.requires.within)

pub unreachable-requires : goal.unreachable-requires
unreachable-requires c =
    let size : length c.args.self.now ≡ length c.self.inside.order.items = size_is c.self.inside.slots c.self.inside.order.items _ c.args.self.now c.self.invariant c.self.view_is in
    let free : vec_len c.self.inside.order < vec_capacity c.self.inside.order = omega (arith, size, c.self.inside.order.ok.0, c.self.invariant.keys_reserved, c.requires.room) in
    let done : is_ok c.insert.result ≡ true = c.insert.ensures.succeeds free in
    let failed : is_ok c.insert.result ≡ false = c.is_err.ensures.negation ∙ ap not c.if-is_err.true in
    absurd (cc)

pub invariant_of-self : goal.invariant_of-self
invariant_of-self c =
    let size : length c.args.self.now ≡ length c.self.inside.order.items = size_is c.self.inside.slots c.self.inside.order.items _ c.args.self.now c.self.invariant c.self.view_is in
    let within : c.args.at ≤ length c.self.inside.order.items = omega (arith, size, c.requires.within) in
    let done : is_ok c.insert.result ≡ true = c.is_err.ensures.negation ∙ ap not c.if-is_err.false in
    let items : c.insert.new.self.items ≡ insert c.self.inside.order.items c.args.at c.insert_reserved-key.result = rw done at c.insert.ensures.items in
    subst (λ (keys : List ℕ). IsKept c.insert_reserved-key.new.self keys (vec_capacity c.insert.new.self)) (sym items)
    (kept_insert c.self.inside.slots c.insert_reserved-key.new.self c.self.inside.order.items (vec_capacity c.self.inside.order) (vec_capacity c.insert.new.self) c.args.at c.insert_reserved-key.result c.args.slot c.self.invariant within c.insert_reserved-key.ensures.was_vacant c.insert_reserved-key.ensures.updates c.insert_reserved-key.ensures.len c.insert_reserved-key.ensures.capacity c.insert.ensures.capacity)

pub returns : goal.returns
returns c =
    let size : length c.args.self.now ≡ length c.self.inside.order.items = size_is c.self.inside.slots c.self.inside.order.items _ c.args.self.now c.self.invariant c.self.view_is in
    let within : c.args.at ≤ length c.self.inside.order.items = omega (arith, size, c.requires.within) in
    let done : is_ok c.insert.result ≡ true = c.is_err.ensures.negation ∙ ap not c.if-is_err.false in
    let items : c.insert.new.self.items ≡ insert c.self.inside.order.items c.args.at c.insert_reserved-key.result = rw done at c.insert.ensures.items in
    ap (λ (keys : List ℕ). slots_at c.insert_reserved-key.new.self keys) items
    ∙ slots_insert c.self.inside.slots c.insert_reserved-key.new.self c.self.inside.order.items (vec_capacity c.self.inside.order) c.args.at c.insert_reserved-key.result c.args.slot c.self.invariant within c.insert_reserved-key.ensures.was_vacant c.insert_reserved-key.ensures.updates
    ∙ ap (λ (slots : List SlotState). insert slots c.args.at c.args.slot) c.self.view_is
