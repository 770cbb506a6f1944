use Rattle.std.proofs.Common.{◌≡◌, ◌<◌, length, sym, subst, arith, vec_capacity}
use Rattle.slab.specs.Slab.{ContainsKey}
use Rattle.packetiser.specs.PacketFields.{flow_of}
use Rattle.packetiser.proofs.Calls.{gives_map}
use Rattle.packetiser.proofs.Table.{size_is, placed_within, kept_fill}
use Rattle.packetiser.proofs.slot_table.SlotTable.fill.Goals as goal

pub index-key-requires : goal.index-key-requires
index-key-requires c =
    let size : length c.args.self.now ≡ length c.self.inside.order.items = size_is c.self.inside.slots c.self.inside.order.items _ c.args.self.now c.self.invariant c.self.view_is in
    omega (arith, size, c.self.inside.order.ok.0, placed_within c.args.self.now (flow_of c.args.packet) c.args.at c.requires.place)

pub index_mut-requires : goal.index_mut-requires
index_mut-requires c =
    let size : length c.args.self.now ≡ length c.self.inside.order.items = size_is c.self.inside.slots c.self.inside.order.items _ c.args.self.now c.self.invariant c.self.view_is in
    let within : c.args.at < length c.self.inside.order.items = omega (arith, size, placed_within c.args.self.now (flow_of c.args.packet) c.args.at c.requires.place) in
    subst (ContainsKey c.self.inside.slots) (sym c.index-key.ensures) (c.self.invariant.there c.args.at c.index-key.result.now within)

pub returns-clause-kept : goal.returns-clause-kept
returns-clause-kept c =
    let size : length c.args.self.now ≡ length c.self.inside.order.items = size_is c.self.inside.slots c.self.inside.order.items _ c.args.self.now c.self.invariant c.self.view_is in
    let within : c.args.at < length c.self.inside.order.items = omega (arith, size, placed_within c.args.self.now (flow_of c.args.packet) c.args.at c.requires.place) in
    gives_map _ _ c.take.result c.take.ensures.taken
    (λ x made. kept_fill c.self.inside.slots c.self.inside.order.items (vec_capacity c.self.inside.order) c.args.at c.index-key.result.now c.args.packet c.index_mut.result.now c.take.new.self c.args.self.now c.self.invariant c.self.view_is c.requires.order c.requires.place within c.index-key.ensures c.index_mut.ensures.value made)
