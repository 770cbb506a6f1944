use Rattle.std.proofs.Common.{◌≡◌, ◌≤◌, ◌<◌, ◌∙◌, sym, ap, ℕ, List, length, nat_lt, true, false, get_or, arith}
use Rattle.std.proofs.lemmas.Bool.Decides.{nat_tests}
use Rattle.packetiser.proofs.Table.{slot_read, slot_past}
use Rattle.packetiser.proofs.slot_table.SlotTable.get.Goals as goal

pub returns-in_err-key : goal.returns-in_err-key
returns-in_err-key c =
    let size : length c.deref.result.now ≡ length c.self.inside.order.items = ap length c.deref.ensures.value in
    let test : false ≡ nat_lt c.args.at (length c.deref.result.now) = c.in_err-key.ensures.lookup.0 in
    let past : length c.self.inside.order.items ≤ c.args.at = grind (arith, nat_tests, test, size) in
    rw (← c.self.view_is, c.from_residual.ensures) (sym (slot_past c.self.inside.slots c.self.inside.order.items _ c.args.at c.self.invariant past))

pub returns : goal.returns
returns c =
    let size : length c.deref.result.now ≡ length c.self.inside.order.items = ap length c.deref.ensures.value in
    let test : true ≡ nat_lt c.args.at (length c.deref.result.now) = c.in_ok-key.ensures.lookup.0 in
    let within : c.args.at < length c.self.inside.order.items = grind (arith, nat_tests, test, size) in
    let is : c.in_ok-key.key.now ≡ get_or c.self.inside.order.items c.args.at c.in_ok-key.key.now =
    c.in_ok-key.ensures.lookup.1 ∙ ap (λ (keys : List ℕ). get_or keys c.args.at c.in_ok-key.key.now) c.deref.ensures.value in
    rw (← c.self.view_is) (c.get-2.ensures ∙ slot_read c.self.inside.slots c.self.inside.order.items _ c.args.at c.in_ok-key.key.now c.self.invariant within is)
