use Rattle.std.proofs.Common.{rules, not}
use Rattle.host_pairs.specs.Entries.{is_over}
use Rattle.host_pairs.specs.Inside.Held.{waits, has_bits}
use Rattle.host_pairs.specs.declared.entry.Entry.{Entry}
use Rattle.host_pairs.proofs.HeldLemmas.{swept_held}
use Rattle.host_pairs.proofs.held.Ends.sweep_each.Goals as goal

pub invariant_of-self : goal.invariant_of-self
invariant_of-self c = swept_held c.self.inside.gone _ _ _ _ _ _ _ c.self.inside.ends.items _ c.self.invariant (search rules)
    (c.thin_out.ensures (λ (e : Entry). not (is_over e)) _ c.self.invariant.indexed) (c.left-due.ensures waits (λ (e : Entry). not (is_over e)) _ c.self.invariant.closing) (c.left-bits.ensures has_bits (λ (e : Entry). not (is_over e)) _ c.self.invariant.sending)
