use Rattle.std.proofs.Common.{ℕ, rules, refl, sym, ap, ◌∙◌, drop, List}
use Rattle.std.specs.List.{remove}
use Rattle.host_pairs.specs.Entries.{is_over}
use Rattle.host_pairs.specs.Inside.Held.{waits, has_bits}
use Rattle.host_pairs.specs.declared.entry.Entry.{Entry}
use Rattle.host_pairs.proofs.HeldLemmas.{first_behind, first_within, read_behind, removed_behind, removed_held, rest_within}
use Rattle.host_pairs.proofs.held.Ends.remove.Goals as goal

pub invariant_of-self : goal.invariant_of-self
invariant_of-self c = removed_held (_) _ _ _ _ _ (remove (drop c.self.inside.gone c.self.inside.ends.items) c.args.at)
    (first_within c.self.inside.gone c.args.at _ c.self.inside.ends.items c.self.view_is c.requires)
    (first_behind c.self.inside.gone c.self.inside.ends.items ∙ ap (λ (n : ℕ). remove (drop c.self.inside.gone c.self.inside.ends.items) n) (sym c.if-at-eq0.true))
    (c.remove_from.ensures (drop c.self.inside.gone c.self.inside.ends.items) c.index-end.result.now (rw c.self.view_is c.requires) (read_behind c.self.inside.gone c.args.at c.index-end.result.now c.self.inside.ends.items (search rules)) refl refl c.self.invariant.indexed)
    (c.without-due.ensures waits _ c.self.invariant.closing) (c.without-over.ensures is_over _ c.self.invariant.ending) (c.without-bits.ensures has_bits _ c.self.invariant.sending)

pub invariant_of-self-else-at-eq0 : goal.invariant_of-self-else-at-eq0
invariant_of-self-else-at-eq0 c = removed_held c.self.inside.gone _ _ _ _ _ (remove (drop c.self.inside.gone c.self.inside.ends.items) c.args.at)
    (rw c.remove.ensures.items (rest_within c.self.inside.gone c.args.at _ c.self.inside.ends.items c.self.view_is c.requires))
    (ap (λ (es : List Entry). drop c.self.inside.gone es) c.remove.ensures.items ∙ removed_behind c.self.inside.gone c.args.at c.self.inside.ends.items c.self.invariant.within)
    (c.remove_from.ensures (drop c.self.inside.gone c.self.inside.ends.items) c.index-end.result.now (rw c.self.view_is c.requires) (read_behind c.self.inside.gone c.args.at c.index-end.result.now c.self.inside.ends.items (search rules)) refl refl c.self.invariant.indexed)
    (c.without-due.ensures waits _ c.self.invariant.closing) (c.without-over.ensures is_over _ c.self.invariant.ending) (c.without-bits.ensures has_bits _ c.self.invariant.sending)

pub returns-then-at-eq0 : goal.returns-then-at-eq0
returns-then-at-eq0 c = c.make_room.ensures ∙ first_behind c.self.inside.gone c.self.inside.ends.items ∙ ap (λ (es : List Entry). remove es 0) c.self.view_is
    ∙ ap (λ (n : ℕ). remove c.args.self.now n) (sym c.if-at-eq0.true)

pub returns-else-at-eq0 : goal.returns-else-at-eq0
returns-else-at-eq0 c = ap (λ (es : List Entry). drop c.self.inside.gone es) c.remove.ensures.items ∙ removed_behind c.self.inside.gone c.args.at c.self.inside.ends.items c.self.invariant.within
    ∙ ap (λ (es : List Entry). remove es c.args.at) c.self.view_is
