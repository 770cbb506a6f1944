use Rattle.std.proofs.Common.{rules, sym, ap, ◌∙◌, ◌≡◌, false, List}
use Rattle.std.specs.List.{list_any}
use Rattle.std.proofs.lemmas.Bool.{not_from_false}
use Rattle.host_pairs.specs.Inside.Held.{has_bits}
use Rattle.host_pairs.specs.declared.entry.Entry.{Entry}
use Rattle.host_pairs.proofs.HeldLemmas.{with_bits}
use Rattle.host_pairs.proofs.held.Ends.look_again.Goals as goal

pub invariant_of-self : goal.invariant_of-self
invariant_of-self c =
    let none : list_any has_bits c.args.self.now ≡ false = ap (λ (es : List Entry). list_any has_bits es) (sym c.as_slice.ensures) ∙ sym (c.among.ensures.some has_bits has_bits (λ e h. h) (search rules)) ∙ search rules in
    with_bits _ _ _ _ _ _ _ c.self.invariant (rw c.self.view_is (not_from_false _ none))
