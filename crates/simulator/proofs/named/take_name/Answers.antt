use Rattle.std.proofs.Common.{◌≡◌, ◌∙◌, List, String, Global, Some, ap, map, string_bytes, subst, sym, refl}
use Rattle.std.specs.List.{filter}
use Rattle.simulator.specs.Named.{IsNamePlace, names_input}
use Rattle.simulator.proofs.Names.{all_others, name_again, name_alone, taken_out}
use Rattle.simulator.proofs.named.take_name.Goals as goal

-- src/named.rt:71:9
pub returns-in_default-clause-others : goal.returns-in_default-clause-others
returns-in_default-clause-others c =
    sym (all_others _ (ap (λ (l : List (String Global)). filter names_input (map string_bytes l)) (sym c.deref.ensures.value) ∙ c.in_default.ensures))

-- src/named.rt:65:1
pub returns-in-None-clause-named : goal.returns-in-None-clause-named
returns-in-None-clause-named c =
    name_alone (taken_out _ c.remove-name.new.self.items _ c.in-Some.place _ c.deref.ensures.value c.in-Some.ensures c.remove-name.ensures.value c.remove-name.ensures.by_index.2)
    (ap (λ (l : List (String Global)). filter names_input (map string_bytes l)) (sym c.deref-2.ensures.value) ∙ c.in-None.ensures)

-- src/named.rt:65:1
pub returns-in-None-clause-others : goal.returns-in-None-clause-others
returns-in-None-clause-others c =
    let out = taken_out _ c.remove-name.new.self.items _ c.in-Some.place _ c.deref.ensures.value c.in-Some.ensures c.remove-name.ensures.value c.remove-name.ensures.by_index.2 in
    sym (out.others ∙ all_others _ (ap (λ (l : List (String Global)). filter names_input (map string_bytes l)) (sym c.deref-2.ensures.value) ∙ c.in-None.ensures))

-- src/named.rt:65:1
pub returns-in-Some-name_place-clause-two : goal.returns-in-Some-name_place-clause-two
returns-in-Some-name_place-clause-two c =
    let out = taken_out _ c.remove-name.new.self.items _ c.in-Some.place _ c.deref.ensures.value c.in-Some.ensures c.remove-name.ensures.value c.remove-name.ensures.by_index.2 in
    let again : IsNamePlace c.remove-name.new.self.items (Some c.in-Some-name_place.field-0) = subst (λ (l : List (String Global)). IsNamePlace l (Some c.in-Some-name_place.field-0)) c.deref-2.ensures.value c.in-Some-name_place.ensures in
    (refl, name_again out c.in-Some-name_place.field-0 again.0 again.1 again.2)
