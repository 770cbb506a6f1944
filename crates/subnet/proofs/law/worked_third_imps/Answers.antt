use Rattle.subnet.proofs.Common.{get, insert, empty, get-empty, flow_cmp, same_flow, same_host, Flow, has_from, Noted, Standing, asked, get_begun, outstanding_to_one}
use Rattle.std.proofs.Common.{◌≡◌, Bool, true, false, [], ◌∷◌, Option, Some, None, IsSome, is_some, refl, ap, sym, ◌∙◌, ◌==◌, ◌&&◌, eqb, arith, inl, inr}
use Rattle.std.proofs.lemmas.Bool.{cases_Bool, eqb-true, ne_eqb}
use Rattle.link_table.specs.Flows.{begun, number_in, outstanding_in, has_outstanding_to}
use Rattle.link_table.specs.declared.destination.Fate.TheVariants as fate
use Rattle.link_table.specs.declared.source.Standing.TheVariants as standing
use Rattle.imp_node.specs.Examples.{host, flow}
use Rattle.subnet.specs.Examples.{flow_1_3}
use Rattle.subnet.proofs.Calls.Awaiting.{some_outstanding, nothing_begun, none_kept}
use Rattle.imp_channel.specs.Line.{submitted}
use Rattle.link_table.specs.Numbers.{is_new, oldest, modulus, next, window}
use Rattle.routing.specs.RouteTable.{next_of, distance_to, vector_of}
use Rattle.subnet.proofs.law.worked_third_imps.Goals as goal

-- the message of IMP 3
abbrev from_3 : Flow
from_3 = flow (host 0 3) (host 0 2) 7

is_begun : get (begun empty from_3) from_3 ≡ Some (standing.Outstanding 0)
is_begun = get_begun empty from_3 from_3 ∙ ap (λ (s : Option Standing). Some (standing.Outstanding (number_in s))) (get-empty flow_cmp from_3)

to_2 : has_outstanding_to 2 (begun empty from_3) ≡ true
to_2 = some_outstanding (begun empty from_3) 2 from_3 0 refl (ap outstanding_in is_begun)

-- it is to no host at IMP 1
hidden : (x y z : Bool) → (((x && (false && y)) && z)) ≡ false
hidden true y z = refl
hidden false y z = refl

not_to_1 : (g : Flow) → (g.destination.imp == 1) ≡ true → same_flow g from_3 ≡ false
not_to_1 g to =
    let at : g.destination.imp ≡ 1 = eqb-true g.destination.imp 1 to in
    let other : eqb g.destination.imp 2 ≡ false = ne_eqb g.destination.imp 2 (λ (same : g.destination.imp ≡ 2). omega (arith, at, same)) in
    rw other (hidden (same_host g.source from_3.source) (g.destination.host == from_3.destination.host) (g.link.0 == 7))

not_known : (g : Flow) → (g.destination.imp == 1) ≡ true → outstanding_in (get (begun empty from_3) g) ≡ None
not_known g to = ap outstanding_in (get_begun empty from_3 g) ∙ rw (not_to_1 g to) (ap outstanding_in (get-empty flow_cmp g))

to_1 : has_outstanding_to 1 (begun empty from_3) ≡ false
to_1 = elim (cases_Bool (has_outstanding_to 1 (begun empty from_3))) [
  | inl some ↦ (let one : (g : Flow) × ((g.destination.imp == 1) ≡ true) × IsSome (outstanding_in (get (begun empty from_3) g)) = outstanding_to_one (begun empty from_3) 1 some in
      let there : is_some (outstanding_in (get (begun empty from_3) one.0)) ≡ true = one.2 in
      let missing : is_some (outstanding_in (get (begun empty from_3) one.0)) ≡ false = ap is_some (not_known one.0 one.1) in
      absurd (cc))
  | inr none ↦ none
]

-- what IMP 3 keeps of the flow from IMP 1
abbrev first_taken : Noted
first_taken = record { number = 0; fate = fate.Taken }

kept_from_1 : has_from {V = Noted} 1 (insert empty flow_1_3 first_taken) ≡ true
kept_from_1 = sym (asked {V = Noted} 1 ((flow_1_3, first_taken) ∷ []))

pub returns-clause-forget_others : goal.returns-clause-forget_others
unfolding next_of submitted distance_to vector_of is_new oldest modulus window next
returns-clause-forget_others c = rw (nothing_begun 2) refl

pub returns-clause-forget_awaited : goal.returns-clause-forget_awaited
unfolding next_of submitted distance_to vector_of is_new oldest modulus window next
returns-clause-forget_awaited c = rw to_2 refl

pub returns-clause-start_kept : goal.returns-clause-start_kept
unfolding next_of submitted distance_to vector_of is_new oldest modulus window next
returns-clause-start_kept c = rw (none_kept 1, kept_from_1) refl

pub returns-clause-start_awaited : goal.returns-clause-start_awaited
unfolding next_of submitted distance_to vector_of is_new oldest modulus window next
returns-clause-start_awaited c = rw (none_kept 2, nothing_begun 2, to_2) refl

pub returns-clause-start_others : goal.returns-clause-start_others
unfolding next_of submitted distance_to vector_of is_new oldest modulus window next
returns-clause-start_others c = rw (none_kept 1, nothing_begun 1, to_1) refl
