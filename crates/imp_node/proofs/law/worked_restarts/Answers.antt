use Rattle.imp_node.proofs.Common.{get, empty, get-empty, flow_cmp, same_flow, Flow, Standing, host, flow}
use Rattle.std.proofs.Common.{◌≡◌, ℕ, Bool, true, false, Option, Some, None, IsSome, is_some, refl, ap, ◌∙◌, if◌then◌else◌, inl, inr, arith, eqb, ◌&&◌}
use Rattle.std.proofs.lemmas.Bool.{cases_Bool, eqb-true, ne_eqb}
use Rattle.std.specs.Option.{option_map}
use Rattle.interface.specs.Host.{Host, same_host}
use Rattle.imp_channel.specs.Line.{submitted}
use Rattle.link_table.specs.Flows.{Sources, begun, given_up, handed, outstanding_in, has_outstanding, number_in, given_up_in}
use Rattle.link_table.specs.declared.source.Standing.TheVariants as standing
use Rattle.link_table.proofs.lemmas.{get_begun, get_given_up, handed_outstanding, outstanding_none, outstanding_one}
use Rattle.routing.specs.RouteTable.{next_of, distance_to}
use Rattle.imp_node.proofs.SentFlow.{is_begun, is_taken}
use Rattle.imp_node.proofs.law.worked_restarts.Goals as goal
use Rattle.interface.proofs.lemmas.{and_second}

-- a host of which a message is outstanding, and one of which none is
some_unsettled : (m : Sources) (h : Host) (g : Flow) (n : ℕ) → same_host g.source h ≡ true → outstanding_in (get m g) ≡ Some n → has_outstanding h m ≡ true
some_unsettled m h g n from is = elim (cases_Bool (has_outstanding h m)) [
  | inl some ↦ some
  | inr none ↦ (let nothing : outstanding_in (get m g) ≡ None = outstanding_none m h none g from in absurd (cc))
]

none_unsettled : (m : Sources) (h : Host) → ((g : Flow) → same_host g.source h ≡ true → outstanding_in (get m g) ≡ None) → has_outstanding h m ≡ false
none_unsettled m h nothing = elim (cases_Bool (has_outstanding h m)) [
  | inl some ↦ (let one : (g : Flow) × (same_host g.source h ≡ true) × IsSome (outstanding_in (get m g)) = outstanding_one m h some in
      let there : is_some (outstanding_in (get m one.0)) ≡ true = one.2 in
      let missing : is_some (outstanding_in (get m one.0)) ≡ false = ap is_some (nothing one.0 one.1) in
      absurd (cc))
  | inr none ↦ none
]

-- the flow whose message is outstanding, and given up
abbrev sent : Flow
sent = flow (host 0 1) (host 0 2) 7

abbrev one_sent : Sources
one_sent = begun empty sent

ended_by : (g : Flow) (b : Bool) → outstanding_in (if b then option_map given_up_in (get {R = flow_cmp} one_sent sent) else (if b then Some (standing.Outstanding (number_in (get {R = flow_cmp} empty sent))) else get {R = flow_cmp} empty g)) ≡ None
ended_by g true = rw is_begun refl
ended_by g false = rw (get-empty flow_cmp g) refl

given_up_all : (g : Flow) → outstanding_in (get (given_up one_sent sent) g) ≡ None
given_up_all g =
    ap outstanding_in (get_given_up one_sent sent g ∙ ap (λ (s : Option Standing). if same_flow g sent then option_map given_up_in (get one_sent sent) else s) (get_begun empty sent g))
    ∙ ended_by g (same_flow g sent)

none : (x y z : Bool) → (((x && false) && y) && z) ≡ false
none true y z = refl
none false y z = refl

not_from : (g : Flow) → same_host g.source (host 1 1) ≡ true → same_flow g sent ≡ false
not_from g from =
    let at : g.source.host ≡ 1 = eqb-true g.source.host 1 (and_second _ _ from) in
    let other : eqb g.source.host 0 ≡ false = ne_eqb g.source.host 0 (λ (same : g.source.host ≡ 0). omega (arith, at, same)) in
    rw other (none _ _ _)

of_no_other : (g : Flow) → same_host g.source (host 1 1) ≡ true → outstanding_in (get one_sent g) ≡ None
of_no_other g from = ap outstanding_in (get_begun empty sent g) ∙ rw (not_from g from) (ap outstanding_in (get-empty flow_cmp g))

pub returns-clause-unsettled : goal.returns-clause-unsettled
unfolding next_of submitted distance_to
returns-clause-unsettled c = rw (some_unsettled one_sent (host 0 1) sent 0 refl (ap outstanding_in is_begun)) refl

pub returns-clause-settled : goal.returns-clause-settled
unfolding next_of submitted distance_to
returns-clause-settled c = rw (none_unsettled (handed (given_up one_sent sent) sent) (host 0 1) (λ g from. handed_outstanding (given_up one_sent sent) sent g ∙ given_up_all g)) refl

pub returns-clause-others_unsettled : goal.returns-clause-others_unsettled
unfolding next_of submitted distance_to
returns-clause-others_unsettled c = rw (none_unsettled one_sent (host 1 1) of_no_other) refl

pub returns-clause-answer_cleared : goal.returns-clause-answer_cleared
unfolding next_of submitted distance_to
returns-clause-answer_cleared c = rw (is_begun, is_taken) refl
