-- Whether a message to a host at an IMP is outstanding, in tables of known flows.
use Rattle.subnet.proofs.Common.{cases_Bool, get, empty, get-empty, flow_cmp, Flow, has_from, Noted, Standing, asked, get_begun, outstanding_to_none, outstanding_to_one, ours}
use Rattle.std.proofs.Common.{◌≡◌, ℕ, true, false, [], Option, Some, None, IsSome, is_some, ap, sym, ◌∙◌, ◌==◌, inl, inr}
use Rattle.link_table.specs.Flows.{Sources, begun, number_in, outstanding_in, has_outstanding_to}
use Rattle.link_table.specs.declared.source.Standing.TheVariants as standing

pub some_outstanding : (m : Sources) (imp : ℕ) (g : Flow) (n : ℕ) → (g.destination.imp == imp) ≡ true → outstanding_in (get m g) ≡ Some n → has_outstanding_to imp m ≡ true
some_outstanding m imp g n to is = elim (cases_Bool (has_outstanding_to imp m)) [
  | inl some ↦ some
  | inr none ↦ (let nothing : outstanding_in (get m g) ≡ None = outstanding_to_none m imp none g to in absurd (cc))
]

pub none_outstanding : (m : Sources) (imp : ℕ) → ((g : Flow) → outstanding_in (get m g) ≡ None) → has_outstanding_to imp m ≡ false
none_outstanding m imp nothing = elim (cases_Bool (has_outstanding_to imp m)) [
  | inl some ↦ (let one : (g : Flow) × ((g.destination.imp == imp) ≡ true) × IsSome (outstanding_in (get m g)) = outstanding_to_one m imp some in
      let there : is_some (outstanding_in (get m one.0)) ≡ true = one.2 in
      let missing : is_some (outstanding_in (get m one.0)) ≡ false = ap is_some (nothing one.0) in
      absurd (cc))
  | inr none ↦ none
]

-- the first message of our flow
pub is_begun : get (begun empty ours) ours ≡ Some (standing.Outstanding 0)
is_begun = get_begun empty ours ours ∙ ap (λ (s : Option Standing). Some (standing.Outstanding (number_in s))) (get-empty flow_cmp ours)

-- where nothing was begun, none is
pub nothing_begun : (imp : ℕ) → has_outstanding_to imp empty ≡ false
nothing_begun imp = none_outstanding empty imp (λ g. ap outstanding_in (get-empty flow_cmp g))

-- and where nothing was noted, nothing is kept
pub none_kept : (imp : ℕ) → has_from {V = Noted} imp empty ≡ false
none_kept imp = sym (asked {V = Noted} imp [])
