-- What an answer, a giving up and a taking leave of the numbers.
use Rattle.std.proofs.Common.{◌≡◌, ℕ, Bool, true, false, Option, Some, None, refl, ap, sym, ◌∙◌, ◌==◌, if◌then◌else◌, eq-eqb, unwrap_or}
use Rattle.std.specs.Option.{option_map}
use Rattle.std.specs.FinMap.{get}
use Rattle.interface.specs.Flow.{same_flow}
use Rattle.interface.specs.declared.address.Flow.{Flow}
use Rattle.interface.proofs.lemmas.{same_flow-refl}
use Rattle.link_table.specs.Flows.{Sources, changed, flow_answered, given_up, handed, last_in, outstanding_in, is_idle_in, answered_in, given_up_in, handed_in, release_in}
use Rattle.link_table.specs.declared.source.Standing.{Standing}
use Rattle.link_table.specs.declared.source.Standing.TheVariants as standing
use Rattle.link_table.specs.declared.source.Release.TheVariants as release
use Rattle.link_table.proofs.FlowLemmas.{get_changed, get_same}

-- what a change of a `Standing` keeps of it, it keeps of each flow
same_after : {X : Type 0} (F : Option Standing → X) (change : Standing → Standing) → ((o : Option Standing) → F (option_map change o) ≡ F o) → (m : Sources) (f g : Flow)
    → F (get (changed change m f) g) ≡ F (get m g)
same_after {X} F change keeps m f g = ap F (get_changed change m f g) ∙ by (same_flow g f) refl where
  by : (b : Bool) → same_flow g f ≡ b → F (if b then option_map change (get m f) else get m g) ≡ F (get m g)
  by true e = keeps (get m f) ∙ ap F (sym (get_same m f g e))
  by false e = refl

-- the flow that is named
at_named : (change : Standing → Standing) (m : Sources) (f : Flow) → get (changed change m f) f ≡ option_map change (get m f)
at_named change m f = get_changed change m f f ∙ ap (λ (b : Bool). if b then option_map change (get m f) else get m f) (same_flow-refl f)

-- ---- one `Standing`

by_test : {X : Type 0} (F : Standing → X) (b : Bool) (l : ℕ) → F (standing.Answered l) ≡ F (standing.Outstanding l) → F (if b then standing.Answered l else standing.Outstanding l) ≡ F (standing.Outstanding l)
by_test F true l e = e
by_test F false l e = refl

answered_keeps : {X : Type 0} (F : Option Standing → X) → ((l : ℕ) → F (Some (standing.Answered l)) ≡ F (Some (standing.Outstanding l))) → (n : ℕ) (o : Option Standing)
    → F (option_map (answered_in n) o) ≡ F o
answered_keeps F alike n None = refl
answered_keeps F alike n (Some (standing.Idle l)) = refl
answered_keeps F alike n (Some (standing.Outstanding l)) = by_test (λ (s : Standing). F (Some s)) (l == n) l (alike l)
answered_keeps F alike n (Some (standing.Answered l)) = refl

given_up_keeps : {X : Type 0} (F : Option Standing → X) → ((l : ℕ) → F (Some (standing.Answered l)) ≡ F (Some (standing.Outstanding l))) → (o : Option Standing)
    → F (option_map given_up_in o) ≡ F o
given_up_keeps F alike None = refl
given_up_keeps F alike (Some (standing.Idle l)) = refl
given_up_keeps F alike (Some (standing.Outstanding l)) = alike l
given_up_keeps F alike (Some (standing.Answered l)) = refl

handed_keeps : {X : Type 0} (F : Option Standing → X) → ((l : ℕ) → F (Some (standing.Idle l)) ≡ F (Some (standing.Answered l))) → (o : Option Standing)
    → F (option_map handed_in o) ≡ F o
handed_keeps F alike None = refl
handed_keeps F alike (Some (standing.Idle l)) = refl
handed_keeps F alike (Some (standing.Outstanding l)) = refl
handed_keeps F alike (Some (standing.Answered l)) = alike l

-- ---- the number begun last stays

pub answered_last : (m : Sources) (f g : Flow) (n : ℕ) → last_in (get (flow_answered m f n) g) ≡ last_in (get m g)
unfolding flow_answered
answered_last m f g n = same_after last_in (answered_in n) (answered_keeps last_in (λ l. refl) n) m f g

pub given_up_last : (m : Sources) (f g : Flow) → last_in (get (given_up m f) g) ≡ last_in (get m g)
unfolding given_up
given_up_last m f g = same_after last_in given_up_in (given_up_keeps last_in (λ l. refl)) m f g

pub handed_last : (m : Sources) (f g : Flow) → last_in (get (handed m f) g) ≡ last_in (get m g)
unfolding handed
handed_last m f g = same_after last_in handed_in (handed_keeps last_in (λ l. refl)) m f g

pub handed_outstanding : (m : Sources) (f g : Flow) → outstanding_in (get (handed m f) g) ≡ outstanding_in (get m g)
unfolding handed
handed_outstanding m f g = same_after outstanding_in handed_in (handed_keeps outstanding_in (λ l. refl)) m f g

-- ---- the outstanding message has its answer

freed : (n : ℕ) (o : Option Standing) → outstanding_in o ≡ Some n → outstanding_in (option_map (answered_in n) o) ≡ None
freed n None e = refl
freed n (Some (standing.Idle l)) e = refl
freed n (Some (standing.Outstanding l)) e =
    let same : l ≡ n = ap (λ (o : Option ℕ). unwrap_or o l) e in
    ap (λ (b : Bool). outstanding_in (Some (if b then standing.Answered l else standing.Outstanding l))) (eq-eqb l n same)
freed n (Some (standing.Answered l)) e = refl

pub answered_frees : (m : Sources) (f : Flow) (n : ℕ) → outstanding_in (get m f) ≡ Some n → outstanding_in (get (flow_answered m f n) f) ≡ None
unfolding flow_answered
answered_frees m f n e = ap outstanding_in (at_named (answered_in n) m f) ∙ freed n (get m f) e

stale : (n : ℕ) (o : Option Standing) → release_in n o ≡ release.Stale → option_map (answered_in n) o ≡ o
stale n None e = refl
stale n (Some (standing.Idle l)) e = refl
stale n (Some (standing.Outstanding l)) e = by (l == n) e where
  by : (b : Bool) → (if b then release.Freed else release.Stale) ≡ release.Stale → Some (if b then standing.Answered l else standing.Outstanding l) ≡ Some (standing.Outstanding l)
  by true h = absurd (cc)
  by false h = refl
stale n (Some (standing.Answered l)) e = refl

pub answered_stale : (m : Sources) (f g : Flow) (n : ℕ) → release_in n (get m f) ≡ release.Stale → get (flow_answered m f n) g ≡ get m g
unfolding flow_answered
answered_stale m f g n e = get_changed (answered_in n) m f g ∙ by (same_flow g f) refl where
  by : (b : Bool) → same_flow g f ≡ b → (if b then option_map (answered_in n) (get m f) else get m g) ≡ get m g
  by true same = stale n (get m f) e ∙ sym (get_same m f g same)
  by false same = refl

none_left : (o : Option Standing) → outstanding_in (option_map given_up_in o) ≡ None
none_left None = refl
none_left (Some (standing.Idle l)) = refl
none_left (Some (standing.Outstanding l)) = refl
none_left (Some (standing.Answered l)) = refl

pub given_up_frees : (m : Sources) (f : Flow) → outstanding_in (get (given_up m f) f) ≡ None
unfolding given_up
given_up_frees m f = ap outstanding_in (at_named given_up_in m f) ∙ none_left (get m f)

-- ---- the host may send only after it took the answer

pub answered_idle : (m : Sources) (f g : Flow) (n : ℕ) → is_idle_in (get (flow_answered m f n) g) ≡ is_idle_in (get m g)
unfolding flow_answered
answered_idle m f g n = same_after is_idle_in (answered_in n) (answered_keeps is_idle_in (λ l. refl) n) m f g

pub given_up_idle : (m : Sources) (f g : Flow) → is_idle_in (get (given_up m f) g) ≡ is_idle_in (get m g)
unfolding given_up
given_up_idle m f g = same_after is_idle_in given_up_in (given_up_keeps is_idle_in (λ l. refl)) m f g

idle_then : (o : Option Standing) → outstanding_in o ≡ None → is_idle_in (option_map handed_in o) ≡ true
idle_then None e = refl
idle_then (Some (standing.Idle l)) e = refl
idle_then (Some (standing.Outstanding l)) e = absurd (cc)
idle_then (Some (standing.Answered l)) e = refl

pub handed_idle : (m : Sources) (f : Flow) → outstanding_in (get m f) ≡ None → is_idle_in (get (handed m f) f) ≡ true
unfolding handed
handed_idle m f e = ap is_idle_in (at_named handed_in m f) ∙ idle_then (get m f) e
