use Rattle.subnet_trace.proofs.Common.{◌≡◌, ◌⊎◌, inl, inr, ◌++◌, ℕ, List, [], ◌∷◌, None, Ok, codes, length, refl, sym, ap, ◌∙◌, subst, arith, Happens, Kept, running, subnet_calls, subnet_inside, Element, Spot}
use Rattle.subnet.specs.Events.{stepped}
use Rattle.trace.specs.Texts.{object, trace_line}
use Rattle.std.proofs.lemmas.List.{append-nil}
use Rattle.trace.proofs.lemmas.{no_part_changed, Opened, opened_rounds}
use Rattle.trace.specs.Traces.{IsStill, TellsEvent, change_text, TellsElement, TellsRounds}
use Rattle.interface.specs.declared.NetEvent.TheVariants as net
use Rattle.routing.specs.RouteTable.{distance_to, next_of, vector_of}
use Rattle.script.specs.declared.event.RawEvent.TheVariants as event
use Rattle.subnet_trace.specs.Elements.{calm_of}
use Rattle.subnet_trace.specs.Worked.{lonely, tells}
use Rattle.subnet_trace.proofs.Rest.{Left, left_of}
use Rattle.trace.specs.Elements.{by_round}
use Rattle.subnet_trace.proofs.worked.worked_still.Goals as goal

unmoved : stepped lonely (net.Route 1) ≡ lonely
unfolding vector_of distance_to next_of
unmoved = refl

rounds : by_round (calm_of lonely 2) ≡ (tells 1 1 ∷ []) ∷ (tells 2 1 ∷ []) ∷ []
unfolding vector_of distance_to next_of
rounds = refl

-- ---- the first round

still : IsStill subnet_calls subnet_inside (running lonely) (running lonely)
still = record { parts = refl; log = refl }

happens : Happens subnet_calls (running lonely) (event.Net (net.Route 1)) (running lonely) []
happens = record {
  outcome = Ok tt;
  gives = (refl, ap running (sym unmoved));
  goes_on = tt;
  crossings = [];
  grown =
      refl;
  lines = refl;
}

unchanged : change_text subnet_inside (running lonely) (running lonely) ≡ codes "{}"
unchanged = ap object (no_part_changed (subnet_inside.members (running lonely)))

once : (spot : Spot)
    → TellsEvent subnet_calls subnet_inside (running lonely) (spot, event.Calm 2) (running lonely)
    (trace_line spot (tells 1 1) None [] (codes "{}") ∷ [])
once = λ spot.
    let line : List ℕ = trace_line spot (tells 1 1) None [] (codes "{}") in
    let told : TellsElement subnet_calls subnet_inside spot (running lonely) (tells 1 1) (running lonely) (line ∷ []) =
    ([], happens, ap (λ (parts : List ℕ). trace_line spot (tells 1 1) None [] parts ∷ []) (sym unchanged)) in
    subst (λ (all : List (List Element)). TellsRounds subnet_calls subnet_inside spot (running lonely) all
    (running lonely) (line ∷ [])) (sym rounds)
    (inr (record {
      done = [];
      last = tells 1 1 ∷ [];
      left = (tells 2 1 ∷ []) ∷ [];
      parts = refl;
      mid = running lonely;
      front = [];
      before = (refl, refl);
      own = line ∷ [];
      goes = ((running lonely, line ∷ [], [], told, (refl, refl), refl), still);
      lines = refl;
    }))

-- ---- other lines

-- the first round leaves the subnet as it was, and has one line
record First (mid : Kept) (first : List (List ℕ)) : Type 0 where
  same : mid ≡ running lonely
  one : length first ≡ 1

left : (mid : Kept) → Left (running lonely) mid (event.Net (net.Route 1)) → mid ≡ running lonely
left mid (inl same) = same
left mid (inr went) = went.1 ∙ ap running unmoved

first_of : (spot : Spot) (mid : Kept) (first : List (List ℕ)) (new : Kept) (lines : List (List ℕ))
    → (o : Opened subnet_calls subnet_inside spot (running lonely) (tells 1 1 ∷ [])
    ((tells 2 1 ∷ []) ∷ []) new lines) → First o.mid o.first
first_of spot mid first new lines o =
    let (next, begin, rest, (shown, once, is), over, all) = o.told in
    record {
      same = over.0 ∙ left next (left_of (running lonely) next (event.Net (net.Route 1)) shown tt once);
      one = ap length (all ∙ ap (λ (ls : List (List ℕ)). begin ++ ls) over.1
          ∙ ap (λ (ls : List (List ℕ)). ls ++ []) is);
    }

opened : (spot : Spot) (new : Kept) (lines : List (List ℕ))
    → TellsEvent subnet_calls subnet_inside (running lonely) (spot, event.Calm 2) new lines
    → Opened subnet_calls subnet_inside spot (running lonely) (tells 1 1 ∷ []) ((tells 2 1 ∷ []) ∷ []) new lines
opened spot new lines h =
    opened_rounds subnet_calls subnet_inside spot (running lonely) (tells 1 1 ∷ []) ((tells 2 1 ∷ []) ∷ []) new lines
    (subst (λ (all : List (List Element)). TellsRounds subnet_calls subnet_inside spot
    (running lonely) all new lines) rounds h)

none_first : (first rest : List (List ℕ)) → length first ≡ 1 → [] ≡ first ++ rest → ⊥
none_first [] rest one all = omega (arith, one)
none_first (x ∷ first) rest one all = let long = ap length all in absurd (omega (arith, long))

too_early : (spot : Spot) (new : Kept)
    → TellsEvent subnet_calls subnet_inside (running lonely) (spot, event.Calm 2) new [] → ⊥
too_early = λ spot new h.
    let o = opened spot new [] h in
    none_first o.first o.rest (first_of spot o.mid o.first new [] o).one o.all

two_first : (one other : List ℕ) (first rest : List (List ℕ)) → length first ≡ 1 → rest ≡ []
    → one ∷ other ∷ [] ≡ first ++ rest → ⊥
two_first one other [] rest long none all = omega (arith, long)
two_first one other (x ∷ first) rest long none all =
    let here : 2 ≡ length (x ∷ first) = ap length
    (all ∙ ap (λ (ls : List (List ℕ)). (x ∷ first) ++ ls) none ∙ append-nil (x ∷ first)) in
    omega (arith, here, long)

too_late : (spot : Spot) (new : Kept) (one other : List ℕ)
    → TellsEvent subnet_calls subnet_inside (running lonely) (spot, event.Calm 2) new (one ∷ other ∷ []) → ⊥
too_late = λ spot new one other h.
    let o = opened spot new (one ∷ other ∷ []) h in
    let first = first_of spot o.mid o.first new (one ∷ other ∷ []) o in
    by one other o.first o.rest first.one o.all o.mid new
    (subst (λ (k : Kept). IsStill subnet_calls subnet_inside (running lonely) k) (sym first.same) still)
    o.after where
      by : {More : Type 0} (one other : List ℕ) (first rest : List (List ℕ)) → length first ≡ 1
          → one ∷ other ∷ [] ≡ first ++ rest → (mid new : Kept)
          → IsStill subnet_calls subnet_inside (running lonely) mid
          → (IsStill subnet_calls subnet_inside (running lonely) mid × (new ≡ mid) × (rest ≡ []))
          ⊎ ((IsStill subnet_calls subnet_inside (running lonely) mid → ⊥) × More) → ⊥
      by one other first rest long all mid new quiet (inl (same, last, none)) =
          two_first one other first rest long none all
      by one other first rest long all mid new quiet (inr (moved, more)) = moved quiet

pub returns : goal.returns
returns c = record { rounds = rounds; unmoved = unmoved; once = once; too_early = too_early; too_late = too_late }
