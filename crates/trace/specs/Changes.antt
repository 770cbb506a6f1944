-- Which parts are other than they were: those that are always there, and flows, which come and go.
use Rattle.std.specs.Prelude.{◌≡◌, ◌<◌, ℕ, Bool, false, not, ◌++◌, ◌∷◌, List, [], filter, if◌then◌else◌, length, map}
use Rattle.std.specs.Prelude.{nat_eq, slice_get, slice_index_or, slice_set, Option, Some, None}
use Rattle.std.specs.Cmp.Lexicographic.{pointwise}
use Rattle.std.specs.List.{All, Contains, flat_map, list_any}
use Rattle.std.specs.List.Sorted.{IsStrictlySortedBy}
use Rattle.interface.specs.Flow.{flow_cmp}
use Rattle.trace.specs.Flows.{gone, same_flow_part, same_name, told}
use Rattle.trace.specs.Joined.{part_behind}
use Rattle.trace.specs.declared.all_parts.AllParts.{AllParts}
use Rattle.trace.specs.declared.flow_part.FlowPart.{FlowPart}

-- ---- those that are always there, in the same order each time: each is compared with the one at its place

-- the member at a place has this text
abbrev pub has_text : Option (List ℕ) → List ℕ → Bool
has_text None text = false
has_text (Some member) text = pointwise nat_eq member text

abbrev pub is_at : List (List ℕ) → ℕ → List ℕ → Bool
is_at members place text = has_text (slice_get members place) text

-- the members that are other than the ones that were at their places, in order
abbrev pub changed : List (List ℕ) → List (List ℕ) → List (List ℕ)
changed before [] = []
changed [] (now ∷ later) = now ∷ changed [] later
changed (was ∷ before)
    (now ∷ later) = if pointwise nat_eq was now then changed before later else now ∷ changed before later

-- ---- flows: each is compared with the one of its name

-- a flow is in a list with this state, or with any
abbrev pub is_told : List FlowPart → FlowPart → Bool
is_told list p = list_any (λ q. same_flow_part q p) list

abbrev pub is_there : List FlowPart → FlowPart → Bool
is_there list p = list_any (λ q. same_name q p) list

-- the flows that are new, or other than before
abbrev pub altered : List FlowPart → List FlowPart → List FlowPart
altered before now = filter (λ p. not (is_told before p)) now

-- those that are there no more
abbrev pub lost : List FlowPart → List FlowPart → List FlowPart
lost before now = filter (λ p. not (is_there now p)) before

-- a part that is new or other has its text, and one that is there no more has null
abbrev pub changed_flows : List FlowPart → List FlowPart → List (List ℕ)
changed_flows before now = map told (altered before now) ++ map gone (lost before now)

-- list by list, each of which has its place
abbrev pub changed_lists : List (List FlowPart) → List (List FlowPart) → List (List ℕ)
changed_lists before [] = []
changed_lists [] (now ∷ later) = changed_flows [] now ++ changed_lists [] later
changed_lists (was ∷ before) (now ∷ later) = changed_flows was now ++ changed_lists before later

-- ---- all parts

-- as the members of an object
abbrev pub members_of : AllParts → List (List ℕ)
members_of p = p.fixed ++ flat_map (map told) p.flows

-- those that are other than before, or there no more
abbrev pub changed_parts : AllParts → AllParts → List (List ℕ)
changed_parts before now = changed before.fixed now.fixed ++ changed_lists before.flows now.flows

-- a flow was in the list at this place, of which there is one now, and is there no more
pub record IsLostAt (before now : List (List FlowPart)) (place : ℕ) (p : FlowPart) : Type 0 where
  pub within : place < length now
  pub was : Contains (slice_index_or before place []) p
  pub none : is_there (slice_index_or now place []) p ≡ false

-- a text is the null of such a flow
pub record IsGone (before now : List (List FlowPart)) (text : List ℕ) : Type 0 where
  pub place : ℕ
  pub flow : FlowPart
  pub lost : IsLostAt before now place flow
  pub null : text ≡ gone flow

-- in a list flows rise: each comes before all those after it, and so none is there twice
abbrev pub Rises : List FlowPart → Type 0
Rises list = IsStrictlySortedBy flow_cmp (map (λ p. p.flow) list)

-- parts of one network: as many that are always there, and as many lists of flows, in each of which they rise
pub record AreOfOne (before now : AllParts) : Type 0 where
  pub fixed : length before.fixed ≡ length now.fixed
  pub lists : length before.flows ≡ length now.flows
  pub rose : All Rises before.flows
  pub rise : All Rises now.flows

-- ---- one by one

-- a text in the place of the member at a place, if it may have changed
abbrev pub put_at : Bool → List (List ℕ) → ℕ → List ℕ → List (List ℕ)
put_at may members place text = if may then slice_set members place text else members

-- and in the text of an object without its end, of members that have changed, if it is other than that member
abbrev pub put_text : Bool → List (List ℕ) → ℕ → List ℕ → List ℕ → List ℕ
put_text may members place text object = object ++
    (if may then part_behind (not (is_at members place text)) (length object) text else [])
