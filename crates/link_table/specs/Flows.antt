-- A flow at its source and at its destination.
use Rattle.std.specs.Prelude.{◌≡◌, ℕ, Bool, true, false, Option, Some, None, Result, Ok, Err, ◌==◌, ◌&&◌, is_some, if◌then◌else◌}
use Rattle.std.specs.FinMap as map
use Rattle.std.specs.List.{list_any}
use Rattle.interface.specs.Host.{Host, same_host}
use Rattle.interface.specs.declared.address.Flow.{Flow}
use Rattle.link_table.specs.Keys.{flow_cmp}
use Rattle.link_table.specs.Numbers.{next, is_new}
use Rattle.link_table.specs.declared.fault.FlowFault.{FlowFault}
use Rattle.link_table.specs.declared.fault.FlowFault.TheVariants as fault
use Rattle.link_table.specs.declared.source.Standing.{Standing}
use Rattle.link_table.specs.declared.source.Standing.TheVariants as standing
use Rattle.link_table.specs.declared.source.Release.{Release}
use Rattle.link_table.specs.declared.source.Release.TheVariants as release
use Rattle.link_table.specs.declared.destination.Fate.{Fate}
use Rattle.link_table.specs.declared.destination.Fate.TheVariants as fate
use Rattle.link_table.specs.declared.destination.Noted.{Noted}
use Rattle.link_table.specs.declared.destination.Asked.{Asked}
use Rattle.link_table.specs.declared.destination.Asked.TheVariants as asked
use Rattle.link_table.specs.declared.destination.Age.{Age}
use Rattle.link_table.specs.declared.destination.Age.TheVariants as age

-- ---- one flow at its source: nothing was begun (None), or it has a `Standing` with the number begun last

-- the number begun last
abbrev pub last_of : Standing → ℕ
last_of (standing.Idle l) = l
last_of (standing.Outstanding l) = l
last_of (standing.Answered l) = l

abbrev pub last_in : Option Standing → Option ℕ
last_in None = None
last_in (Some s) = Some (last_of s)

-- the number of its message that has no answer yet
abbrev pub outstanding_in : Option Standing → Option ℕ
outstanding_in (Some (standing.Outstanding l)) = Some l
outstanding_in s = None

-- whether its host may begin a message
abbrev pub is_idle_in : Option Standing → Bool
is_idle_in None = true
is_idle_in (Some (standing.Idle l)) = true
is_idle_in s = false

-- the number of the message that is begun next: 0, and then one after the other
abbrev pub number_in : Option Standing → ℕ
number_in None = 0
number_in (Some s) = next (last_of s)

-- an answer to the message of this number ends it; every other answer changes nothing
abbrev pub answered_in : ℕ → Standing → Standing
answered_in n (standing.Outstanding l) = if l == n then standing.Answered l else standing.Outstanding l
answered_in n s = s

-- its outstanding message is given up
abbrev pub given_up_in : Standing → Standing
given_up_in (standing.Outstanding l) = standing.Answered l
given_up_in s = s

-- its host took the answer
abbrev pub handed_in : Standing → Standing
handed_in (standing.Answered l) = standing.Idle l
handed_in s = s

-- what an answer to the message of this number comes to
abbrev pub release_in : ℕ → Option Standing → Release
release_in n (Some (standing.Outstanding l)) = if l == n then release.Freed else release.Stale
release_in n s = release.Stale

-- what is known of one flow is changed; a flow of which nothing is known has nothing to change
abbrev pub changed_from : {V : Type 0} → (V → V) → map.FinMap flow_cmp V → Flow → Option V → map.FinMap flow_cmp V
changed_from change m f None = m
changed_from change m f (Some v) = map.insert m f (change v)

abbrev pub changed : {V : Type 0} → (V → V) → map.FinMap flow_cmp V → Flow → map.FinMap flow_cmp V
changed change m f = changed_from change m f (map.get m f)

-- ---- all flows of a source

abbrev pub Sources : Type 0
Sources = map.FinMap flow_cmp Standing

-- why no message of a flow is begun
abbrev pub begin_fault : Sources → Flow → Option FlowFault
begin_fault m f = if is_idle_in (map.get m f) then None else Some fault.Blocked

-- a message of a flow was begun: it is outstanding with its number
unfoldable pub begun : Sources → Flow → Sources
begun m f = map.insert m f (standing.Outstanding (number_in (map.get m f)))

-- an answer came for a flow, to the message of this number
unfoldable pub flow_answered : Sources → Flow → ℕ → Sources
flow_answered m f n = changed (answered_in n) m f

-- a flow's outstanding message was given up
unfoldable pub given_up : Sources → Flow → Sources
given_up m f = changed given_up_in m f

-- the host took the answer of a flow
unfoldable pub handed : Sources → Flow → Sources
handed m f = changed handed_in m f

-- whether this flow is from the host and a message of it has no answer yet
abbrev pub is_outstanding_from : Host → Flow × Standing → Bool
is_outstanding_from h entry = same_host entry.0.source h && is_some (outstanding_in (Some entry.1))

-- whether a message of this host has no answer yet
unfoldable pub has_outstanding : Host → Sources → Bool
has_outstanding h m = list_any (is_outstanding_from h) (map.entries m)

-- whether this flow is to a host at the IMP and a message of it has no answer yet
abbrev pub is_outstanding_to : ℕ → Flow × Standing → Bool
is_outstanding_to imp entry = entry.0.destination.imp == imp && is_some (outstanding_in (Some entry.1))

-- whether a message to a host at this IMP has no answer yet
unfoldable pub has_outstanding_to : ℕ → Sources → Bool
has_outstanding_to imp m = list_any (is_outstanding_to imp) (map.entries m)

-- ---- one flow at its destination: no number is kept (None), or the last one with the fate of its message

-- the number that is kept
abbrev pub kept_in : Option Noted → Option ℕ
kept_in None = None
kept_in (Some k) = Some k.number

-- the fate that is kept, and Waits where there is none
abbrev pub fate_in : Option Noted → Fate
fate_in None = fate.Waits
fate_in (Some k) = k.fate

-- the message of this number has met another fate: it is kept where that number is
abbrev pub ended_in : ℕ → Fate → Noted → Noted
ended_in n new k = if k.number == n then record k { fate = new } else k

-- what is answered to a question about a message of this fate
abbrev pub told_by : Fate → Asked
told_by fate.Waits = asked.Silent
told_by fate.Taken = asked.Rfnm
told_by fate.Dead = asked.Dead
told_by fate.Never = asked.Never

-- what is answered where the number isn't new: nothing is said of another number than the one that is kept
abbrev pub told_in : Option Noted → ℕ → Asked
told_in None n = asked.Silent
told_in (Some k) n = if k.number == n then told_by k.fate else asked.Silent

-- what a question about the message of this number comes to: if the number is new, it is to be noted as never come
abbrev pub asked_in : Option Noted → ℕ → Asked
asked_in kept n = if is_new (kept_in kept) n then asked.Note else told_in kept n

-- ---- all flows of a destination

abbrev pub Destinations : Type 0
Destinations = map.FinMap flow_cmp Noted

-- a number was noted as a flow's last, with the fate of its message
abbrev pub noted : Destinations → Flow → ℕ → Fate → Destinations
noted m f n new = map.insert m f (record { number = n; fate = new })

-- a flow's message of this number has met another fate
unfoldable pub ended : Destinations → Flow → ℕ → Fate → Destinations
ended m f n new = changed (ended_in n new) m f

-- what a number is against the one that is kept
abbrev pub age_of : Option ℕ → ℕ → Age
age_of kept n = if is_new kept n then age.New else age.Old

-- ---- refusals

-- a call that is refused for `refusal`, and else gives a value with this property: running out of memory comes last
abbrev pub FlowDecided : {T : Type 0} → Option FlowFault → (T → Type 0) → Result T FlowFault → Type 0
FlowDecided refusal Gives (Ok x) = (refusal ≡ None) × Gives x
FlowDecided refusal Gives (Err fault.OutOfMemory) = refusal ≡ None
FlowDecided refusal Gives (Err fault.Blocked) = refusal ≡ Some fault.Blocked
