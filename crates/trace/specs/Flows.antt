-- What is known of flows. Each flow is a part of its own: it is there while something is known of it.
use Rattle.std.specs.Prelude.{ℕ, Bool, true, false, ◌==◌, ◌&&◌, List, [], ◌∷◌, ◌++◌, codes}
use Rattle.std.specs.Fmt.{decimal}
use Rattle.interface.specs.Flow.{same_flow}
use Rattle.interface.specs.Printed.{flow_text}
use Rattle.trace.specs.Texts.{member, object, quoted}
use Rattle.trace.specs.declared.flow_part.FlowPart.{FlowPart}
use Rattle.trace.specs.declared.flow_part.FlowState.{FlowState}
use Rattle.trace.specs.declared.flow_part.FlowState.TheVariants as state
use Rattle.trace.specs.declared.flow_part.Side.{Side}
use Rattle.trace.specs.declared.flow_part.Side.TheVariants as side

-- ---- texts

-- at the IMP of its source, or at the IMP of its destination
abbrev pub side_word : Side → List ℕ
side_word side.Source = codes "source"
side_word side.Kept = codes "kept"

-- what is known is the state at the source, and the fate at the destination
abbrev pub state_name : Side → List ℕ
state_name side.Source = codes "state"
state_name side.Kept = codes "fate"

abbrev pub state_word : FlowState → List ℕ
state_word state.Outstanding = codes "outstanding"
state_word state.Answered = codes "answered"
state_word state.Idle = codes "idle"
state_word state.Waits = codes "waits"
state_word state.Taken = codes "taken"
state_word state.Dead = codes "dead"
state_word state.Never = codes "never"

-- the name of the part: the side and the flow, as a script has it
abbrev pub flow_name : FlowPart → List ℕ
flow_name p = side_word p.side ++ (codes " " ++ flow_text p.flow)

-- what is known, and the number of the message that it is known of
abbrev pub flow_members : FlowPart → List (List ℕ)
flow_members p = member (state_name p.side) (quoted (state_word p.state)) ∷ member (codes "number")
    (decimal p.number) ∷ []

-- the part with its name
abbrev pub told : FlowPart → List ℕ
told p = member (flow_name p) (object (flow_members p))

-- and once, when nothing is known any more
abbrev pub gone : FlowPart → List ℕ
gone p = member (flow_name p) (codes "null")

-- ---- when two are the same

abbrev pub same_side : Side → Side → Bool
same_side side.Source side.Source = true
same_side side.Kept side.Kept = true
same_side x y = false

abbrev pub same_state : FlowState → FlowState → Bool
same_state state.Outstanding state.Outstanding = true
same_state state.Answered state.Answered = true
same_state state.Idle state.Idle = true
same_state state.Waits state.Waits = true
same_state state.Taken state.Taken = true
same_state state.Dead state.Dead = true
same_state state.Never state.Never = true
same_state x y = false

abbrev pub same_name : FlowPart → FlowPart → Bool
same_name p q = same_side p.side q.side && same_flow p.flow q.flow

abbrev pub same_flow_part : FlowPart → FlowPart → Bool
same_flow_part p q = same_name p q && same_state p.state q.state && p.number == q.number
