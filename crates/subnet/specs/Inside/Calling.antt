-- Calls of one IMP as data, and what they leave in the subnet.
use Rattle.std.specs.Prelude.{◌≡◌, ℕ, ◌≤◌, ◌<◌, Bool, true, false, List, [], ◌∷◌, ◌++◌, ◌+◌, if◌then◌else◌, length, Option, Some, None, Result, Ok, Err, slice_index_or, slice_set, All, IfSome}
use Rattle.interface.specs.Host.{most_imps}
use Rattle.interface.specs.Calls.{is_memory}
use Rattle.interface.specs.declared.carrier.CarrierFault.{CarrierFault}
use Rattle.interface.specs.declared.crossing.Crossing.{Crossing}
use Rattle.interface.specs.declared.crossing.Crossing.TheVariants as crossing
use Rattle.interface.specs.declared.event.NetEvent.{NetEvent}
use Rattle.interface.specs.declared.event.Direction.{Direction}
use Rattle.imp_channel.specs.declared.frame.Frame.{Frame}
use Rattle.imp_node.specs.declared.outgoing.Outgoing.{Outgoing}
use Rattle.imp_node.specs.State.{State, HostState, ImpTurn, number}
use Rattle.imp_node.specs.Arrival.{from_line, from_line_refusal, ignored}
use Rattle.imp_node.specs.Asking.{ask, ask_refusal}
use Rattle.imp_node.specs.Offering.{from_host, from_host_refusal, from_host_grows}
use Rattle.imp_node.specs.Lines.{resend, route, claim, end_down, end_down_refusal, end_up, end_up_refusal}
use Rattle.imp_node.specs.Stopping.{give_up, give_up_refusal, forget, forget_refusal, abandon, abandon_refusal, host_down, host_down_refusal, host_up, host_up_refusal}
use Rattle.imp_node.specs.Turns.{from_line_grows, resend_grows, route_grows, claim_grows, end_down_grows, end_up_grows, give_up_grows, forget_grows, abandon_grows, ask_grows, host_down_grows, host_up_grows}
use Rattle.subnet.specs.declared.imp_call.ImpCall.{ImpCall}
use Rattle.subnet.specs.declared.imp_call.ImpCall.TheVariants as call
use Rattle.subnet.specs.Net.{Net, Wire, imp_at}
use Rattle.subnet.specs.Events.{at_up, at_imp, step_refusal, stepped, deliver, drop_frame}
use Rattle.subnet.specs.Calls.{grows_at, copy_grows, step_grows}

-- ---- the calls

abbrev pub call_refusal : ImpCall → State → Option CarrierFault
call_refusal (call.Offer m) s = from_host_refusal s m
call_refusal (call.Arrive k f) s = from_line_refusal s k
call_refusal call.Resend s = None
call_refusal call.Route s = None
call_refusal call.Claim s = None
call_refusal (call.EndDown k) s = end_down_refusal s k
call_refusal (call.EndUp k) s = end_up_refusal s k
call_refusal (call.GiveUp f) s = give_up_refusal s f
call_refusal (call.Forget i) s = forget_refusal s i
call_refusal (call.Abandon f) s = abandon_refusal s f
call_refusal (call.Ask f) s = ask_refusal s f
call_refusal (call.HostDown h) s = host_down_refusal s h
call_refusal (call.HostUp h) s = host_up_refusal s h

abbrev pub call_turn : ImpCall → State → ImpTurn
call_turn (call.Offer m) s = from_host s m
call_turn (call.Arrive k f) s = from_line s k f
call_turn call.Resend s = resend s
call_turn call.Route s = route s
call_turn call.Claim s = claim s
call_turn (call.EndDown k) s = end_down s k
call_turn (call.EndUp k) s = end_up s k
call_turn (call.GiveUp f) s = give_up s f
call_turn (call.Forget i) s = forget s i
call_turn (call.Abandon f) s = abandon s f
call_turn (call.Ask f) s = ask s f
call_turn (call.HostDown h) s = host_down s h
call_turn (call.HostUp h) s = host_up s h

abbrev pub call_grows : ImpCall → State → Bool
call_grows (call.Offer m) s = from_host_grows s m
call_grows (call.Arrive k f) s = from_line_grows s k f
call_grows call.Resend s = resend_grows s
call_grows call.Route s = route_grows s
call_grows call.Claim s = claim_grows s
call_grows (call.EndDown k) s = end_down_grows s k
call_grows (call.EndUp k) s = end_up_grows s k
call_grows (call.GiveUp f) s = give_up_grows s f
call_grows (call.Forget i) s = forget_grows s i
call_grows (call.Abandon f) s = abandon_grows s f
call_grows (call.Ask f) s = ask_grows s f
call_grows (call.HostDown h) s = host_down_grows s h
call_grows (call.HostUp h) s = host_up_grows s h

-- ---- IMPs

-- an IMP that is up has the number of its place, and was not short of memory
abbrev pub IsLive : ℕ → Option State → Type 0
IsLive i None = Unit {0}
IsLive i (Some s) = (number s ≡ i) × (s.spent ≡ false)

abbrev pub AreLive : List (Option State) → Type 0
AreLive imps = (i : ℕ) → IsLive i (imp_at imps i)

-- the IMPs after a call of one of them, if that is up, and the frames that it puts on lines
abbrev pub imp_by : Option State → (State → ImpTurn) → Option State
imp_by None call = None
imp_by (Some s) call = Some (call s).state

abbrev pub imps_by : List (Option State) → ℕ → Option State → (State → ImpTurn) → List (Option State)
imps_by imps i None call = imps
imps_by imps i (Some s) call = slice_set imps i (Some (call s).state)

abbrev pub frames_by : Option State → (State → ImpTurn) → List Outgoing
frames_by None call = []
frames_by (Some s) call = (call s).frames

-- ---- how a call ends

-- hosts and log are as they were
pub record SameLog (old new : Net) : Type 0 where
  pub hosts : new.hosts ≡ old.hosts
  pub log : new.log ≡ old.log

abbrev pub Fails : {A : Type 0} → Option CarrierFault → Bool → Bool → CarrierFault → A → A → Type 0
Fails refusal grows true e old new = (refusal ≡ None) × (grows ≡ true)
Fails refusal grows false e old new = (refusal ≡ Some e) × (new ≡ old)

-- A call that is refused for `refusal`, and else gives a value with this property. A refusal changes nothing. Running out of memory
-- comes last, only where something grows
abbrev pub CallEnds : {A T : Type 0} → Option CarrierFault → Bool → (T → Type 0) → A → A → Result T CarrierFault → Type 0
CallEnds refusal grows Gives old new (Ok x) = (refusal ≡ None) × Gives x
CallEnds refusal grows Gives old new (Err e) = Fails refusal grows (is_memory e) e old new

-- a call of IMP `i`, if it is up
abbrev pub Makes : ℕ → ImpCall → Net → Net → Result (Unit {0}) CarrierFault → Type 0
Makes i c old new r =
    CallEnds (at_up (imp_at old.imps i) (call_refusal c)) (grows_at (imp_at old.imps i) (call_grows c)) (λ done. new ≡ at_imp (imp_at old.imps i) i (call_turn c) old) old new r

-- a call of the IMP of a place, if it is up; `frames` are those of what it gives
abbrev pub MakesAt : {T : Type 0} → ImpCall → (T → List Outgoing) → Option State → Option State → Result T CarrierFault → Type 0
MakesAt c frames old new r =
    CallEnds (at_up old (call_refusal c)) (grows_at old (call_grows c)) (λ given. (new ≡ imp_by old (call_turn c)) × (frames given ≡ frames_by old (call_turn c))) old new r

-- a call of IMP `i` among all
abbrev pub MakesAmong : {T : Type 0} → ℕ → ImpCall → (T → List Outgoing) → List (Option State) → List (Option State) → Result T CarrierFault → Type 0
MakesAmong i c frames old new r =
    CallEnds (at_up (imp_at old i) (call_refusal c)) (grows_at (imp_at old i) (call_grows c))
    (λ given. (new ≡ imps_by old i (imp_at old i) (call_turn c)) × (frames given ≡ frames_by (imp_at old i) (call_turn c))) old new r

-- an event is refused, or gives the subnet that is `stepped`
abbrev pub Steps : NetEvent → Net → Net → Result (Unit {0}) CarrierFault → Type 0
Steps e old new r = CallEnds (step_refusal old e) (step_grows old e) (λ done. new ≡ stepped old e) old new r

-- whether memory ran out in a call
abbrev pub runs_out : {T : Type 0} → Result T CarrierFault → Bool
runs_out (Ok x) = false
runs_out (Err e) = is_memory e

-- where an IMP refuses a call, its turn changes nothing
abbrev pub Ignores : ImpCall → Type 0
Ignores c = (s : State) (e : CarrierFault) → call_refusal c s ≡ Some e → call_turn c s ≡ ignored s

-- ---- frames

-- a frame is copied, if it is there
abbrev pub copied_grows : Option Frame → Bool
copied_grows None = false
copied_grows (Some f) = copy_grows f

-- the oldest frame of a directed line is delivered and dropped
abbrev pub carried_first : ℕ → Direction → Net → Net
carried_first l d n = drop_frame (deliver n l d 0) l d 0

-- ---- hosts that go down with their IMP, in their order

abbrev pub down_of : ℕ → ℕ → HostState → List Crossing
down_of i k h = if h.up then crossing.Down (record { imp = i; host = k }) ∷ [] else []

abbrev pub downs_in_order : ℕ → ℕ → List HostState → List Crossing
downs_in_order i k [] = []
downs_in_order i k (h ∷ hosts) = down_of i k h ++ downs_in_order i (k + 1) hosts

-- ---- what a subnet's parts keep

-- IMPs are numbered from 1 to the greatest and have at most four hosts, and there are fewer than 256 lines
pub record AreParts (imps : List (Option State)) (sites : List (Option ℕ)) (lines : List Wire) : Type 0 where
  pub none : slice_index_or sites 0 None ≡ None
  pub places : length imps ≡ length sites
  pub numbers : length sites ≤ most_imps + 1
  pub hosts : All (λ site. IfSome site (λ count. count ≤ 4)) sites
  pub few : length lines < 256
