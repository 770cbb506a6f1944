-- How a taking ends: at the IMP of a place, at an IMP among all, and in the subnet, without its log and with it.
use Rattle.std.specs.Prelude.{◌≡◌, ℕ, List, Option, Result}
use Rattle.interface.specs.Host.{Host}
use Rattle.interface.specs.declared.carrier.CarrierFault.{CarrierFault}
use Rattle.interface.specs.declared.crossing.Inbound.{Inbound}
use Rattle.imp_node.specs.declared.outgoing.Outgoing.{Outgoing}
use Rattle.imp_node.specs.State.{State}
use Rattle.imp_node.specs.Taking.{to_host, to_host_refusal}
use Rattle.imp_node.specs.Turns.{to_host_grows}
use Rattle.subnet.specs.Net.{Net, imp_at}
use Rattle.subnet.specs.Calls.{grows_at, take_grows}
use Rattle.subnet.specs.Events.{at_imp, at_up, given_at, take_in, take_refusal, taken_by_host}
use Rattle.subnet.specs.Inside.Calling.{CallEnds, frames_by, imp_by, imps_by}

-- host `h` of an IMP; `frames` are those that it puts on lines
abbrev pub TakesAt : {V : Type 0} → ℕ → (V → List Outgoing) → Option State → Option State → Result (Option Inbound × V) CarrierFault → Type 0
TakesAt h frames old new r =
    CallEnds (at_up old (λ s. to_host_refusal s h)) (grows_at old (λ s. to_host_grows s h))
    (λ given. (given.0 ≡ given_at old h) × (new ≡ imp_by old (λ s. to_host s h)) × (frames given.1 ≡ frames_by old (λ s. to_host s h))) old new r

-- host `h` of IMP `i`
abbrev pub TakesAmong : {V : Type 0} → ℕ → ℕ → (V → List Outgoing) → List (Option State) → List (Option State) → Result (Option Inbound × V) CarrierFault → Type 0
TakesAmong i h frames old new r =
    CallEnds (at_up (imp_at old i) (λ s. to_host_refusal s h)) (grows_at (imp_at old i) (λ s. to_host_grows s h))
    (λ given. (given.0 ≡ given_at (imp_at old i) h) × (new ≡ imps_by old i (imp_at old i) (λ s. to_host s h)) × (frames given.1 ≡ frames_by (imp_at old i) (λ s. to_host s h))) old new r

-- the same in the subnet: the frames are on their lines
abbrev pub TakesFrom : ℕ → ℕ → Net → Net → Result (Option Inbound) CarrierFault → Type 0
TakesFrom i h old new r =
    CallEnds (at_up (imp_at old.imps i) (λ s. to_host_refusal s h)) (grows_at (imp_at old.imps i) (λ s. to_host_grows s h))
    (λ given. (given ≡ given_at (imp_at old.imps i) h) × (new ≡ at_imp (imp_at old.imps i) i (λ s. to_host s h) old)) old new r

-- and what the host gets is on the log
abbrev pub TakesIn : Host → Net → Net → Result (Option Inbound) CarrierFault → Type 0
TakesIn h old new r = CallEnds (take_refusal old h) (take_grows old h) (λ given. (given ≡ taken_by_host old h) × (new ≡ take_in old h)) old new r
