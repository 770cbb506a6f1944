-- Why octets are no input.
use Rattle.command_line.proofs.Common.{false≢true, are_some, TopologyFields, Describes, IsInputFault, IsInput, ScriptFault}
use Rattle.toml.specs.Errors.{IsBlank}
use Rattle.script.specs.Input.{IsParted}
use Rattle.std.proofs.Common.{◌≡◌, Bool, true, false, List, ℕ, Result, Ok, Err, IfErr, ap, inl, inr, refl, subst, sym, ◌∙◌, IsUtf8, ◌↔◌, ◌≤◌, length}
use Rattle.command_line.specs.Steps.{IsReplayFault, IsNetworkFault, IsEventsFault}
use Rattle.replay.specs.Failing.{TellsCannotWrite}
use Rattle.replay.specs.declared.events.ReplayFault.{ReplayFault}
use Rattle.replay.specs.declared.events.ReplayFault.TheVariants as replay
use Rattle.command_line.specs.Events.{Asked, IsFirstBadIn}
use Rattle.command_line.specs.Faults.{told_as}
use Rattle.command_line.specs.declared.fault.ScriptFault.TheVariants as fault

pub network_fault : (octets document script : List ℕ) (f : ScriptFault) → IsParted octets document script → IsNetworkFault f → (f ≡ fault.BadTopology → IsUtf8 document → (t : TopologyFields) → ¬ (Describes document t))
    → (f ≡ fault.OutOfMemory → IsUtf8 document × (¬ IsBlank document)) → IsInputFault octets f
network_fault octets document script fault.BadTopology parted known refused wants = inr (record { document = document; script = script; parted = parted; unfit = refused refl })
network_fault octets document script fault.TooLong parted known refused wants = absurd known
network_fault octets document script fault.OutOfMemory parted known refused wants =
    record { document = document; script = script; parted = parted; wants = inl (wants refl) }
network_fault octets document script fault.CannotRead parted known refused wants = absurd known
network_fault octets document script fault.CannotWrite parted known refused wants = absurd known
network_fault octets document script fault.BadOptions parted known refused wants = absurd known
network_fault octets document script (fault.BadLine number) parted known refused wants = absurd known

abbrev ends_with : ScriptFault → Result (Unit {0}) ScriptFault
ends_with f = Err f

-- only running out of memory is reported as running out of memory
pub told_memory : (f : ReplayFault) (g : ScriptFault) → g ≡ told_as f → ends_with g ≡ ends_with fault.OutOfMemory → f ≡ replay.OutOfMemory
told_memory replay.OutOfMemory g told is = refl
told_memory replay.CannotWrite g told is = cc

abbrev fails_with : ReplayFault → Result (Unit {0}) ReplayFault
fails_with f = Err f

-- only a failed write is reported as a failed write
pub told_write : (f : ReplayFault) (g : ScriptFault) (failed : Bool) → g ≡ told_as f → TellsCannotWrite (fails_with f) failed → (ends_with g ≡ ends_with fault.CannotWrite) ↔ (failed ≡ true)
told_write replay.OutOfMemory g failed told h = ((λ e. cc), (λ e. absurd (false≢true (sym h ∙ e))))
told_write replay.CannotWrite g failed told h = ((λ e. h), (λ e. ap ends_with told))

-- what can't be written is reported only as that
pub write_fault : (r : Result (Unit {0}) ScriptFault) → IfErr r (λ f. f ≡ fault.CannotWrite) → IfErr r IsReplayFault
write_fault (Ok done) h = tt
write_fault (Err f) h = subst IsReplayFault (sym h) tt

abbrev err_of : Result (Unit {0}) ScriptFault → ScriptFault
err_of (Ok done) = fault.OutOfMemory
err_of (Err f) = f

-- and where nothing was written no write has failed
pub unwritten : (r : Result (Unit {0}) ScriptFault) (f : ScriptFault) (failed : Bool) → r ≡ Err f → (f ≡ fault.CannotWrite → ⊥) → failed ≡ false → (r ≡ Err fault.CannotWrite) ↔ (failed ≡ true)
unwritten r f failed is other whole = (λ e. absurd (other (ap err_of (sym is ∙ e))), λ e. absurd (false≢true (sym whole ∙ e)))

-- once they describe a network, memory may run out for its script
pub script_fault : (octets document script : List ℕ) (network : TopologyFields) (f : ScriptFault)
    → length octets ≤ 268435456 → IsParted octets document script → Describes document network
    → IsEventsFault (IsFirstBadIn network.raw (are_some network.strangers)) script f → IsInputFault octets f
script_fault octets document script network (fault.BadLine number) short parted described known =
    record { short = short; document = document; script = script; network = network; parted = parted; described = described; bad = known }
script_fault octets document script network fault.OutOfMemory short parted described known =
    record { document = document; script = script; parted = parted; wants = inr (network, described) }
script_fault octets document script network fault.BadTopology short parted described known = absurd known
script_fault octets document script network fault.TooLong short parted described known = absurd known
script_fault octets document script network fault.BadOptions short parted described known = absurd known
script_fault octets document script network fault.CannotRead short parted described known = absurd known
script_fault octets document script network fault.CannotWrite short parted described known = absurd known

-- and for all that follows
pub input_wants : (octets : List ℕ) (network : TopologyFields) (events : Asked) → IsInput octets network events
    → IsInputFault octets fault.OutOfMemory
input_wants octets network events input =
    record { document = input.document; script = input.script; parted = input.parted; wants = inr (network, input.described) }
