-- What one call gives, from what another gave.
use Rattle.std.proofs.Common.{◌≡◌, ◌∙◌, refl, Result, Ok, Err, OnErr, Option, None, sym, subst, List}
use Rattle.std.proofs.lemmas.Option.{none-some}
use Rattle.bit_messages.specs.Faults.{Decided}
use Rattle.bit_messages.specs.declared.fault.BitFault.{BitFault}
use Rattle.bit_messages.specs.declared.fault.BitFault.TheVariants as bit_fault
use Rattle.packetiser.specs.Faults.{GivesIfMemory}
use Rattle.packetiser.specs.PacketFields.{PacketFields, IsPacket}
use Rattle.packetiser.specs.Slots.{SlotState, IsTable, kept, outcome_of}
use Rattle.packetiser.specs.declared.fault.PacketFault.{PacketFault}
use Rattle.packetiser.specs.declared.fault.PacketFault.TheVariants as fault
use Rattle.packetiser.specs.declared.packet.PacketKind.TheVariants as kind
use Rattle.packetiser.specs.declared.reassembly.Outcome.TheVariants as outcome
use Rattle.packetiser.proofs.Slots.{kept_table}

pub gives_map : {T : Type 0} (P Q : T → Type 0) (r : Result T PacketFault) → GivesIfMemory P r → ((x : T) → P x → Q x) → GivesIfMemory Q r
gives_map P Q (Ok x) h go = go x h
gives_map P Q (Err fault.OutOfMemory) h go = tt
gives_map P Q (Err fault.Short) h go = h
gives_map P Q (Err fault.NotCanonical) h go = h
gives_map P Q (Err fault.BadLength) h go = h

-- a call on bits that isn't refused finds no memory where it fails
memory_alone : {T : Type 0} (refusal : Option BitFault) (HasGiven : T → Type 0) (e : BitFault) → refusal ≡ None → Decided refusal HasGiven (Err e) → e ≡ bit_fault.OutOfMemory
memory_alone refusal HasGiven bit_fault.OutOfMemory none h = refl
memory_alone refusal HasGiven bit_fault.NoMark none h = absurd (none-some bit_fault.NoMark (sym none ∙ h))
memory_alone refusal HasGiven bit_fault.TooLong none h = absurd (none-some bit_fault.TooLong (sym none ∙ h))
memory_alone refusal HasGiven bit_fault.Range none h = absurd (none-some bit_fault.Range (sym none ∙ h))

pub only_memory : {T : Type 0} (refusal : Option BitFault) (HasGiven : T → Type 0) (r : Result T BitFault) → refusal ≡ None → Decided refusal HasGiven r
    → (e : BitFault) → r ≡ Err e → e ≡ bit_fault.OutOfMemory
only_memory refusal HasGiven r none h e at = memory_alone refusal HasGiven e none (subst (Decided refusal HasGiven) at h)

-- the slots are a table also after a packet that was kept, or for which there was no memory
pub still_table : (r : Result (Unit {0}) PacketFault) (old new : List SlotState) (p : PacketFields) → GivesIfMemory (λ _. new ≡ kept old p) r → OnErr r (new ≡ old)
    → IsTable old → IsPacket p → p.kind ≡ kind.Data → outcome_of old p ≡ outcome.Kept → IsTable new
still_table (Ok x) old new p made same h format piece room = subst IsTable (sym made) (kept_table old p h format piece room)
still_table (Err e) old new p made same h format piece room = subst IsTable (sym same) h
