-- An input that was read, and replayed; and octets that were not read.
use Rattle.command_line.proofs.Common.{false≢true, Keeps, ScriptFault, Detail, TopologyFields, on_ok, IsInput, IsInputFault, IsScriptFault, IsSomeInput, ReplaysInput, StopsInput}
use Rattle.std.proofs.Common.{◌≡◌, ◌⊎◌, ◌<◌, inl, inr, ℕ, Bool, true, false, List, Option, Some, None, Result, Ok, Err, IfSome, IfErr, MatchResult, OnOk, refl, sym, subst, ◌∙◌, length}
use Rattle.command_line.specs.Steps.{IsReplayFault, IsReadFault}
use Rattle.command_line.specs.Replayed.{EndsOn, Ran, RanInPart, ReplaysOn}
use Rattle.command_line.specs.Events.{Asked}
use Rattle.command_line.proofs.Faults.{input_wants}
use Rattle.command_line.specs.declared.fault.ScriptFault.TheVariants as fault

-- ---- of any octets, and of known ones

pub ran : (book : Bool) (detail : Detail) (octets : List ℕ) (a b : Option (List ℕ)) → ReplaysInput book detail octets a b
    → Ran book detail a b
ran book detail octets a b h = record { network = h.network; events = h.events; replayed = h.replayed }

pub ran_in_part : (detail : Detail) (octets : List ℕ) (a b : Option (List ℕ)) → Keeps a b ⊎ StopsInput detail octets a b
    → Keeps a b ⊎ RanInPart detail a b
ran_in_part detail octets a b (inl kept) = inl kept
ran_in_part detail octets a b (inr h) = inr (record { network = h.network; events = h.events; stopped = h.stopped })

-- what is so of the octets that were read is so of those that the reader had
pub at_known : (F : List ℕ → Type 0) (known : Option (List ℕ)) (octets : List ℕ) → IfSome known (λ k. octets ≡ k)
    → F octets → IfSome known F
at_known F None octets same h = tt
at_known F (Some k) octets same h = subst F same h

-- ---- octets that were not read: too many, or memory ran out

unread_known : (k : List ℕ) (f : ScriptFault) (failed : Bool) → IsReadFault f
    → (f ≡ fault.TooLong → 268435456 < length k) → (f ≡ fault.CannotRead → failed ≡ true) → failed ≡ false
    → IsScriptFault k f
unread_known k fault.TooLong failed read long told whole = long refl
unread_known k fault.BadTopology failed read long told whole = absurd read
unread_known k fault.OutOfMemory failed read long told whole = tt
unread_known k fault.CannotRead failed read long told whole = absurd (false≢true (sym whole ∙ told refl))
unread_known k fault.BadOptions failed read long told whole = absurd read
unread_known k fault.CannotWrite failed read long told whole = absurd read
unread_known k (fault.BadLine number) failed read long told whole = absurd read

pub unread : (known : Option (List ℕ)) (r : Result (Unit {0}) ScriptFault) (f : ScriptFault) (failed : Bool)
    → r ≡ Err f → IsReadFault f → (f ≡ fault.TooLong → IfSome known (λ k. 268435456 < length k))
    → (f ≡ fault.CannotRead → failed ≡ true) → failed ≡ false
    → IfSome known (λ k. MatchResult r (λ done. IsSomeInput k) (IsScriptFault k))
unread None r f failed is read long told whole = tt
unread (Some k) r f failed is read long told whole =
    subst (λ q. MatchResult q (λ done. IsSomeInput k) (IsScriptFault k)) (sym is)
    (unread_known k f failed read long told whole)

-- ---- octets that were read

pub as_script : (octets : List ℕ) (f : ScriptFault) → IsInputFault octets f → IsScriptFault octets f
as_script octets (fault.BadLine number) h = h
as_script octets fault.TooLong h = h
as_script octets fault.BadTopology h = h
as_script octets fault.CannotRead h = absurd h
as_script octets fault.OutOfMemory h = tt
as_script octets fault.CannotWrite h = h
as_script octets fault.BadOptions h = absurd h

-- they are an input, or the first fault is given
pub read_as : (octets : List ℕ) (r : Result (Unit {0}) ScriptFault) → OnOk r (IsSomeInput octets)
    → IfErr r (IsInputFault octets) → MatchResult r (λ done. IsSomeInput octets) (IsScriptFault octets)
read_as octets (Ok done) read faulty = read
read_as octets (Err f) read faulty = as_script octets f faulty

-- ---- an input

pub is_read : (octets : List ℕ) (r : Result (Unit {0}) ScriptFault) → IsSomeInput octets → OnOk r (IsSomeInput octets)
is_read octets (Ok done) read = read
is_read octets (Err f) read = tt

-- once octets are an input, nothing but memory and a write can fail
pub input_fault : (octets : List ℕ) (r : Result (Unit {0}) ScriptFault) → IsSomeInput octets → IfErr r IsReplayFault
    → IfErr r (IsInputFault octets)
input_fault octets (Ok done) read known = tt
input_fault octets (Err fault.OutOfMemory) read known = input_wants octets read.0 read.1 read.2
input_fault octets (Err fault.CannotWrite) read known = read
input_fault octets (Err fault.TooLong) read known = absurd known
input_fault octets (Err fault.BadTopology) read known = absurd known
input_fault octets (Err fault.CannotRead) read known = absurd known
input_fault octets (Err fault.BadOptions) read known = absurd known
input_fault octets (Err (fault.BadLine number)) read known = absurd known

pub input_replayed : (octets : List ℕ) (network : TopologyFields) (events : Asked) (book : Bool) (detail : Detail)
    (r : Result (Unit {0}) ScriptFault) (a b : Option (List ℕ)) → IsInput octets network events
    → OnOk r (ReplaysOn network book detail events a b) → OnOk r (ReplaysInput book detail octets a b)
input_replayed octets network events book detail r a b read h =
    on_ok r (λ (k : ReplaysOn network book detail events a b).
    record { network = network; events = events; input = read; replayed = k }) h

pub input_stopped : (octets : List ℕ) (network : TopologyFields) (events : Asked) (detail : Detail)
    (a b : Option (List ℕ)) → IsInput octets network events
    → Keeps a b ⊎ EndsOn network detail events a b → Keeps a b ⊎ StopsInput detail octets a b
input_stopped octets network events detail a b read (inl kept) = inl kept
input_stopped octets network events detail a b read (inr h) =
    inr (record { network = network; events = events; input = read; stopped = h })
