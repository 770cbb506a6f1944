-- From a run of the mailboxes only: a message whose source was notified of Dead or NotTaken is taken neither before nor after.
use Rattle.std.proofs.Common.{◌≡◌, Bool, true, false, ◌&&◌, ◌||◌, List, [], ◌∷◌, ◌++◌, length, refl, sym, subst, if◌then◌else◌}
use Rattle.interface.specs.Host.{Host, same_host}
use Rattle.interface.specs.Mailboxes.{Box, Empty, Waiting, Taken, Fits, box_of, same_flow, IsRun}
use Rattle.interface.specs.Messages.{taken_in, went_out, is_not_taken, told_not_taken, NeverTaken}
use Rattle.interface.specs.declared.address.Flow.{Flow}
use Rattle.interface.specs.declared.crossing.Answer.{Answer}
use Rattle.interface.specs.declared.crossing.Answer.TheVariants as answer
use Rattle.interface.specs.declared.crossing.Crossing.{Crossing}
use Rattle.interface.specs.declared.crossing.Crossing.TheVariants as crossing
use Rattle.interface.specs.declared.message.HostMessage.{HostMessage}
use Rattle.interface.proofs.Lists.{or_false, same_flow-true}
use Rattle.interface.proofs.MessageLaw.{Quiet, quiet_in, quiet_if, quiet_out, Tells, tells_run, run_below}

-- Dead and NotTaken find a message that waits, so nothing was taken since it went out
none_taken : (kind : Answer) → is_not_taken kind ≡ true → (box : Box) (text : List Bool) (taken : List (List Bool)) → Fits kind box → Tells box text taken → taken ≡ []
none_taken answer.Rfnm says box text taken fit h = cc
none_taken answer.Incomplete says box text taken fit h = cc
none_taken answer.Dead says Empty text taken fit h = absurd fit
none_taken answer.Dead says (Waiting place kept) text taken fit h = h.1
none_taken answer.Dead says (Taken place kept) text taken fit h = absurd fit
none_taken answer.NotTaken says Empty text taken fit h = absurd fit
none_taken answer.NotTaken says (Waiting place kept) text taken fit h = h.1
none_taken answer.NotTaken says (Taken place kept) text taken fit h = absurd fit

-- the same after the answer about this flow
quiet_not_taken : (f g : Flow) (kind : Answer) → is_not_taken kind ≡ true → (log since : List Crossing) (text : List Bool) → Fits kind (box_of g log) → Tells (box_of f log) text (taken_in f since)
    → same_flow f g ≡ true → Quiet Empty (taken_in f since)
quiet_not_taken f g kind says log since text fit tells e =
    let P : Flow → Type 0 = λ x. Fits kind (box_of x log) in
    record { empty = refl; none = none_taken kind says (box_of f log) text (taken_in f since) (subst P (sym (same_flow-true f g e)) fit) tells }

-- the box, and what was taken since the message went out, after one answer more: it is Dead or NotTaken, or that was reported before
quiet_answer : (f g : Flow) (kind : Answer) (log since : List Crossing) (text : List Bool) → Fits kind (box_of g log) → Tells (box_of f log) text (taken_in f since)
    → (told_not_taken f since ≡ true → Quiet (box_of f log) (taken_in f since)) → (b : Bool) → same_flow f g ≡ b → ((b && is_not_taken kind) || told_not_taken f since) ≡ true
    → Quiet (if b then Empty else box_of f log) (taken_in f since)
quiet_answer f g kind log since text fit tells below false e told = below told
quiet_answer f g answer.Rfnm log since text fit tells below true e told = record { empty = refl; none = (below told).none }
quiet_answer f g answer.Incomplete log since text fit tells below true e told = record { empty = refl; none = (below told).none }
quiet_answer f g answer.Dead log since text fit tells below true e told = quiet_not_taken f g answer.Dead refl log since text fit tells e
quiet_answer f g answer.NotTaken log since text fit tells below true e told = quiet_not_taken f g answer.NotTaken refl log since text fit tells e

-- once its source is notified of Dead or NotTaken, the box is empty and nothing was taken
quiet_told : (hosts : List Host) (since : List Crossing) (m : HostMessage) (before : List Crossing) → IsRun hosts (since ++ crossing.Out m ∷ before) → went_out m.flow since ≡ false
    → told_not_taken m.flow since ≡ true → Quiet (box_of m.flow (since ++ crossing.Out m ∷ before)) (taken_in m.flow since)
quiet_told hosts [] m before r n told = absurd (cc)
quiet_told hosts (crossing.Out x ∷ since) m before r n told =
    let log : List Crossing = since ++ crossing.Out m ∷ before in
    let t = or_false (same_flow m.flow x.flow) (went_out m.flow since) n in
    let q = quiet_told hosts since m before r.1 t.1 told in
    record { empty = quiet_out (same_flow m.flow x.flow) (length log) x.text (box_of m.flow log) t.0 q.empty; none = q.none }
quiet_told hosts (crossing.In x ∷ since) m before r n told =
    quiet_in m.flow x (since ++ crossing.Out m ∷ before) since r.0.1 (quiet_told hosts since m before r.1 n told) (same_flow m.flow x.flow) refl
quiet_told hosts (crossing.Answer kind g ∷ since) m before r n told =
    quiet_answer m.flow g kind (since ++ crossing.Out m ∷ before) since m.text r.0.1 (tells_run hosts m.flow since m before refl r.1 n) (quiet_told hosts since m before r.1 n)
    (same_flow m.flow g) refl told
quiet_told hosts (crossing.Down h ∷ since) m before r n told = quiet_told hosts since m before r.1 n told
quiet_told hosts (crossing.Up h ∷ since) m before r n told =
    let q = quiet_told hosts since m before r.1 n told in
    record { empty = quiet_if (same_host m.flow.source h) (box_of m.flow (since ++ crossing.Out m ∷ before)) q.empty; none = q.none }

pub never_taken : (hosts : List Host) (log : List Crossing) → IsRun hosts log → NeverTaken log
never_taken hosts log r = let P : List Crossing → Type 0 = λ x. IsRun hosts x in
    record {
      never = λ newer since before m e n told.
          (quiet_told hosts since m before (run_below hosts newer (since ++ crossing.Out m ∷ before) (subst P e r)) n told).none;
    }
