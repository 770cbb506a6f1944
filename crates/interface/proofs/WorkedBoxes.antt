-- The rules of the mailboxes on short logs.
use Rattle.std.proofs.Common.{◌≡◌, true, false, List, [], ◌∷◌, sym, ◌∙◌, refl}
use Rattle.interface.specs.Host.{Host, is_host}
use Rattle.interface.specs.Mailboxes.{Empty, Waiting, Taken, box_of, IsRun}
use Rattle.interface.specs.declared.crossing.Answer.{Answer}
use Rattle.interface.specs.declared.crossing.Answer.TheVariants as answer
use Rattle.interface.specs.declared.crossing.Crossing.TheVariants as crossing
use Rattle.interface.specs.declared.message.HostMessage.{HostMessage}
use Rattle.interface.proofs.Lists.{same_flow-refl, same_host-refl}

pub waits : (m : HostMessage) → box_of m.flow (crossing.Out m ∷ []) ≡ Waiting 0 m.text
waits m = rw (same_flow-refl m.flow) refl

pub taken : (m : HostMessage) → box_of m.flow (crossing.In m ∷ crossing.Out m ∷ []) ≡ Taken 0 m.text
taken m = rw (same_flow-refl m.flow) refl

pub emptied : (m : HostMessage) → box_of m.flow (crossing.Up m.flow.source ∷ crossing.Out m ∷ []) ≡ Empty
emptied m = rw (same_host-refl m.flow.source) refl

pub one_outstanding : (hosts : List Host) (m : HostMessage) → IsRun hosts (crossing.Out m ∷ crossing.Out m ∷ []) → ⊥
one_outstanding hosts m run = let full : Waiting 0 m.text ≡ Empty = rw (same_flow-refl m.flow) at run.0.1 in cc

pub taken_once : (hosts : List Host) (m : HostMessage) → IsRun hosts (crossing.In m ∷ crossing.In m ∷ crossing.Out m ∷ []) → ⊥
taken_once hosts m run = rw (same_flow-refl m.flow) at run.0.1

pub early_rfnm : (hosts : List Host) (m : HostMessage) → IsRun hosts (crossing.Answer answer.Rfnm m.flow ∷ crossing.Out m ∷ []) → ⊥
early_rfnm hosts m run = rw (same_flow-refl m.flow) at run.0.1

pub late_dead : (hosts : List Host) (m : HostMessage) → IsRun hosts (crossing.Answer answer.Dead m.flow ∷ crossing.In m ∷ crossing.Out m ∷ []) → ⊥
late_dead hosts m run = rw (same_flow-refl m.flow) at run.0.1

pub late_not_taken : (hosts : List Host) (m : HostMessage) → IsRun hosts (crossing.Answer answer.NotTaken m.flow ∷ crossing.In m ∷ crossing.Out m ∷ []) → ⊥
late_not_taken hosts m run = rw (same_flow-refl m.flow) at run.0.1

pub answered_once : (hosts : List Host) (m : HostMessage) (kind : Answer) → IsRun hosts (crossing.Answer kind m.flow ∷ crossing.Answer answer.Incomplete m.flow ∷ crossing.Out m ∷ []) → ⊥
answered_once hosts m answer.Rfnm run = rw (same_flow-refl m.flow) at run.0.1
answered_once hosts m kind run = rw (same_flow-refl m.flow) at run.0.1

pub up_twice : (hosts : List Host) (h : Host) → IsRun hosts (crossing.Up h ∷ []) → ⊥
up_twice hosts h run = let both : true ≡ false = sym run.0.0 ∙ run.0.1 in cc

pub down_twice : (hosts : List Host) (h : Host) → IsRun hosts (crossing.Down h ∷ crossing.Down h ∷ []) → ⊥
down_twice hosts h run = let both : false ≡ true = rw (same_host-refl h) at run.0 in cc

pub place : (m : HostMessage) (h : Host) → box_of m.flow (crossing.Out m ∷ crossing.Down h ∷ []) ≡ Waiting 1 m.text
place m h = rw (same_flow-refl m.flow) refl

pub left : (m : HostMessage) (h : Host) → box_of m.flow (crossing.Down h ∷ crossing.Out m ∷ []) ≡ Waiting 0 m.text
left m h = rw (same_flow-refl m.flow) refl

pub stranger : (hosts : List Host) (m : HostMessage) → is_host hosts m.flow.source ≡ false → IsRun hosts (crossing.Out m ∷ []) → ⊥
stranger hosts m absent run = let both : true ≡ false = sym run.0.0 ∙ absent in cc

-- ---- logs that are runs

pub rfnm_run : (hosts : List Host) (m : HostMessage) → is_host hosts m.flow.source ≡ true → is_host hosts m.flow.destination ≡ true → IsRun hosts (crossing.Answer answer.Rfnm m.flow ∷ crossing.In m ∷ crossing.Out m ∷ [])
rfnm_run hosts m from to = rw (same_flow-refl m.flow) ((from, tt), ((to, refl), ((from, refl), tt)))

pub late_run : (hosts : List Host) (m : HostMessage) → is_host hosts m.flow.source ≡ true → is_host hosts m.flow.destination ≡ true → IsRun hosts (crossing.Answer answer.Incomplete m.flow ∷ crossing.In m ∷ crossing.Out m ∷ [])
late_run hosts m from to = rw (same_flow-refl m.flow) ((from, tt), ((to, refl), ((from, refl), tt)))

pub dead_run : (hosts : List Host) (m : HostMessage) → is_host hosts m.flow.source ≡ true → IsRun hosts (crossing.Answer answer.Dead m.flow ∷ crossing.Out m ∷ [])
dead_run hosts m from = rw (same_flow-refl m.flow) ((from, tt), ((from, refl), tt))

pub early_run : (hosts : List Host) (m : HostMessage) → is_host hosts m.flow.source ≡ true → IsRun hosts (crossing.Answer answer.Incomplete m.flow ∷ crossing.Out m ∷ [])
early_run hosts m from = rw (same_flow-refl m.flow) ((from, tt), ((from, refl), tt))

pub not_taken_run : (hosts : List Host) (m : HostMessage) → is_host hosts m.flow.source ≡ true → is_host hosts m.flow.destination ≡ true
    → IsRun hosts (crossing.In m ∷ crossing.Out m ∷ crossing.Answer answer.NotTaken m.flow ∷ crossing.Out m ∷ [])
not_taken_run hosts m from to = rw (same_flow-refl m.flow) ((to, refl), ((from, refl), ((from, tt), ((from, refl), tt))))

pub restarted : (hosts : List Host) (h : Host) → is_host hosts h ≡ true → IsRun hosts (crossing.Up h ∷ crossing.Down h ∷ [])
restarted hosts h there = rw (same_host-refl h) ((there, refl), (there, tt))
