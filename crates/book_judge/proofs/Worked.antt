-- The rows.
use Rattle.book_judge.proofs.Common.{◌≡◌, true, false, List, [], ◌∷◌, refl, sym, ◌∙◌, Host, is_host, Flow, Answer, Crossing, HostMessage, same_flow-refl, same_host-refl, IsSomeRun, StraysAt, Going, stage, gave, sent_log, took}
use Rattle.interface.specs.Mailboxes.{Empty, Fits}
use Rattle.interface.specs.declared.crossing.Answer.TheVariants as answer
use Rattle.interface.specs.declared.crossing.Crossing.TheVariants as crossing
use Rattle.bit_messages.specs.Octets.{octets_of}
use Rattle.ncp_control.specs.Reading.{command_of, read_of}
use Rattle.host_pairs.specs.Control.{orders_of}

is_there : (h : Host) → is_host (h ∷ []) h ≡ true
is_there h = rw (same_host-refl h) refl

unfitting : (kind : Answer) → Fits kind Empty → ⊥
unfitting answer.Rfnm f = f
unfitting answer.Incomplete f = f
unfitting answer.Dead f = f
unfitting answer.NotTaken f = f

pub run_out : (m : HostMessage) → IsSomeRun (crossing.Out m ∷ [])
run_out m = (m.flow.source ∷ [], ((is_there m.flow.source, refl), tt))

pub run_down : (h : Host) → IsSomeRun (crossing.Down h ∷ [])
run_down h = (h ∷ [], (is_there h, tt))

pub not_up : (h : Host) → IsSomeRun (crossing.Up h ∷ []) → ⊥
not_up h r = let e : true ≡ false = sym r.1.0.0 ∙ r.1.0.1 in absurd (cc)

pub not_taken : (m : HostMessage) → IsSomeRun (crossing.In m ∷ []) → ⊥
not_taken m r = r.1.0.1

pub not_answered : (kind : Answer) (f : Flow) → IsSomeRun (crossing.Answer kind f ∷ []) → ⊥
not_answered kind f r = unfitting kind r.1.0.1

-- a message that is answered once
answered : (m : HostMessage) → IsSomeRun (crossing.Answer answer.Dead m.flow ∷ crossing.Out m ∷ [])
answered m = (m.flow.source ∷ [], ((is_there m.flow.source, rw (same_flow-refl m.flow) tt), ((is_there m.flow.source, refl), tt)))

-- and again
answered_twice : (m : HostMessage) → IsSomeRun (crossing.Answer answer.Dead m.flow ∷ crossing.Answer answer.Dead m.flow ∷ crossing.Out m ∷ []) → ⊥
answered_twice m r = rw (same_flow-refl m.flow) at r.1.0.1

abbrev log_of : HostMessage → List Crossing
log_of m = crossing.Out m ∷ crossing.Answer answer.Dead m.flow ∷ crossing.Answer answer.Dead m.flow ∷ crossing.Out m ∷ []

pub strays_here : (m : HostMessage) → StraysAt (log_of m) 2
strays_here m = (answered m, answered_twice m)

pub strays_earlier : (m : HostMessage) → StraysAt (log_of m) 1 → ⊥
strays_earlier m s = s.1 (answered m)

pub strays_later : (m : HostMessage) → StraysAt (log_of m) 3 → ⊥
strays_later m s = answered_twice m s.0

-- ---- lives of a world in which eight bits were sent: both continue

pub took_goes : stage [] took sent_log ≡ Going false false
unfolding octets_of orders_of read_of command_of
took_goes = refl

pub gave_goes : stage [] gave sent_log ≡ Going false false
unfolding octets_of orders_of read_of command_of
gave_goes = refl
