use Rattle.leader1822.proofs.Common.{◌≡◌, None, subst, sym, Held, IsKept}
use Rattle.leader1822.specs.Boxes.{give_up_refusal, host_refusal, host_up_refusal}
use Rattle.leader1822.proofs.SoundCalls.{on_ok}
use Rattle.leader1822.proofs.SoundEvents.{given_sound, started_sound, stopped_sound}
use Rattle.leader1822.proofs.Index.{given_indexed, started_indexed, stopped_indexed}
use Rattle.leader1822.proofs.contents.Contents.happen.Goals as goal

pub returns-in-GiveUp-clause-kept : goal.returns-in-GiveUp-clause-kept
returns-in-GiveUp-clause-kept c =
    let h : Held = c.args.self.now in
    let kept : IsKept h = c.requires.kept in
    let none : give_up_refusal h.boxes c.in-GiveUp.flow ≡ None = rw c.in-GiveUp.is at c.requires.allowed in
    on_ok c.give_up.result c.give_up.ensures.ok (λ same. subst IsKept (sym same) (record { sound = given_sound h.boxes c.in-GiveUp.flow kept.sound none; indexed = λ running. given_indexed h c.in-GiveUp.flow (kept.indexed running) kept.sound none }))

pub returns-in-HostDown-clause-kept : goal.returns-in-HostDown-clause-kept
returns-in-HostDown-clause-kept c =
    let h : Held = c.args.self.now in
    let kept : IsKept h = c.requires.kept in
    let none : host_refusal h.boxes c.in-HostDown.host ≡ None = rw c.in-HostDown.is at c.requires.allowed in
    on_ok c.stop_host.result c.stop_host.ensures.ok (λ same. subst IsKept (sym same) (record { sound = stopped_sound h.boxes c.in-HostDown.host kept.sound none; indexed = λ running. stopped_indexed h c.in-HostDown.host (kept.indexed running) kept.sound none }))

pub returns-in-HostUp-clause-kept : goal.returns-in-HostUp-clause-kept
returns-in-HostUp-clause-kept c =
    let h : Held = c.args.self.now in
    let kept : IsKept h = c.requires.kept in
    let none : host_up_refusal h.boxes c.in-HostUp.host ≡ None = rw c.in-HostUp.is at c.requires.allowed in
    on_ok c.start_host.result c.start_host.ensures.ok (λ same. subst IsKept (sym same) (record { sound = started_sound h.boxes c.in-HostUp.host kept.sound none; indexed = λ running. started_indexed h c.in-HostUp.host (kept.indexed running) }))
