use Rattle.leader1822.proofs.Common.{◌≡◌, sym, subst, Queues, for_host, with_queue, shown}
use Rattle.leader1822.proofs.Kept.{for_shown, shown_same}
use Rattle.leader1822.proofs.queues.Queues.stays.Goals as goal

pub returns : goal.returns
returns g c =
    let h = c.args.host.now in
    let es = c.self.inside.queues.entries in
    let P : Queues _ → Type 0 = λ q. with_queue q h (for_host q h) ≡ q in
    subst P c.self.view_is (sym (shown_same es h (for_host (shown es) h) (sym (for_shown es h))))
