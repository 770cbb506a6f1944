use Rattle.subnet_trace.proofs.Common.{◌≡◌, ℕ, IfSome, length, subst, Kept, imp_at}
use Rattle.subnet_trace.proofs.Silent.{still_taken}
use Rattle.subnet_trace.proofs.traced.TracedSubnetInspect.is_still.Goals as goal

pub returns : goal.returns
returns c = λ known new t.
    let at : IfSome (imp_at c.self.inside.subnet.net.imps c.args.host.now.imp) (λ s. length s.store ≡ 0) =
    subst (λ (i : ℕ). IfSome (imp_at c.self.inside.subnet.net.imps i) (λ s. length s.store ≡ 0)) c.imp.ensures.same (c.stores_none.ensures known) in
    still_taken c.args.self.now new c.args.host.now (subst (λ (k : Kept). IfSome (imp_at k.net.imps c.args.host.now.imp) (λ s. length s.store ≡ 0)) c.self.view_is at) t
