use Rattle.subnet.proofs.Common.{◌≡◌, Option, None, subst, Vec, Global, get_or_default, State, Outgoing, at_up, grows_at, imp_at, call_refusal, call_turn, call_grows, CallEnds, imp_by, frames_by}
use Rattle.subnet.proofs.Calls.Living.{live_call}
use Rattle.subnet.proofs.imp_call.call_imp.Goals as goal

pub returns-clause-live : goal.returns-clause-live
returns-clause-live c =
    let call = c.args.call in
    let read = get_or_default c.args.imps.now c.args.imp c.index-imps-at.result None c.if-at-imps.false in
    live_call c.make_at.result c.args.imps.now c.args.imp c.make_at.new.imp call (at_up (imp_at c.args.imps.now c.args.imp) (call_refusal call)) (grows_at (imp_at c.args.imps.now c.args.imp) (call_grows call))
    (λ frames. frames.items ≡ frames_by (imp_at c.args.imps.now c.args.imp) (call_turn call)) c.requires
    (subst (λ (o : Option State). CallEnds (at_up o (call_refusal call)) (grows_at o (call_grows call)) (λ (frames : Vec Outgoing Global). (c.make_at.new.imp ≡ imp_by o (call_turn call)) × (frames.items ≡ frames_by o (call_turn call))) o c.make_at.new.imp c.make_at.result) read c.make_at.ensures.call)
    c.make_at.ensures.live
