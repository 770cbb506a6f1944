use Rattle.net_sim.proofs.Common.{rules, refl, length, Host, NcpState, ServicesState, opening_desk, user_begun}
use Rattle.net_sim.proofs.Hosts.Doing.{call_done}
use Rattle.net_sim.proofs.Hosts.Parts.{kept_at, put_at}
use Rattle.net_sim.proofs.parts.Hosts.user_at.Goals as goal

pub returns-clause-done : goal.returns-clause-done
returns-clause-done c = rw (← c.self.view_is) (λ h s x sits serves.
    call_done h c.args.at s c.in-Some.program c.in-Ok.program x c.take.new.self c.self.inside.seats.items c.self.inside.services.items c.index_mut.result.now c.index_mut-3.result.now c.index_mut-2.result.now c.begin_user.new.self c.begin_user.new.notes
    (λ (g : Host) (z : ServicesState) (u : NcpState). user_begun c.args.peer c.args.listen c.args.own z (opening_desk g (length c.self.inside.notes.book.notices) u)) (λ (g : Host) (u : NcpState). c.self.inside.notes) sits serves c.index_mut.ensures.value c.index_mut-3.ensures.value c.index_mut-2.ensures.value (search rules) (search rules) (search rules))

pub invariant_of-self-in_default-begin_user : goal.invariant_of-self-in_default-begin_user
invariant_of-self-in_default-begin_user c =
    kept_at c.args.at c.self.inside.seats.items c.self.inside.services.items _ _ _ _ c.self.invariant
    refl c.index_mut.ensures.value c.begin_user.ensures.host c.index_mut-2.ensures.value

pub invariant_of-self-2 : goal.invariant_of-self-2
invariant_of-self-2 c =
    put_at c.args.at c.self.inside.seats.items c.self.inside.services.items _ _ _ _ _ _ c.self.invariant
    refl c.index_mut.ensures.value refl c.index_mut-3.ensures.value c.begin_user.ensures.host c.index_mut-2.ensures.value
