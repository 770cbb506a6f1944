use Rattle.world_keeps_streams.proofs.Common.{◌≡◌, zero, suc, ◌==◌, ◌&&◌, Bool, true, false, if◌then◌else◌, [], ◌∷◌, Option, Some, None, is_some, refl, ap, subst, ◌∙◌, arith, Host, same_host, Flow, HostMessage, NcpState, opening_state, first, second, Seat, rst}
use Rattle.interface.specs.Mailboxes.{box_of, Box, Empty, Taken, Waiting, is_up}
use Rattle.world_keeps_streams.proofs.Facts.{untrue, unfalse}
use Rattle.interface.specs.declared.crossing.Crossing.TheVariants as crossing
use Rattle.sockets.specs.Sending.{next_out}
use Rattle.sockets.specs.Requests.{served}
use Rattle.sockets.specs.declared.request.Request.TheVariants as request
use Rattle.net_sim.specs.Silent.{AllSilent}
use Rattle.world_keeps_streams.proofs.calm.worked_settling.Goals as goal

is_empty : Box → Bool
is_empty Empty = true
is_empty (Waiting place text) = false
is_empty (Taken place text) = false

program_in : Option Seat → Option NcpState
program_in None = None
program_in (Some seat) = seat.program

program_is : (s t : NcpState) → Some s ≡ Some t → s ≡ t
program_is s t e = cc

opening_mute : (h : Host) → next_out (opening_state h) ≡ None
unfolding next_out
opening_mute h = refl

-- the seats of two hosts, of which the second may be down
two_silent : (b : Bool) → AllSilent (record { host = first; program = Some (opening_state first) } ∷ record { host = second; program = if b then Some (opening_state second) else None } ∷ [])
unfolding program_in
two_silent b zero below seat is s has = subst (λ (t : NcpState). next_out t ≡ None) (program_is (opening_state first) s (ap (λ (o : Option Seat). program_in o) is ∙ has)) (opening_mute first)
two_silent true (suc zero) below seat is s has = subst (λ (t : NcpState). next_out t ≡ None) (program_is (opening_state second) s (ap (λ (o : Option Seat). program_in o) is ∙ has)) (opening_mute second)
two_silent false (suc zero) below seat is s has = absurd (let no : None ≡ Some s = ap (λ (o : Option Seat). program_in o) is ∙ has in cc)
two_silent b (suc (suc at)) below seat is s has = absurd (omega (arith, below))

pub returns-clause-fresh : goal.returns-clause-fresh
returns-clause-fresh c = record { running = refl; silent = two_silent true; answered = λ f up back. refl }

-- of the message to the second host, which is down, nothing is asked
to_second : (f : Flow) → (v : Bool) → same_host f.destination second ≡ v → is_up (first ∷ second ∷ []) f.destination (crossing.Down second ∷ crossing.Out (rst first second) ∷ []) ≡ true
    → box_of f (crossing.Down second ∷ crossing.Out (rst first second) ∷ []) ≡ Empty
to_second f true e back = absurd (let no : false ≡ true = rw e at back in cc)
to_second f false e back = rw e (by (same_host f.source first) (f.link.0 == 0)) where
  by : (u v : Bool) → (if (u && false && v) then Waiting 0 (rst first second).text else Empty) ≡ Empty
  by true v = refl
  by false v = refl

pub returns-clause-down : goal.returns-clause-down
returns-clause-down c = record { running = refl; silent = two_silent false; answered = λ f up back. to_second f (same_host f.destination second) refl back }

pub returns-clause-speaks : goal.returns-clause-speaks
unfolding next_out served
returns-clause-speaks c f = unfalse (ap (λ (o : Option HostMessage). is_some o) (f.silent 0 (omega arith) (record { host = first; program = Some (served (opening_state first) (request.Contact second)) }) refl (served (opening_state first) (request.Contact second)) refl))

pub returns-clause-waits : goal.returns-clause-waits
unfolding is_empty
returns-clause-waits c f = untrue (ap is_empty (f.answered (record { source = first; destination = second; link = record { 0 = 0 } }) refl refl))

pub returns-clause-halted : goal.returns-clause-halted
returns-clause-halted c f = unfalse f.running
