use Rattle.net_sim.proofs.Common.{◌≡◌, zero, suc, true, false, List, [], ◌∷◌, Option, Some, None, arith, ap, refl}
use Rattle.net_sim.proofs.Common.{subst, ◌∙◌, Host, NcpState, opening_state, first, second, Seat}
use Rattle.std.proofs.Common.{is_some}
use Rattle.std.proofs.lemmas.Option.{same_Some}
use Rattle.host_services.specs.Turns as turns
use Rattle.sockets.specs.Requests.{served, served_notices}
use Rattle.sockets.specs.Sending.{next_out}
use Rattle.sockets.specs.declared.request.Request.TheVariants as request
use Rattle.net_sim.specs.Silent.{AllSilent}
use Rattle.net_sim.specs.Worked.{busy, fresh}
use Rattle.net_sim.proofs.Hosts.Mute.{opening_mute}
use Rattle.net_sim.proofs.worked_rest.worked_silence.Goals as goal

abbrev first_program : List Seat → Option NcpState
first_program [] = None
first_program (seat ∷ seats) = seat.program

says_nothing : (seats : List Seat) (s : NcpState) → first_program seats ≡ Some s → AllSilent seats → next_out s ≡ None
says_nothing [] s is silent = absurd (cc)
says_nothing (seat ∷ seats) s is silent = silent 0 (omega arith) seat refl s is

at_mute : (h : Host) (s : NcpState) → Some (opening_state h) ≡ Some s → next_out s ≡ None
at_mute h s is = subst (λ (t : NcpState). next_out t ≡ None) (same_Some (opening_state h) s is) (opening_mute h)

abbrev program_of : Option Seat → Option NcpState
program_of None = None
program_of (Some seat) = seat.program

pub returns-clause-silent : goal.returns-clause-silent
returns-clause-silent c = by where
  by : AllSilent fresh.seats
  by zero below seat found s is = at_mute first s (ap (λ (o : Option Seat). program_of o) found ∙ is)
  by (suc zero) below seat found s is = at_mute second s (ap (λ (o : Option Seat). program_of o) found ∙ is)
  by (suc (suc at)) below seat found s is = absurd (omega (arith, below))

pub returns-clause-speaks : goal.returns-clause-speaks
unfolding served_notices turns.services_told served next_out
returns-clause-speaks c = λ silent.
    (let s : NcpState = served (opening_state first) (request.Contact second) in
    let none : next_out s ≡ None = says_nothing busy.seats s refl silent in
    let bad : true ≡ false = ap (λ (o : Option _). is_some o) none in absurd (cc))
