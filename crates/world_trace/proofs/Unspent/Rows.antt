-- Rows of worlds in which memory lasts, or not.
use Rattle.world_trace.proofs.Common.{false≢true, All-head, Calls, Host, shown, WorldState, opening_state, first, second, IsShort, Lasts, SeatLasts, ServiceLasts, ServicesLast, IsReached, IsSaid}
use Rattle.std.proofs.Common.{◌≡◌, ◌≤◌, true, [], ◌∷◌, Option, Some, None, ap, sym, subst, arith, ◌^◌, replicate}
use Rattle.world_trace.specs.Told.{AreNumbersTold, IsListenerTold, IsSeatTold, IsServed, IsWorldTold}
use Rattle.std.proofs.lemmas.List.{length-replicate}
use Rattle.interface.specs.declared.crossing.Crossing.TheVariants as crossing
use Rattle.world_trace.specs.Worked.{long_seat, long_services, spent_echo, spent_seat, spent_services}
use Rattle.world_trace.proofs.Whole.{reached_told}

pub spent_refused : SeatLasts spent_seat → ⊥
spent_refused is = false≢true (sym is.unspent)

pub other_refused : SeatLasts (record { host = first; program = Some (opening_state second) }) → ⊥
other_refused is =
    let hosts : 2 ≡ 1 = ap (λ (h : Host). h.imp) is.own in
    absurd (omega (arith, hosts))

pub services_refused : ServicesLast spent_services → ⊥
services_refused is = false≢true (sym (All-head ServiceLasts spent_echo [] is))

-- no number of 65 digits is short
too_long : IsShort (10 ^ 64) → ⊥
too_long is = absurd (omega (arith, is))

module _ {C : Type 0} (w : WorldState C) where
  pub program_refused : Lasts (record w { seats = spent_seat ∷ [] }) → ⊥
  program_refused is = spent_refused (All-head SeatLasts spent_seat [] is.programs)

  pub service_refused : Lasts (record w { services = spent_services ∷ [] }) → ⊥
  service_refused is = services_refused (All-head ServicesLast spent_services [] is.services)

  pub stopped_refused : IsWorldTold (record w { stopped = true }) → ⊥
  stopped_refused is = false≢true (sym is.running)

  pub listening_refused : AreNumbersTold (record w { seats = long_seat ∷ [] }) → ⊥
  listening_refused is = too_long (All-head IsListenerTold (record { socket = 10 ^ 64; size = 8 }) [] (All-head IsSeatTold long_seat [] is.programs).program.listening).socket

  pub typing_refused : AreNumbersTold (record w { services = long_services ∷ [] }) → ⊥
  typing_refused is = too_long (All-head IsServed long_services [] is.services).typing

-- a replay comes to no world that has stopped
pub reached_refused : {C : Type 0} (calls : Calls C) (opening : C) (w : WorldState C) → IsReached calls opening (record w { stopped = true }) → ⊥
reached_refused calls opening w is = stopped_refused w (reached_told (shown calls) opening is.script (record w { stopped = true }) is.lines is.replays is.numbers)

-- ---- messages

-- no host has an IMP of this number
pub name_refused : IsSaid (crossing.Out (record { flow = record { source = first; destination = record { imp = 64; host = 0 }; link = record { 0 = 0 } }; text = [] })) → ⊥
name_refused is = let none : ◌≡◌ {A = Option Host} None (Some (record { imp = 64; host = 0 })) = is.0.1 in absurd (cc)

pub text_refused : IsSaid (crossing.Out (record { flow = record { source = first; destination = second; link = record { 0 = 0 } }; text = replicate 8064 true })) → ⊥
text_refused is =
    let few : 8064 ≤ 8063 = subst (λ n. n ≤ 8063) (length-replicate 8064 true) is.1 in
    absurd (omega (arith, few))
