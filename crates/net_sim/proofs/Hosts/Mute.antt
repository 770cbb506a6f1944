-- A host that has just come up has nothing to say.
use Rattle.net_sim.proofs.Common.{◌≡◌, ℕ, zero, suc, List, [], ◌∷◌, Option, Some, None, refl, ap, subst, ◌∙◌, Host, NcpState, opening_state, Seat, opening_seats}
use Rattle.std.proofs.Common.{slice_get}
use Rattle.std.proofs.lemmas.Option.{same_Some}
use Rattle.sockets.specs.Sending.{next_out}

pub opening_mute : (h : Host) → next_out (opening_state h) ≡ None
unfolding next_out
opening_mute h = refl

program_in : Option Seat → Option NcpState
program_in None = None
program_in (Some seat) = seat.program

-- and so have all
pub all_mute : (hosts : List Host) (at : ℕ) (seat : Seat) (s : NcpState) → slice_get (opening_seats hosts) at ≡ Some seat
    → seat.program ≡ Some s → next_out s ≡ None
unfolding program_in
all_mute [] at seat s is has = absurd (cc)
all_mute (h ∷ hosts) zero seat s is has =
    subst (λ (t : NcpState). next_out t ≡ None)
    (same_Some (opening_state h) s (ap (λ (o : Option Seat). program_in o) is ∙ has)) (opening_mute h)
all_mute (h ∷ hosts) (suc at) seat s is has = all_mute hosts at seat s is has
