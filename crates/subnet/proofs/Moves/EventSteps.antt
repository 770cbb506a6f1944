-- Each event keeps a subnet sound.
use Rattle.subnet.proofs.Common.{◌≡◌, None, NetEvent, Net, step_refusal, stepped, IsSound}
use Rattle.interface.specs.declared.event.NetEvent.TheVariants as event
use Rattle.subnet.proofs.Moves.Asking.{ask_sound}
use Rattle.subnet.proofs.Moves.Deliveries.{deliver_sound}
use Rattle.subnet.proofs.Moves.Forgetting.{forget_sound}
use Rattle.subnet.proofs.Moves.GivingUp.{give_up_sound}
use Rattle.subnet.proofs.Moves.HostsDown.{host_down_sound}
use Rattle.subnet.proofs.Moves.HostsUp.{host_up_sound}
use Rattle.subnet.proofs.Moves.ImpsDown.{imp_down_sound}
use Rattle.subnet.proofs.Moves.ImpsUp.{imp_up_sound}
use Rattle.subnet.proofs.Moves.QuietCalls.{drop_sound, resend_sound, route_sound, claim_sound, end_down_sound, end_up_sound, abandon_sound}

pub step_sound : (n : Net) (e : NetEvent) → step_refusal n e ≡ None → IsSound n → IsSound (stepped n e)
step_sound n (event.Deliver l d k) allowed is = deliver_sound n l d k is
step_sound n (event.Drop l d k) allowed is = drop_sound n l d k is
step_sound n (event.Garble l d k) allowed is = drop_sound n l d k is
step_sound n (event.Resend i) allowed is = resend_sound n i is
step_sound n (event.Route i) allowed is = route_sound n i is
step_sound n (event.Claim i) allowed is = claim_sound n i is
step_sound n (event.EndDown i l) allowed is = end_down_sound n i _ is
step_sound n (event.EndUp i l) allowed is = end_up_sound n i _ is
step_sound n (event.ImpDown i) allowed is = imp_down_sound n i allowed is
step_sound n (event.ImpUp i) allowed is = imp_up_sound n i allowed is
step_sound n (event.HostDown h) allowed is = host_down_sound n h allowed is
step_sound n (event.HostUp h) allowed is = host_up_sound n h allowed is
step_sound n (event.GiveUp f) allowed is = give_up_sound n f allowed is
step_sound n (event.Forget at from) allowed is = forget_sound n at from allowed is
step_sound n (event.Abandon f) allowed is = abandon_sound n _ f is
step_sound n (event.Ask f) allowed is = ask_sound n f allowed is
