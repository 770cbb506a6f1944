-- How a call of a subnet ends, and which calls may run out of memory.
use Rattle.std.specs.Prelude.{◌≡◌, ℕ, Bool, true, false, List, Option, Some, None, Result, Ok, Err, is_some, nat_lt, length, slice_get, ◌||◌, ◌&&◌}
use Rattle.std.specs.List.{list_any}
use Rattle.interface.specs.Calls.{is_memory}
use Rattle.interface.specs.Host.{Host}
use Rattle.interface.specs.declared.carrier.CarrierFault.{CarrierFault}
use Rattle.interface.specs.declared.carrier.CarrierFault.TheVariants as fault
use Rattle.interface.specs.declared.event.Direction.{Direction}
use Rattle.interface.specs.declared.event.NetEvent.{NetEvent}
use Rattle.interface.specs.declared.event.NetEvent.TheVariants as event
use Rattle.imp_channel.specs.Holding.{bits_carried}
use Rattle.imp_channel.specs.declared.frame.Frame.{Frame}
use Rattle.imp_node.specs.State.{State}
use Rattle.imp_node.specs.Turns.{resend_grows, route_grows, claim_grows, end_down_grows, end_up_grows, give_up_grows, forget_grows, abandon_grows, ask_grows, from_line_grows, to_host_grows}
use Rattle.subnet.specs.Net.{Net, Wire, imp_at, wire_at, port_of, frames_on, far_end}
use Rattle.subnet.specs.Flows.{imp_is_up}
use Rattle.subnet.specs.Events.{first_of, taken_by_host}

-- ---- a subnet that may have stopped

-- a subnet, and whether running out of memory has stopped it: nothing is said of what is in it then, except its hosts and its log
pub record Kept : Type 0 where
  pub net : Net
  pub stopped : Bool

abbrev pub running : Net → Kept
running n = record { net = n; stopped = false }

-- once it has stopped, every call is refused for that
abbrev pub refusal_of : Kept → (Net → Option CarrierFault) → Option CarrierFault
refusal_of k refusal = first_of k.stopped fault.Stopped (refusal k.net)

-- after memory has run out hosts and log are as before the call
pub record HasHalted (old new : Kept) : Type 0 where
  pub hosts : new.net.hosts ≡ old.net.hosts
  pub log : new.net.log ≡ old.net.log
  pub stopped : new.stopped ≡ true

-- running out of memory comes last; any other fault is the first refusal, and changes nothing
abbrev pub Fails : Option CarrierFault → Bool → Bool → CarrierFault → Kept → Kept → Type 0
Fails refusal grows true e old new = (refusal ≡ None) × (grows ≡ true) × HasHalted old new
Fails refusal grows false e old new = (refusal ≡ Some e) × (new ≡ old)

-- A call that is refused for `refusal`, and else gives a value with this property. It may run out of memory only if it is not
-- refused and `grows` is true
abbrev pub Decided : {T : Type 0} → Option CarrierFault → Bool → (T → Type 0) → Kept → Kept → Result T CarrierFault → Type 0
Decided refusal grows Gives old new (Ok x) = (refusal ≡ None) × Gives x
Decided refusal grows Gives old new (Err e) = Fails refusal grows (is_memory e) e old new

-- ---- memory

-- a call of an IMP that is up may run out of memory
abbrev pub grows_at : Option State → (State → Bool) → Bool
grows_at None grows = false
grows_at (Some s) grows = grows s

-- what a host takes is put on the log
abbrev pub take_grows : Net → Host → Bool
take_grows n h = is_some (taken_by_host n h) || grows_at (imp_at n.imps h.imp) (λ s. to_host_grows s h.host)

-- a frame that is delivered is copied, since it stays on its line
abbrev pub copy_grows : Frame → Bool
copy_grows f = nat_lt 0 (length (bits_carried f.content))

abbrev pub delivered_grows : Net → ℕ → Direction → Option Frame → Bool
delivered_grows n l d None = false
delivered_grows n l d (Some f) =
    grows_at (imp_at n.imps (far_end d (wire_at n.lines l))) (λ s. copy_grows f || from_line_grows s (port_of n.lines (far_end d (wire_at n.lines l)) l) f)

-- an IMP that stops puts on the log that its hosts go down, if one is up
abbrev pub has_host_up : State → Bool
has_host_up s = list_any (λ host. host.up) s.hosts

-- An event that is not refused may run out of memory where its IMP does, where something crosses, and where a starting IMP is made
abbrev pub step_grows : Net → NetEvent → Bool
step_grows n (event.Deliver l d k) = delivered_grows n l d (slice_get (frames_on d (wire_at n.lines l)) k)
step_grows n (event.Drop l d k) = false
step_grows n (event.Garble l d k) = false
step_grows n (event.Resend i) = grows_at (imp_at n.imps i) resend_grows
step_grows n (event.Route i) = grows_at (imp_at n.imps i) route_grows
step_grows n (event.Claim i) = grows_at (imp_at n.imps i) claim_grows
step_grows n (event.EndDown i l) = grows_at (imp_at n.imps i) (λ s. end_down_grows s (port_of n.lines i l))
step_grows n (event.EndUp i l) = grows_at (imp_at n.imps i) (λ s. end_up_grows s (port_of n.lines i l))
step_grows n (event.ImpDown i) = grows_at (imp_at n.imps i) has_host_up
step_grows n (event.ImpUp i) = true
step_grows n (event.HostDown h) = true
step_grows n (event.HostUp h) = true
step_grows n (event.GiveUp f) = grows_at (imp_at n.imps f.source.imp) (λ s. give_up_grows s f)
step_grows n (event.Forget at from) = grows_at (imp_at n.imps at) (λ s. forget_grows s from)
step_grows n (event.Abandon f) = grows_at (imp_at n.imps f.destination.imp) (λ s. abandon_grows s f)
step_grows n (event.Ask f) = grows_at (imp_at n.imps f.source.imp) (λ s. ask_grows s f)

-- ---- memory in a quiet round

-- a frame that has bits is in transit to an IMP that is up
abbrev pub brings_bits : List (Option State) → Wire → Bool
brings_bits imps w = (imp_is_up (imp_at imps w.b) && list_any copy_grows w.forward) || (imp_is_up (imp_at imps w.a) && list_any copy_grows w.back)

-- A quiet round may run out of memory in two cases: an IMP that is up puts a frame on a line when it sends its distances, as it does on
-- each of its ends that is up; or a frame that has bits goes to an IMP that is up, and is copied when it is delivered. In every other
-- subnet no IMP sends anything in the round, and nothing is copied
abbrev pub round_grows : Net → Bool
round_grows n = list_any (λ imp. grows_at imp route_grows) n.imps || list_any (brings_bits n.imps) n.lines
