-- A subnet as a carrier: what holds of it, and how its calls may go.
use Rattle.std.specs.Prelude.{◌≡◌, true, false, Option, None, Result}
use Rattle.interface.specs.Calls.{Calls, Seen, InOrder}
use Rattle.interface.specs.Host.{Host}
use Rattle.interface.specs.Mailboxes.{IsRun}
use Rattle.interface.specs.declared.carrier.CarrierFault.{CarrierFault}
use Rattle.interface.specs.declared.crossing.Inbound.{Inbound}
use Rattle.interface.specs.declared.event.NetEvent.{NetEvent}
use Rattle.interface.specs.declared.message.HostMessage.{HostMessage}
use Rattle.subnet.specs.Net.{Net}
use Rattle.subnet.specs.Calls.{Kept, running, refusal_of, Decided, take_grows, step_grows, round_grows}
use Rattle.subnet.specs.Events.{offer_refusal, offer_out, take_refusal, taken_by_host, take_in, step_refusal, stepped, quiet_round}
use Rattle.subnet.specs.Routed.{IsRouted}
use Rattle.subnet.specs.Seen.{IsListed}
use Rattle.subnet.specs.Sound.{IsSound}

-- a subnet that was never short of memory: its hosts are those of its IMPs, it is sound, and no route leads elsewhere
pub record IsWhole (n : Net) : Type 0 where
  pub listed : IsListed n
  pub sound : IsSound n
  pub routed : IsRouted n

-- what holds of a subnet always, and what holds until memory runs out
pub record IsWorking (k : Kept) : Type 0 where
  pub run : IsRun k.net.hosts k.net.log
  pub ordered : InOrder k.net.hosts
  pub whole : k.stopped ≡ false → IsWhole k.net

abbrev pub seen_of : Kept → Seen
seen_of k = record { hosts = k.net.hosts; log = k.net.log; stopped = k.stopped }

-- ---- how its calls may go

abbrev pub SubnetOffer : Kept → HostMessage → Result (Unit {0}) CarrierFault → Kept → Type 0
SubnetOffer old m result new = Decided (refusal_of old (λ n. offer_refusal n m)) true (λ done. new ≡ running (offer_out old.net m)) old new result

abbrev pub SubnetTake : Kept → Host → Result (Option Inbound) CarrierFault → Kept → Type 0
SubnetTake old h result new =
    Decided (refusal_of old (λ n. take_refusal n h)) (take_grows old.net h) (λ given. (given ≡ taken_by_host old.net h) × (new ≡ running (take_in old.net h))) old new result

abbrev pub SubnetStep : Kept → NetEvent → Result (Unit {0}) CarrierFault → Kept → Type 0
SubnetStep old e result new = Decided (refusal_of old (λ n. step_refusal n e)) (step_grows old.net e) (λ done. new ≡ running (stepped old.net e)) old new result

abbrev pub SubnetRound : Kept → Result (Unit {0}) CarrierFault → Kept → Type 0
SubnetRound old result new = Decided (refusal_of old (λ n. None)) (round_grows old.net) (λ done. new ≡ running (quiet_round old.net)) old new result

abbrev pub subnet_calls : Calls Kept
subnet_calls = record { seen = seen_of; offers = SubnetOffer; takes = SubnetTake; steps = SubnetStep; rounds = SubnetRound }
