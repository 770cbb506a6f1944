-- Whatever happens to a subnet: offers, takings, events and quiet rounds, of which some are refused.
use Rattle.std.specs.Prelude.{List, [], ◌∷◌, Option, Some, None}
use Rattle.interface.specs.Host.{Host}
use Rattle.interface.specs.declared.carrier.CarrierFault.{CarrierFault}
use Rattle.interface.specs.declared.event.NetEvent.{NetEvent}
use Rattle.interface.specs.declared.message.HostMessage.{HostMessage}
use Rattle.subnet.specs.Net.{Net}
use Rattle.subnet.specs.Events.{offer_refusal, offer_out, take_refusal, take_in, step_refusal, stepped, quiet_round}
use Rattle.subnet.specs.Routed.{IsHostMessage}

pub data Call : Type 0 where
  Offer : (m : HostMessage) → Call
  Take : (h : Host) → Call
  Happen : (e : NetEvent) → Call
  Round : Call

abbrev pub refusal : Net → Call → Option CarrierFault
refusal n (Offer m) = offer_refusal n m
refusal n (Take h) = take_refusal n h
refusal n (Happen e) = step_refusal n e
refusal n Round = None

abbrev pub net_after : Net → Call → Net
net_after n (Offer m) = offer_out n m
net_after n (Take h) = take_in n h
net_after n (Happen e) = stepped n e
net_after n Round = quiet_round n

-- a refused call changes nothing
abbrev pub done_by : Option CarrierFault → Net → Call → Net
done_by None n c = net_after n c
done_by (Some fault) n c = n

-- a list of calls, newest first
abbrev pub ran : List Call → Net → Net
ran [] n = n
ran (c ∷ calls) n = done_by (refusal (ran calls n) c) (ran calls n) c

-- each message that is offered is one that a host can have
abbrev pub OffersMessages : List Call → Type 0
OffersMessages [] = Unit {0}
OffersMessages (Offer m ∷ calls) = IsHostMessage m × OffersMessages calls
OffersMessages (c ∷ calls) = OffersMessages calls
