-- What may be said of each call of a world's programs, as the steps of two programs on a link need it.
use Rattle.world_keeps_streams.proofs.Common.{List, [], ◌∷◌, Host, Command, PairState, Entry, HaveAddresses, Moment, crossings_of, calls_by, AreOurs, Network, Happened}
use Rattle.host_keeps_streams.specs.Histories.{Answered, AsksBack, Hears, OpensReceiver, OpensSender, Says, Sends, Takes, Call}
use Rattle.pair_keeps_streams.proofs.lemmas.{IsHeard}
use Rattle.interface.specs.Mailboxes as mail
use Rattle.ncp_control.specs.declared.command.Command.TheVariants as command
use Rattle.host_keeps_streams.specs.Histories as calls
use Rattle.world_keeps_streams.proofs.Calls.Allowed.{may_calls}
use Rattle.world_keeps_streams.proofs.Calls.May as may
use Rattle.world_keeps_streams.proofs.Calls.May.{AllMay}
use Rattle.world_keeps_streams.proofs.Calls.MayCalls.{MayCall, MayCalls}

heard : (c : Command) (es : List Entry) → may.IsHeard c es → IsHeard c es
heard (command.Rts receive send link) es h = h
heard (command.Cls foreign own) es h = h
heard c es h = tt

one_call : (k : Call) (q : PairState) → may.MayCall k q → MayCall k q
one_call (Hears stamp said c) q h = (h.0, h.1, h.2, heard c q.entries h.3)
one_call (Takes link text) q h = tt
one_call (Says stamp c) q h = h.0
one_call (Sends stamp e size count) q h = h
one_call (Answered link) q h = tt
one_call (OpensReceiver own foreign) q h = ((λ l s. (h.0, h.2)), (h.0, h.1))
one_call (OpensSender own foreign size) q h = ((λ l s. h.2), (h.0, h.1))
one_call (AsksBack socket messages bits e) q h = ((λ l s. (h.0, h.1)), h.2)
one_call k q h = ((λ l s. h), tt)

all_calls : (cs : List calls.Moment) → AllMay cs → MayCalls cs
all_calls [] h = tt
all_calls (m ∷ cs) h = (one_call m.call m.pair h.0, all_calls cs h.1)

pub law_calls : (hosts : Network) → HaveAddresses hosts.all → (x : Moment) (moments : List Moment) → mail.IsRun hosts.all (crossings_of (x ∷ moments)) → Happened hosts (x ∷ moments) → (a b : Host) → AreOurs hosts a b → MayCalls (calls_by a b x moments)
law_calls hosts addresses x moments run time a b ours =
    all_calls (calls_by a b x moments) (may_calls hosts addresses x moments run time a b ours)
