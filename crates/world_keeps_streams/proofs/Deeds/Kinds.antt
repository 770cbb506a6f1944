-- Which deed each call of a host's program is.
use Rattle.world_keeps_streams.proofs.Common.{ℕ, ◌*◌, ◌&&◌, Bool, nat_le, if◌then◌else◌, List, take, map, filter, find, Option, Some, None, is_some, list_any, data_bits, header_of, Command, DataHeader, data_of, is_acceptable, PairState, asked_at, cls_sent, Entry}
use Rattle.host_pairs.specs.Commands.{Unconnected, Ending, Open, asked_on_link, asked_with_size, found_in, Found}
use Rattle.host_pairs.specs.Entries.{changed_at, closed_by_partner, closed_when, entry_at, is_ending, must_close, receives_on, sends_on, is_over}
use Rattle.host_keeps_streams.specs.Histories.{Hears, Takes, Says, Sends, Grants, Call}
use Rattle.ncp_control.specs.declared.command.Command.TheVariants as command
use Rattle.world_keeps_streams.proofs.Deeds.Effects as deeds
use Rattle.world_keeps_streams.proofs.Deeds.Effects.{Deed}

-- an end that may be open now
abbrev pub opens_by : Entry → Option ℕ → Option ℕ → Deed
opens_by e (Some asked) (Some partner) = if is_ending e then deeds.Nothing else deeds.Opens e asked partner
opens_by e None partner = deeds.Nothing
opens_by e (Some asked) None = deeds.Nothing

abbrev pub opens : Option Entry → Deed
opens None = deeds.Nothing
opens (Some e) = opens_by e e.asked e.partner

-- a request of the peer that an end waits for
abbrev pub matches : ℕ → ℕ → (Entry → Entry) → List Entry → Option Entry → Deed
matches own foreign change es None = deeds.Nothing
matches own foreign change es (Some e) = if is_some e.partner then deeds.Nothing else opens (entry_at own foreign (changed_at own foreign change es))

-- its CLS
abbrev pub sweeps : List Entry → Deed
sweeps es = deeds.Ends (filter is_over es)

abbrev pub closings : List ℕ → ℕ → ℕ → List Entry → Option Entry → Deed
closings busy own foreign es None = deeds.Nothing
closings busy own foreign es (Some e) =
    if e.partner_closed then deeds.Nothing else sweeps (map (λ x. closed_when (must_close busy x) x) (changed_at own foreign closed_by_partner es))

abbrev pub arrives_if : Entry → List Bool → Option DataHeader → Deed
arrives_if e text None = deeds.Nothing
arrives_if e text (Some h) = if is_acceptable e h then deeds.Arrives e (data_of (data_bits h) text) else deeds.Nothing

abbrev pub arrives : List Bool → Found → Deed
arrives text Unconnected = deeds.Nothing
arrives text Ending = deeds.Nothing
arrives text (Open e) = arrives_if e text (header_of text)

abbrev pub returns : ℕ → ℕ → Found → Deed
returns messages bits Unconnected = deeds.Nothing
returns messages bits Ending = deeds.Nothing
returns messages bits (Open e) = if nat_le messages e.allocation.messages && nat_le bits e.allocation.bits then deeds.Returns e messages bits else deeds.Nothing

abbrev pub hears : ℕ → Command → PairState → Deed
hears stamp (command.Rts receive send link) q =
    if list_any (sends_on link) q.entries then deeds.Nothing else matches send receive (asked_on_link stamp link) q.entries (entry_at send receive q.entries)
hears stamp (command.Str send receive size) q = matches receive send (asked_with_size stamp size) q.entries (entry_at receive send q.entries)
hears stamp (command.Cls foreign own) q = closings q.busy own foreign q.entries (entry_at own foreign q.entries)
hears stamp (command.Ret link messages bits) q = returns messages bits (found_in (find (receives_on link) q.entries))
hears stamp c q = deeds.Nothing

abbrev pub says : ℕ → Command → PairState → Deed
says stamp (command.Rts receive send link) q = opens (entry_at receive send (changed_at receive send (asked_at stamp) q.entries))
says stamp (command.Str send receive size) q = opens (entry_at send receive (changed_at send receive (asked_at stamp) q.entries))
says stamp (command.Cls own foreign) q = sweeps (changed_at own foreign cls_sent q.entries)
says stamp c q = deeds.Nothing

abbrev pub deed_of : Call → PairState → Deed
deed_of (Hears stamp said c) q = hears stamp c q
deed_of (Takes link text) q = arrives text (found_in (find (receives_on link) q.entries))
deed_of (Says stamp c) q = says stamp c q
deed_of (Sends stamp e size count) q = deeds.Leaves e (take (size * count) e.bits)
deed_of (Grants socket messages bits e) q = deeds.Grants e messages bits
deed_of c q = deeds.Nothing
