-- What each rule asks of an act, by the pair before it; and the contract.
use Rattle.std.specs.Prelude.{◌≡◌, ◌==◌, ℕ, Bool, true, false, not, ◌&&◌, ◌||◌, nat_lt, nat_le, List, [], ◌∷◌, length}
use Rattle.std.specs.Prelude.{take, filter, Option, is_none, if◌then◌else◌}
use Rattle.std.specs.List.{list_any}
use Rattle.ncp_control.specs.Allocation.{added}
use Rattle.ncp_control.specs.Command.{is_alone}
use Rattle.ncp_control.specs.Numbers.{is_receive_socket, is_send_socket, is_byte_size, is_connection_link}
use Rattle.ncp_control.specs.declared.command.Command.{Command}
use Rattle.ncp_control.specs.declared.command.Command.TheVariants as command
use Rattle.host_contract.specs.Acts as acts
use Rattle.host_contract.specs.Acts.{Sockets, Act, Says, is_notice, asked_for}
use Rattle.host_contract.specs.Blamed.{is_blamed, or_blamed, is_expected, is_ignored}
use Rattle.host_contract.specs.Ends.{End, Data, data_of, same_bits, receives, is_known, is_waiting, covers, plus, cost}
use Rattle.host_contract.specs.Happens.{pair}
use Rattle.host_contract.specs.Pairs as pairs
use Rattle.host_contract.specs.Pairs.{Pair, is_any, same_sockets, end_of, has_end, receiver, sender, outstanding}
use Rattle.host_contract.specs.Pairs.{past_of}
use Rattle.host_contract.specs.Rules.{Rule, Alone, Idle, Through, Early, Failed, Stopped, Forgets, Once, Link, Closes}
use Rattle.host_contract.specs.Rules.{Over, Drained, Willed, Opens, Sends, Size, Within, Handed, Grants, Returns, Takes}
use Rattle.host_contract.specs.Rules.{All, Returned, Ended, Reply, Links, Waits}

abbrev pub sockets : ℕ → ℕ → Sockets
sockets own foreign = record { own = own; foreign = foreign }

abbrev pub is_formed : Command → Bool
is_formed (command.Rts own foreign link) = is_receive_socket own && is_send_socket foreign && nat_lt 0 link
is_formed (command.Str own foreign size) = is_send_socket own && is_receive_socket foreign && is_byte_size size
is_formed c = true

-- a request is for an end that passes a test
abbrev pub asks_at : (End → Bool) → Command → Pair → Bool
asks_at test c p = is_any (λ s. has_end s test p) (asked_for c)

-- data that go at an end whose user knows it pass a test; of others other rules speak
abbrev pub are_data : (Data → End → Bool) → List Bool → Option End → Bool
are_data test text o = not (is_any (λ e. e.told && is_any (λ d. not (test d e)) (data_of text)) o)

-- with these data what was sent, or sent and given back, is within what was granted
abbrev pub is_within : Data → End → Bool
is_within d e = covers e.granted (plus e.used (cost (d ∷ [])))

abbrev pub is_left : Data → End → Bool
is_left d e = covers e.granted (plus (plus e.used e.back) (cost (d ∷ [])))

abbrev pub is_next : List Bool → List Data → Bool
is_next bits [] = false
is_next bits (d ∷ later) = same_bits bits d.bits

abbrev pub is_returned : ℕ → ℕ → End → Bool
is_returned messages bits e =
    e.told && receives e && covers e.back (added e.returned messages bits) &&
    covers e.granted (added (plus e.used e.returned) messages bits)

abbrev pub allows : Rule → Act → Pair → Bool
allows Alone (Says c) p =
    is_any (λ m. if is_alone c then is_none m.said else not (is_any is_alone m.said)) (outstanding 0 p)
allows Idle (Says c) p = not (is_alone c) || nat_le (length p.out) 1
allows Through act p = not (is_blamed pairs.Unreset act p)
allows Early act p = not (is_blamed pairs.Early act p)
allows Failed act p = not (is_blamed pairs.Failed act p)
allows Stopped act p = not (is_blamed pairs.Stopped act p)
allows Forgets act p = not (is_blamed pairs.Dropped act p)
allows Once (Says c) p = is_formed c && not (asks_at (λ e. e.asked && not e.gone) c p)
allows Link (Says (command.Rts own foreign link)) p = is_none (receiver link p)
allows Closes (Says (command.Cls own foreign)) p =
    has_end (sockets own foreign) (λ e. (e.asked || e.partner) && not e.gone) p
allows Over (Says c) p = not (asks_at (λ e. e.gone) c p)
allows Drained (Says (command.Cls own foreign)) p =
    not (list_any (λ m. is_any (same_sockets (sockets own foreign)) m.at) p.out)
allows Willed (Says (command.Cls own foreign)) p =
    not (has_end (sockets own foreign) (λ e. e.told && not e.closed && not e.taken) p)
allows Opens (acts.Opened s) p = is_expected s p || is_ignored s p
allows Sends (acts.Sends link text) p = or_blamed (acts.Sends link text) p (is_any is_known (sender link p))
allows Size (acts.Sends link text) p =
    not (is_any (λ e. e.told) (sender link p)) || not (is_none (data_of text)) &&
    are_data (λ d e. nat_lt 0 d.size && is_any (λ n. n == d.size) e.size) text (sender link p)
allows Within (acts.Sends link text) p = are_data is_within text (sender link p)
allows Handed (acts.Sends link text) p =
    are_data (λ d e. same_bits d.bits (take (length d.bits) e.handed)) text (sender link p)
allows Handed (acts.Hands s bits) p = or_blamed (acts.Hands s bits) p (has_end s (λ e. e.told && not (receives e)) p)
allows Grants (Says (command.All link messages bits)) p =
    is_any (λ e. e.asked && not e.gone && covers e.granted (added e.said messages bits)) (receiver link p)
allows Grants (acts.Grants s messages bits) p =
    or_blamed (acts.Grants s messages bits) p (has_end s (λ e. e.asked && receives e && not e.gone) p)
allows Returns (acts.Sends link text) p = are_data (λ d e. is_left d e || not (is_within d e)) text (sender link p)
allows Returns (Says (command.Ret link messages bits)) p =
    is_any (λ e. e.told && not e.gone && covers e.granted (added (plus e.used e.back) messages bits)) (sender link p)
allows Takes (acts.Arrived s bits) p =
    or_blamed (acts.Arrived s bits) p (has_end s (λ e. e.told && is_next bits e.waits) p)
allows All act p = is_notice act || not (list_any (λ e. is_known e && not e.closed && is_waiting e) p.ends)
allows Returned (acts.Returned s messages bits) p =
    or_blamed (acts.Returned s messages bits) p (has_end s (is_returned messages bits) p)
allows Ended (acts.Ended s) p = is_none (end_of s p) && is_any (λ e. is_none e.lost) (past_of s p)
allows Reply (Says command.Rrp) p = p.owed
allows Reply (Says c) p = is_alone c || not p.owed
allows Reply (acts.Sends link text) p = not p.owed
allows Links (Says (command.Rts own foreign link)) p = is_connection_link link
allows Links (acts.Sends link text) p = is_connection_link link
allows Links (acts.Opened s) p = is_expected s p || not (is_ignored s p)
allows Waits (Says (command.All link messages bits)) p = not (is_any (λ e. not e.partner) (receiver link p))
allows rule act p = true

abbrev pub keeps : Rule → List Act → Bool
keeps rule [] = true
keeps rule (act ∷ log) = allows rule act (pair log) && keeps rule log

-- the whole contract, toward the peer whose own log this is
abbrev pub KeepsProtocol : List Act → Type 0
KeepsProtocol log = (rule : Rule) → keeps rule log ≡ true

abbrev pub rules : List Rule
rules =
    Alone ∷ Idle ∷ Through ∷ Early ∷ Failed ∷ Stopped ∷ Forgets ∷ Once ∷ Link ∷ Closes ∷ Over ∷ Drained ∷ Willed ∷
    Opens ∷ Sends ∷ Size ∷ Within ∷ Handed ∷ Grants ∷ Returns ∷ Takes ∷ All ∷ Returned ∷ Ended ∷ Reply ∷ Links ∷
    Waits ∷ []

-- the rules that a log breaks
abbrev pub broken : List Act → List Rule
broken log = filter (λ rule. not (keeps rule log)) rules
