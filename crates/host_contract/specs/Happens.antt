-- What each act of a log comes to (NIC 8246, the control commands; BBN Report 1822, RFNM).
use Rattle.std.specs.Prelude.{ℕ, ◌==◌, true, false, not, ◌&&◌, ◌||◌, nat_lt, List, [], ◌∷◌, ◌++◌, map, filter}
use Rattle.std.specs.Prelude.{option_map, Option, Some, None, if◌then◌else◌}
use Rattle.std.specs.Option.{option_or}
use Rattle.interface.specs.declared.crossing.Answer.{Answer}
use Rattle.interface.specs.declared.crossing.Answer.TheVariants as answer
use Rattle.ncp_control.specs.Allocation.{added}
use Rattle.ncp_control.specs.Numbers.{is_receive_socket, is_send_socket, is_byte_size}
use Rattle.ncp_control.specs.declared.command.Command.{Command}
use Rattle.ncp_control.specs.declared.command.Command.TheVariants as command
use Rattle.host_contract.specs.Acts.{Sockets, Act, Goes, Says, Sends, Takes, Hears, Ignores, Answered, Stops, Starts}
use Rattle.host_contract.specs.Acts.{Else, Contacts, Asks, Hands, Grants, Closes, Opened, Arrived, Returned, Ended}
use Rattle.host_contract.specs.Acts.{is_notice}
use Rattle.host_contract.specs.Ends.{End, data_of, sends_data, counts_first, takes_data, settles}
use Rattle.host_contract.specs.Pairs.{Unreset, Early, Failed, Stopped, Dropped, Stage, Away, Gone, Heard, Through, Sent}
use Rattle.host_contract.specs.Pairs.{Pair, opening, is_through, receiver, sender, outstanding, changed, entered}
use Rattle.host_contract.specs.Pairs.{all_lost, swept}

abbrev pub if_some : {A : Type 0} → Option A → (A → Pair → Pair) → Pair → Pair
if_some None change p = p
if_some (Some x) change p = change x p

abbrev pub at_end : Option End → (End → End) → Pair → Pair
at_end o change p = if_some o (λ e. changed e.at change) p

-- ---- answers

-- what became of an RST
abbrev pub reset_answered : Answer → Stage → Stage
reset_answered answer.Rfnm (Gone true) = Away Early
reset_answered answer.Rfnm (Gone false) = Heard
reset_answered kind (Gone early) = Away Unreset
reset_answered kind stage = stage

-- any other message has failed: all with the peer is over, but not while an RRP is owed
abbrev pub failed_at : Stage → Pair → Pair
failed_at Through p = record (all_lost Failed p) { stage = Away Failed }
failed_at Heard p = record p { stage = Away Failed }
failed_at stage p = p

abbrev pub answered : Answer → Option Command → Pair → Pair
answered kind (Some command.Rst) p = record p { stage = reset_answered kind p.stage }
answered answer.Rfnm said p = p
answered kind said p = if p.owed then p else failed_at p.stage p

-- ---- what goes out

-- a message without a command has its first now
abbrev pub named : Command → Sent → Sent
named c m = record m { said = option_or m.said (if m.link == 0 then Some c else None) }

-- an end whose request never went out has no link
abbrev pub closing : End → End
closing e = record e { gone = true; link = if e.asked then e.link else None }

abbrev pub says : Command → Pair → Pair
says command.Rst p = record (all_lost Dropped p) { stage = Gone false }
says command.Rrp p = record p { owed = false }
says (command.Rts own foreign link) p =
    let s : Sockets = record { own = own; foreign = foreign } in
    changed s (λ e. record e { asked = true; link = Some link }) (entered s p)
says (command.Str own foreign size) p =
    let s : Sockets = record { own = own; foreign = foreign } in
    changed s (λ e. record e { asked = true; size = Some size }) (entered s p)
says (command.Cls own foreign) p = swept (changed (record { own = own; foreign = foreign }) closing p)
says (command.All link messages bits) p =
    at_end (receiver link p) (λ e. record e { said = added e.said messages bits }) p
says (command.Ret link messages bits) p = at_end (sender link p) (λ e. record e { back = added e.back messages bits }) p
says c p = p

abbrev pub sent : ℕ → Option End → Pair → Pair
sent link from p =
    record p { out = record { link = link; said = None; at = option_map (λ (e : End). e.at) from } ∷ p.out }

-- ---- what is taken

-- a request counts if it is the first, and came before a CLS
abbrev pub requested : Sockets → (End → End) → Pair → Pair
requested s change p = changed s (λ e. if e.partner || e.taken then e else change e) (entered s p)

-- data that came before their size was named are an end's own if they have it
abbrev pub sized : ℕ → End → End
sized size e = record e { partner = true; size = Some size; waits = filter (λ d. d.size == size) e.waits }

abbrev pub hears_through : Command → Pair → Pair
hears_through (command.Rts foreign own link) p =
    if is_receive_socket foreign && is_send_socket own && nat_lt 0 link
    then requested (record { own = own; foreign = foreign }) (λ e. record e { partner = true; link = Some link }) p
    else p
hears_through (command.Str foreign own size) p =
    if is_send_socket foreign && is_receive_socket own && is_byte_size size
    then requested (record { own = own; foreign = foreign }) (sized size) p
    else p
hears_through (command.Cls foreign own) p =
    swept (changed (record { own = own; foreign = foreign }) (λ e. record e { taken = true }) p)
hears_through (command.All link messages bits) p =
    at_end (sender link p) (λ e. if e.gone || e.taken then e else record e { granted = added e.granted messages bits }) p
hears_through (command.Ret link messages bits) p =
    at_end (receiver link p) (λ e. record e { back = added e.back messages bits }) p
hears_through c p = p

-- an RST opens a pair that is away, and an RRP ends a reset whose RST was taken; before that it is remembered
abbrev pub reset_by : Stage → Stage
reset_by (Away why) = Through
reset_by stage = stage

abbrev pub replied : Stage → Stage
replied (Gone early) = Gone true
replied Heard = Through
replied stage = stage

abbrev pub hears : Command → Pair → Pair
hears command.Rst p = record (all_lost Dropped p) { stage = reset_by p.stage; owed = true }
hears command.Rrp p = record p { stage = replied p.stage }
hears c p = if is_through p then hears_through c p else p

abbrev pub ignores : Command → Pair → Pair
ignores (command.Rts foreign own link) p = record p { ignored = record { own = own; foreign = foreign } ∷ p.ignored }
ignores (command.Str foreign own size) p = p
ignores c p = hears c p

-- ---- all acts

abbrev pub happens : Act → Pair → Pair
happens Goes p = sent 0 None p
happens (Says c) p = says c (record p { out = map (named c) p.out })
happens (Sends link text) p =
    if_some (data_of text) (λ d. at_end (sender link p) (sends_data d)) (sent link (sender link p) p)
happens (Takes link text) p =
    if is_through p then if_some (data_of text) (λ d. at_end (receiver link p) (takes_data d)) p else p
happens (Hears c) p = hears c p
happens (Ignores c) p = ignores c p
happens (Answered link kind) p =
    if_some (outstanding link p) (λ m. answered kind m.said) (record p { out = filter (λ m. not (m.link == link)) p.out })
happens Stops p = record opening { stage = Away Stopped; past = (all_lost Stopped p).past }
happens Starts p = record p { out = [] }
happens Else p = p
happens Contacts p = record (all_lost Dropped p) { stage = if is_through p then Away Unreset else p.stage }
happens (Asks s) p = if is_through p then entered s p else p
happens (Hands s bits) p = changed s (λ e. record e { handed = e.handed ++ bits }) p
happens (Grants s messages bits) p = changed s (λ e. record e { granted = added e.granted messages bits }) p
happens (Closes s) p = changed s (λ e. record e { closed = true }) p
happens (Opened s) p = changed s (λ e. record e { told = true }) p
happens (Arrived s bits) p = changed s (λ e. counts_first e.waits e) p
happens (Returned s messages bits) p = changed s (λ e. record e { returned = added e.returned messages bits }) p
happens (Ended s) p = p

-- how a host and its peer are after a log. Whatever isn't a notice comes after all notices of what was before
abbrev pub settled : Act → Pair → Pair
settled act p = if is_notice act then p else record p { ends = map settles p.ends }

abbrev pub pair : List Act → Pair
pair [] = opening
pair (act ∷ log) = happens act (settled act (pair log))
