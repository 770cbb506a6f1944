-- Calls that would give nothing and change nothing.
use Rattle.imp_node.proofs.Common.{nat_tests, PacketFields, Channel, Frame, packet_of, packets_in, Content, ChannelFault, Received, vector_of, Outgoing, Port, Message, Told, on_port, resent_by, resent_from, resend, told_from, route}
use Rattle.std.specs.Prelude.{if◌then◌else◌, not, is_some}
use Rattle.std.specs.List.{sum_by}
use Rattle.std.proofs.Common.{◌≡◌, ℕ, ◌+◌, ◌<◌, Bool, true, false, zero, suc, List, [], ◌∷◌, ◌++◌, length, map, get_or, set, ◌==◌, ◌&&◌, Option, Some, None, Result, Ok, Err, refl, ap, sym, ◌∙◌, arith}
use Rattle.std.proofs.lemmas.Bool.{eqb-true}
use Rattle.std.proofs.lemmas.List.{append-nil, length-append, set-get_or}
use Rattle.std.proofs.lemmas.List.Sums.{sum_by-cons}
use Rattle.interface.specs.declared.carrier.CarrierFault.TheVariants as fault
use Rattle.imp_channel.specs.declared.frame.Content.TheVariants as content
use Rattle.imp_channel.specs.declared.fault.ChannelFault.TheVariants as channel_fault
use Rattle.imp_channel.specs.declared.line.Received.TheVariants as received
use Rattle.imp_channel.specs.Line.{End, frames_of, frames_from, differs, acknowledged, all_acknowledged, acknowledgement, state_after, answer_to, is_repeat_answer}
use Rattle.imp_node.specs.State.{State, ImpTurn, host_at, port_at, down_port, with_port}
use Rattle.imp_node.specs.Arrival.{ignored, taken_frame, frame_taken, vector_heard, from_line}
use Rattle.imp_node.specs.Pump.{pump, pumped}
use Rattle.imp_node.specs.Inside.Arriving.{with_acks}
use Rattle.imp_node.specs.Arrival as arrivals
use Rattle.imp_node.specs.Resting.{IsKnown, is_repeat}
use Rattle.imp_node.specs.Room.{busy_channels, stored_count}
use Rattle.imp_node.specs.Queries.{holds_packet}
use Rattle.imp_node.specs.Taking.{first_of, taking_has_room, taken_by, next_for, to_host, to_host_refusal}

-- ---- the pump

-- a turn that ends with the pump over these packets
abbrev pumping : List Outgoing → State → List PacketFields → ImpTurn
pumping frames s waiting = record {
  state = record s { ports = (pumped s.routes s.ports waiting).ports; store = (pumped s.routes s.ports waiting).waits };
  frames = frames ++ (pumped s.routes s.ports waiting).frames;
}

abbrev pub leaving : State → List Outgoing → ImpTurn
leaving s frames = record { state = s; frames = frames }

rests : (frames : List Outgoing) (s : State) (waiting : List PacketFields) → length waiting ≡ 0 → pumping frames s waiting ≡ leaving (record s { store = waiting }) frames
rests frames s [] none = ap (leaving (record s { store = [] })) (append-nil frames)
rests frames s (p ∷ ps) none = absurd (omega (arith, none))

-- where no packet waits, the pump does nothing
pub pump_with : (frames : List Outgoing) (s : State) → length s.store ≡ 0 → pump frames s ≡ leaving s frames
pump_with frames s none = rests frames s _ none

pub pump_rests : (s : State) → length s.store ≡ 0 → pump [] s ≡ ignored s
pump_rests s none = pump_with [] s none

-- a pump that does nothing by itself does nothing after frames either
pub pump_still : (frames : List Outgoing) (s : State) → pump [] s ≡ ignored s → pump frames s ≡ leaving s frames
pump_still frames s still = ap (λ (t : ImpTurn). leaving t.state (frames ++ t.frames)) still ∙ ap (leaving s) (append-nil frames)

-- ---- what is sent again

none_by : (e : End) (c : ℕ) (bit : Bool) (packet : Option PacketFields) (rest : List Channel)
    → (length (packets_in rest) ≡ 0 → frames_from e (c + 1) rest ≡ [])
    → length (packet_of packet ++ packets_in rest) ≡ 0 → frames_of e c bit packet ++ frames_from e (c + 1) rest ≡ []
none_by e c bit None rest others none = others none
none_by e c bit (Some p) rest others none = absurd (omega (arith, none))

frames_none : (e : End) (c : ℕ) (channels : List Channel) → length (packets_in channels) ≡ 0 → frames_from e c channels ≡ []
frames_none e c [] none = refl
frames_none e c (channel ∷ rest) none = none_by e c channel.bit channel.packet rest (frames_none e (c + 1) rest) none

port_none : (up : Bool) (k : ℕ) (frames : List Frame) → frames ≡ [] → (if up then map (on_port k) frames else []) ≡ []
port_none true k frames none = ap (λ (frames : List Frame). map (on_port k) frames) none
port_none false k frames none = refl

-- a port without a busy channel sends nothing again
pub none_resent : (k : ℕ) (port : Port) → length (packets_in port.line.sending) ≡ 0 → resent_by k port ≡ []
none_resent k port none = port_none port.up k _ (frames_none port.line 0 port.line.sending none)

-- ports without a busy channel send nothing again
none_sent : (k : ℕ) (ports : List Port) → sum_by busy_channels ports ≡ 0 → resent_from k ports ≡ []
none_sent k [] none = refl
none_sent k (port ∷ ports) none =
    let both : sum_by busy_channels (port ∷ ports) ≡ length (packets_in port.line.sending) + sum_by busy_channels ports = sum_by-cons busy_channels port ports in
    ap (λ (frames : List Outgoing). frames ++ resent_from (k + 1) ports) (port_none _ k _ (frames_none port.line 0 port.line.sending (omega (arith, none, both))))
    ∙ none_sent (k + 1) ports (omega (arith, none, both))

record StoresNone (s : State) : Type 0 where
  pub waits : length s.store ≡ 0
  pub free : sum_by busy_channels s.ports ≡ 0

stores_none : (s : State) → holds_packet s ≡ false → StoresNone s
stores_none s none =
    let all : stored_count s ≡ 0 = grind (arith, nat_tests, none) in
    record { waits = omega (arith, all); free = omega (arith, all) }

-- an IMP without packets sends nothing again
pub resending_rests : (s : State) → holds_packet s ≡ false → resend s ≡ ignored s
resending_rests s none =
    let are : StoresNone s = stores_none s none in
    ap (λ (frames : List Outgoing). pump frames s) (none_sent 0 s.ports are.free) ∙ pump_rests s are.waits

-- where no packet waits it sends its distances, and nothing else
pub telling_alone : (s : State) → length s.store ≡ 0 → route s ≡ leaving s (told_from (vector_of s.routes) 0 s.ports)
telling_alone s none = pump_with _ s none

pub telling_rests : (s : State) → holds_packet s ≡ false → route s ≡ leaving s (told_from (vector_of s.routes) 0 s.ports)
telling_rests s none = telling_alone s (stores_none s none).waits

-- ---- distances that were heard last

one_free : (ack : Bool) (channel : Channel) (packet : Option PacketFields) → channel.packet ≡ packet → length (packet_of packet) ≡ 0 → acknowledged ack channel ≡ channel
one_free ack channel None is none =
    ap (λ (p : Option PacketFields). if is_some p then (if differs ack channel.bit then record { bit = not channel.bit; packet = None } else channel) else channel) is
one_free ack channel (Some p) is none = absurd (omega (arith, none))

-- acknowledgements do nothing to free channels
all_free : (acks : List Bool) (channels : List Channel) → length (packets_in channels) ≡ 0 → all_acknowledged acks channels ≡ channels
all_free acks [] none = refl
all_free [] (channel ∷ rest) none =
    let both : length (packet_of channel.packet ++ packets_in rest) ≡ length (packet_of channel.packet) + length (packets_in rest) = length-append (packet_of channel.packet) (packets_in rest) in
    ap (λ (x : Channel). x ∷ all_acknowledged [] rest) (one_free false channel _ refl (omega (arith, none, both))) ∙ ap (λ (xs : List Channel). channel ∷ xs) (all_free [] rest (omega (arith, none, both)))
all_free (ack ∷ acks) (channel ∷ rest) none =
    let both : length (packet_of channel.packet ++ packets_in rest) ≡ length (packet_of channel.packet) + length (packets_in rest) = length-append (packet_of channel.packet) (packets_in rest) in
    ap (λ (x : Channel). x ∷ all_acknowledged acks rest) (one_free ack channel _ refl (omega (arith, none, both))) ∙ ap (λ (xs : List Channel). channel ∷ xs) (all_free acks rest (omega (arith, none, both)))

port_free : (ports : List Port) (k : ℕ) → sum_by busy_channels ports ≡ 0 → length (packets_in (port_at ports k).line.sending) ≡ 0
port_free [] k none = refl
port_free (port ∷ ports) zero none = omega (arith, none, sum_by-cons busy_channels port ports)
port_free (port ∷ ports) (suc k) none = port_free ports k (omega (arith, none, sum_by-cons busy_channels port ports))

-- the pump does nothing, and no packet waits at this end for its acknowledgement
pub record IsIdle (s : State) (k : ℕ) : Type 0 where
  pub waits : pump [] s ≡ ignored s
  pub free : length (packets_in (port_at s.ports k).line.sending) ≡ 0

-- where no packet waits, acknowledgements change nothing
taken_again : (s : State) (k : ℕ) (acks : List Bool) → IsIdle s k
    → set s.ports k (record (port_at s.ports k) { line = record (port_at s.ports k).line { sending = all_acknowledged acks (port_at s.ports k).line.sending } }) ≡ s.ports
taken_again s k acks idle =
    let line : End = (port_at s.ports k).line in
    ap (λ (channels : List Channel). set s.ports k (record (port_at s.ports k) { line = record line { sending = channels } })) (all_free acks _ idle.free) ∙ set-get_or s.ports k down_port

-- where the pump does nothing, distances that were heard last do nothing when they are heard again, nor does any frame at an end that is down
pub routes_again : (up : Bool) (s : State) (k : ℕ) (acks : List Bool) (distances : List ℕ) → IsIdle s k → (up ≡ true → get_or s.routes.heard k None ≡ Some distances)
    → (if up then taken_frame (answer_to (port_at s.ports k).line (record { acks = acks; content = content.Routes distances })) k (record { acks = acks; content = content.Routes distances }) s else ignored s) ≡ ignored s
routes_again false s k acks distances idle heard = refl
routes_again true s k acks distances idle heard =
    let routes : set s.routes.heard k (Some distances) ≡ s.routes.heard = ap (set s.routes.heard k) (sym (heard refl)) ∙ set-get_or s.routes.heard k None in
    let same : vector_heard k distances (frame_taken k (record { acks = acks; content = content.Routes distances }) s) ≡ s =
    ap (λ (ports : List Port). record s { ports = ports; routes = record s.routes { heard = set s.routes.heard k (Some distances) } }) (taken_again s k acks idle)
    ∙ ap (λ (heard : List (Option (List ℕ))). record s { routes = record s.routes { heard = heard } }) routes in
    ap (λ (t : State). pump [] t) same ∙ idle.waits

-- an IMP without packets that hears again what it heard last does nothing
pub hears_again : (s : State) (k : ℕ) (acks : List Bool) (distances : List ℕ) → holds_packet s ≡ false → ((port_at s.ports k).up ≡ true → get_or s.routes.heard k None ≡ Some distances)
    → from_line s k (record { acks = acks; content = content.Routes distances }) ≡ ignored s
hears_again s k acks distances none heard =
    let are : StoresNone s = stores_none s none in
    routes_again _ s k acks distances (record { waits = pump_rests s are.waits; free = port_free _ k are.free }) heard

-- ---- a frame of which only acknowledgement bits matter

-- a frame that comes in at an end that is down is lost
pub quiet_down : (s : State) (k : ℕ) (f : Frame) → (port_at s.ports k).up ≡ false → from_line s k f ≡ ignored s
quiet_down s k f down = ap (λ (up : Bool). if up then taken_frame (answer_to (port_at s.ports k).line f) k f s else ignored s) down

known_taken : (s : State) (k : ℕ) (acks : List Bool) (brings : Content) → length s.store ≡ 0 → IsKnown s k brings
    → taken_frame (answer_to (port_at s.ports k).line (record { acks = acks; content = brings })) k (record { acks = acks; content = brings }) s ≡ ignored (with_acks k acks s)
known_taken s k acks (content.Packet carried) waits known = absurd known
known_taken s k acks content.Nothing waits known = pump_rests _ waits
known_taken s k acks (content.Routes distances) waits known =
    let routes : set s.routes.heard k (Some distances) ≡ s.routes.heard = ap (set s.routes.heard k) (sym known) ∙ set-get_or s.routes.heard k None in
    ap (λ (heard : List (Option (List ℕ))). pump [] (record (with_acks k acks s) { routes = record s.routes { heard = heard } })) routes
    ∙ pump_rests _ waits

pub quiet_taken : (s : State) (k : ℕ) (f : Frame) → (port_at s.ports k).up ≡ true → (length s.store == 0) ≡ true → IsKnown s k f.content → from_line s k f ≡ ignored (with_acks k f.acks s)
quiet_taken s k f up waits known =
    ap (λ (up : Bool). if up then taken_frame (answer_to (port_at s.ports k).line f) k f s else ignored s) up
    ∙ known_taken s k f.acks _ (eqb-true (length s.store) 0 waits) known

-- ---- a frame that brings a packet which was given before

repeat_told : (r : Result Received ChannelFault) → is_repeat_answer r ≡ true → r ≡ Ok received.Repeat
repeat_told (Ok received.Repeat) is = refl
repeat_told (Ok (received.Fresh packet)) is = cc
repeat_told (Ok received.AckOnly) is = cc
repeat_told (Ok (received.Routes distances)) is = cc
repeat_told (Err e) is = cc

by_tests : (foreign has : Bool) (e : End) (acks next : List Bool) (packet : PacketFields) → is_repeat_answer (if foreign then Err channel_fault.NotCanonical else Ok (if has then received.Fresh packet else received.Repeat)) ≡ true
    → (if foreign then e else record { sending = all_acknowledged acks e.sending; expected = if has then next else e.expected }) ≡ record e { sending = all_acknowledged acks e.sending }
by_tests true has e acks next packet is = cc
by_tests false true e acks next packet is = cc
by_tests false false e acks next packet is = refl

repeat_state : (e : End) (acks : List Bool) (brings : Content) → is_repeat_answer (answer_to e (record { acks = acks; content = brings })) ≡ true → state_after e (record { acks = acks; content = brings }) ≡ record e { sending = all_acknowledged acks e.sending }
repeat_state e acks (content.Packet carried) is =
    by_tests _ _ e acks _ _ is
repeat_state e acks content.Nothing is = cc
repeat_state e acks (content.Routes distances) is = cc

and_three : (a b c : Bool) → (a && (b && c)) ≡ true → (a ≡ true) × (b ≡ true) × (c ≡ true)
and_three true true true all = (refl, refl, refl)
and_three true true false all = cc
and_three true false c all = cc
and_three false b c all = cc

pub repeat_taken : (s : State) (k : ℕ) (f : Frame) → is_repeat s k f ≡ true
    → from_line s k f ≡ leaving (with_acks k f.acks s) (record { port = k; frame = acknowledgement (port_at (with_acks k f.acks s).ports k).line } ∷ [])
repeat_taken s k f is =
    let line : End = (port_at s.ports k).line in
    let all = and_three _ _ _ is in
    let waits : length s.store ≡ 0 = eqb-true (length s.store) 0 all.1 in
    let same : frame_taken k f s ≡ with_acks k f.acks s = ap (λ (e : End). with_port s k (record (port_at s.ports k) { line = e })) (repeat_state line f.acks f.content all.2) in
    ap (λ (up : Bool). if up then taken_frame (answer_to line f) k f s else ignored s) all.0
    ∙ ap (λ (r : Result Received ChannelFault). taken_frame r k f s) (repeat_told _ all.2)
    ∙ ap (λ (t : State). pump (arrivals.acknowledged k t) t) same
    ∙ pump_with _ _ waits

-- ---- a taking

pub record Rests (s : State) (h : ℕ) : Type 0 where
  pub accepted : to_host_refusal s h ≡ None
  pub nothing : next_for s h ≡ None
  pub unchanged : to_host s h ≡ ignored s

takes_none : (answers : List Told) (queue : List Message) (s : State) (h : ℕ) → is_some (first_of answers queue) ≡ false
    → (taking_has_room answers queue s ≡ true) × (first_of answers queue ≡ None) × (taken_by h answers queue s ≡ s)
takes_none [] [] s h none = (refl, refl, refl)
takes_none (told ∷ answers) queue s h none = absurd cc
takes_none [] (m ∷ queue) s h none = absurd cc

accepts : (there up room : Bool) → there ≡ true → up ≡ true → room ≡ true
    → (if not there then Some fault.NoSuch else (if not up then Some fault.IsDown else (if room then None else Some fault.NoRoom))) ≡ None
accepts true true true is_there is_up has = refl
accepts true true false is_there is_up has = cc
accepts true false room is_there is_up has = cc
accepts false up room is_there is_up has = cc

pub taking_still : (s : State) (h : ℕ) → h < length s.hosts → (host_at s h).up ≡ true → is_some (next_for s h) ≡ false → pump [] s ≡ ignored s → Rests s h
taking_still s h there up none still =
    let nothing = takes_none _ _ s h none in
    record {
      accepted = accepts _ _ _ (grind (arith, nat_tests, there)) up nothing.0;
      nothing = nothing.1;
      unchanged = ap (λ (t : State). pump [] t) nothing.2 ∙ still;
    }

pub taking_rests : (s : State) (h : ℕ) → h < length s.hosts → (host_at s h).up ≡ true → is_some (next_for s h) ≡ false → length s.store ≡ 0 → Rests s h
taking_rests s h there up none waits = taking_still s h there up none (pump_rests s waits)
