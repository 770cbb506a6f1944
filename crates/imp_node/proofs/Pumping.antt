-- Packets that continue to wait.
use Rattle.imp_node.proofs.Common.{PacketFields, Table, next_of, Outgoing, Port, has_route, State, port_at}
use Rattle.std.specs.Prelude.{if◌then◌else◌, is_none, is_some}
use Rattle.std.specs.List.{AllByRecursion}
use Rattle.std.proofs.Common.{◌≡◌, ℕ, ◌+◌, ◌<◌, true, List, [], ◌∷◌, ◌++◌, length, take, drop, get_or, Option, Some, None, refl, sym, ap, ◌∙◌, position, arith}
use Rattle.std.proofs.lemmas.List.{append-nil, append_assoc, drop_more, take_more}
use Rattle.imp_channel.specs.Line.{is_free, submitted, submitted_on}
use Rattle.imp_node.specs.Arrival.{ignored}
use Rattle.imp_node.specs.Pump.{Pumped, target, sent_on, packet_sent, and_then, pumped, pump, stored}

none_of : (o : Option ℕ) → is_none o ≡ true → o ≡ None
none_of None none = refl
none_of (Some k) none = cc

-- a packet whose line has no free channel stays
pub stays : (ports : List Port) (p : PacketFields) (k : ℕ) → is_none (position is_free (port_at ports k).line.sending) ≡ true → packet_sent ports p (Some k) ≡ sent_on ports 0 p None
unfolding submitted
stays ports p k full = ap (λ (o : Option ℕ). sent_on ports k p (submitted_on (port_at ports k).line p o)) (none_of _ full)

-- what the pump comes to over packets of which the first stays
skipped : (routes : Table) (ports : List Port) (store : List PacketFields) (at : ℕ) (x : PacketFields) → at < length store → x ≡ get_or store at x
    → packet_sent ports x (next_of routes (target x)) ≡ sent_on ports 0 x None
    → pumped routes ports (drop at store) ≡ and_then (sent_on ports 0 x None) (pumped routes ports (drop (at + 1) store))
skipped routes ports store at x within is stays =
    ap (pumped routes ports) (drop_more store at x within ∙ ap (λ (y : PacketFields). y ∷ drop (at + 1) store) (sym is))
    ∙ ap (λ (first : Pumped). and_then first (pumped routes first.ports (drop (at + 1) store))) stays

pub skipped_ports : (routes : Table) (ports : List Port) (store : List PacketFields) (at : ℕ) (x : PacketFields) → at < length store → x ≡ get_or store at x
    → packet_sent ports x (next_of routes (target x)) ≡ sent_on ports 0 x None
    → (pumped routes ports (drop (at + 1) store)).ports ≡ (pumped routes ports (drop at store)).ports
skipped_ports routes ports store at x within is stays = sym (ap (λ (all : Pumped). all.ports) (skipped routes ports store at x within is stays))

pub skipped_frames : (routes : Table) (ports : List Port) (store : List PacketFields) (at : ℕ) (x : PacketFields) → at < length store → x ≡ get_or store at x
    → packet_sent ports x (next_of routes (target x)) ≡ sent_on ports 0 x None
    → (pumped routes ports (drop (at + 1) store)).frames ≡ (pumped routes ports (drop at store)).frames
skipped_frames routes ports store at x within is stays = sym (ap (λ (all : Pumped). all.frames) (skipped routes ports store at x within is stays))

pub skipped_waits : (routes : Table) (ports : List Port) (store : List PacketFields) (at : ℕ) (x : PacketFields) → at < length store → x ≡ get_or store at x
    → packet_sent ports x (next_of routes (target x)) ≡ sent_on ports 0 x None
    → take (at + 1) store ++ (pumped routes ports (drop (at + 1) store)).waits ≡ take at store ++ (pumped routes ports (drop at store)).waits
skipped_waits routes ports store at x within is stays =
    ap (λ (first : List PacketFields). first ++ (pumped routes ports (drop (at + 1) store)).waits) (take_more store at x within ∙ ap (λ (y : PacketFields). take at store ++ y ∷ []) (sym is))
    ∙ append_assoc (take at store) (x ∷ []) (pumped routes ports (drop (at + 1) store)).waits
    ∙ sym (ap (λ (all : Pumped). take at store ++ all.waits) (skipped routes ports store at x within is stays))

-- packets that all stay: the pump does nothing
pub all_stay : (routes : Table) (ports : List Port) (store : List PacketFields) → AllByRecursion (λ p. packet_sent ports p (next_of routes (target p)) ≡ sent_on ports 0 p None) store
    → pumped routes ports store ≡ record { ports = ports; waits = store; frames = [] }
all_stay routes ports [] all = refl
all_stay routes ports (p ∷ ps) all =
    ap (λ (first : Pumped). and_then first (pumped routes first.ports ps)) all.0
    ∙ ap (and_then (sent_on ports 0 p None)) (all_stay routes ports ps all.1)

pub stuck_rests : (s : State) → AllByRecursion (λ p. packet_sent s.ports p (next_of s.routes (target p)) ≡ sent_on s.ports 0 p None) s.store → pump [] s ≡ ignored s
stuck_rests s all = ap (λ (done : Pumped). record { state = record s { ports = done.ports; store = done.waits }; frames = done.frames }) (all_stay _ _ _ all)

-- a packet that is stored where none waits goes at once
pub no_packets : (store : List PacketFields) → length store ≡ 0 → store ≡ []
no_packets [] none = refl
no_packets (p ∷ ps) none = absurd (omega (arith, none))

none_after : (first : Pumped) → and_then first (record { ports = first.ports; waits = []; frames = [] }) ≡ first
none_after first =
    ap (λ (waits : List PacketFields). record { ports = first.ports; waits = waits; frames = first.frames ++ [] }) (append-nil first.waits)
    ∙ ap (λ (frames : List Outgoing). record { ports = first.ports; waits = first.waits; frames = frames }) (append-nil first.frames)

sent_at_once : (routes : Table) (ports : List Port) (p : PacketFields) (o : Option ℕ) → next_of routes (target p) ≡ o → pumped routes ports (if is_some o then p ∷ [] else []) ≡ packet_sent ports p o
sent_at_once routes ports p None at = refl
sent_at_once routes ports p (Some k) at =
    ap (λ (o : Option ℕ). and_then (packet_sent ports p o) (record { ports = (packet_sent ports p o).ports; waits = []; frames = [] })) at
    ∙ none_after _

pub passed : (frames : List Outgoing) (s : State) (p : PacketFields) → length s.store ≡ 0
    → pump frames (stored p s) ≡ record {
      state = record s { ports = (packet_sent s.ports p (next_of s.routes (target p))).ports; store = (packet_sent s.ports p (next_of s.routes (target p))).waits };
      frames = frames ++ (packet_sent s.ports p (next_of s.routes (target p))).frames;
    }
passed frames s p none =
    ap (λ (done : Pumped). record { state = record s { ports = done.ports; store = done.waits }; frames = frames ++ done.frames })
    (ap (λ (ps : List PacketFields). pumped s.routes s.ports (ps ++ (if has_route s (target p) then p ∷ [] else []))) (no_packets _ none)
    ∙ sent_at_once _ _ p _ refl)
