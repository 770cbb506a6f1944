-- The pump moves in one pass all that it can move: a second pass finds nothing.
use Rattle.subnet_trace.proofs.Common.{◌≡◌, ℕ, List, [], ◌∷◌, ◌++◌, Option, Some, None, refl, sym, ap, ◌∙◌, subst, get_or-set_other, PacketFields, Frame, Table, next_of, Outgoing, Port}
use Rattle.imp_channel.specs.Line.{End, is_free, submitted_on, submitted}
use Rattle.imp_node.specs.Pump.{Pumped, packet_sent, pump, pumped, sent_on, target, and_then}
use Rattle.imp_node.specs.State.{State, down_port, port_at}
use Rattle.std.specs.List.{position}

-- no channel of this end is free, so that a packet waits for one
abbrev IsFull : End → Type 0
IsFull e = position is_free e.sending ≡ None

full_waits : (e : End) (p : PacketFields) → IsFull e → submitted e p ≡ None
unfolding submitted
full_waits e p full = ap (λ o. submitted_on e p o) full

-- a packet that was not put in found no free channel
submitted_fully : (e : End) (p : PacketFields) → submitted e p ≡ None → IsFull e
unfolding submitted
submitted_fully e p none = by (position is_free e.sending) none where
  by : (o : Option ℕ) → submitted_on e p o ≡ None → o ≡ None
  by None h = refl
  by (Some c) h = absurd (cc)

-- a packet waits where its route's port is full
record Waits (routes : Table) (ports : List Port) (p : PacketFields) : Type 0 where
  port : ℕ
  route : next_of routes (target p) ≡ Some port
  full : IsFull (port_at ports port).line

abbrev AllWait : Table → List Port → List PacketFields → Type 0
AllWait routes ports [] = Unit {0}
AllWait routes ports (p ∷ ps) = Waits routes ports p × AllWait routes ports ps

both_wait : (routes : Table) (ports : List Port) (ps qs : List PacketFields) → AllWait routes ports ps → AllWait routes ports qs → AllWait routes ports (ps ++ qs)
both_wait routes ports [] qs h k = k
both_wait routes ports (p ∷ ps) qs h k = (h.0, both_wait routes ports ps qs h.1 k)

-- ---- a full port stays as it is

abbrev Same : List Port → List Port → ℕ → Type 0
Same ports after k = port_at after k ≡ port_at ports k

sent_same : (ports : List Port) (p : PacketFields) (o : Option ℕ) (k : ℕ) → IsFull (port_at ports k).line → Same ports (packet_sent ports p o).ports k
sent_same ports p None k full = refl
sent_same ports p (Some j) k full = by (submitted (port_at ports j).line p) refl where
  here : k ≡ j → submitted (port_at ports j).line p ≡ None
  here same = full_waits (port_at ports j).line p (subst (λ (i : ℕ). IsFull (port_at ports i).line) same full)

  by : (r : Option (End × Frame)) → submitted (port_at ports j).line p ≡ r → Same ports (sent_on ports j p r).ports k
  by None e = refl
  by (Some (end, frame)) e = get_or-set_other ports j k (record (port_at ports j) { line = end }) down_port (λ same. let bad : None ≡ Some (end, frame) = sym (here same) ∙ e in absurd (cc))

pumped_same : (routes : Table) (ports : List Port) (ps : List PacketFields) (k : ℕ) → IsFull (port_at ports k).line → Same ports (pumped routes ports ps).ports k
pumped_same routes ports [] k full = refl
pumped_same routes ports (p ∷ ps) k full =
    let one : Same ports (packet_sent ports p (next_of routes (target p))).ports k = sent_same ports p _ k full in
    pumped_same routes (packet_sent ports p (next_of routes (target p))).ports ps k (subst (λ (q : Port). IsFull q.line) (sym one) full) ∙ one

waits_on : (routes : Table) (ports after : List Port) (ps : List PacketFields) → ((k : ℕ) → IsFull (port_at ports k).line → Same ports after k) → AllWait routes ports ps → AllWait routes after ps
waits_on routes ports after [] same h = tt
waits_on routes ports after (p ∷ ps) same h = (
  record { port = h.0.port; route = h.0.route; full = subst (λ (q : Port). IsFull q.line) (sym (same h.0.port h.0.full)) h.0.full },
  waits_on routes ports after ps same h.1,
)

-- ---- what still waits waits for a full port

sent_waits : (routes : Table) (ports : List Port) (p : PacketFields) (o : Option ℕ) → next_of routes (target p) ≡ o → AllWait routes (packet_sent ports p o).ports (packet_sent ports p o).waits
sent_waits routes ports p None route = tt
sent_waits routes ports p (Some k) route = by (submitted (port_at ports k).line p) refl where
  by : (r : Option (End × Frame)) → submitted (port_at ports k).line p ≡ r → AllWait routes (sent_on ports k p r).ports (sent_on ports k p r).waits
  by None e = (record { port = k; route = route; full = submitted_fully _ p e }, tt)
  by (Some (end, frame)) e = tt

pumped_waits : (routes : Table) (ports : List Port) (ps : List PacketFields) → AllWait routes (pumped routes ports ps).ports (pumped routes ports ps).waits
pumped_waits routes ports [] = tt
pumped_waits routes ports (p ∷ ps) =
    let first : Pumped = packet_sent ports p (next_of routes (target p)) in
    let rest : Pumped = pumped routes first.ports ps in
    both_wait routes _ _ _
    (waits_on routes _ _ _ (λ k full. pumped_same routes first.ports ps k full) (sent_waits routes ports p _ refl))
    (pumped_waits routes first.ports ps)

-- ---- a second pass

still : List Port → List PacketFields → Pumped
still ports ps = record { ports = ports; waits = ps; frames = [] }

one_still : (routes : Table) (ports : List Port) (p : PacketFields) → Waits routes ports p → packet_sent ports p (next_of routes (target p)) ≡ still ports (p ∷ [])
unfolding still
one_still routes ports p w =
    ap (λ (o : Option ℕ). packet_sent ports p o) w.route ∙ ap (λ o. sent_on ports w.port p o) (full_waits _ p w.full)

all_still : (routes : Table) (ports : List Port) (ps : List PacketFields) → AllWait routes ports ps → pumped routes ports ps ≡ still ports ps
unfolding still
all_still routes ports [] h = refl
all_still routes ports (p ∷ ps) h =
    ap (λ (one : Pumped). and_then one (pumped routes one.ports ps)) (one_still routes ports p h.0)
    ∙ ap (λ (rest : Pumped). and_then (still ports (p ∷ [])) rest) (all_still routes ports ps h.1)

-- an IMP in which the pump would move nothing
abbrev pub IsStill : State → Type 0
IsStill s = pump [] s ≡ record { state = s; frames = [] }

pub pump_still : (frames : List Outgoing) (s : State) → IsStill (pump frames s).state
unfolding still
pump_still frames s =
    let p : Pumped = pumped s.routes s.ports s.store in
    let t : State = record s { ports = p.ports; store = p.waits } in
    ap (λ (q : Pumped). record { state = record t { ports = q.ports; store = q.waits }; frames = [] ++ q.frames }) (all_still _ _ _ (pumped_waits _ _ _))
