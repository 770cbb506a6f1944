-- A packet that is passed on at once.
use Rattle.imp_node.proofs.Common.{nat_tests, PacketFields, acknowledgement, answer_to, ChannelFault, Frame, Received, next_of, Outgoing, lost_by, State, ImpTurn, number, port_at}
use Rattle.std.specs.Prelude.{if◌then◌else◌, option_to_list}
use Rattle.std.proofs.Common.{◌≡◌, ℕ, Bool, true, false, not, List, ◌∷◌, ◌++◌, length, nat_lt, ◌==◌, ◌&&◌, Option, Result, Ok, refl, ap, sym, subst, ◌∙◌, arith}
use Rattle.std.proofs.lemmas.Bool.{eqb-true, and_parts}
use Rattle.imp_channel.specs.declared.line.Received.TheVariants as received
use Rattle.imp_node.specs.Arrival.{Arrival, Passing, arrival, arrival_by, arrival_has_room, arrived, acknowledged, frame_taken, from_line}
use Rattle.imp_node.specs.Pump.{target, packet_sent, pump}
use Rattle.imp_node.specs.Resting.{brings_passing, passes}
use Rattle.imp_node.specs.Room.{has_room_to}
use Rattle.imp_node.specs.Turns.{from_line_grows}
use Rattle.imp_node.proofs.Arrivals.{from_line_fresh}
use Rattle.imp_node.proofs.Pumping.{passed}
use Rattle.interface.proofs.lemmas.{not_true}

untrue : false ≡ true → ⊥
untrue e = cc

some_sent : (out : Outgoing) (outs : List Outgoing) → nat_lt 0 (length (out ∷ outs)) ≡ true
some_sent out outs = grind (arith, nat_tests)

-- what a frame that is passed on has
record IsPassing (s : State) (k : ℕ) (f : Frame) : Type 0 where
  pub up : (port_at s.ports k).up ≡ true
  pub waits : length s.store ≡ 0
  pub brings : brings_passing (answer_to (port_at s.ports k).line f) s ≡ true

is_passing : (s : State) (k : ℕ) (f : Frame) → passes s k f ≡ true → IsPassing s k f
is_passing s k f is =
    let all = and_parts (port_at s.ports k).up (length s.store == 0 && brings_passing (answer_to (port_at s.ports k).line f) s) is in
    let rest = and_parts (length s.store == 0) (brings_passing (answer_to (port_at s.ports k).line f) s) all.1 in
    record { up = all.0; waits = eqb-true (length s.store) 0 rest.0; brings = rest.1 }

pub none_waits : (s : State) (k : ℕ) (f : Frame) → passes s k f ≡ true → length s.store ≡ 0
none_waits s k f is = (is_passing s k f is).waits

-- it brings no other thing than a packet that wasn't given before
pub no_repeat : (s : State) (k : ℕ) (f : Frame) → passes s k f ≡ true → answer_to (port_at s.ports k).line f ≡ Ok received.Repeat → ⊥
no_repeat s k f is answer = untrue (subst (λ (r : Result Received ChannelFault). brings_passing r s ≡ true) answer (is_passing s k f is).brings)

pub no_acks : (s : State) (k : ℕ) (f : Frame) → passes s k f ≡ true → answer_to (port_at s.ports k).line f ≡ Ok received.AckOnly → ⊥
no_acks s k f is answer = untrue (subst (λ (r : Result Received ChannelFault). brings_passing r s ≡ true) answer (is_passing s k f is).brings)

pub no_routes : (s : State) (k : ℕ) (f : Frame) (distances : List ℕ) → passes s k f ≡ true → answer_to (port_at s.ports k).line f ≡ Ok (received.Routes distances) → ⊥
no_routes s k f distances is answer = untrue (subst (λ (r : Result Received ChannelFault). brings_passing r s ≡ true) answer (is_passing s k f is).brings)

-- a packet for another IMP, with room
record Goes (s : State) (p : PacketFields) : Type 0 where
  pub passing : arrival s p ≡ Passing
  pub room : has_room_to s (target p) ≡ true

goes : (s : State) (p : PacketFields) → (not (target p == number s) && has_room_to s (target p)) ≡ true → Goes s p
goes s p is =
    let both = and_parts (not (target p == number s)) (has_room_to s (target p)) is in
    record { passing = ap (λ (b : Bool). if b then arrival_by p.kind s p else Passing) (not_true _ both.0); room = both.1 }

goes_on : (s : State) (k : ℕ) (f : Frame) (p : PacketFields) → passes s k f ≡ true → answer_to (port_at s.ports k).line f ≡ Ok (received.Fresh p) → Goes s p
goes_on s k f p is answer = goes s p (subst (λ (r : Result Received ChannelFault). brings_passing r s ≡ true) answer (is_passing s k f is).brings)

kept : (s : State) (p : PacketFields) (r : Result Received ChannelFault) → r ≡ Ok (received.Fresh p) → Goes s p → lost_by r s ≡ false
kept s p r answer on =
    ap (λ (r : Result Received ChannelFault). lost_by r s) answer
    ∙ ap (λ (a : Arrival). not (arrival_has_room a s p)) on.passing
    ∙ ap not on.room

-- the acknowledgement goes first, and then the packet's frame, if there is one
pub passed_on : (s new : State) (k : ℕ) (f : Frame) (p : PacketFields) (ack : Frame) (on : Option Outgoing) → passes s k f ≡ true → answer_to (port_at s.ports k).line f ≡ Ok (received.Fresh p)
    → ack ≡ acknowledgement (port_at (frame_taken k f s).ports k).line
    → new ≡ record (frame_taken k f s) {
      ports = (packet_sent (frame_taken k f s).ports p (next_of (frame_taken k f s).routes (target p))).ports;
      store = (packet_sent (frame_taken k f s).ports p (next_of (frame_taken k f s).routes (target p))).waits;
    }
    → option_to_list on ≡ (packet_sent (frame_taken k f s).ports p (next_of (frame_taken k f s).routes (target p))).frames
    → from_line s k f ≡ record { state = new; frames = record { port = k; frame = ack } ∷ option_to_list on }
passed_on s new k f p ack on is answer back after sent =
    let facts : IsPassing s k f = is_passing s k f is in
    let t : State = frame_taken k f s in
    let to : Goes s p = goes_on s k f p is answer in
    from_line_fresh s k f p facts.up answer (kept s p _ answer to)
    ∙ (ap (λ (a : Arrival). pump (acknowledged k t) (arrived a p t)) to.passing
    ∙ (passed (acknowledged k t) t p facts.waits
    ∙ (ap (λ (frames : List Outgoing). record {
      state = record t { ports = (packet_sent t.ports p (next_of t.routes (target p))).ports; store = (packet_sent t.ports p (next_of t.routes (target p))).waits };
      frames = acknowledged k t ++ frames;
    }) (sym sent)
    ∙ (ap (λ (u : State). record { state = u; frames = acknowledged k t ++ option_to_list on }) (sym after)
    ∙ ap (λ (a : Frame). record { state = new; frames = record { port = k; frame = a } ∷ option_to_list on }) (sym back)))))

-- so memory may be wanted
pub passing_grows : (s : State) (k : ℕ) (f : Frame) (p : PacketFields) → passes s k f ≡ true → answer_to (port_at s.ports k).line f ≡ Ok (received.Fresh p) → from_line_grows s k f ≡ true
passing_grows s k f p is answer =
    let facts : IsPassing s k f = is_passing s k f is in
    let t : State = frame_taken k f s in
    let to : Goes s p = goes_on s k f p is answer in
    ap (λ (turn : ImpTurn). nat_lt 0 (length turn.frames)) (from_line_fresh s k f p facts.up answer (kept s p _ answer to))
    ∙ some_sent (record { port = k; frame = acknowledgement (port_at t.ports k).line }) _
