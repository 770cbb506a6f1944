-- A message is given up.
use Rattle.subnet.proofs.Common.{flat_map, cases_Bool, and_from, All-contains, All-head, All-tail, All-cons, All-nil, same_flow, is_host, Flow, CarrierFault, guard, same_flow-refl, same_flow-true, PacketFields, IsPacket, flow_of, Packet, Queued, Message, State, HostState, ImpTurn, no_host, host_at, answer_packet, given, is_own, sender, receiver, ended_with, Moved, give_up, give_up_refusal, Net, imp_at, with_turn, packets, messages, is_alive, NothingNew, IsAt, IsSound}
use Rattle.std.proofs.Common.{◌≡◌, ◌≢◌, ℕ, zero, suc, Bool, true, false, not, List, [], ◌∷◌, ◌++◌, ◌&&◌, ◌==◌, get_or, set, map, Option, Some, None, refl, ap, sym, ◌∙◌, subst, inl, inr, eq-eqb, All, Contains}
use Rattle.std.specs.Prelude.{is_none, slice_set}
use Rattle.interface.specs.declared.carrier.CarrierFault.TheVariants as fault
use Rattle.interface.specs.declared.crossing.Answer.TheVariants as answer
use Rattle.packetiser.specs.declared.packet.PacketKind.TheVariants as kind
use Rattle.flow_law.specs.Moves.{GiveUp, CanGiveUp, view_moved}
use Rattle.flow_law.specs.Follows.{OneFollows}
use Rattle.flow_law.proofs.lemmas.{makes_one, one_follows}
use Rattle.imp_node.specs.Queries.{outstanding, packet_has}
use Rattle.imp_node.proofs.lemmas.{at_set, give_up_imp, give_up_moves, same_at}
use Rattle.subnet.specs.Events.{at_imp, at_up, first_of, give_up_alive, outstanding_at, giving_up_refusal}
use Rattle.subnet.specs.Flows.{Piece, Alive, queued_of, imp_is_up, sender_at, receiver_at, view}
use Rattle.subnet.proofs.Packets.HavingByEvents.{give_up_nothing}
use Rattle.subnet.proofs.Moves.Askable.{Askable, same_askable, moved_askable}
use Rattle.subnet.proofs.Moves.QuietCalls.{formats_less}
use Rattle.subnet.proofs.Calls.Silence.{NotIn, NotOf, not_alive, queue_silent}
use Rattle.subnet.proofs.Moves.Views.{view_parts, turn_view, alive_less, held_messages}

-- ---- what the move needs

-- a packet with this number would have been found
pub no_packet : (n : Net) (f : Flow) (number : ℕ) → All (NotIn f number) (packets n) → (x : Packet) → Alive n f x → x.number ≢ number
no_packet n f number silent x a same =
    let p : PacketFields = a.fields in
    let missing : packet_has f number p ≡ false = All-contains (NotIn f number) (packets n) p silent a.there in
    let ours : same_flow f (flow_of p) ≡ true = ap (same_flow f) a.flow ∙ same_flow-refl f in
    let found : packet_has f number p ≡ true = and_from (same_flow f (flow_of p)) (p.number == number) ours (eq-eqb p.number number (ap (λ (y : Packet). y.number) a.packet ∙ same)) in
    let both : true ≡ false = sym found ∙ missing in
    absurd (cc)

-- and so would a message in the queue
no_queued : (number : ℕ) (ms : List Message) → All (λ m. (m.number == number) ≡ false) ms → All (λ q. (q.number == number) ≡ false) (map queued_of ms)
no_queued number [] all = All-nil (λ (q : Queued). (q.number == number) ≡ false)
no_queued number (m ∷ ms) all =
    let Apart : Message → Type 0 = λ x. (x.number == number) ≡ false in
    All-cons (λ (q : Queued). (q.number == number) ≡ false) (queued_of m) (map queued_of ms) (All-head Apart m ms all) (no_queued number ms (All-tail Apart m ms all))

unread : (n : Net) (f : Flow) (number : ℕ) → All (NotOf f number) (messages n) → (q : Queued) → Contains (view n f).queue q → q.number ≢ number
unread n f number silent q there same =
    let missing : (q.number == number) ≡ false = All-contains (λ (r : Queued). (r.number == number) ≡ false) (view n f).queue q (no_queued number _ (queue_silent n f number silent)) there in
    let both : true ≡ false = sym (eq-eqb q.number number same) ∙ missing in
    absurd (cc)

-- ---- what it changes

-- a host gets an answer: its queue stays
pub given_queue : (hosts : List HostState) (h : ℕ) (x : HostState) → x.queue ≡ (get_or hosts h no_host).queue → flat_map (λ (y : HostState). y.queue) (set hosts h x) ≡ flat_map (λ (y : HostState). y.queue) hosts
given_queue [] h x same = refl
given_queue (y ∷ hosts) zero x same = ap (λ (ms : List Message). ms ++ flat_map (λ (z : HostState). z.queue) hosts) same
given_queue (y ∷ hosts) (suc h) x same = ap (λ (ms : List Message). y.queue ++ ms) (given_queue hosts h x same)

given_up_view : (n : Net) (f : Flow) (s : State) (number : ℕ) → imp_at n.imps f.source.imp ≡ Some s → Moved s (give_up s f).state f (ended_with answer.Incomplete (sender s f)) (receiver s f)
    → view (with_turn f.source.imp (give_up s f) n) f ≡ view_moved (GiveUp number) (view n f)
given_up_view n f s number at moved =
    let i : ℕ = f.source.imp in
    let j : ℕ = f.destination.imp in
    let t : State = (give_up s f).state in
    let imps : List (Option State) = slice_set n.imps i (Some t) in
    let old : sender_at (imp_at n.imps i) f ≡ sender s f = ap (λ (o : Option State). sender_at o f) at in
    let here : imp_at imps i ≡ Some t = set_at n.imps i _ s at in
    let new : sender_at (imp_at imps i) f ≡ ended_with answer.Incomplete (sender_at (imp_at n.imps i) f) =
    ap (λ (o : Option State). sender_at o f) here ∙ moved.sender ∙ ap (ended_with answer.Incomplete) (sym old) in
    view_parts
    _ _
    _ _
    _ _
    _ _
    _
    (same_at imp_is_up n.imps i i (Some t) None (ap imp_is_up (sym at)))
    new
    (same_at imp_is_up n.imps i j (Some t) None (ap imp_is_up (sym at)))
    (same_at (λ (o : Option State). receiver_at o f) n.imps i j (Some t) None (moved.receiver ∙ ap (λ (o : Option State). receiver_at o f) (sym at)))
  where
    set_at : (imps : List (Option State)) (i : ℕ) (o : Option State) (u : State) → imp_at imps i ≡ Some u → imp_at (slice_set imps i o) i ≡ o
    set_at [] i o u at = absurd (cc)
    set_at (p ∷ imps) zero o u at = refl
    set_at (p ∷ imps) (suc i) o u at = set_at imps i o u at

-- ---- the event

given_up_turn : (n : Net) (f : Flow) (s : State) (number : ℕ) → imp_at n.imps f.source.imp ≡ Some s → outstanding s f ≡ Some number → is_alive n f number ≡ false → give_up_refusal s f ≡ None
    → IsSound n → IsSound (with_turn f.source.imp (give_up s f) n)
given_up_turn n f s number at awaited dead accepted is =
    let i : ℕ = f.source.imp in
    let turn : ImpTurn = give_up s f in
    let m : Net = with_turn i turn n in
    let none : All (NotIn f number) (packets n) × All (NotOf f number) (messages n) = not_alive n f number dead in
    let moved : Moved s turn.state f (ended_with answer.Incomplete (sender s f)) (receiver s f) = give_up_moves s f in
    let among : NothingNew n m = subst (λ (o : Option State). NothingNew n (at_imp o i (λ (t : State). give_up t f) n)) at (give_up_nothing n i f) in
    let needs : CanGiveUp (view n f) (Alive n f) number = record {
      awaited = ap (λ (o : Option State). (sender_at o f).outstanding) at ∙ awaited;
      no_request = λ x a request. no_packet n f number none.0 x a;
      unread = unread n f number none.1;
    } in
    let one : OneFollows Piece [] n.log f (GiveUp number ∷ []) (view n) (view m) (Alive n) (Alive m) = record {
      here = makes_one _ _ _ _ _ needs (given_up_view n f s number at moved) (λ x later. inl (alive_less n m f x among later));
      shown = refl;
      view = λ g other. turn_view n i s turn g at (moved.others g other);
      packets = λ g other x. alive_less n m g x among;
      unseen = λ g other. refl;
    } in
    record {
      flows = one_follows _ [] n.log f _ _ _ _ _ tt one is.flows;
      imps = λ k. at_set IsAt n.imps i k (Some turn.state) None (is.imps k) (give_up_imp i s f accepted (subst (IsAt i) at (is.imps i)));
      formats = formats_less n m among is.formats;
      answers = subst (All (λ (q : Message). IsPacket (answer_packet kind.Rfnm q.flow q.number))) (sym (held_messages n.imps i s _ at (given_queue s.hosts f.source.host (given (host_at s f.source.host) (record { kind = answer.Incomplete; flow = f })) refl))) is.answers;
      askable = λ g. elim (cases_Bool (same_flow g f)) [
        | inl same ↦ subst (Askable m) (sym (same_flow-true g f same)) (moved_askable n m f (GiveUp number ∷ []) (given_up_view n f s number at moved) refl is)
        | inr other ↦ same_askable n m g (turn_view n i s turn g at (moved.others g other)) is
      ];
    }

pub give_up_sound : (n : Net) (f : Flow) → giving_up_refusal n f ≡ None → IsSound n → IsSound (at_imp (imp_at n.imps f.source.imp) f.source.imp (λ s. give_up s f) n)
give_up_sound n f accepted is =
    let i : ℕ = f.source.imp in
    let last : Option CarrierFault = at_up (imp_at n.imps i) (λ s. give_up_refusal s f) in
    let alive : Bool = give_up_alive n f (outstanding_at (imp_at n.imps i) f) in
    let there : (not (is_host n.hosts f.source) ≡ false) × (first_of alive fault.StillAlive last ≡ None) = guard _ _ _ accepted in
    let dead : (alive ≡ false) × (last ≡ None) = guard alive _ last there.1 in
    by (imp_at n.imps i) refl dead.0 dead.1
  where
    named : (s : State) → imp_at n.imps f.source.imp ≡ Some s → give_up_refusal s f ≡ None → (o : Option ℕ) → outstanding s f ≡ o → is_none o ≡ false → give_up_alive n f o ≡ false → IsSound (with_turn f.source.imp (give_up s f) n)
    named s at own None awaited some dead = absurd (cc)
    named s at own (Some number) awaited some dead = given_up_turn n f s number at awaited dead own is

    by : (o : Option State) → imp_at n.imps f.source.imp ≡ o → give_up_alive n f (outstanding_at o f) ≡ false → at_up o (λ s. give_up_refusal s f) ≡ None → IsSound (at_imp o f.source.imp (λ s. give_up s f) n)
    by None at dead own = absurd (cc)
    by (Some s) at dead own =
        let last : Option CarrierFault = first_of _ _ None in
        let host : (not (is_own s f.source) ≡ false) × (last ≡ None) = guard _ _ last own in
        let some : (is_none (outstanding s f) ≡ false) × (let rest : Option CarrierFault = None in rest ≡ None) = guard _ _ None host.1 in
        named s at own (outstanding s f) refl some.0 dead
