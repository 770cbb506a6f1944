-- A host comes up: so do the sources and the destinations of all its flows.
use Rattle.subnet.proofs.Common.{slice_set, nat_tests, Host, same_host, is_host, Box, box_of, Flow, CarrierFault, guard, not_false, same_host-true, has_outstanding, View, Packet, Follows, AllFollow, IsImp, Sender, Receiver, sender, receiver, own_host, host_up_refusal, Net, imp_at, with_turn, messages_at_imp, at_imp, at_up, at_host_refusal, logging, host_started, NothingNew, IsAt, IsSound}
use Rattle.imp_node.specs.Stopping.{host_up}
use Rattle.std.proofs.Common.{◌≡◌, ℕ, ◌<◌, Bool, true, false, not, List, [], ◌∷◌, length, Option, Some, None, refl, ap, sym, subst, ◌∙◌, ◌==◌, if◌then◌else◌, inl, arith, All}
use Rattle.interface.specs.declared.carrier.CarrierFault.TheVariants as fault
use Rattle.interface.specs.declared.crossing.Crossing.TheVariants as crossing
use Rattle.link_table.proofs.lemmas.{outstanding_none}
use Rattle.flow_law.specs.Moves.{Move, CanStartSource, after_all}
use Rattle.flow_law.specs.Local.{started_host}
use Rattle.flow_law.proofs.lemmas.{makes_one, stays, up_shown}
use Rattle.imp_node.specs.State.{State, ImpTurn, is_up, is_there}
use Rattle.imp_node.specs.Moves.{Becomes, source_up, destination_up}
use Rattle.imp_node.proofs.lemmas.{at_set, host_up_becomes, host_up_imp, same_at}
use Rattle.subnet.specs.Flows.{Piece, Alive, imp_is_up, sender_at, receiver_at, view_of, view}
use Rattle.subnet.proofs.Moves.GivingUp.{given_queue}
use Rattle.subnet.proofs.Packets.HavingByEvents.{start_host_nothing}
use Rattle.subnet.proofs.Moves.QuietCalls.{formats_less}
use Rattle.subnet.proofs.Moves.Views.{view_parts, alive_less}
use Rattle.subnet.proofs.Moves.Turns.{Answerable, set_here}
use Rattle.subnet.proofs.Moves.Askable.{one_begins}
use Rattle.subnet.proofs.Moves.ManyFlows.{all_moved, at_end, kept_messages}

-- ---- the moves

-- those of a flow whose source is this host or not, and whose destination is it or not
abbrev moves : Host → Flow → List Move
moves h f = started_host (same_host f.source h) (same_host f.destination h)

started_view : (a b u w : Bool) (s : Sender) (r : Receiver) (box : Box)
    → view_of u (source_up a s) w (destination_up b r) (if a then Box.Empty else box) ≡ after_all (started_host a b) (view_of u s w r box)
started_view true true u w s r box = refl
started_view true false u w s r box = refl
started_view false true u w s r box = refl
started_view false false u w s r box = refl

follows : (a b : Bool) (old new : View) (before later : Packet → Type 0) → (a ≡ true → CanStartSource old) → (b ≡ true → old.destination ≡ false) → new ≡ after_all (started_host a b) old → ((x : Packet) → later x → before x)
    → Follows Piece (started_host a b) old new before later
follows true true old new before later source destination same less = record { needs = (destination refl, (source refl, tt)); view = same; packets = λ x l. inl (inl (less x l)) }
follows true false old new before later source destination same less = makes_one Move.StartSource old new before later (source refl) same (λ x l. inl (less x l))
follows false true old new before later source destination same less = makes_one Move.StartDestination old new before later (destination refl) same (λ x l. inl (less x l))
follows false false old new before later source destination same less = stays old new before later same less

-- ---- what they need

record Startable (n : Net) (h : Host) (s : State) : Type 0 where
  at : imp_at n.imps h.imp ≡ Some s
  host : is_host n.hosts h ≡ true
  there : h.host < length s.hosts
  down : is_up s h.host ≡ false
  settled : has_outstanding (own_host s h.host) s.sources ≡ false

can_start : (n : Net) (h : Host) (s : State) (f : Flow) → Startable n h s → IsImp h.imp s → same_host f.source h ≡ true → CanStartSource (view n f)
can_start n h s f can imp here =
    let source : f.source ≡ h = same_host-true _ h here in
    let at : imp_at n.imps f.source.imp ≡ Some s = ap (λ (x : Host). imp_at n.imps x.imp) source ∙ can.at in
    let own : own_host s h.host ≡ h = ap (λ (i : ℕ). let x : Host = record { imp = i; host = h.host } in x) imp.own in
    let ours : same_host f.source (own_host s h.host) ≡ true = ap (same_host f.source) own ∙ here in
    record {
      from_up = ap imp_is_up at;
      down = ap (λ (o : Option State). (sender_at o f).source) at ∙ ap (λ (x : Host). is_up s x.host) source ∙ can.down;
      idle = ap (λ (o : Option State). (sender_at o f).outstanding) at ∙ outstanding_none _ _ can.settled f ours;
    }

is_down : (n : Net) (h : Host) (s : State) (f : Flow) → Startable n h s → same_host f.destination h ≡ true → (view n f).destination ≡ false
is_down n h s f can here =
    let destination : f.destination ≡ h = same_host-true _ h here in
    let at : imp_at n.imps f.destination.imp ≡ Some s = ap (λ (x : Host). imp_at n.imps x.imp) destination ∙ can.at in
    ap (λ (o : Option State). (receiver_at o f).destination) at ∙ ap (λ (x : Host). is_up s x.host) destination ∙ can.down

-- ---- what they change

new_view : (n : Net) (h : Host) (s : State) (f : Flow) → imp_at n.imps h.imp ≡ Some s → h.host < length s.hosts
    → view (logging (crossing.Up h ∷ []) (with_turn h.imp (host_up s h.host) n)) f ≡ after_all (moves h f) (view n f)
new_view n h s f there within =
    let t : State = (host_up s h.host).state in
    let imps : List (Option State) = slice_set n.imps h.imp (Some t) in
    let i : ℕ = f.source.imp in
    let j : ℕ = f.destination.imp in
    let a : Bool = f.source.host == h.host in
    let b : Bool = f.destination.host == h.host in
    let becomes : Becomes s t f (source_up a (sender s f)) (destination_up b (receiver s f)) = host_up_becomes s h.host f within in
    let set : imp_at imps h.imp ≡ Some t = set_here n.imps h.imp _ s there in
    let box : Box = if same_host f.source h then Box.Empty else box_of f n.log in
    view_parts
    _ _
    _ _
    _ _
    _ _
    box
    (same_at imp_is_up n.imps h.imp i (Some t) None (ap imp_is_up (sym there)))
    (at_end (λ (o : Option State). sender_at o f) source_up n.imps h.imp i _ a (λ x. refl) set (becomes.sender ∙ ap (λ (o : Option State). source_up a (sender_at o f)) (sym there)))
    (same_at imp_is_up n.imps h.imp j (Some t) None (ap imp_is_up (sym there)))
    (at_end (λ (o : Option State). receiver_at o f) destination_up n.imps h.imp j _ b (λ x. refl) set (becomes.receiver ∙ ap (λ (o : Option State). destination_up b (receiver_at o f)) (sym there)))
    ∙ started_view _ _ _ _ _ _ _

none_begins : (a b : Bool) → one_begins (started_host a b) ≡ false
none_begins true true = refl
none_begins true false = refl
none_begins false true = refl
none_begins false false = refl

-- ---- the event

started : (n : Net) (h : Host) (s : State) → Startable n h s → IsSound n → IsSound (logging (crossing.Up h ∷ []) (with_turn h.imp (host_up s h.host) n))
started n h s can is =
    let turn : ImpTurn = host_up s h.host in
    let m : Net = logging (crossing.Up h ∷ []) (with_turn h.imp turn n) in
    let there : imp_at n.imps h.imp ≡ Some s = can.at in
    let imp : IsImp h.imp s = subst (IsAt h.imp) there (is.imps h.imp) in
    let among : NothingNew n m = subst (λ (o : Option State). NothingNew n (logging (crossing.Up h ∷ []) (at_imp o h.imp (λ (t : State). host_up t h.host) n))) there (start_host_nothing n h) in
    let follow : AllFollow Piece n.hosts (crossing.Up h ∷ []) n.log (moves h) (view n) (view m) (Alive n) (Alive m) = record {
      follows = λ f. follows (same_host f.source h) (same_host f.destination h) (view n f) (view m f) (Alive n f) (Alive m f) (can_start n h s f can imp) (is_down n h s f can) (new_view n h s f there can.there) (λ x. alive_less n m f x among);
      shown = λ f. up_shown f h n.log (view n f);
      ups = (can.host, tt);
    } in
    all_moved n m.imps m.lines (crossing.Up h ∷ []) (moves h) follow
    (λ k. at_set IsAt n.imps h.imp k (Some turn.state) None (is.imps k) (host_up_imp h.imp s h.host imp))
    (formats_less n m among is.formats)
    (subst (All Answerable) (sym (kept_messages n.imps h.imp _
    (given_queue _ h.host _ refl ∙ ap messages_at_imp (sym there)))) is.answers)
    (λ f. none_begins (same_host f.source h) (same_host f.destination h))
    is

pub host_up_sound : (n : Net) (h : Host) → at_host_refusal n h host_up_refusal ≡ None → IsSound n → IsSound (host_started n h)
host_up_sound n h allowed is =
    let last : Option CarrierFault = at_up (imp_at n.imps h.imp) (λ s. host_up_refusal s h.host) in
    let known : (not (is_host n.hosts h) ≡ false) × (last ≡ None) = guard _ _ last allowed in
    by (imp_at n.imps h.imp) refl (not_false _ known.0) known.1
  where
    by : (o : Option State) → imp_at n.imps h.imp ≡ o → is_host n.hosts h ≡ true → at_up o (λ s. host_up_refusal s h.host) ≡ None → IsSound (logging (crossing.Up h ∷ []) (at_imp o h.imp (λ s. host_up s h.host) n))
    by None at host own = absurd (cc)
    by (Some s) at host own =
        let third : Option CarrierFault = if has_outstanding (own_host s h.host) s.sources then Some fault.Unsettled else None in
        let second : Option CarrierFault = if is_up s h.host then Some fault.IsUp else third in
        let there : (not (is_there s h.host) ≡ false) × (second ≡ None) = guard _ _ second own in
        let down : (is_up s h.host ≡ false) × (third ≡ None) = guard _ _ third there.1 in
        let settled : (has_outstanding (own_host s h.host) s.sources ≡ false) × (let rest : Option CarrierFault = None in rest ≡ None) = guard _ _ None down.1 in
        let within : is_there s h.host ≡ true = not_false _ there.0 in
        started n h s (record { at = at; host = host; there = grind (arith, nat_tests, within); down = down.0; settled = settled.0 }) is
