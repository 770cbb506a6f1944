-- An IMP starts, empty: so do the ends of all flows from it and to it.
use Rattle.subnet.proofs.Common.{get-empty, flat_map, list_any, All-nil, All-head, All-tail, All-contains, same_flow, flow_cmp, Box, Flow, CarrierFault, guard, or_false, same_flow-true, last_in, outstanding_in, PacketFields, View, Packet, is_request, Move, after_all, shown_by, Follows, AllFollow, Message, Told, State, HostState, no_host, host_at, number, IsImp, Sender, Receiver, sender, receiver, answers_of, messages_of, Net, imp_at, ends_at, packets, messages, messages_at_imp, has_flow, is_remembered, says, is_awaited, NothingNew, IsAt, IsSound}
use Rattle.std.proofs.Common.{◌≡◌, ℕ, zero, suc, Bool, true, false, not, List, [], ◌∷◌, ◌++◌, map, get_or, Option, Some, None, is_some, refl, ap, sym, subst, ◌∙◌, ◌==◌, ◌&&◌, ◌||◌, if◌then◌else◌, eqb-true, inl, inr, ◌⊎◌, cond, replicate, All}
use Rattle.std.specs.Prelude.{slice_set, count_by}
use Rattle.interface.specs.declared.carrier.CarrierFault.TheVariants as fault
use Rattle.flow_law.proofs.lemmas.{makes_one, stays}
use Rattle.imp_node.specs.State as imp
use Rattle.imp_node.specs.Queries.{is_at_end, packet_touches, message_touches, awaits}
use Rattle.imp_node.proofs.lemmas.{at_set, opening_imp, same_at, same_receiver, same_sender}
use Rattle.subnet.specs.Events.{first_of, is_imp, site_at, hosts_at, started_imp, starting_refusal, imp_started}
use Rattle.subnet.specs.Flows.{Piece, Alive, queued_of, no_sender, no_receiver, imp_is_up, sender_at, receiver_at, view_of, view}
use Rattle.subnet.proofs.Packets.HavingByEvents.{start_imp_nothing}
use Rattle.subnet.proofs.Moves.Forgetting.{none_awaited}
use Rattle.subnet.proofs.Moves.QuietCalls.{formats_less}
use Rattle.subnet.proofs.Calls.Silence.{nowhere, host_queue, queue_all}
use Rattle.subnet.proofs.Moves.Views.{view_parts, alive_less}
use Rattle.subnet.proofs.Moves.Turns.{Answerable}
use Rattle.subnet.proofs.Moves.Askable.{one_begins}
use Rattle.subnet.proofs.Moves.ManyFlows.{all_moved, at_end, kept_messages, and_true_is}

-- ---- an IMP that just started

down_hosts : {X : Type 0} (F : HostState → X) (count h : ℕ) → F (get_or (replicate count no_host) h no_host) ≡ F no_host
down_hosts F zero h = refl
down_hosts F (suc count) zero = refl
down_hosts F (suc count) (suc h) = down_hosts F count h

none_wait : (count : ℕ) → flat_map (λ (h : HostState). h.queue) (replicate count no_host) ≡ []
none_wait zero = refl
none_wait (suc count) = none_wait count

started_sender : (i hosts ports : ℕ) (f : Flow) → sender (started_imp i hosts ports) f ≡ no_sender
started_sender i hosts ports f =
    let s : State = started_imp i hosts ports in
    same_sender _ false _ None _ None _ []
    (down_hosts (λ (h : HostState). h.up) hosts f.source.host) (ap last_in (get-empty flow_cmp f)) (ap outstanding_in (get-empty flow_cmp f))
    (down_hosts (λ (h : HostState). answers_of f h.answers) hosts f.source.host)

started_receiver : (i hosts ports : ℕ) (f : Flow) → receiver (started_imp i hosts ports) f ≡ no_receiver
started_receiver i hosts ports f =
    let s : State = started_imp i hosts ports in
    same_receiver _ false _ None _ []
    (down_hosts (λ (h : HostState). h.up) hosts f.destination.host) (get-empty flow_cmp f)
    (down_hosts (λ (h : HostState). messages_of f h.queue) hosts f.destination.host)

started_is : (i hosts ports : ℕ) → IsImp i (started_imp i hosts ports)
started_is i hosts ports =
    let opened : IsImp i (imp.opening_node i hosts ports) = opening_imp i hosts ports in
    record {
      own = opened.own;
      live = opened.live;
      answers = λ h. subst (All (λ (t : Told). t.flow.source ≡ record { imp = i; host = h })) (sym (down_hosts (λ (x : HostState). x.answers) hosts h)) (All-nil _);
      queues = λ h. subst (All (λ (m : Message). m.flow.destination ≡ record { imp = i; host = h })) (sym (down_hosts (λ (x : HostState). x.queue) hosts h)) (All-nil _);
      slots = opened.slots;
    }

-- ---- the moves

-- those of a flow whose source is at this IMP or not, and whose destination is at it or not
abbrev moves_by : Bool → Bool → List Move
moves_by a b = (if b then Move.StartTo ∷ [] else []) ++ (if a then Move.StartFrom ∷ [] else [])

abbrev moves : ℕ → Flow → List Move
moves i f = moves_by (f.source.imp == i) (f.destination.imp == i)

abbrev up_where : Bool → Bool → Bool
up_where b u = if b then true else u

started_view : (a b u w : Bool) (s : Sender) (r : Receiver) (box : Box) → view_of (up_where a u) s (up_where b w) r box ≡ after_all (moves_by a b) (view_of u s w r box)
started_view true true u w s r box = refl
started_view true false u w s r box = refl
started_view false true u w s r box = refl
started_view false false u w s r box = refl

shown : (a b : Bool) (v : View) → [] ≡ shown_by (moves_by a b) v
shown true true v = refl
shown true false v = refl
shown false true v = refl
shown false false v = refl

-- nothing of the flow is alive, and none of its messages is outstanding
record Gone (v : View) (alive : Packet → Type 0) : Type 0 where
  no_packet : (x : Packet) → alive x → ⊥
  unread : v.queue ≡ []
  idle : v.outstanding ≡ None

follows : (a b : Bool) (old new : View) (before later : Packet → Type 0) → ((a || b) ≡ true → Gone old before) → new ≡ after_all (moves_by a b) old → ((x : Packet) → later x → before x)
    → Follows Piece (moves_by a b) old new before later
follows true true old new before later gone same less = record {
  needs = (record { no_request = to; idle = (gone refl).idle }, (record { no_packet = (gone refl).no_packet; unread = (gone refl).unread }, tt));
  view = same;
  packets = λ x l. inl (inl (less x l));
} where
  to : (x : Packet) → before x ⊎ ⊥ → is_request x.kind ≡ true → ⊥
  to x (inl alive) request = (gone refl).no_packet x alive
  to x (inr none) request = none
follows true false old new before later gone same less =
    makes_one Move.StartFrom old new before later (record { no_packet = (gone refl).no_packet; unread = (gone refl).unread }) same (λ x l. inl (less x l))
follows false true old new before later gone same less = makes_one Move.StartTo old new before later (record { no_request = λ x alive request. (gone refl).no_packet x alive; idle = (gone refl).idle }) same (λ x l. inl (less x l))
follows false false old new before later gone same less = stays old new before later same less

-- ---- what they need

no_packet : (n : Net) (i : ℕ) (f : Flow) → All (λ p. packet_touches i p ≡ false) (packets n) → is_at_end i f ≡ true → (x : Packet) → Alive n f x → ⊥
no_packet n i f silent ours x a =
    let missing : packet_touches i a.fields ≡ false = All-contains (λ (q : PacketFields). packet_touches i q ≡ false) (packets n) a.fields silent a.there in
    let found : packet_touches i a.fields ≡ true = ap (is_at_end i) a.flow ∙ ours in
    let no : true ≡ false = sym found ∙ missing in
    absurd (cc)

-- a flow's messages, of messages that don't touch the IMP
none_of : (i : ℕ) (f : Flow) (ms : List Message) → is_at_end i f ≡ true → All (λ m. message_touches i m ≡ false) ms → messages_of f ms ≡ []
none_of i f [] ours all = refl
none_of i f (m ∷ ms) ours all = by (same_flow f m.flow) refl (none_of i f ms ours (All-tail Apart m ms all)) where
  Apart : Message → Type 0
  Apart x = message_touches i x ≡ false

  by : (b : Bool) → same_flow f m.flow ≡ b → messages_of f ms ≡ [] → cond b (m ∷ messages_of f ms) (messages_of f ms) ≡ []
  by true same rest =
      let missing : is_at_end i m.flow ≡ false = All-head Apart m ms all in
      let no : true ≡ false = sym ours ∙ ap (is_at_end i) (same_flow-true f m.flow same) ∙ missing in
      absurd (cc)
  by false same rest = rest

unread : (n : Net) (i : ℕ) (f : Flow) → All (λ m. message_touches i m ≡ false) (messages n) → is_at_end i f ≡ true → (view n f).queue ≡ []
unread n i f silent ours = by (imp_at n.imps f.destination.imp) (queue_all (λ (m : Message). message_touches i m ≡ false) n f silent) where
  by : (o : Option State) → All (λ (m : Message). message_touches i m ≡ false) (host_queue o f) → map queued_of (receiver_at o f).queue ≡ []
  by None all = refl
  by (Some s) all = ap (λ (ms : List Message). map queued_of ms) (none_of i f (host_at s f.destination.host).queue ours all)

-- what no IMP says, none at a place says
none_says : (test : Option State → Bool) (imps : List (Option State)) (k : ℕ) → test None ≡ false → list_any test imps ≡ false → test (imp_at imps k) ≡ false
none_says test [] k nobody none = nobody
none_says test (o ∷ imps) zero nobody none = (or_false (test o) _ none).0
none_says test (o ∷ imps) (suc k) nobody none = none_says test imps k nobody (or_false (test o) _ none).1

-- an IMP that is down has nothing outstanding, and another one awaits nothing from it
idle : (n : Net) (i : ℕ) (f : Flow) → imp_at n.imps i ≡ None → is_awaited n i ≡ false → IsSound n → is_at_end i f ≡ true → (view n f).outstanding ≡ None
idle n i f down none is ours = by (f.source.imp == i) refl (imp_at n.imps f.source.imp) refl ours where
  asks : Option State → Bool
  asks o = says (λ s. not (number s == i) && awaits s i) o

  by : (b : Bool) → (f.source.imp == i) ≡ b → (o : Option State) → imp_at n.imps f.source.imp ≡ o → (b || f.destination.imp == i) ≡ true → (sender_at o f).outstanding ≡ None
  by b here None at ours = refl
  by true here (Some s) at ours = (let gone : imp_at n.imps f.source.imp ≡ None = ap (imp_at n.imps) (eqb-true f.source.imp i here) ∙ down in absurd (cc))
  by false here (Some s) at ours =
      let own : number s ≡ f.source.imp = (subst (IsAt f.source.imp) at (is.imps f.source.imp)).own in
      let other : (number s == i) ≡ false = ap (λ (k : ℕ). k == i) own ∙ here in
      let silent : (not (number s == i) && awaits s i) ≡ false = sym (ap asks at) ∙ none_says asks n.imps _ refl none in
      let waits : awaits s i ≡ false = ap (λ (b : Bool). not b && awaits s i) (sym other) ∙ silent in
      none_awaited (Some s) i f waits ours

-- ---- what they change

record Starting (n : Net) (i : ℕ) (s : State) : Type 0 where
  down : imp_at n.imps i ≡ None
  there : imp_at (slice_set n.imps i (Some s)) i ≡ Some s
  from : (f : Flow) → sender s f ≡ no_sender
  to : (f : Flow) → receiver s f ≡ no_receiver

new_view : (n : Net) (i : ℕ) (s : State) (f : Flow) → Starting n i s → (let m : Net = record n { imps = slice_set n.imps i (Some s) } in view m f ≡ after_all (moves i f) (view n f))
new_view n i s f start =
    let imps : List (Option State) = slice_set n.imps i (Some s) in
    let k : ℕ = f.source.imp in
    let j : ℕ = f.destination.imp in
    let a : Bool = k == i in
    let b : Bool = j == i in
    view_parts
    _ _
    _ _
    _ _
    _ _
    _
    (up k)
    (same_at (λ (o : Option State). sender_at o f) n.imps i k (Some s) None (start.from f ∙ ap (λ (o : Option State). sender_at o f) (sym start.down)))
    (up j)
    (same_at (λ (o : Option State). receiver_at o f) n.imps i j (Some s) None (start.to f ∙ ap (λ (o : Option State). receiver_at o f) (sym start.down)))
    ∙ started_view a b _ _ _ (receiver_at (imp_at n.imps j) f) _
  where
    up : (j : ℕ) → imp_is_up (imp_at (slice_set n.imps i (Some s)) j) ≡ up_where (j == i) (imp_is_up (imp_at n.imps j))
    up j =
        at_end imp_is_up up_where n.imps i j _ true (λ x. refl) start.there refl
        ∙ ap (λ (c : Bool). up_where c (imp_is_up (imp_at n.imps j))) (and_true_is _)

none_begins : (a b : Bool) → one_begins (moves_by a b) ≡ false
none_begins true true = refl
none_begins true false = refl
none_begins false true = refl
none_begins false false = refl

-- ---- the event

-- an IMP is set in its place, if there is one
set_or_not : (imps : List (Option State)) (i : ℕ) (o : Option State) → (imp_at (slice_set imps i o) i ≡ o) ⊎ (slice_set imps i o ≡ imps)
set_or_not [] i o = inr refl
set_or_not (p ∷ imps) zero o = inl refl
set_or_not (p ∷ imps) (suc i) o = elim (set_or_not imps i o) [
  | inl there ↦ inl there
  | inr same ↦ inr (ap (λ (ps : List (Option State)). p ∷ ps) same)
]

started : (n : Net) (i : ℕ) → imp_at n.imps i ≡ None → has_flow n i ≡ false → is_awaited n i ≡ false → IsSound n → IsSound (imp_started n i)
started n i down none alone is =
    let hosts : ℕ = hosts_at (site_at n i) in
    let ports : ℕ = count_by (ends_at i) n.lines in
    let s : State = started_imp i hosts ports in
    let m : Net = imp_started n i in
    elim (set_or_not n.imps i (Some s)) [
      | inr same ↦ (let at : List (Option State) → Net = λ imps. record n { imps = imps } in subst (λ (imps : List (Option State)). IsSound (at imps)) (sym same) is)
      | inl there ↦ (
          let start : Starting n i s = record { down = down; there = there; from = started_sender i hosts ports; to = started_receiver i hosts ports } in
          let silent : All (λ p. packet_touches i p ≡ false) (packets n) × All (λ q. message_touches i q ≡ false) (messages n) = nowhere n _ _ none in
          let among : NothingNew n m = start_imp_nothing n i in
          let follow : AllFollow Piece n.hosts [] n.log (moves i) (view n) (view m) (Alive n) (Alive m) = record {
            follows = λ f. follows (f.source.imp == i) (f.destination.imp == i) (view n f) (view m f) (Alive n f) (Alive m f)
                (λ ours. record { no_packet = no_packet n i f silent.0 ours; unread = unread n i f silent.1 ours; idle = idle n i f down alone is ours }) (new_view n i s f start) (λ x. alive_less n m f x among);
            shown = λ f. shown (f.source.imp == i) (f.destination.imp == i) (view n f);
            ups = tt;
          } in
          all_moved n m.imps m.lines [] (moves i) follow
          (λ k. at_set IsAt n.imps i k (Some s) None (is.imps k) (started_is i hosts ports))
          (formats_less n m among is.formats)
          (subst (All Answerable) (sym (kept_messages n.imps i _ (none_wait hosts ∙ ap messages_at_imp (sym down)))) is.answers)
          (λ f. none_begins (f.source.imp == i) (f.destination.imp == i))
          is)
    ]

pub imp_up_sound : (n : Net) (i : ℕ) → starting_refusal n i ≡ None → IsSound n → IsSound (imp_started n i)
imp_up_sound n i allowed is =
    let last : Option CarrierFault = if is_some (imp_at n.imps i) then Some fault.IsUp else None in
    let fourth : Option CarrierFault = first_of _ _ last in
    let third : Option CarrierFault = first_of _ _ fourth in
    let second : Option CarrierFault = first_of _ _ third in
    let there : (not (is_imp n i) ≡ false) × (second ≡ None) = guard _ _ second allowed in
    let gone : (has_flow n i ≡ false) × (third ≡ None) = guard _ _ third there.1 in
    let forgotten : (is_remembered n i ≡ false) × (fourth ≡ None) = guard _ _ fourth gone.1 in
    let alone : (is_awaited n i ≡ false) × (last ≡ None) = guard _ _ last forgotten.1 in
    let down : (is_some (imp_at n.imps i) ≡ false) × (let rest : Option CarrierFault = None in rest ≡ None) = guard _ _ None alone.1 in
    by (imp_at n.imps i) refl down.0 gone.0 alone.0
  where
    by : (o : Option State) → imp_at n.imps i ≡ o → is_some o ≡ false → has_flow n i ≡ false → is_awaited n i ≡ false → IsSound (imp_started n i)
    by None at down gone alone = started n i at gone alone is
    by _ at down gone alone = absurd (cc)
