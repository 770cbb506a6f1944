-- An IMP forgets the numbers of flows from another one: those flows forget, and no other moves.
use Rattle.subnet.proofs.Common.{slice_set, All-contains, Box, Flow, CarrierFault, and_true, guard, or_false, outstanding_to_none, PacketFields, View, Packet, is_request, Follows, AllFollow, State, ImpTurn, Sender, Receiver, sender, receiver, forget, Net, imp_at, with_turn, packets, messages_at_imp, has_data, is_awaited_at, NothingNew, IsAt, IsSound}
use Rattle.std.proofs.Common.{◌≡◌, ℕ, Bool, true, false, not, List, [], ◌∷◌, Option, Some, None, refl, ap, sym, subst, ◌∙◌, ◌==◌, ◌&&◌, ◌||◌, if◌then◌else◌, inl, All, eqb-true}
use Rattle.std.specs.FinMap as finite
use Rattle.interface.specs.declared.carrier.CarrierFault.TheVariants as fault
use Rattle.link_table.specs.Keys.{is_from}
use Rattle.flow_law.specs.Moves.{Move, CanForget, after_all, shown_by}
use Rattle.flow_law.proofs.lemmas.{makes_one, stays}
use Rattle.imp_node.specs.Queries as queries
use Rattle.imp_node.specs.Queries.{is_request_between}
use Rattle.imp_node.specs.Moves.{Becomes}
use Rattle.imp_node.proofs.lemmas.{at_set, forget_becomes, forget_imp, same_at}
use Rattle.subnet.specs.Events.{at_imp, at_up, first_of, accepted, is_imp, forgetting_refusal}
use Rattle.subnet.specs.Flows.{Piece, Alive, imp_is_up, sender_at, receiver_at, view_of, view}
use Rattle.subnet.proofs.Packets.HavingByEvents.{forget_nothing}
use Rattle.subnet.proofs.Moves.QuietCalls.{formats_less}
use Rattle.subnet.proofs.Calls.Silence.{nowhere}
use Rattle.subnet.proofs.Moves.Fates.{request_is}
use Rattle.subnet.proofs.Moves.Views.{view_parts, alive_less}
use Rattle.subnet.proofs.Moves.Turns.{Answerable, set_here}
use Rattle.subnet.proofs.Moves.Askable.{one_begins}
use Rattle.subnet.proofs.Moves.ManyFlows.{all_moved, at_end, kept_messages}

-- ---- the moves

-- a flow from there to here
abbrev goes : ℕ → ℕ → Flow → Bool
goes at from f = f.destination.imp == at && is_from from f

abbrev moves : ℕ → ℕ → Flow → List Move
moves at from f = if goes at from f then Move.Forget ∷ [] else []

-- ---- what they need

all_three : (a b c : Bool) → a ≡ true → b ≡ true → c ≡ true → (a && (b && c)) ≡ true
all_three a b c e f g = rw (e, f, g) refl

no_request : (n : Net) (at from : ℕ) (f : Flow) → All (λ p. is_request_between from at p ≡ false) (packets n) → goes at from f ≡ true → (x : Packet) → Alive n f x → is_request x.kind ≡ true → ⊥
no_request n at from f silent here x a request =
    let p : PacketFields = a.fields in
    let both : (f.destination.imp == at) ≡ true × is_from from f ≡ true = and_true (f.destination.imp == at) (is_from from f) here in
    let missing : is_request_between from at p ≡ false = All-contains (λ (q : PacketFields). is_request_between from at q ≡ false) (packets n) p silent a.there in
    let found : is_request_between from at p ≡ true =
    all_three _ _ _
    (sym (request_is p.kind) ∙ ap (λ (y : Packet). is_request y.kind) a.packet ∙ request)
    (ap (λ (g : Flow). g.source.imp == from) a.flow ∙ both.1)
    (ap (λ (g : Flow). g.destination.imp == at) a.flow ∙ both.0) in
    let no : true ≡ false = sym found ∙ missing in
    absurd (cc)

-- nothing of a flow that an IMP doesn't await is outstanding there
pub none_awaited : (o : Option State) (at : ℕ) (f : Flow) → is_awaited_at o at ≡ false → (f.destination.imp == at) ≡ true → (sender_at o f).outstanding ≡ None
none_awaited None at f none here = refl
none_awaited (Some s) at f none here = outstanding_to_none _ at none f here

can_forget : (n : Net) (at from : ℕ) (f : Flow) → All (λ p. is_request_between from at p ≡ false) (packets n) → is_awaited_at (imp_at n.imps from) at ≡ false → goes at from f ≡ true → CanForget (view n f) (Alive n f)
can_forget n at from f silent none here =
    let both : (f.destination.imp == at) ≡ true × is_from from f ≡ true = and_true (f.destination.imp == at) (is_from from f) here in
    record {
      no_request = no_request n at from f silent here;
      idle = ap (λ (k : ℕ). (sender_at (imp_at n.imps k) f).outstanding) (eqb-true f.source.imp from both.1) ∙ none_awaited _ at f none both.0;
    }

-- ---- what they change

abbrev forgotten : Bool → Receiver → Receiver
forgotten b r = if b then record r { kept = None } else r

forgotten_is : (b : Bool) (r : Receiver) → (let t : Receiver = record r { kept = if b then None else r.kept } in t ≡ forgotten b r)
forgotten_is true r = refl
forgotten_is false r = refl

forgotten_view : (b u w : Bool) (s : Sender) (r : Receiver) (box : Box) → view_of u s w (forgotten b r) box ≡ after_all (if b then Move.Forget ∷ [] else []) (view_of u s w r box)
forgotten_view true u w s r box = refl
forgotten_view false u w s r box = refl

new_view : (n : Net) (at from : ℕ) (s : State) (f : Flow) → imp_at n.imps at ≡ Some s → view (with_turn at (forget s from) n) f ≡ after_all (moves at from f) (view n f)
new_view n at from s f there =
    let t : State = (forget s from).state in
    let imps : List (Option State) = slice_set n.imps at (Some t) in
    let i : ℕ = f.source.imp in
    let j : ℕ = f.destination.imp in
    let becomes : Becomes s t f (sender s f) (record (receiver s f) { kept = if is_from from f then None else finite.get s.kept f }) = forget_becomes s from f in
    let old : receiver_at (imp_at n.imps at) f ≡ receiver s f = ap (λ (o : Option State). receiver_at o f) there in
    let new : receiver t f ≡ forgotten (is_from from f) (receiver_at (imp_at n.imps at) f) =
    becomes.receiver ∙ forgotten_is _ _ ∙ ap (forgotten (is_from from f)) (sym old) in
    view_parts
    _ _
    _ _
    _ _
    _ _
    _
    (same_at imp_is_up n.imps at i (Some t) None (ap imp_is_up (sym there)))
    (same_at (λ (o : Option State). sender_at o f) n.imps at i (Some t) None (becomes.sender ∙ ap (λ (o : Option State). sender_at o f) (sym there)))
    (same_at imp_is_up n.imps at j (Some t) None (ap imp_is_up (sym there)))
    (at_end (λ (o : Option State). receiver_at o f) forgotten n.imps at j (Some t) _ (λ r. refl) (set_here n.imps at _ s there) new)
    ∙ forgotten_view _ _ _ _ _ _

follows : (b : Bool) (old new : View) (before later : Packet → Type 0) → (b ≡ true → CanForget old before) → new ≡ after_all (if b then Move.Forget ∷ [] else []) old → ((x : Packet) → later x → before x)
    → Follows Piece (if b then Move.Forget ∷ [] else []) old new before later
follows true old new before later need same less = makes_one Move.Forget old new before later (need refl) same (λ x l. inl (less x l))
follows false old new before later need same less = stays old new before later same less

shown : (b : Bool) (v : View) → [] ≡ shown_by (if b then Move.Forget ∷ [] else []) v
shown true v = refl
shown false v = refl

none_begins : (b : Bool) → one_begins (if b then Move.Forget ∷ [] else []) ≡ false
none_begins true = refl
none_begins false = refl

-- ---- the event

forgot : (n : Net) (at from : ℕ) (s : State) → imp_at n.imps at ≡ Some s → has_data n from at ≡ false → is_awaited_at (imp_at n.imps from) at ≡ false → IsSound n → IsSound (with_turn at (forget s from) n)
forgot n at from s there none idle is =
    let turn : ImpTurn = forget s from in
    let m : Net = with_turn at turn n in
    let silent : All (λ p. is_request_between from at p ≡ false) (packets n) = (nowhere n _ _ none).0 in
    let among : NothingNew n m = subst (λ (o : Option State). NothingNew n (at_imp o at (λ (t : State). forget t from) n)) there (forget_nothing n at from) in
    let follow : AllFollow Piece n.hosts [] n.log (moves at from) (view n) (view m) (Alive n) (Alive m) = record {
      follows = λ f. follows (goes at from f) (view n f) (view m f) (Alive n f) (Alive m f) (can_forget n at from f silent idle) (new_view n at from s f there) (λ x. alive_less n m f x among);
      shown = λ f. shown (goes at from f) (view n f);
      ups = tt;
    } in
    all_moved n m.imps m.lines [] (moves at from) follow
    (λ k. at_set IsAt n.imps at k (Some turn.state) None (is.imps k) (forget_imp at s from (subst (IsAt at) there (is.imps at))))
    (formats_less n m among is.formats)
    (subst (All Answerable) (sym (kept_messages n.imps at _ (ap messages_at_imp (sym there)))) is.answers)
    (λ f. none_begins (goes at from f))
    is

pub forget_sound : (n : Net) (at from : ℕ) → forgetting_refusal n at from ≡ None → IsSound n → IsSound (at_imp (imp_at n.imps at) at (λ s. forget s from) n)
forget_sound n at from allowed is =
    let last : Option CarrierFault = at_up (imp_at n.imps at) accepted in
    let alive : Bool = has_data n from at || is_awaited_at (imp_at n.imps from) at in
    let third : Option CarrierFault = first_of alive _ last in
    let there : (not (is_imp n at && is_imp n from) ≡ false) × (first_of (at == from) fault.NoSuch third ≡ None) = guard _ _ _ allowed in
    let other : ((at == from) ≡ false) × (third ≡ None) = guard _ _ third there.1 in
    let dead : (alive ≡ false) × (last ≡ None) = guard alive _ last other.1 in
    let silent : (has_data n from at ≡ false) × (is_awaited_at (imp_at n.imps from) at ≡ false) = or_false (has_data n from at) _ dead.0 in
    by (imp_at n.imps at) refl silent.0 silent.1
  where
    by : (o : Option State) → imp_at n.imps at ≡ o → has_data n from at ≡ false → is_awaited_at (imp_at n.imps from) at ≡ false → IsSound (at_imp o at (λ s. forget s from) n)
    by None here silent idle = is
    by (Some s) here silent idle = forgot n at from s here silent idle is
