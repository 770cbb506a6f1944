-- An IMP stops: its hosts go down one after another, and then the ends of all flows from it and to it.
use Rattle.subnet.proofs.Common.{slice_set, cases_Bool, All-nil, Host, same_host, Box, box_of, Flow, CarrierFault, Crossing, and_true, guard, View, Packet, Move, after_all, shown_by, State, HostState, no_host, Sender, Receiver, at_set, Net, imp_at, at_up, accepted, is_imp, imp_refusal, downs_from, downs_at, imp_stopped, NothingNew, IsAt, IsSound}
use Rattle.std.proofs.Common.{◌≡◌, ℕ, zero, suc, ◌+◌, ◌<◌, Bool, true, false, not, List, [], ◌∷◌, ◌++◌, get_or, Option, Some, None, refl, ap, sym, subst, ◌∙◌, ◌==◌, ◌&&◌, if◌then◌else◌, inl, inr, cond, eqb-true, eq-eqb, append_assoc, arith}
use Rattle.interface.specs.declared.carrier.CarrierFault.TheVariants as fault
use Rattle.interface.specs.declared.crossing.Crossing.TheVariants as crossing
use Rattle.flow_law.specs.Follows.{Follows, AllSound, AllFollow}
use Rattle.flow_law.specs.Local.{stopped_host}
use Rattle.flow_law.proofs.lemmas.{all_follow, down_shown, makes_one, stays}
use Rattle.subnet.specs.Flows.{Piece, Alive, no_sender, no_receiver, imp_is_up, sender_at, receiver_at, view_of, view}
use Rattle.subnet.proofs.Packets.HavingByEvents.{stop_imp_nothing}
use Rattle.subnet.proofs.Moves.QuietCalls.{formats_less}
use Rattle.subnet.proofs.Moves.Views.{view_parts, alive_less}
use Rattle.subnet.proofs.Moves.Turns.{Answerable, set_here}
use Rattle.subnet.proofs.Moves.Askable.{one_begins, moved_askable}
use Rattle.subnet.proofs.Moves.ManyFlows.{at_end, and_true_is, set_all}

-- ---- the hosts of an IMP from number `k` on

abbrev up_from : ℕ → List HostState → ℕ → Bool
up_from k [] x = false
up_from k (h ∷ hosts) x = if x == k then h.up else up_from (k + 1) hosts x

apart : (x k : ℕ) → k < x → (x == k) ≡ false
apart x k less = elim (cases_Bool (x == k)) [
  | inl same ↦ (let equal : x ≡ k = eqb-true x k same in absurd (omega (arith, equal, less)))
  | inr other ↦ other
]

apart_below : (x k : ℕ) → x < k → (x == k) ≡ false
apart_below x k less = elim (cases_Bool (x == k)) [
  | inl same ↦ (let equal : x ≡ k = eqb-true x k same in absurd (omega (arith, equal, less)))
  | inr other ↦ other
]

-- what is below them is none of them
below : (k x : ℕ) (hosts : List HostState) → x < k → up_from k hosts x ≡ false
below k x [] less = refl
below k x (h ∷ hosts) less = rw (apart_below x k less) (below (k + 1) x hosts (omega (arith, less)))

read_from : (k x : ℕ) (hosts : List HostState) → up_from k hosts (k + x) ≡ (get_or hosts x no_host).up
read_from k x [] = refl
read_from k zero (h ∷ hosts) = let same : k + 0 ≡ k = omega arith in rw (eq-eqb (k + 0) k same) refl
read_from k (suc x) (h ∷ hosts) =
    let on : k + suc x ≡ k + 1 + x = omega arith in
    rw (apart (k + suc x) k (omega arith)) (ap (up_from (k + 1) hosts) on ∙ read_from (k + 1) x hosts)

read : (x : ℕ) (hosts : List HostState) → (get_or hosts x no_host).up ≡ up_from 0 hosts x
read x hosts = let same : 0 + x ≡ x = omega arith in sym (read_from 0 x hosts) ∙ ap (up_from 0 hosts) same

-- ---- the moves of a flow when the ends at this IMP stop

abbrev moves_by : Bool → Bool → List Move
moves_by a b = (if b then Move.StopTo ∷ [] else []) ++ (if a then Move.StopFrom ∷ [] else [])

abbrev moves : ℕ → Flow → List Move
moves i f = moves_by (f.source.imp == i) (f.destination.imp == i)

-- a host at an end goes down before
stopped_first : (a b c d : Bool) (v : View) → after_all (moves_by a b) (after_all (stopped_host (a && c) (b && d)) v) ≡ after_all (moves_by a b) v
stopped_first true true true true v = refl
stopped_first true true true false v = refl
stopped_first true true false true v = refl
stopped_first true true false false v = refl
stopped_first true false true d v = refl
stopped_first true false false d v = refl
stopped_first false true c true v = refl
stopped_first false true c false v = refl
stopped_first false false c d v = refl

source_after : (a b : Bool) (v : View) → (after_all (stopped_host a b) v).source ≡ (if a then false else v.source)
source_after true true v = refl
source_after true false v = refl
source_after false true v = refl
source_after false false v = refl

destination_after : (a b : Bool) (v : View) → (after_all (stopped_host a b) v).destination ≡ (if b then false else v.destination)
destination_after true true v = refl
destination_after true false v = refl
destination_after false true v = refl
destination_after false false v = refl

-- ---- one host goes down

follows : (a b : Bool) (v : View) (alive : Packet → Type 0) → (a ≡ true → v.source ≡ true) → (b ≡ true → v.destination ≡ true) → Follows Piece (stopped_host a b) v (after_all (stopped_host a b) v) alive alive
follows true true v alive source destination = record { needs = (destination refl, (source refl, tt)); view = refl; packets = λ x l. inl (inl l) }
follows true false v alive source destination = makes_one Move.StopSource v _ alive alive (source refl) refl (λ x l. inl l)
follows false true v alive source destination = makes_one Move.StopDestination v _ alive alive (destination refl) refl (λ x l. inl l)
follows false false v alive source destination = stays v _ alive alive refl (λ x l. l)

abbrev host_of : ℕ → ℕ → Host
host_of i k = record { imp = i; host = k }

abbrev down_view : Host → (Flow → View) → Flow → View
down_view h v f = after_all (stopped_host (same_host f.source h) (same_host f.destination h)) (v f)

-- these hosts of the IMP, from `k` on, did not go down yet, and the others did
record Going (i k : ℕ) (hosts : List HostState) (old v : Flow → View) : Type 0 where
  source : (f : Flow) → (f.source.imp == i) ≡ true → (v f).source ≡ up_from k hosts f.source.host
  destination : (f : Flow) → (f.destination.imp == i) ≡ true → (v f).destination ≡ up_from k hosts f.destination.host
  same : (f : Flow) → after_all (moves i f) (v f) ≡ after_all (moves i f) (old f)

-- all did
record Ended (hosts : List Host) (log : List Crossing) (i : ℕ) (old : Flow → View) (alive : Flow → Packet → Type 0) : Type 0 where
  views : Flow → View
  source : (f : Flow) → (f.source.imp == i) ≡ true → (views f).source ≡ false
  destination : (f : Flow) → (f.destination.imp == i) ≡ true → (views f).destination ≡ false
  same : (f : Flow) → after_all (moves i f) (views f) ≡ after_all (moves i f) (old f)
  sound : AllSound Piece hosts log views alive

-- whether host `x` is up after host `k` went down
passed_by : (here now : Bool) (k x : ℕ) (h : HostState) (hosts : List HostState) → (x == k) ≡ here → now ≡ cond here h.up (up_from (k + 1) hosts x) → cond here false now ≡ up_from (k + 1) hosts x
passed_by true now k x h hosts same is = let equal : x ≡ k = eqb-true x k same in sym (below _ x hosts (omega (arith, equal)))
passed_by false now k x h hosts other is = is

-- the same where the host was down before
kept_by : (here now : Bool) (k x : ℕ) (h : HostState) (hosts : List HostState) → (x == k) ≡ here → h.up ≡ false → now ≡ cond here h.up (up_from (k + 1) hosts x) → now ≡ up_from (k + 1) hosts x
kept_by true now k x h hosts same down is = let equal : x ≡ k = eqb-true x k same in is ∙ down ∙ sym (below _ x hosts (omega (arith, equal)))
kept_by false now k x h hosts other down is = is

next_down : (i k : ℕ) (h : HostState) (hosts : List HostState) (old v : Flow → View) → Going i k (h ∷ hosts) old v → Going i (k + 1) hosts old (down_view (host_of i k) v)
next_down i k h hosts old v going = record {
  source = λ f here.
      source_after (same_host f.source (host_of i k)) (same_host f.destination (host_of i k)) (v f)
      ∙ ap (λ (b : Bool). cond (b && (f.source.host == k)) false (v f).source) here
      ∙ passed_by _ _ k _ h hosts refl (going.source f here);
  destination = λ f here.
      destination_after (same_host f.source (host_of i k)) (same_host f.destination (host_of i k)) (v f)
      ∙ ap (λ (b : Bool). cond (b && (f.destination.host == k)) false (v f).destination) here
      ∙ passed_by _ _ k _ h hosts refl (going.destination f here);
  same = λ f. stopped_first (f.source.imp == i) (f.destination.imp == i) (f.source.host == k) (f.destination.host == k) (v f) ∙ going.same f;
}

next_same : (i k : ℕ) (h : HostState) (hosts : List HostState) (old v : Flow → View) → h.up ≡ false → Going i k (h ∷ hosts) old v → Going i (k + 1) hosts old v
next_same i k h hosts old v down going = record {
  source = λ f here. kept_by (f.source.host == k) (v f).source k f.source.host h hosts refl down (going.source f here);
  destination = λ f here. kept_by (f.destination.host == k) (v f).destination k f.destination.host h hosts refl down (going.destination f here);
  same = going.same;
}

was_up : (i k : ℕ) (h : HostState) (hosts : List HostState) (a : Host) (now : Bool) → h.up ≡ true → ((a.imp == i) ≡ true → now ≡ up_from k (h ∷ hosts) a.host) → same_host a (host_of i k) ≡ true → now ≡ true
was_up i k h hosts a now up is here =
    let both : (a.imp == i) ≡ true × (a.host == k) ≡ true = and_true (a.imp == i) (a.host == k) here in
    is both.0 ∙ ap (λ (b : Bool). cond b h.up (up_from (k + 1) hosts a.host)) both.1 ∙ up

one_down : (hosts : List Host) (log : List Crossing) (i k : ℕ) (h : HostState) (others : List HostState) (old v : Flow → View) (alive : Flow → Packet → Type 0)
    → h.up ≡ true → Going i k (h ∷ others) old v → AllSound Piece hosts log v alive → AllSound Piece hosts (crossing.Down (host_of i k) ∷ log) (down_view (host_of i k) v) alive
one_down hosts log i k h others old v alive up going sound =
    let down : Host = host_of i k in
    all_follow hosts (crossing.Down down ∷ []) log _ v _ alive alive (record {
      follows = λ f.
          follows (same_host f.source (host_of i k)) (same_host f.destination (host_of i k)) (v f) (alive f)
          (was_up i k h others _ _ up (going.source f))
          (was_up i k h others _ _ up (going.destination f));
      shown = λ f. down_shown f down log (v f);
      ups = tt;
    }) sound

-- ---- all of them

all_down : (hosts : List Host) (log : List Crossing) (i k : ℕ) (hs : List HostState) (old v : Flow → View) (alive : Flow → Packet → Type 0)
    → Going i k hs old v → AllSound Piece hosts log v alive → Ended hosts (downs_from i k hs ++ log) i old alive
all_down hosts log i k [] old v alive going sound = record { views = v; source = going.source; destination = going.destination; same = going.same; sound = sound }
all_down hosts log i k (h ∷ hs) old v alive going sound =
    subst (λ (entries : List Crossing). Ended hosts entries i old alive) (sym (append_assoc (downs_from i (k + 1) hs) (if h.up then crossing.Down (host_of i k) ∷ [] else []) log))
    (by h.up refl
    (λ up. all_down hosts (crossing.Down (host_of i k) ∷ log) i (k + 1) hs old (down_view (host_of i k) v) alive (next_down i k h hs old v going) (one_down hosts log i k h hs old v alive up going sound))
    (λ down. all_down hosts log i (k + 1) hs old v alive (next_same i k h hs old v down going) sound))
  where
    by : (b : Bool) → h.up ≡ b
        → (h.up ≡ true → Ended hosts (downs_from i (k + 1) hs ++ (crossing.Down (host_of i k) ∷ log)) i old alive)
        → (h.up ≡ false → Ended hosts (downs_from i (k + 1) hs ++ log) i old alive)
        → Ended hosts (downs_from i (k + 1) hs ++ ((if b then crossing.Down (host_of i k) ∷ [] else []) ++ log)) i old alive
    by true up goes stays_down = goes up
    by false down goes stays_down = stays_down down

-- hosts that go down change no box
box_after : (f : Flow) (i k : ℕ) (hs : List HostState) (log : List Crossing) → box_of f (downs_from i k hs ++ log) ≡ box_of f log
box_after f i k [] log = refl
box_after f i k (h ∷ hs) log = ap (box_of f) (append_assoc (downs_from i (k + 1) hs) (if h.up then crossing.Down (host_of i k) ∷ [] else []) log) ∙ box_after f i (k + 1) hs ((if h.up then crossing.Down (host_of i k) ∷ [] else []) ++ log) ∙ by h.up where
  by : (b : Bool) → box_of f ((if b then crossing.Down (host_of i k) ∷ [] else []) ++ log) ≡ box_of f log
  by true = refl
  by false = refl

-- ---- the ends stop

abbrev down_where : Bool → Bool → Bool
down_where b u = if b then false else u

abbrev sender_where : Bool → Sender → Sender
sender_where b s = if b then no_sender else s

abbrev receiver_where : Bool → Receiver → Receiver
receiver_where b r = if b then no_receiver else r

stopped_view : (a b u w : Bool) (s : Sender) (r : Receiver) (box : Box)
    → view_of (down_where a u) (sender_where a s) (down_where b w) (receiver_where b r) box ≡ after_all (moves_by a b) (view_of u s w r box)
stopped_view true true u w s r box = refl
stopped_view true false u w s r box = refl
stopped_view false true u w s r box = refl
stopped_view false false u w s r box = refl

shown : (a b : Bool) (v : View) → (a ≡ true → v.source ≡ false) → (b ≡ true → v.destination ≡ false) → [] ≡ shown_by (moves_by a b) v
shown true true v source destination = rw (source refl, destination refl) refl
shown true false v source destination = rw (source refl) refl
shown false true v source destination = rw (destination refl) refl
shown false false v source destination = refl

ends : (a b : Bool) (old new : View) (before later : Packet → Type 0) → new ≡ after_all (moves_by a b) old → ((x : Packet) → later x → before x) → Follows Piece (moves_by a b) old new before later
ends true true old new before later same less = record { needs = (tt, (tt, tt)); view = same; packets = λ x l. inl (inl (less x l)) }
ends true false old new before later same less = makes_one Move.StopFrom old new before later tt same (λ x l. inl (less x l))
ends false true old new before later same less = makes_one Move.StopTo old new before later tt same (λ x l. inl (less x l))
ends false false old new before later same less = stays old new before later same less

abbrev stopped_net : Net → ℕ → State → Net
stopped_net n i s = record n { imps = slice_set n.imps i None; log = downs_from i 0 s.hosts ++ n.log }

new_view : (n : Net) (i : ℕ) (s : State) (f : Flow) → imp_at n.imps i ≡ Some s → view (stopped_net n i s) f ≡ after_all (moves i f) (view n f)
new_view n i s f there =
    let imps : List (Option State) = slice_set n.imps i None in
    let k : ℕ = f.source.imp in
    let j : ℕ = f.destination.imp in
    ap (view_of (imp_is_up (imp_at imps k)) (sender_at (imp_at imps k) f) (imp_is_up (imp_at imps j)) (receiver_at (imp_at imps j) f)) (box_after f i 0 s.hosts n.log)
    ∙ view_parts
    _ _
    _ _
    _ _
    _ _
    _
    (away imp_is_up down_where k (λ x. refl) refl)
    (away (λ (o : Option State). sender_at o f) sender_where k (λ x. refl) refl)
    (away imp_is_up down_where j (λ x. refl) refl)
    (away (λ (o : Option State). receiver_at o f) receiver_where j (λ x. refl) refl)
    ∙ stopped_view (k == i) (j == i) (imp_is_up (imp_at n.imps k)) (imp_is_up (imp_at n.imps j)) (sender_at (imp_at n.imps k) f) (receiver_at (imp_at n.imps j) f) _
  where
    away : {X : Type 0} (F : Option State → X) (change : Bool → X → X) (j : ℕ) → ((x : X) → change false x ≡ x) → F None ≡ change true (F (imp_at n.imps i))
        → F (imp_at (slice_set n.imps i None) j) ≡ change (j == i) (F (imp_at n.imps j))
    away F change j still gone =
        at_end F change n.imps i j None true still (set_here n.imps i None s there) gone
        ∙ ap (λ (b : Bool). change b (F (imp_at n.imps j))) (and_true_is _)

pub none_begins : (a b : Bool) → one_begins (moves_by a b) ≡ false
none_begins true true = refl
none_begins true false = refl
none_begins false true = refl
none_begins false false = refl

-- ---- the event

stopped : (n : Net) (i : ℕ) (s : State) → imp_at n.imps i ≡ Some s → IsSound n → IsSound (stopped_net n i s)
stopped n i s there is =
    let m : Net = stopped_net n i s in
    let among : NothingNew n m = stop_imp_nothing n i in
    let going : Going i 0 s.hosts (view n) (view n) = record {
      source = λ f here. ap (λ (o : Option State). (sender_at o f).source) (at f.source.imp here) ∙ read f.source.host s.hosts;
      destination = λ f here. ap (λ (o : Option State). (receiver_at o f).destination) (at f.destination.imp here) ∙ read f.destination.host s.hosts;
      same = λ f. refl;
    } in
    let ended : Ended n.hosts m.log i (view n) (Alive n) = all_down _ n.log i 0 _ _ _ _ going is.flows in
    let follow : AllFollow Piece n.hosts [] m.log (moves i) ended.views (view m) (Alive n) (Alive m) = record {
      follows = λ f. ends (f.source.imp == i) (f.destination.imp == i) (ended.views f) (view m f) (Alive n f) (Alive m f) (new_view n i s f there ∙ sym (ended.same f)) (λ x. alive_less n m f x among);
      shown = λ f. shown (f.source.imp == i) (f.destination.imp == i) (ended.views f) (ended.source f) (ended.destination f);
      ups = tt;
    } in
    record {
      flows = all_follow _ [] m.log _ _ _ _ _ follow ended.sound;
      imps = λ k. at_set IsAt n.imps i k None None (is.imps k) tt;
      formats = formats_less n m among is.formats;
      answers = set_all Answerable n.imps i None is.answers (All-nil Answerable);
      askable = λ f. moved_askable n m f (moves i f) (new_view n i s f there) (none_begins _ _) is;
    }
  where
    at : (j : ℕ) → (j == i) ≡ true → imp_at n.imps j ≡ Some s
    at j here = ap (imp_at n.imps) (eqb-true j i here) ∙ there

abbrev without_imp : Net → ℕ → Option State → Net
without_imp n i o = record n { imps = slice_set n.imps i None; log = downs_at i o ++ n.log }

pub imp_down_sound : (n : Net) (i : ℕ) → imp_refusal n i ≡ None → IsSound n → IsSound (imp_stopped n i)
imp_down_sound n i allowed is =
    let last : Option CarrierFault = at_up (imp_at n.imps i) accepted in
    let there : (not (is_imp n i) ≡ false) × (last ≡ None) = guard _ _ last allowed in
    by (imp_at n.imps i) refl there.1
  where
    by : (o : Option State) → imp_at n.imps i ≡ o → at_up o accepted ≡ None → IsSound (imp_stopped n i)
    by None at up = absurd (cc)
    by (Some s) at up = subst (λ (o : Option State). IsSound (without_imp n i o)) (sym at) (stopped n i s at is)
