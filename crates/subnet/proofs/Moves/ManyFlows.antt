-- Steps in which many flows move at once.
use Rattle.subnet.proofs.Common.{slice_set, flat_map, cases_Bool, get_or-set_other, All-append, Flow, Crossing, IsPacket, Move, AllFollow, Message, State, Net, Wire, imp_at, packets, messages, messages_at_imp, IsAt, IsSound}
use Rattle.std.proofs.Common.{◌≡◌, ℕ, zero, suc, Bool, true, false, List, [], ◌∷◌, ◌++◌, Option, None, refl, ap, sym, ◌∙◌, ◌==◌, ◌&&◌, inl, inr, eqb-true, eq-eqb, All}
use Rattle.flow_law.proofs.lemmas.{all_follow}
use Rattle.subnet.specs.Flows.{Piece, Alive, view}
use Rattle.subnet.proofs.Calls.Silence.{parts_left, parts_right}
use Rattle.subnet.proofs.Moves.Askable.{one_begins, moved_askable}
use Rattle.subnet.proofs.Moves.Turns.{Answerable}

-- a step in which each flow makes moves of its own
pub all_moved : (n : Net) (imps : List (Option State)) (lines : List Wire) (entries : List Crossing) (moves : Flow → List Move)
    → (let m : Net = record n { imps = imps; lines = lines; log = entries ++ n.log } in
    AllFollow Piece n.hosts entries n.log moves (view n) (view m) (Alive n) (Alive m) → ((k : ℕ) → IsAt k (imp_at imps k)) → All IsPacket (packets m) → All Answerable (messages m) → ((f : Flow) → one_begins (moves f) ≡ false) → IsSound n → IsSound m)
all_moved n imps lines entries moves follow at formats answers none is =
    let m : Net = record n { imps = imps; lines = lines; log = entries ++ n.log } in
    record {
      flows = all_follow _ entries n.log moves _ _ _ _ follow is.flows;
      imps = at;
      formats = formats;
      answers = answers;
      askable = λ f. moved_askable n m f (moves f) (follow.follows f).view (none f) is;
    }

-- ---- one IMP is another one

-- what becomes of a side of a flow at that IMP becomes of it where the side is there
pub at_end_if : {X : Type 0} (F : Option State → X) (change : Bool → X → X) (imps : List (Option State)) (i j : ℕ) (o : Option State) (b : Bool)
    → ((x : X) → change false x ≡ x) → imp_at (slice_set imps i o) i ≡ o → ((j == i) ≡ true → F o ≡ change b (F (imp_at imps i))) → F (imp_at (slice_set imps i o) j) ≡ change (j == i && b) (F (imp_at imps j))
at_end_if F change imps i j o b still there is = elim (cases_Bool (j == i)) [
  | inl same ↦ (let at : j ≡ i = eqb-true j i same in
      rw same (ap (λ (k : ℕ). F (imp_at (slice_set imps i o) k)) at ∙ ap F there ∙ is same ∙ ap (λ (k : ℕ). change b (F (imp_at imps k))) (sym at)))
  | inr other ↦ rw other (ap F (get_or-set_other imps i j o None (λ (e : j ≡ i). let both : true ≡ false = sym (eq-eqb j i e) ∙ other in cc)) ∙ sym (still _))
]

pub at_end : {X : Type 0} (F : Option State → X) (change : Bool → X → X) (imps : List (Option State)) (i j : ℕ) (o : Option State) (b : Bool)
    → ((x : X) → change false x ≡ x) → imp_at (slice_set imps i o) i ≡ o → F o ≡ change b (F (imp_at imps i)) → F (imp_at (slice_set imps i o) j) ≡ change (j == i && b) (F (imp_at imps j))
at_end F change imps i j o b still there is = at_end_if F change imps i j o b still there (λ here. is)

-- a call that touches all hosts of an IMP
pub and_true_is : (b : Bool) → (b && true) ≡ b
and_true_is true = refl
and_true_is false = refl

-- what an IMP has of messages stays
pub kept_messages : (imps : List (Option State)) (i : ℕ) (o : Option State) → messages_at_imp o ≡ messages_at_imp (imp_at imps i) → flat_map messages_at_imp (slice_set imps i o) ≡ flat_map messages_at_imp imps
kept_messages [] i o same = refl
kept_messages (p ∷ imps) zero o same = ap (λ (ms : List Message). ms ++ flat_map messages_at_imp imps) same
kept_messages (p ∷ imps) (suc i) o same = ap (λ (ms : List Message). messages_at_imp p ++ ms) (kept_messages imps i o same)

-- what holds of all messages, and of those of the new IMP, holds of all messages
pub set_all : (P : Message → Type 0) (imps : List (Option State)) (i : ℕ) (o : Option State) → All P (flat_map messages_at_imp imps) → All P (messages_at_imp o) → All P (flat_map messages_at_imp (slice_set imps i o))
set_all P [] i o all new = all
set_all P (p ∷ imps) zero o all new = All-append P (messages_at_imp o) (flat_map messages_at_imp imps) new (parts_right P _ _ all)
set_all P (p ∷ imps) (suc i) o all new =
    All-append P (messages_at_imp p) (flat_map messages_at_imp (slice_set imps i o)) (parts_left P _ _ all)
    (set_all P imps i o (parts_right P _ _ all) new)
