-- A history of one flow from its opening.
use Rattle.flow_law.proofs.Common.{◌≡◌, Bool, List, [], ◌∷◌, None, inl, refl, Contains, View, Packet, mail_now, Invariant, Sound, contains_none}
use Rattle.flow_law.specs.Moves.{Makes, Either}
use Rattle.flow_law.specs.Runs.{FlowTurn, IsOpening, IsHistory, left_by, view_after, seen_in}
use Rattle.flow_law.proofs.AllMoves.{sound_less, sound_after}

-- at the opening the clauses hold, where nothing is alive
pub opening_invariant : {Piece : List Bool → Packet → Type 0} (v : View) (t : Packet → Type 0) → IsOpening v → ((x : Packet) → t x → ⊥) → Invariant Piece v t
opening_invariant v t o nothing =
    let last : v.last ≡ None = o.last in
    let idle : v.outstanding ≡ None = o.outstanding in
    record {
      range = λ n is. absurd (cc);
      begun = λ n is. absurd (cc);
      sender = λ n is. absurd (cc);
      home = o.home;
      away = λ down. o.answers;
      window = λ up x tx. absurd (nothing x tx);
      expected = λ up x tx new. absurd (nothing x tx);
      carried = λ x tx new. absurd (nothing x tx);
      orphaned = λ down x y tx new ty kind. absurd (nothing x tx);
      waiting = inl o.queue;
      taken = λ x tx kind awaited. absurd (nothing x tx);
      dead = λ x tx kind awaited. absurd (nothing x tx);
      fated = λ n is. absurd (cc);
      busy = λ n is. absurd (cc);
      settled = λ up none. inl (record { none = o.answers; empty = o.box });
    }

pub opening_sound : {Piece : List Bool → Packet → Type 0} (v : View) (t : Packet → Type 0) → IsOpening v → ((x : Packet) → t x → ⊥) → Sound Piece (mail_now v) [] v t
opening_sound v t o nothing = record { clauses = opening_invariant v t o nothing; run = tt; mail = refl }

pub history_sound : {Piece : List Bool → Packet → Type 0} (v : View) (turns : List FlowTurn) → IsOpening v → IsHistory Piece v turns
    → Sound Piece (mail_now v) (seen_in turns v) (view_after turns v) (Contains (left_by turns))
history_sound v [] o h = opening_sound v _ o (λ x there. contains_none x there)
history_sound {Piece} v (turn ∷ turns) o h =
    sound_less _ _ _ _ _
    h.0.left
    (sound_after turn.move _ _ _ _ h.0.needs (history_sound v turns o h.1))
