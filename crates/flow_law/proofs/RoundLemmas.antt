-- A machine that begins any number: enough messages that a copy of the first one's packet, which outlives them, is new
-- again. Nothing is used of the modulus and the window but that the modulus is more than twice the window.
use Rattle.flow_law.proofs.Common.{Contains, View, Packet, Kind, contains_head, contains_none}
use Rattle.std.proofs.Common.{◌≡◌, ℕ, zero, suc, ◌-◌, ◌<◌, true, List, [], ◌∷◌, Some, inl, refl, ap, sym, ◌∙◌, subst, arith}
use Rattle.interface.specs.declared.crossing.Answer.TheVariants as answer
use Rattle.link_table.specs.Numbers.{modulus, window, next, is_new}
use Rattle.link_table.proofs.lemmas.{new_again, next_below, next_last, next_new, some_ahead, two, wide}
use Rattle.link_table.specs.declared.destination.Fate.TheVariants as fate
use Rattle.flow_law.specs.Moves.{Move, Either, IsRefusal, queued_text, view_moved}
use Rattle.flow_law.specs.Runs.{IsTurn, IsHistoryBy, view_after, left_by}
use Rattle.flow_law.specs.Example.{at_first, first_text, InOnePacket}
use Rattle.flow_law.specs.Counterexamples.{Breaks, AnyNumber, any_number, outlived, rounds, BeginsKept, begins_kept, asked_after, given_up_to, turn, second_text, data_of, dead_of, rfnm_of, ask_of}
use Rattle.flow_law.proofs.Left.{second_there, left_none, left_old, left_made, left_both}
use Rattle.flow_law.proofs.ExampleLemmas.{new_at_first}

next_is : (n : ℕ) → suc n < modulus → next n ≡ suc n
next_is n small = next_below n (omega (arith, small)) ∙ omega arith

next_is_new : (n : ℕ) → suc n < modulus → is_new (Some n) (suc n) ≡ true
next_is_new n small = ap (λ (k : ℕ). is_new (Some n) k) (sym (next_is n small)) ∙ next_new n (omega (arith, small))

abbrev copy : Packet
copy = data_of 0 first_text

-- after the messages up to n
abbrev settled_at : ℕ → View
settled_at n = record at_first { last = Some n; kept = Some n; fate = fate.Dead }

abbrev begin_next : Move
begin_next = Move.Begin 0 second_text

abbrev note_next : ℕ → Move
note_next n = Move.NoteGone (data_of (suc n) second_text) fate.Dead

view_rounds : (n : ℕ) → suc n < modulus → view_after (rounds n) at_first ≡ settled_at n
unfolding rounds
view_rounds zero small = refl
view_rounds (suc n) small =
    let below : suc n < modulus = omega (arith, small) in
    let F : View → View = λ v. view_moved (Move.TakeAnswer answer.Dead []) (view_moved (Move.Freed (dead_of (suc n)) answer.Dead) (view_moved (note_next n) (view_moved begin_next v))) in
    let G : ℕ → View = λ last. record at_first { last = Some last; kept = Some (suc n); fate = fate.Dead } in
    ap F (view_rounds n below) ∙ ap G (next_is n below)

left_rounds : (n : ℕ) → left_by (rounds n) ≡ copy ∷ []
unfolding rounds
left_rounds zero = refl
left_rounds (suc n) = refl

-- the turns of a message
begins : (n : ℕ) → suc n < modulus → (v : View) (alive : List Packet) → v ≡ settled_at n → alive ≡ copy ∷ []
    → IsTurn AnyNumber InOnePacket v alive (turn begin_next (data_of (suc n) second_text ∷ copy ∷ []))
begins n small v alive at left =
    let V : View → Type 0 = λ w. IsTurn AnyNumber InOnePacket w alive (turn begin_next (data_of (suc n) second_text ∷ copy ∷ [])) in
    let L : List Packet → Type 0 = λ l. IsTurn AnyNumber InOnePacket (settled_at n) l (turn begin_next (data_of (suc n) second_text ∷ copy ∷ [])) in
    subst V (sym at) (subst L (sym left) (record {
      needs = (record { source = refl; idle = refl; answered = refl }, λ same. (let at : n ≡ next n = cc in absurd (omega (arith, at, next_is n small))));
      left = left_both _ _ _ copy (record { data_packet = refl; number = sym (next_is n small); piece = refl }) (contains_head copy []);
    }))

notes : (n : ℕ) → suc n < modulus → (v : View) → v ≡ settled_at n → (left : List Packet)
    → ((x : Packet) → Contains left x → Either (Contains (data_of (suc n) second_text ∷ copy ∷ [])) (IsRefusal (suc n)) x)
    → IsTurn AnyNumber InOnePacket (view_moved begin_next v) (data_of (suc n) second_text ∷ copy ∷ []) (turn (note_next n) left)
notes n small v at left from =
    let V : View → Type 0 = λ w. IsTurn AnyNumber InOnePacket (view_moved begin_next w) (data_of (suc n) second_text ∷ copy ∷ []) (turn (note_next n) left) in
    subst V (sym at) (record {
      needs = (
        record {
          there = contains_head (data_of (suc n) second_text) (copy ∷ []);
          new = record { up = refl; request = refl; new = next_is_new n small };
        },
        tt,
      );
      left = from;
    })

frees : (n : ℕ) → suc n < modulus → (v : View) → v ≡ settled_at n
    → IsTurn AnyNumber InOnePacket (view_moved (note_next n) (view_moved begin_next v)) (dead_of (suc n) ∷ copy ∷ []) (turn (Move.Freed (dead_of (suc n)) answer.Dead) (copy ∷ []))
frees n small v at =
    let V : View → Type 0 = λ w. IsTurn AnyNumber InOnePacket (view_moved (note_next n) (view_moved begin_next w)) (dead_of (suc n) ∷ copy ∷ []) (turn (Move.Freed (dead_of (suc n)) answer.Dead) (copy ∷ [])) in
    subst V (sym at) (record {
      needs = record { there = contains_head (dead_of (suc n)) (copy ∷ []); brings = tt; awaited = ap (λ (k : ℕ). Some k) (next_is n small) };
      left = left_old _ _ copy (second_there _ copy []);
    })

answers : (n : ℕ) → (v : View) → v ≡ settled_at n
    → IsTurn AnyNumber InOnePacket (view_moved (Move.Freed (dead_of (suc n)) answer.Dead) (view_moved (note_next n) (view_moved begin_next v))) (copy ∷ []) (turn (Move.TakeAnswer answer.Dead []) (copy ∷ []))
answers n v at =
    let V : View → Type 0 = λ w. IsTurn AnyNumber InOnePacket (view_moved (Move.Freed (dead_of (suc n)) answer.Dead) (view_moved (note_next n) (view_moved begin_next w))) (copy ∷ []) (turn (Move.TakeAnswer answer.Dead []) (copy ∷ [])) in
    subst V (sym at) (record { needs = refl; left = λ x there. inl there })

history_rounds : (n : ℕ) → suc n < modulus → IsHistoryBy AnyNumber InOnePacket at_first (rounds n)
unfolding rounds
history_rounds zero small = (
  record { needs = refl; left = λ x there. inl there },
  (
    record {
      needs = record { there = contains_head _ (copy ∷ []); brings = tt; awaited = refl };
      left = left_old _ _ copy (second_there _ copy []);
    },
    (
      record {
        needs = (record { there = contains_head copy []; new = new_at_first copy refl }, tt);
        left = left_both _ _ _ copy (record { refusal = refl; number = refl }) (contains_head copy []);
      },
      (
        record {
          needs = (record { source = refl; idle = refl; answered = refl }, λ is. absurd (cc));
          left = left_made _ _ copy (record { data_packet = refl; number = refl; piece = refl });
        },
        tt,
      ),
    ),
  ),
)
history_rounds (suc n) small =
    let below : suc n < modulus = omega (arith, small) in
    let v : View = view_after (rounds n) at_first in
    let at : v ≡ settled_at n = view_rounds n below in (
      answers n v at,
      (
        frees n below v at,
        (
          notes n below v at _ (left_both _ _ _ copy (record { refusal = refl; number = refl }) (second_there _ copy [])),
          (
            begins n below v _ at (left_rounds n),
            history_rounds n below,
          ),
        ),
      ),
    )

-- the copy is made whole, and taken
queues : (n : ℕ) → is_new (Some (suc n)) 0 ≡ true → (v : View) → v ≡ settled_at n
    → IsTurn AnyNumber InOnePacket (view_moved (note_next n) (view_moved begin_next v)) (copy ∷ []) (turn (Move.Whole copy first_text) [])
queues n again v at =
    let V : View → Type 0 = λ w. IsTurn AnyNumber InOnePacket (view_moved (note_next n) (view_moved begin_next w)) (copy ∷ []) (turn (Move.Whole copy first_text) []) in
    subst V (sym at) (record {
      needs = record {
        note = record { there = contains_head copy []; new = record { up = refl; request = refl; new = again } };
        joined = λ whole all. all copy (contains_head copy []) refl refl;
      };
      left = left_none _ _;
    })

takes : (n : ℕ) (v : View) → v ≡ settled_at n
    → IsTurn AnyNumber InOnePacket (view_moved (Move.Whole copy first_text) (view_moved (note_next n) (view_moved begin_next v))) [] (turn (Move.TakeMessage (queued_text 0 first_text) []) [])
takes n v at =
    let V : View → Type 0 = λ w. IsTurn AnyNumber InOnePacket (view_moved (Move.Whole copy first_text) (view_moved (note_next n) (view_moved begin_next w))) [] (turn (Move.TakeMessage (queued_text 0 first_text) []) []) in
    subst V (sym at) (record { needs = record { destination = refl; waits = refl }; left = left_none _ _ })

-- whatever the modulus and the window: once the copy is new against a number, it is taken
outlived_breaks : (n : ℕ) → suc n < modulus → is_new (Some (suc n)) 0 ≡ true → Breaks AnyNumber (outlived n)
outlived_breaks n small again =
    let v : View = view_after (rounds n) at_first in
    let at : v ≡ settled_at n = view_rounds n small in
    record {
      history = (
        takes n v at,
        (
          queues n again v at,
          (
            notes n small v at _ (left_old _ _ copy (second_there _ copy [])),
            (
              begins n small v _ at (left_rounds n),
              history_rounds n small,
            ),
          ),
        ),
      );
      broken = λ run. (let same : second_text ≡ first_text = run.0.1 in absurd (cc));
    }

pub any_number_breaks : Breaks AnyNumber any_number
any_number_breaks =
    let at : suc (modulus - window - 1) ≡ modulus - window = omega (arith, wide) in
    outlived_breaks _ (omega (arith, wide, some_ahead)) (ap (λ (k : ℕ). is_new (Some k) 0) at ∙ new_again)

-- ---- a number is begun that is kept

-- after message 0 was taken, and those up to n were given up
abbrev lost_at : ℕ → View
lost_at n = record at_first { last = Some n; kept = Some 0; fate = fate.Taken }

view_given_up : (n : ℕ) → n < modulus → view_after (given_up_to n) at_first ≡ lost_at n
unfolding given_up_to
view_given_up zero small = refl
view_given_up (suc n) small =
    let below : n < modulus = omega (arith, small) in
    let F : View → View = λ v. view_moved (Move.TakeAnswer answer.Incomplete []) (view_moved (Move.GiveUp (suc n)) (view_moved begin_next v)) in
    let G : ℕ → View = λ last. record at_first { last = Some last; kept = Some 0; fate = fate.Taken } in
    ap F (view_given_up n below) ∙ ap G (next_is n small)

left_given_up : (n : ℕ) → left_by (given_up_to n) ≡ []
unfolding given_up_to
left_given_up zero = refl
left_given_up (suc n) = refl

begins_unasked : (n : ℕ) (v : View) (alive : List Packet) → v ≡ lost_at n → alive ≡ [] → IsTurn BeginsKept InOnePacket v alive (turn begin_next [])
begins_unasked n v alive at none =
    let V : View → Type 0 = λ w. IsTurn BeginsKept InOnePacket w alive (turn begin_next []) in
    let L : List Packet → Type 0 = λ l. IsTurn BeginsKept InOnePacket (lost_at n) l (turn begin_next []) in
    subst V (sym at) (subst L (sym none) (record {
      needs = (record { source = refl; idle = refl; answered = refl }, λ last is x there. absurd (contains_none x there));
      left = left_none _ _;
    }))

gives_up : (n : ℕ) → suc n < modulus → (v : View) → v ≡ lost_at n → IsTurn BeginsKept InOnePacket (view_moved begin_next v) [] (turn (Move.GiveUp (suc n)) [])
gives_up n small v at =
    let V : View → Type 0 = λ w. IsTurn BeginsKept InOnePacket (view_moved begin_next w) [] (turn (Move.GiveUp (suc n)) []) in
    subst V (sym at) (record {
      needs = record { awaited = ap (λ (k : ℕ). Some k) (next_is n small); no_request = λ x there request same. contains_none x there; unread = λ q there same. contains_none q there };
      left = left_none _ _;
    })

told_incomplete : (n : ℕ) (v : View) → v ≡ lost_at n
    → IsTurn BeginsKept InOnePacket (view_moved (Move.GiveUp (suc n)) (view_moved begin_next v)) [] (turn (Move.TakeAnswer answer.Incomplete []) [])
told_incomplete n v at =
    let V : View → Type 0 = λ w. IsTurn BeginsKept InOnePacket (view_moved (Move.GiveUp (suc n)) (view_moved begin_next w)) [] (turn (Move.TakeAnswer answer.Incomplete []) []) in
    subst V (sym at) (record { needs = refl; left = left_none _ _ })

history_given_up : (n : ℕ) → n < modulus → IsHistoryBy BeginsKept InOnePacket at_first (given_up_to n)
unfolding given_up_to
history_given_up zero small = (
  record { needs = refl; left = left_none _ _ },
  (
    record { needs = record { there = contains_head _ []; brings = tt; awaited = refl }; left = left_none _ _ },
    (
      record { needs = record { destination = refl; waits = refl }; left = left_made _ _ _ (record { kind = refl; number = refl }) },
      (
        record { needs = record { offer = record { source = refl; idle = refl; answered = refl }; free = λ last is. absurd (cc); unkept = λ is. absurd (cc) }; left = left_none _ _ },
        tt,
      ),
    ),
  ),
)
history_given_up (suc n) small =
    let below : n < modulus = omega (arith, small) in
    let v : View = view_after (given_up_to n) at_first in
    let at : v ≡ lost_at n = view_given_up n below in (
      told_incomplete n v at,
      (
        gives_up n small v at,
        (
          begins_unasked n v _ at (left_given_up n),
          history_given_up n below,
        ),
      ),
    )

-- the question about the message that was begun with the number that is kept
asks_first : (n : ℕ) → next n ≡ 0 → (v : View) → v ≡ lost_at n → IsTurn BeginsKept InOnePacket (view_moved begin_next v) [] (turn (Move.Asks 0) (ask_of 0 ∷ []))
asks_first n wraps v at =
    let V : View → Type 0 = λ w. IsTurn BeginsKept InOnePacket (view_moved begin_next w) [] (turn (Move.Asks 0) (ask_of 0 ∷ [])) in
    subst V (sym at) (record { needs = ap (λ (k : ℕ). Some k) wraps; left = left_made _ _ (ask_of 0) (record { kind = refl; number = refl }) })

tells_first : (n : ℕ) (v : View) → v ≡ lost_at n → IsTurn BeginsKept InOnePacket (view_moved begin_next v) (ask_of 0 ∷ []) (turn (Move.Reply (ask_of 0) Kind.Rfnm) (rfnm_of 0 ∷ []))
tells_first n v at =
    let V : View → Type 0 = λ w. IsTurn BeginsKept InOnePacket (view_moved begin_next w) (ask_of 0 ∷ []) (turn (Move.Reply (ask_of 0) Kind.Rfnm) (rfnm_of 0 ∷ [])) in
    subst V (sym at) (record {
      needs = record { there = contains_head (ask_of 0) []; kept = refl; tells = refl };
      left = left_made _ _ (rfnm_of 0) (record { kind = refl; number = refl });
    })

frees_first : (n : ℕ) → next n ≡ 0 → (v : View) → v ≡ lost_at n → IsTurn BeginsKept InOnePacket (view_moved begin_next v) (rfnm_of 0 ∷ []) (turn (Move.Freed (rfnm_of 0) answer.Rfnm) [])
frees_first n wraps v at =
    let V : View → Type 0 = λ w. IsTurn BeginsKept InOnePacket (view_moved begin_next w) (rfnm_of 0 ∷ []) (turn (Move.Freed (rfnm_of 0) answer.Rfnm) []) in
    subst V (sym at) (record { needs = record { there = contains_head (rfnm_of 0) []; brings = tt; awaited = ap (λ (k : ℕ). Some k) wraps }; left = left_none _ _ })

told_rfnm : (n : ℕ) (v : View) → v ≡ lost_at n
    → IsTurn BeginsKept InOnePacket (view_moved (Move.Freed (rfnm_of 0) answer.Rfnm) (view_moved begin_next v)) [] (turn (Move.TakeAnswer answer.Rfnm []) [])
told_rfnm n v at =
    let V : View → Type 0 = λ w. IsTurn BeginsKept InOnePacket (view_moved (Move.Freed (rfnm_of 0) answer.Rfnm) (view_moved begin_next w)) [] (turn (Move.TakeAnswer answer.Rfnm []) []) in
    subst V (sym at) (record { needs = refl; left = left_none _ _ })

-- whatever the modulus: once the number comes again that is kept, an old fate is reported
asked_after_breaks : (n : ℕ) → n < modulus → next n ≡ 0 → Breaks BeginsKept (asked_after n)
asked_after_breaks n small wraps =
    let v : View = view_after (given_up_to n) at_first in
    let at : v ≡ lost_at n = view_given_up n small in
    record {
      history = (
        told_rfnm n v at,
        (
          frees_first n wraps v at,
          (
            tells_first n v at,
            (
              asks_first n wraps v at,
              (
                begins_unasked n v _ at (left_given_up n),
                history_given_up n small,
              ),
            ),
          ),
        ),
      );
      broken = λ run. absurd run.0.1;
    }

pub begins_kept_breaks : Breaks BeginsKept begins_kept
begins_kept_breaks = asked_after_breaks _ (omega (arith, two)) next_last
