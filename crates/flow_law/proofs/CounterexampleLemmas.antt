-- Each machine that lacks a need breaks its mailbox.
use Rattle.flow_law.proofs.Common.{◌≡◌, ◌≢◌, ℕ, true, false, [], ◌∷◌, Some, None, inl, refl, sym, ◌∙◌, subst, arith, Contains, Box, Packet, Kind, is_request, first_text, contains_head, contains_none}
use Rattle.link_table.specs.Numbers.{modulus, window, next, oldest, is_new, Near}
use Rattle.link_table.proofs.lemmas.{near_same, not_next, two}
use Rattle.flow_law.specs.Moves.{next_number}
use Rattle.flow_law.specs.Local.{answer_packet}
use Rattle.flow_law.specs.Counterexamples.{Breaks, second_text, data_of, rfnm_of, dead_of, OffersDown, offers_down, NotIdle, not_idle, NotAnswered, not_answered, NotesNothing, notes_nothing, NotesAway, notes_away, NotesTaken, notes_taken, NotesOld, notes_old, QueuesOld, queues_old, JoinsAny, joins_any, FreedByNothing, freed_by_nothing, FreedByAny, freed_by_any, FreedByData, freed_by_data, TakesNothing, takes_nothing, ToldNothing, told_nothing, TakesDown, takes_down, SourceStopsTwice, source_stops_twice, DestinationStopsTwice, destination_stops_twice, SourceStartsTwice, source_starts_twice, DestinationStartsTwice, destination_starts_twice, StartsAway, starts_away, StartsUnsettled, starts_unsettled, StartsAlive, starts_alive, StartsQueued, starts_queued, ReturnsAlive, returns_alive, ForgetsAlive, forgets_alive, GivesUpNothing, gives_up_nothing, GivesUpAlive, gives_up_alive, GivesUpQueued, gives_up_queued}
use Rattle.flow_law.proofs.Left.{only, second_there, left_none, left_old, left_made, left_both}
use Rattle.flow_law.proofs.ExampleLemmas.{new_at_first}

-- number 0 isn't the one that would leave the window after number 0
not_oldest : (last : ℕ) → last ≡ 0 → 0 ≢ oldest last
unfolding oldest modulus window
not_oldest last zero same = absurd (omega arith)

zero_is_near : (p : Packet) → p.number ≡ 0 → (last : ℕ) → Some 0 ≡ Some last → (x : Packet) → Contains (p ∷ []) x → x.number ≢ oldest last
zero_is_near p zero last is x there same =
    let number : x.number ≡ 0 = only (λ (y : Packet). y.number ≡ 0) p x zero there in
    let at : last ≡ 0 = cc in
    not_oldest last at (sym number ∙ same)

first_is_new : is_new None 0 ≡ true
unfolding is_new
first_is_new = refl

-- a packet that reports something is no request
pub answer_only : (told : Kind) → is_request told ≡ false → (x : Packet) → Contains (answer_packet told 0 ∷ []) x → is_request x.kind ≡ true → ⊥
answer_only told none x there request =
    let kind : is_request x.kind ≡ false = only (λ (y : Packet). is_request y.kind ≡ false) (answer_packet told 0) x none there in
    absurd (cc)

-- the second number isn't the first
pub second_is_other : Some 0 ≢ Some (next_number (Some 0))
second_is_other same =
    let at : 0 ≡ next 0 = cc in
    let N : ℕ → Type 0 = λ n. Near 0 n in
    not_next 0 (subst N at (near_same 0 (omega (arith, two))))

pub offers_down_breaks : Breaks OffersDown offers_down
offers_down_breaks = record {
  history = (
    record { needs = (refl, refl); left = λ x there. inl there },
    (
      record { needs = refl; left = left_none _ _ },
      tt,
    ),
  );
  broken = λ run. (let up : false ≡ true = run.0.0 in absurd (cc));
}

pub notes_nothing_breaks : Breaks NotesNothing notes_nothing
notes_nothing_breaks = record {
  history = (
    record { needs = refl; left = left_none _ _ },
    (
      record { needs = record { destination = refl; waits = refl }; left = λ x there. inl there },
      (
        record { needs = record { there = contains_head (dead_of 0) []; brings = tt; awaited = refl }; left = left_none _ _ },
        (
          record { needs = record { offer = record { source = refl; idle = refl; answered = refl }; free = λ last is. absurd (cc); unkept = λ is. absurd (cc) }; left = λ x there. inl there },
          (
            record { needs = record { no_request = answer_only Kind.Dead refl; idle = refl }; left = λ x there. inl there },
            (
              record { needs = (new_at_first (data_of 0 first_text) refl, tt); left = left_made _ _ (dead_of 0) (record { refusal = refl; number = refl }) },
              tt,
            ),
          ),
        ),
      ),
    ),
  );
  broken = λ run. absurd run.0.1;
}

pub notes_away_breaks : Breaks NotesAway notes_away
notes_away_breaks = record {
  history = (
    record { needs = refl; left = left_none _ _ },
    (
      record { needs = record { there = contains_head (dead_of 0) []; brings = tt; awaited = refl }; left = left_none _ _ },
      (
        record { needs = (contains_head (data_of 0 first_text) [], refl, first_is_new, tt); left = left_made _ _ (dead_of 0) (record { refusal = refl; number = refl }) },
        (
          record { needs = tt; left = λ x there. inl there },
          (
            record { needs = record { destination = refl; waits = refl }; left = left_old _ _ (data_of 0 first_text) (contains_head (data_of 0 first_text) []) },
            (
              record { needs = record { note = record { there = contains_head (data_of 0 first_text) []; new = new_at_first (data_of 0 first_text) refl }; joined = λ whole all. all (data_of 0 first_text) (contains_head (data_of 0 first_text) []) refl refl }; left = λ x there. inl there },
              (
                record { needs = record { offer = record { source = refl; idle = refl; answered = refl }; free = λ last is. absurd (cc); unkept = λ is. absurd (cc) }; left = left_made _ _ (data_of 0 first_text) (record { data_packet = refl; number = refl; piece = refl }) },
                tt,
              ),
            ),
          ),
        ),
      ),
    ),
  );
  broken = λ run. absurd run.0.1;
}

pub notes_taken_breaks : Breaks NotesTaken notes_taken
notes_taken_breaks = record {
  history = (
    record { needs = refl; left = left_none _ _ },
    (
      record { needs = record { there = contains_head (rfnm_of 0) []; brings = tt; awaited = refl }; left = left_none _ _ },
      (
        record { needs = record { there = contains_head (data_of 0 first_text) []; kept = refl; tells = refl }; left = left_made _ _ (rfnm_of 0) (record { kind = refl; number = refl }) },
        (
          record { needs = record { there = contains_head (data_of 0 first_text) []; new = new_at_first (data_of 0 first_text) refl }; left = λ x there. inl there },
          (
            record { needs = record { offer = record { source = refl; idle = refl; answered = refl }; free = λ last is. absurd (cc); unkept = λ is. absurd (cc) }; left = left_made _ _ (data_of 0 first_text) (record { data_packet = refl; number = refl; piece = refl }) },
            tt,
          ),
        ),
      ),
    ),
  );
  broken = λ run. absurd run.0.1;
}

pub freed_by_nothing_breaks : Breaks FreedByNothing freed_by_nothing
freed_by_nothing_breaks = record {
  history = (
    record { needs = refl; left = left_none _ _ },
    (
      record { needs = (tt, refl); left = left_none _ _ },
      (
        record { needs = record { offer = record { source = refl; idle = refl; answered = refl }; free = λ last is. absurd (cc); unkept = λ is. absurd (cc) }; left = left_made _ _ (data_of 0 first_text) (record { data_packet = refl; number = refl; piece = refl }) },
        tt,
      ),
    ),
  );
  broken = λ run. absurd run.0.1;
}

pub takes_nothing_breaks : Breaks TakesNothing takes_nothing
takes_nothing_breaks = record {
  history = (
    record { needs = refl; left = left_none _ _ },
    tt,
  );
  broken = λ run. absurd run.0.1;
}

pub told_nothing_breaks : Breaks ToldNothing told_nothing
told_nothing_breaks = record {
  history = (
    record { needs = tt; left = left_none _ _ },
    tt,
  );
  broken = λ run. absurd run.0.1;
}

pub source_stops_twice_breaks : Breaks SourceStopsTwice source_stops_twice
source_stops_twice_breaks = record {
  history = (
    record { needs = tt; left = λ x there. inl there },
    (
      record { needs = tt; left = left_none _ _ },
      tt,
    ),
  );
  broken = λ run. (let up : false ≡ true = run.0 in absurd (cc));
}

pub destination_stops_twice_breaks : Breaks DestinationStopsTwice destination_stops_twice
destination_stops_twice_breaks = record {
  history = (
    record { needs = tt; left = left_none _ _ },
    (
      record { needs = tt; left = left_none _ _ },
      tt,
    ),
  );
  broken = λ run. (let up : false ≡ true = run.0 in absurd (cc));
}

pub source_starts_twice_breaks : Breaks SourceStartsTwice source_starts_twice
source_starts_twice_breaks = record {
  history = (
    record { needs = (refl, refl); left = λ x there. inl there },
    tt,
  );
  broken = λ run. (let down : true ≡ false = run.0 in absurd (cc));
}

pub destination_starts_twice_breaks : Breaks DestinationStartsTwice destination_starts_twice
destination_starts_twice_breaks = record {
  history = (
    record { needs = tt; left = λ x there. inl there },
    tt,
  );
  broken = λ run. (let down : true ≡ false = run.0 in absurd (cc));
}

pub gives_up_nothing_breaks : Breaks GivesUpNothing gives_up_nothing
gives_up_nothing_breaks = record {
  history = (
    record { needs = refl; left = left_none _ _ },
    (
      record { needs = (λ x there kind same. contains_none x there, λ q there same. contains_none q there); left = left_none _ _ },
      tt,
    ),
  );
  broken = λ run. absurd run.0.1;
}

pub not_idle_breaks : Breaks NotIdle not_idle
not_idle_breaks = record {
  history = (
    record { needs = (refl, refl, zero_is_near (data_of 0 first_text) refl, λ is. absurd (cc)); left = left_none _ _ },
    (
      record { needs = (refl, refl, λ last is. absurd (cc), λ is. absurd (cc)); left = left_made _ _ (data_of 0 first_text) (record { data_packet = refl; number = refl; piece = refl }) },
      tt,
    ),
  );
  broken = λ run. (let full : Box.Waiting 0 first_text ≡ Box.Empty = run.0.1 in absurd (cc));
}

pub not_answered_breaks : Breaks NotAnswered not_answered
not_answered_breaks = record {
  history = (
    record { needs = (refl, refl); left = λ x there. inl there },
    (
      record { needs = (refl, refl); left = λ x there. inl there },
      tt,
    ),
  );
  broken = λ run. (let full : Box.Waiting 0 first_text ≡ Box.Empty = run.0.1 in absurd (cc));
}

pub notes_old_breaks : Breaks NotesOld notes_old
notes_old_breaks = record {
  history = (
    record { needs = refl; left = left_none _ _ },
    (
      record { needs = record { destination = refl; waits = refl }; left = left_none _ _ },
      (
        record { needs = record { there = contains_head (dead_of 0) []; brings = tt; awaited = refl }; left = left_none _ _ },
        (
          record { needs = (contains_head (data_of 0 first_text) [], refl, refl, tt); left = left_made _ _ (dead_of 0) (record { refusal = refl; number = refl }) },
          (
            record { needs = record { note = record { there = contains_head (data_of 0 first_text) []; new = new_at_first (data_of 0 first_text) refl }; joined = λ whole all. all (data_of 0 first_text) (contains_head (data_of 0 first_text) []) refl refl }; left = λ x there. inl there },
            (
              record { needs = record { offer = record { source = refl; idle = refl; answered = refl }; free = λ last is. absurd (cc); unkept = λ is. absurd (cc) }; left = left_made _ _ (data_of 0 first_text) (record { data_packet = refl; number = refl; piece = refl }) },
              tt,
            ),
          ),
        ),
      ),
    ),
  );
  broken = λ run. absurd run.0.1;
}

pub queues_old_breaks : Breaks QueuesOld queues_old
queues_old_breaks = record {
  history = (
    record { needs = record { destination = refl; waits = refl }; left = λ x there. inl there },
    (
      record { needs = record { destination = refl; waits = refl }; left = left_none _ _ },
      (
        record { needs = (contains_head (data_of 0 first_text) [], refl, refl, λ whole all. all (data_of 0 first_text) (contains_head (data_of 0 first_text) []) refl refl); left = λ x there. inl there },
        (
          record { needs = (contains_head (data_of 0 first_text) [], refl, refl, λ whole all. all (data_of 0 first_text) (contains_head (data_of 0 first_text) []) refl refl); left = λ x there. inl there },
          (
            record { needs = record { offer = record { source = refl; idle = refl; answered = refl }; free = λ last is. absurd (cc); unkept = λ is. absurd (cc) }; left = left_made _ _ (data_of 0 first_text) (record { data_packet = refl; number = refl; piece = refl }) },
            tt,
          ),
        ),
      ),
    ),
  );
  broken = λ run. absurd run.0.1;
}

pub joins_any_breaks : Breaks JoinsAny joins_any
joins_any_breaks = record {
  history = (
    record { needs = record { destination = refl; waits = refl }; left = λ x there. inl there },
    (
      record { needs = record { there = contains_head (data_of 0 first_text) []; new = new_at_first (data_of 0 first_text) refl }; left = left_none _ _ },
      (
        record { needs = record { offer = record { source = refl; idle = refl; answered = refl }; free = λ last is. absurd (cc); unkept = λ is. absurd (cc) }; left = left_made _ _ (data_of 0 first_text) (record { data_packet = refl; number = refl; piece = refl }) },
        tt,
      ),
    ),
  );
  broken = λ run. (let same : first_text ≡ second_text = run.0.1 in absurd (cc));
}

pub freed_by_any_breaks : Breaks FreedByAny freed_by_any
freed_by_any_breaks = record {
  history = (
    record { needs = refl; left = left_none _ _ },
    (
      record { needs = (next_number (Some 0), contains_head (rfnm_of 0) [], tt, refl); left = left_none _ _ },
      (
        record { needs = record { offer = record { source = refl; idle = refl; answered = refl }; free = zero_is_near (rfnm_of 0) refl; unkept = second_is_other }; left = left_old _ _ (rfnm_of 0) (contains_head (rfnm_of 0) []) },
        (
          record { needs = refl; left = λ x there. inl there },
          (
            record { needs = (0, contains_head (rfnm_of 0) [], tt, refl); left = λ x there. inl there },
            (
              record { needs = record { destination = refl; waits = refl }; left = left_made _ _ (rfnm_of 0) (record { kind = refl; number = refl }) },
              (
                record { needs = record { offer = record { source = refl; idle = refl; answered = refl }; free = λ last is. absurd (cc); unkept = λ is. absurd (cc) }; left = λ x there. inl there },
                tt,
              ),
            ),
          ),
        ),
      ),
    ),
  );
  broken = λ run. absurd run.0.1;
}

pub freed_by_data_breaks : Breaks FreedByData freed_by_data
freed_by_data_breaks = record {
  history = (
    record { needs = refl; left = left_none _ _ },
    (
      record { needs = (contains_head (data_of 0 first_text) [], refl); left = left_none _ _ },
      (
        record { needs = record { offer = record { source = refl; idle = refl; answered = refl }; free = λ last is. absurd (cc); unkept = λ is. absurd (cc) }; left = left_made _ _ (data_of 0 first_text) (record { data_packet = refl; number = refl; piece = refl }) },
        tt,
      ),
    ),
  );
  broken = λ run. absurd run.0.1;
}

pub takes_down_breaks : Breaks TakesDown takes_down
takes_down_breaks = record {
  history = (
    record { needs = refl; left = left_none _ _ },
    (
      record { needs = record { offer = record { source = refl; idle = refl; answered = refl }; free = λ last is. absurd (cc); unkept = λ is. absurd (cc) }; left = λ x there. inl there },
      (
        record { needs = refl; left = left_none _ _ },
        tt,
      ),
    ),
  );
  broken = λ run. (let up : false ≡ true = run.0.0 in absurd (cc));
}

pub starts_away_breaks : Breaks StartsAway starts_away
starts_away_breaks = record {
  history = (
    record { needs = record { destination = refl; waits = refl }; left = left_none _ _ },
    (
      record { needs = (refl, refl); left = λ x there. inl there },
      (
        record { needs = tt; left = λ x there. inl there },
        (
          record { needs = record { offer = record { source = refl; idle = refl; answered = refl }; free = λ last is. absurd (cc); unkept = λ is. absurd (cc) }; left = λ x there. inl there },
          tt,
        ),
      ),
    ),
  );
  broken = λ run. absurd run.0.1;
}

pub starts_unsettled_breaks : Breaks StartsUnsettled starts_unsettled
starts_unsettled_breaks = record {
  history = (
    record { needs = record { destination = refl; waits = refl }; left = left_none _ _ },
    (
      record { needs = (refl, refl); left = λ x there. inl there },
      (
        record { needs = refl; left = λ x there. inl there },
        (
          record { needs = record { offer = record { source = refl; idle = refl; answered = refl }; free = λ last is. absurd (cc); unkept = λ is. absurd (cc) }; left = λ x there. inl there },
          tt,
        ),
      ),
    ),
  );
  broken = λ run. absurd run.0.1;
}

pub starts_alive_breaks : Breaks StartsAlive starts_alive
starts_alive_breaks = record {
  history = (
    record { needs = record { destination = refl; waits = refl }; left = left_none _ _ },
    (
      record { needs = record { from_up = refl; down = refl; idle = refl }; left = λ x there. inl there },
      (
        record { needs = record { note = record { there = contains_head (data_of 0 first_text) []; new = new_at_first (data_of 0 first_text) refl }; joined = λ whole all. all (data_of 0 first_text) (contains_head (data_of 0 first_text) []) refl refl }; left = left_none _ _ },
        (
          record { needs = refl; left = λ x there. inl there },
          (
            record { needs = tt; left = λ x there. inl there },
            (
              record { needs = record { offer = record { source = refl; idle = refl; answered = refl }; free = λ last is. absurd (cc); unkept = λ is. absurd (cc) }; left = left_made _ _ (data_of 0 first_text) (record { data_packet = refl; number = refl; piece = refl }) },
              tt,
            ),
          ),
        ),
      ),
    ),
  );
  broken = λ run. absurd run.0.1;
}

pub starts_queued_breaks : Breaks StartsQueued starts_queued
starts_queued_breaks = record {
  history = (
    record { needs = record { destination = refl; waits = refl }; left = left_none _ _ },
    (
      record { needs = record { from_up = refl; down = refl; idle = refl }; left = λ x there. inl there },
      (
        record { needs = contains_none; left = λ x there. inl there },
        (
          record { needs = tt; left = λ x there. inl there },
          (
            record { needs = record { offer = record { source = refl; idle = refl; answered = refl }; free = λ last is. absurd (cc); unkept = λ is. absurd (cc) }; left = λ x there. inl there },
            tt,
          ),
        ),
      ),
    ),
  );
  broken = λ run. absurd run.0.1;
}

pub returns_alive_breaks : Breaks ReturnsAlive returns_alive
returns_alive_breaks = record {
  history = (
    record { needs = record { destination = refl; waits = refl }; left = left_none _ _ },
    (
      record { needs = record { note = record { there = contains_head (data_of 0 first_text) []; new = new_at_first (data_of 0 first_text) refl }; joined = λ whole all. all (data_of 0 first_text) (contains_head (data_of 0 first_text) []) refl refl }; left = left_none _ _ },
      (
        record { needs = refl; left = λ x there. inl there },
        (
          record { needs = refl; left = λ x there. inl there },
          (
            record { needs = tt; left = λ x there. inl there },
            (
              record { needs = record { there = contains_head (rfnm_of 0) (data_of 0 first_text ∷ []); brings = tt; awaited = refl }; left = left_old _ _ (data_of 0 first_text) (second_there (rfnm_of 0) (data_of 0 first_text) []) },
              (
                record { needs = record { destination = refl; waits = refl }; left = left_both _ _ (rfnm_of 0) (data_of 0 first_text) (record { kind = refl; number = refl }) (contains_head (data_of 0 first_text) []) },
                (
                  record { needs = record { note = record { there = contains_head (data_of 0 first_text) []; new = new_at_first (data_of 0 first_text) refl }; joined = λ whole all. all (data_of 0 first_text) (contains_head (data_of 0 first_text) []) refl refl }; left = λ x there. inl there },
                  (
                    record { needs = record { offer = record { source = refl; idle = refl; answered = refl }; free = λ last is. absurd (cc); unkept = λ is. absurd (cc) }; left = left_made _ _ (data_of 0 first_text) (record { data_packet = refl; number = refl; piece = refl }) },
                    tt,
                  ),
                ),
              ),
            ),
          ),
        ),
      ),
    ),
  );
  broken = λ run. absurd run.0.1;
}

pub forgets_alive_breaks : Breaks ForgetsAlive forgets_alive
forgets_alive_breaks = record {
  history = (
    record { needs = record { destination = refl; waits = refl }; left = left_none _ _ },
    (
      record { needs = record { note = record { there = contains_head (data_of 0 first_text) []; new = new_at_first (data_of 0 first_text) refl }; joined = λ whole all. all (data_of 0 first_text) (contains_head (data_of 0 first_text) []) refl refl }; left = left_none _ _ },
      (
        record { needs = refl; left = λ x there. inl there },
        (
          record { needs = record { there = contains_head (rfnm_of 0) (data_of 0 first_text ∷ []); brings = tt; awaited = refl }; left = left_old _ _ (data_of 0 first_text) (second_there (rfnm_of 0) (data_of 0 first_text) []) },
          (
            record { needs = record { destination = refl; waits = refl }; left = left_both _ _ (rfnm_of 0) (data_of 0 first_text) (record { kind = refl; number = refl }) (contains_head (data_of 0 first_text) []) },
            (
              record { needs = record { note = record { there = contains_head (data_of 0 first_text) []; new = new_at_first (data_of 0 first_text) refl }; joined = λ whole all. all (data_of 0 first_text) (contains_head (data_of 0 first_text) []) refl refl }; left = λ x there. inl there },
              (
                record { needs = record { offer = record { source = refl; idle = refl; answered = refl }; free = λ last is. absurd (cc); unkept = λ is. absurd (cc) }; left = left_made _ _ (data_of 0 first_text) (record { data_packet = refl; number = refl; piece = refl }) },
                tt,
              ),
            ),
          ),
        ),
      ),
    ),
  );
  broken = λ run. absurd run.0.1;
}

pub gives_up_alive_breaks : Breaks GivesUpAlive gives_up_alive
gives_up_alive_breaks = record {
  history = (
    record { needs = record { destination = refl; waits = refl }; left = left_none _ _ },
    (
      record { needs = refl; left = λ x there. inl there },
      (
        record { needs = record { note = record { there = contains_head (data_of 0 first_text) []; new = new_at_first (data_of 0 first_text) refl }; joined = λ whole all. all (data_of 0 first_text) (contains_head (data_of 0 first_text) []) refl refl }; left = left_none _ _ },
        (
          record { needs = (refl, λ q there same. contains_none q there); left = λ x there. inl there },
          (
            record { needs = record { offer = record { source = refl; idle = refl; answered = refl }; free = λ last is. absurd (cc); unkept = λ is. absurd (cc) }; left = left_made _ _ (data_of 0 first_text) (record { data_packet = refl; number = refl; piece = refl }) },
            tt,
          ),
        ),
      ),
    ),
  );
  broken = λ run. absurd run.0.1;
}

pub gives_up_queued_breaks : Breaks GivesUpQueued gives_up_queued
gives_up_queued_breaks = record {
  history = (
    record { needs = record { destination = refl; waits = refl }; left = left_none _ _ },
    (
      record { needs = refl; left = λ x there. inl there },
      (
        record { needs = (refl, λ x there kind same. contains_none x there); left = λ x there. inl there },
        (
          record { needs = record { offer = record { source = refl; idle = refl; answered = refl }; free = λ last is. absurd (cc); unkept = λ is. absurd (cc) }; left = λ x there. inl there },
          tt,
        ),
      ),
    ),
  );
  broken = λ run. absurd run.0.1;
}
