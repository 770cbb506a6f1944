-- Machines that ask, report or forget what is asked for where they shouldn't.
use Rattle.flow_law.proofs.Common.{[], ◌∷◌, inl, refl, Kind, first_text, contains_head, contains_none}
use Rattle.flow_law.specs.Counterexamples.{Breaks, data_of, dead_of, rfnm_of, never_of, ask_of, second, ReturnsAwaited, returns_awaited, ForgetsAwaited, forgets_awaited, AsksAnything, asks_anything, RepliesToNothing, replies_to_nothing, RepliesToAny, replies_to_any, RepliesFalsely, replies_falsely, NeverOfWaiting, never_of_waiting, NeverOfTaken, never_of_taken, NeverUnnoted, never_unnoted}
use Rattle.flow_law.proofs.Left.{second_there, left_none, left_old, left_made, left_both}
use Rattle.flow_law.proofs.ExampleLemmas.{new_at_first}
use Rattle.flow_law.proofs.CounterexampleLemmas.{answer_only, second_is_other}

pub returns_awaited_breaks : Breaks ReturnsAwaited returns_awaited
returns_awaited_breaks = record {
  history = (
    record { needs = refl; left = left_none _ _ },
    (
      record { needs = record { there = contains_head _ []; brings = tt; awaited = refl }; left = left_none _ _ },
      (
        record { needs = (record { there = contains_head _ []; new = new_at_first _ refl }, tt); left = left_made _ _ _ (record { refusal = refl; number = refl }) },
        (
          record { needs = refl; left = left_made _ _ _ (record { kind = refl; number = refl }) },
          (
            record { needs = λ x there request. contains_none x there; left = λ x there. inl there },
            (
              record { needs = tt; left = λ x there. inl there },
              (
                record { needs = record { destination = refl; waits = refl }; left = left_none _ _ },
                (
                  record { needs = record { offer = record { source = refl; idle = refl; answered = refl }; free = λ last is. absurd (cc); unkept = λ is. absurd (cc) }; left = λ x there. inl there },
                  tt,
                ),
              ),
            ),
          ),
        ),
      ),
    ),
  );
  broken = λ run. absurd run.0.1;
}

pub forgets_awaited_breaks : Breaks ForgetsAwaited forgets_awaited
forgets_awaited_breaks = record {
  history = (
    record { needs = refl; left = left_none _ _ },
    (
      record { needs = record { there = contains_head _ []; brings = tt; awaited = refl }; left = left_none _ _ },
      (
        record { needs = (record { there = contains_head _ []; new = new_at_first _ refl }, tt); left = left_made _ _ _ (record { refusal = refl; number = refl }) },
        (
          record { needs = refl; left = left_made _ _ _ (record { kind = refl; number = refl }) },
          (
            record { needs = λ x there request. contains_none x there; left = λ x there. inl there },
            (
              record { needs = record { destination = refl; waits = refl }; left = left_none _ _ },
              (
                record { needs = record { offer = record { source = refl; idle = refl; answered = refl }; free = λ last is. absurd (cc); unkept = λ is. absurd (cc) }; left = λ x there. inl there },
                tt,
              ),
            ),
          ),
        ),
      ),
    ),
  );
  broken = λ run. absurd run.0.1;
}

pub asks_anything_breaks : Breaks AsksAnything asks_anything
asks_anything_breaks = record {
  history = (
    record { needs = refl; left = left_none _ _ },
    (
      record { needs = record { destination = refl; waits = refl }; left = left_none _ _ },
      (
        record { needs = record { there = contains_head _ []; brings = tt; awaited = refl }; left = left_none _ _ },
        (
          record { needs = record { offer = record { source = refl; idle = refl; answered = refl }; free = λ last is. absurd (cc); unkept = λ is. absurd (cc) }; left = λ x there. inl there },
          (
            record { needs = record { no_request = answer_only Kind.Never refl; idle = refl }; left = λ x there. inl there },
            (
              record { needs = (record { there = contains_head _ []; new = new_at_first _ refl }, tt); left = left_made _ _ _ (record { refusal = refl; number = refl }) },
              (
                record { needs = tt; left = left_made _ _ _ (record { kind = refl; number = refl }) },
                tt,
              ),
            ),
          ),
        ),
      ),
    ),
  );
  broken = λ run. absurd run.0.1;
}

pub replies_to_nothing_breaks : Breaks RepliesToNothing replies_to_nothing
replies_to_nothing_breaks = record {
  history = (
    record { needs = refl; left = left_none _ _ },
    (
      record { needs = record { there = contains_head _ []; brings = tt; awaited = refl }; left = left_none _ _ },
      (
        record { needs = record { offer = record { source = refl; idle = refl; answered = refl }; free = λ last is. absurd (cc); unkept = λ is. absurd (cc) }; left = left_old _ _ _ (contains_head _ []) },
        (
          record { needs = record { no_request = answer_only Kind.Rfnm refl; idle = refl }; left = λ x there. inl there },
          (
            record { needs = (refl, refl); left = left_made _ _ _ (record { kind = refl; number = refl }) },
            (
              record { needs = record { from_up = refl; down = refl; idle = refl }; left = λ x there. inl there },
              (
                record { needs = record { no_packet = contains_none; unread = refl }; left = λ x there. inl there },
                (
                  record { needs = tt; left = λ x there. inl there },
                  (
                    record { needs = record { destination = refl; waits = refl }; left = left_none _ _ },
                    (
                      record { needs = record { offer = record { source = refl; idle = refl; answered = refl }; free = λ last is. absurd (cc); unkept = λ is. absurd (cc) }; left = λ x there. inl there },
                      tt,
                    ),
                  ),
                ),
              ),
            ),
          ),
        ),
      ),
    ),
  );
  broken = λ run. absurd run.0.1;
}

pub replies_to_any_breaks : Breaks RepliesToAny replies_to_any
replies_to_any_breaks = record {
  history = (
    record { needs = refl; left = left_none _ _ },
    (
      record { needs = record { there = contains_head _ []; brings = tt; awaited = refl }; left = left_none _ _ },
      (
        record { needs = (contains_head _ [], refl); left = left_made _ _ _ (record { kind = refl; number = refl }) },
        (
          record { needs = refl; left = left_made _ _ _ (record { kind = refl; number = refl }) },
          (
            record { needs = record { offer = record { source = refl; idle = refl; answered = refl }; free = λ last is x there. absurd (contains_none x there); unkept = second_is_other }; left = left_none _ _ },
            (
              record { needs = refl; left = left_none _ _ },
              (
                record { needs = record { there = contains_head _ []; brings = tt; awaited = refl }; left = left_none _ _ },
                (
                  record { needs = record { destination = refl; waits = refl }; left = left_made _ _ _ (record { kind = refl; number = refl }) },
                  (
                    record { needs = record { offer = record { source = refl; idle = refl; answered = refl }; free = λ last is. absurd (cc); unkept = λ is. absurd (cc) }; left = λ x there. inl there },
                    tt,
                  ),
                ),
              ),
            ),
          ),
        ),
      ),
    ),
  );
  broken = λ run. absurd run.0.1;
}

pub replies_falsely_breaks : Breaks RepliesFalsely replies_falsely
replies_falsely_breaks = record {
  history = (
    record { needs = refl; left = left_none _ _ },
    (
      record { needs = record { there = contains_head _ []; brings = tt; awaited = refl }; left = left_none _ _ },
      (
        record { needs = record { destination = refl; waits = refl }; left = λ x there. inl there },
        (
          record { needs = (contains_head _ [], refl); left = left_made _ _ _ (record { kind = refl; number = refl }) },
          (
            record { needs = refl; left = left_made _ _ _ (record { kind = refl; number = refl }) },
            (
              record { needs = record { offer = record { source = refl; idle = refl; answered = refl }; free = λ last is. absurd (cc); unkept = λ is. absurd (cc) }; left = λ x there. inl there },
              tt,
            ),
          ),
        ),
      ),
    ),
  );
  broken = λ run. absurd run.0.1;
}

pub never_of_waiting_breaks : Breaks NeverOfWaiting never_of_waiting
never_of_waiting_breaks = record {
  history = (
    record { needs = refl; left = left_none _ _ },
    (
      record { needs = record { there = contains_head _ []; brings = tt; awaited = refl }; left = left_none _ _ },
      (
        record { needs = record { destination = refl; waits = refl }; left = λ x there. inl there },
        (
          record { needs = (contains_head _ [], refl, refl, refl); left = left_made _ _ _ (record { kind = refl; number = refl }) },
          (
            record { needs = refl; left = left_made _ _ _ (record { kind = refl; number = refl }) },
            (
              record { needs = record { offer = record { source = refl; idle = refl; answered = refl }; free = λ last is. absurd (cc); unkept = λ is. absurd (cc) }; left = λ x there. inl there },
              tt,
            ),
          ),
        ),
      ),
    ),
  );
  broken = λ run. absurd run.0.1;
}

pub never_of_taken_breaks : Breaks NeverOfTaken never_of_taken
never_of_taken_breaks = record {
  history = (
    record { needs = refl; left = left_none _ _ },
    (
      record { needs = record { there = contains_head _ []; brings = tt; awaited = refl }; left = left_none _ _ },
      (
        record { needs = (contains_head _ [], refl, refl, refl); left = left_made _ _ _ (record { kind = refl; number = refl }) },
        (
          record { needs = refl; left = left_made _ _ _ (record { kind = refl; number = refl }) },
          (
            record { needs = record { destination = refl; waits = refl }; left = left_none _ _ },
            (
              record { needs = record { offer = record { source = refl; idle = refl; answered = refl }; free = λ last is. absurd (cc); unkept = λ is. absurd (cc) }; left = λ x there. inl there },
              tt,
            ),
          ),
        ),
      ),
    ),
  );
  broken = λ run. absurd run.0.1;
}

pub never_unnoted_breaks : Breaks NeverUnnoted never_unnoted
never_unnoted_breaks = record {
  history = (
    record { needs = refl; left = left_none _ _ },
    (
      record { needs = record { there = contains_head _ []; brings = tt; awaited = refl }; left = left_none _ _ },
      (
        record { needs = record { destination = refl; waits = refl }; left = λ x there. inl there },
        (
          record {
            needs = record {
              note = record { there = second_there _ _ []; new = new_at_first _ refl };
              joined = λ whole all. all _ (second_there _ _ []) refl refl;
            };
            left = left_old _ _ _ (contains_head _ (data_of 0 first_text ∷ []));
          },
          (
            record {
              needs = (record { there = contains_head _ (data_of 0 first_text ∷ []); new = new_at_first _ refl }, refl);
              left = left_both _ _ _ _ (record { kind = refl; number = refl }) (second_there _ _ []);
            },
            (
              record { needs = refl; left = left_both _ _ _ _ (record { kind = refl; number = refl }) (contains_head _ []) },
              (
                record {
                  needs = record { offer = record { source = refl; idle = refl; answered = refl }; free = λ last is. absurd (cc); unkept = λ is. absurd (cc) };
                  left = left_made _ _ _ (record { data_packet = refl; number = refl; piece = refl });
                },
                tt,
              ),
            ),
          ),
        ),
      ),
    ),
  );
  broken = λ run. absurd run.0.1;
}
