-- The events of a round, seat by seat.
use Rattle.world_trace.proofs.Common.{flat_map, up_in, Event, Seat, CalmEvent}
use Rattle.std.proofs.Common.{◌≡◌, ℕ, ◌+◌, ◌<◌, ◌≤◌, Bool, true, false, List, [], ◌∷◌, ◌++◌, drop, get_or, length, map, refl, ap, sym, ◌∙◌, is_some}
use Rattle.std.proofs.lemmas.List.{append_assoc, append-nil, drop_all, drop_more, map-append}
use Rattle.world_replay.specs.Rounds.{turns_in, turn_of}
use Rattle.world_trace.specs.Steps.{turn, turns_at}

-- those at some seats
abbrev pub turns_at_all : List Seat → List (Event × ℕ)
turns_at_all seats = flat_map turn_of (up_in seats)

one_seat : (s : Seat) (seats : List Seat) (b : Bool) → is_some s.program ≡ b → turns_at_all (s ∷ seats) ≡ turns_at s ++ turns_at_all seats
one_seat s seats true is = rw is refl
one_seat s seats false is = rw is refl

-- the events so far, and those at the seats that are left
abbrev pub TurnsSoFar : List Seat → ℕ → List (CalmEvent × ℕ) → Type 0
TurnsSoFar seats i turns = map turn turns ++ turns_at_all (drop i seats) ≡ turns_in seats

pub next_turn : (seats : List Seat) (i : ℕ) (s : Seat) (turns more : List (CalmEvent × ℕ)) → i < length seats → s ≡ get_or seats i s → map turn more ≡ map turn turns ++ turns_at s → TurnsSoFar seats i turns → TurnsSoFar seats (i + 1) more
next_turn seats i s turns more lt is added so =
    let here : drop i seats ≡ s ∷ drop (i + 1) seats = drop_more seats i s lt ∙ ap (λ (x : Seat). x ∷ drop (i + 1) seats) (sym is) in
    let left : turns_at_all (drop i seats) ≡ turns_at s ++ turns_at_all (drop (i + 1) seats) = ap turns_at_all here ∙ one_seat s (drop (i + 1) seats) (is_some s.program) refl in
    ap (λ (ts : List (Event × ℕ)). ts ++ turns_at_all (drop (i + 1) seats)) added ∙ append_assoc (map turn turns) (turns_at s) (turns_at_all (drop (i + 1) seats)) ∙ ap (λ ts. map turn turns ++ ts) (sym left) ∙ so

pub all_turns : (seats : List Seat) (i : ℕ) (turns : List (CalmEvent × ℕ)) → length seats ≤ i → TurnsSoFar seats i turns → map turn turns ≡ turns_in seats
all_turns seats i turns le so = sym (append-nil (map turn turns)) ∙ ap (λ (left : List Seat). map turn turns ++ turns_at_all left) (sym (drop_all i seats le)) ∙ so
