-- What a host takes.
use Rattle.imp_node.proofs.Common.{Flow, Message, Told, State}
use Rattle.std.proofs.Common.{◌≡◌, true, false, List, [], ◌∷◌, length, slice_get, option_map, nat_lt, Some, None, refl, ap, arith}
use Rattle.imp_node.specs.Taking.{taking_has_room, reply_has_room}

-- an answer is always taken
pub room_of_answer : (answers : List Told) (queue : List Message) (s : State) → nat_lt 0 (length answers) ≡ true → taking_has_room answers queue s ≡ true
room_of_answer [] queue s e = cc
room_of_answer (told ∷ others) queue s e = refl

-- without an answer the oldest message is taken
pub room_of_message : (answers : List Told) (queue : List Message) (s : State) (f : Flow) → nat_lt 0 (length answers) ≡ false
    → option_map (λ m. m.flow) (slice_get queue 0) ≡ Some f → taking_has_room answers queue s ≡ reply_has_room s (record { flow = f; number = 0; text = [] })
room_of_message (told ∷ others) queue s f e first = absurd (grind (arith, e))
room_of_message [] [] s f e first = cc
room_of_message [] (m ∷ others) s f e first =
    let same : m.flow ≡ f = cc in
    ap (λ (g : Flow). reply_has_room s (record { flow = g; number = 0; text = [] })) same

-- and where there is none, nothing is
pub room_of_none : (answers : List Told) (queue : List Message) (s : State) → nat_lt 0 (length answers) ≡ false
    → option_map (λ m. m.flow) (slice_get queue 0) ≡ None → taking_has_room answers queue s ≡ true
room_of_none (told ∷ others) queue s e first = absurd (grind (arith, e))
room_of_none [] [] s e first = refl
room_of_none [] (m ∷ others) s e first = cc
