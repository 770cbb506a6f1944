-- That the lives of a host with one peer stay beside the calls of its program, by kinds of moments. Main lemmas: In `keeps_in` (a message comes
-- in), Out `keeps_out` (one goes out), Answer `keeps_answer` (an answer comes back), Asked `keeps_asked_by` (a user asks for something), OtherLives
-- `other_forth` (a moment with another peer touches none of them).
pub mod Answer
pub mod Asked
pub mod AskedDown
pub mod AskedNext
pub mod In
pub mod OtherAlike
pub mod OtherLives
pub mod OtherTurns
pub mod Out
