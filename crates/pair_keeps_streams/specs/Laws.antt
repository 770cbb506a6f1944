-- The law of src/ that is longer than a line: a record, whose fields are the clauses.
use Rattle.std.specs.Prelude.{◌+◌, ◌∷◌, ◌≡◌, [], false, true}
use Rattle.ncp_control.specs.declared.command.Command.TheVariants as command
use Rattle.stream_law.specs.Words.{All, Cls, Gvb, Ret, Rts, Str}
use Rattle.pair_keeps_streams.specs.Words.{closings_in, receiver_words, sender_words}

-- The words of commands. Here the number of a connection is its speaker's own socket, and how many of its sockets' are
-- over.
pub record WorkedWords : Type 0 where
  -- a receiver's words name its link, and a CLS counts for the next request of its sockets
  pub receiver :
      receiver_words (λ own foreign n. own + n) 5 (λ c. true) (λ own foreign. 0)
      (command.Rts 16 33 5 ∷ command.Rts 18 35 7 ∷ command.All 5 1 2 ∷ command.All 7 3 4 ∷ command.Str 35 18 8 ∷
      command.Cls 16 33 ∷ command.Rts 16 33 5 ∷ []) ≡ Rts 16 ∷ All 0 1 2 ∷ Cls 16 ∷ Rts 17 ∷ []
  -- the CLS of one that was never asked for on the link is no word there
  pub refused :
      receiver_words (λ own foreign n. own + n) 5 (λ c. false) (λ own foreign. 0)
      (command.Cls 16 33 ∷ command.Gvb 5 1 2 ∷ []) ≡ Gvb 0 1 2 ∷ []
  -- a sender's STR and CLS are words on each link
  pub sender :
      sender_words (λ own foreign n. own + n) 5 (λ own foreign. 0)
      (command.Str 33 16 8 ∷ command.Ret 5 1 2 ∷ command.Ret 7 3 4 ∷ command.Cls 33 16 ∷ command.Cls 16 33 ∷
      command.Str 33 16 8 ∷ []) ≡ Str 33 8 ∷ Ret 0 1 2 ∷ Cls 33 ∷ Str 34 8 ∷ []
  pub counts : closings_in (command.Cls 16 33 ∷ command.Cls 18 33 ∷ command.Cls 16 33 ∷ []) (λ own foreign. 3) 16 33 ≡ 5
