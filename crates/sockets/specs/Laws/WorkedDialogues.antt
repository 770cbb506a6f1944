-- A law of src/law.rt: its fields are the clauses.
use Rattle.std.specs.Prelude.{[], ◌++◌, ◌∷◌, ◌≡◌}
use Rattle.bit_messages.specs.Octets.{bits_of}
use Rattle.host_pairs.specs.declared.notice.Notice.TheVariants as notice
use Rattle.sockets.specs.Worked as dialogue
use Rattle.sockets.specs.Worked.{asking_back, closing, crossing, failing, first, opening_connection, second, sending}
use Rattle.sockets.specs.Worked.{talk, twelve}

-- Dialogues of two hosts, and the notices to each of them.
pub record WorkedDialogues : Type 0 where
  -- a contact makes both hosts ready: the second by the RST, the first by the RRP
  pub reset : (talk dialogue.reset).notices ≡ (second, notice.Ready first) ∷ (first, notice.Ready second) ∷ []
  -- RSTs that cross do the same, and nothing more
  pub crossing : (talk crossing).notices ≡ (second, notice.Ready first) ∷ (first, notice.Ready second) ∷ []
  -- a contact fails though its RST was taken, and the next one resets a pair that the second host held for open
  pub failing :
      (talk failing).notices
      ≡ (second, notice.Ready first) ∷ (first, notice.ContactFailed second) ∷ (second, notice.PairReset first) ∷
      (first, notice.Ready second) ∷ []
  -- a connection opens at its sender when the STR is out, at its receiver when that is taken; it ends at each when both
  -- CLS have passed
  pub connection :
      (talk (dialogue.reset ++ opening_connection ++ closing)).notices
      ≡ (second, notice.Ready first) ∷ (first, notice.Ready second) ∷ (second, notice.Opened 33 first 16 8 7) ∷
      (first, notice.Opened 16 second 33 6 10) ∷ (second, notice.Ended 33 first 16) ∷
      (first, notice.Ended 16 second 33) ∷ []
  -- of thirteen octets the hundred bits granted cover twelve; then what is left is asked back
  pub «data» :
      (talk (dialogue.reset ++ opening_connection ++ sending ++ asking_back)).notices
      ≡ (second, notice.Ready first) ∷ (first, notice.Ready second) ∷ (second, notice.Opened 33 first 16 8 7) ∷
      (first, notice.Opened 16 second 33 6 10) ∷ (second, notice.Sent 33 (bits_of twelve)) ∷
      (first, notice.Arrived 16 (bits_of twelve)) ∷ (first, notice.Returned 16 1 4) ∷ []
