-- Worked rows.
use Rattle.std.specs.Prelude.{◌+◌, ◌∷◌, ◌≡◌, [], false, List, true}
use Rattle.interface.specs.declared.crossing.Crossing.TheVariants as crossing
use Rattle.interface.specs.declared.message.HostMessage.{HostMessage}
use Rattle.ncp_control.specs.declared.command.Command.TheVariants as command
use Rattle.host_pairs.specs.Control.{Legal, Wrong}
use Rattle.sockets.specs.Worked as dialogue
use Rattle.reset_law.specs.Events.{Contact, In, Other, Out, Reset}
use Rattle.reset_law.specs.Example.{one, two}
use Rattle.pairing_law.specs.Example.{first_sockets, second_sockets}
use Rattle.pairing_law.specs.Links.{heard_words, Leaves, Receiver, Says, Sender, stays}
use Rattle.pairing_law.specs.Marks.{Ask, Close}
use Rattle.pairing_law.specs.Places.{tagged}
use Rattle.host_keeps_pairing.specs.Spoken.{asking, reset_of_two}
use Rattle.promise.specs.Safe.{control_flow}
use Rattle.net_sim.specs.Story.{Moment}
use Rattle.net_sim.specs.Timeline.{crossings_of}
use Rattle.net_sim.specs.Told.{kept_in}
use Rattle.net_sim.specs.Worked as worked
use Rattle.net_sim.specs.WorkedMoments.{connected}
use Rattle.world_keeps_pairing.specs.Free.{origin_in}
use Rattle.world_keeps_pairing.specs.Lives.{openings, with_lives}
use Rattle.world_keeps_pairing.specs.Steps.{steps, words_by}
use Rattle.world_keeps_pairing.specs.WorkedLives.{closed_early}

-- Lives of a book, as the law describes them.
pub record WorkedLives : Type 0 where
  -- the first host's life of socket 16 with the second's 33, and the other way; the newest comes first
  pub receiver :
      with_lives (λ p. p + 20) dialogue.first dialogue.second 16 33 worked.used.book.lives []
      ≡ record { own = 0; partner = 24 } ∷ []
  pub sender :
      with_lives (λ p. p + 20) dialogue.second dialogue.first 33 16 worked.used.book.lives
      (record { own = 7; partner = 8 } ∷ []) ≡ record { own = 2; partner = 21 } ∷ record { own = 7; partner = 8 } ∷ []
  -- no life is of other sockets, of the same the other way, or of another host
  pub others :
      (with_lives (λ p. p) dialogue.first dialogue.second 16 35 worked.used.book.lives [] ≡ []) ×
      (with_lives (λ p. p) dialogue.first dialogue.second 33 16 worked.used.book.lives [] ≡ []) ×
      (with_lives (λ p. p) dialogue.second dialogue.first 16 33 worked.used.book.lives [] ≡ [])
  -- where the RTS of the first host's socket 16 went out at place 6, and the STR of the second's socket 33 at place 8,
  -- both have one opening, each with the other's request for its partner's; and so have their lives in the book
  pub law :
      (openings dialogue.first dialogue.second 16 33 connected ≡ record { own = 6; partner = 8 } ∷ []) ×
      (openings dialogue.second dialogue.first 33 16 connected ≡ record { own = 8; partner = 6 } ∷ [])
  pub told :
      with_lives (origin_in (crossings_of connected) dialogue.first dialogue.second) dialogue.first dialogue.second 16
      33 (kept_in connected).book.lives [] ≡ record { own = 6; partner = 8 } ∷ []
  -- an end that its user closed before the STR was taken opens by the law, but it has no life in the book
  pub early :
      (openings dialogue.first dialogue.second 16 33 closed_early ≡ record { own = 6; partner = 8 } ∷ []) ×
      (with_lives (λ p. p) dialogue.first dialogue.second 16 33 (kept_in closed_early).book.lives [] ≡ [])
  -- two sockets that both receive, or both send, have no openings, whatever happens
  pub none :
      (moments : List Moment) →
      (openings dialogue.first dialogue.second 16 18 moments ≡ []) ×
      (openings dialogue.first dialogue.second 33 35 moments ≡ [])

-- Words and steps: host `one` asks host `two` for a connection, and closes it, in one message.
pub record WorkedSteps : Type 0 where
  -- the receiver's words are its RTS with its link and the CLS of its receiving sockets; the sender's its STR and the
  -- others
  pub receiver :
      words_by Receiver 5
      (Legal (command.Rts 16 33 2) ∷ Legal (command.Str 35 18 8) ∷ Legal (command.Cls 16 33) ∷
      Legal (command.Cls 35 18) ∷ Wrong 1 [] ∷ [])
      ≡ record { sockets = first_sockets; link = 2; mark = Ask 5 } ∷
      record { sockets = first_sockets; link = 0; mark = Close } ∷ []
  pub sender :
      words_by Sender 5
      (Legal (command.Rts 16 33 2) ∷ Legal (command.Str 35 18 8) ∷ Legal (command.Cls 16 33) ∷
      Legal (command.Cls 35 18) ∷ Wrong 1 [] ∷ [])
      ≡ record { sockets = second_sockets; link = 0; mark = Ask 5 } ∷
      record { sockets = second_sockets; link = 0; mark = Close } ∷ []
  -- what is said of two receiving sockets, or of two sending ones, is no word
  pub none :
      (words_by Receiver 5 (Legal (command.Cls 16 18) ∷ Legal (command.Rts 33 35 2) ∷ []) ≡ []) ×
      (words_by Sender 5 (Legal (command.Cls 33 35) ∷ Legal (command.Str 16 18 8) ∷ []) ≡ [])
  -- the message goes out at place 5, while both stay
  pub said :
      steps one two (Out one two 0 (Other (tagged 5 asking)) ∷ reset_of_two)
      ≡ Says Receiver (record { sockets = first_sockets; link = 0; mark = Close }) ∷
      Says Receiver (record { sockets = first_sockets; link = 2; mark = Ask 5 }) ∷ steps one two reset_of_two
  -- and is heard at that place, by a host that stays; by one that has left nothing is
  pub heard :
      heard_words Sender (steps one two (In one two 0 (Other (tagged 5 asking)) ∷ reset_of_two))
      ≡ record { sockets = first_sockets; link = 0; mark = Close } ∷
      record { sockets = first_sockets; link = 2; mark = Ask 5 } ∷ []
  pub unheard : heard_words Sender (steps one two (In one two 0 (Other (tagged 5 asking)) ∷ [])) ≡ []
  -- they meet where the RRP is taken, and leave where the first contacts the second anew
  pub meets : (stays Receiver (steps one two reset_of_two) ≡ true) × (stays Sender (steps one two reset_of_two) ≡ true)
  pub leaves :
      (stays Receiver (steps one two (Contact one two ∷ reset_of_two)) ≡ false) ×
      (stays Sender (steps one two (Contact one two ∷ reset_of_two)) ≡ true)
  -- a host that takes an RST leaves though it is ready, since its peer's older requests are dropped
  pub reset :
      steps two one (In one two 0 Reset ∷ Out one two 0 Reset ∷ Contact one two ∷ [])
      ≡ Leaves Receiver ∷ Leaves Sender ∷ Leaves Receiver ∷ Leaves Sender ∷ Leaves Receiver ∷ Leaves Sender ∷ []
  -- the place where a message went out is that of the last one of its flow before it was taken
  pub origin :
      (out : HostMessage) → out.flow ≡ control_flow two one →
      origin_in (crossing.Out out ∷ crossing.In out ∷ crossing.Out out ∷ crossing.Down two ∷ []) one two 2 ≡ 1
