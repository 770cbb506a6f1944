-- The laws of src/ that are longer than a line: each is a record, and its fields are the clauses.
use Rattle.std.specs.Prelude.{List, None, Some, ◌++◌, ◌≡◌}
use Rattle.interface.specs.Calls.{Calls}
use Rattle.script.specs.declared.event.RawEvent.{RawEvent}
use Rattle.replay.specs.Output.{Shown}
use Rattle.replay.specs.Replay.{EndsIn, Replays, StopsIn}
use Rattle.replay.specs.Seen.{HandsOn, RoundsPass}
use Rattle.replay.specs.Settled.{AreSettled}
use Rattle.replay.specs.Worked.{At, Counts, Never}

-- A carrier whose calls leave no choice leaves none to a replay: events have one outcome and show one list of lines.
-- What is shown where memory runs out is a prefix of that list.
pub record OneReplay {C : Type 0} (calls : Calls C) : Type 0 where
  pub same :
      AreSettled calls → (old new other : C) (events : List RawEvent) (shown more : List Shown) →
      Replays calls old events new shown → Replays calls old events other more → (new ≡ other) × (shown ≡ more)
  pub first_part :
      AreSettled calls → (old new other : C) (events : List RawEvent) (part whole : List Shown) →
      EndsIn calls StopsIn old events new part → Replays calls old events other whole →
      (rest : List Shown) × (whole ≡ part ++ rest)

-- When what the rounds of a calm print has to be handed on. The rounds here count, and are seen at some numbers.
pub record WorkedSeen : Type 0 where
  -- of 64 rounds none has to be seen, and of 65 the last one has
  pub unseen : RoundsPass Counts Never 64 0 64
  pub seen : ¬ (RoundsPass Counts Never 65 0 65)
  -- so it is of a calm that has as many rounds
  pub short : HandsOn Counts Never Never (Some 64) 0 64
  pub long : ¬ (HandsOn Counts Never Never (Some 65) 0 65)
  -- each of them: neither only the last round nor only the 65th
  pub last_alone : ¬ (HandsOn Counts (At 100) Never (Some 100) 0 100)
  pub first_alone : ¬ (HandsOn Counts (At 65) Never (Some 100) 0 100)
  -- it ends before only if it rests, and not by itself
  pub rests : HandsOn Counts Never (At 3) (Some 100) 0 3
  pub broken_off : ¬ (HandsOn Counts Never Never (Some 100) 0 3)
  -- what is no calm has no rounds
  pub other : HandsOn Counts Never Never None 0 3
