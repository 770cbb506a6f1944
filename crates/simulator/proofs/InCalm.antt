-- Rounds of a calm, whatever their events show: they go one way where each event does, and what is shown of a round that ends early is the first part of
-- what is shown of a whole one.
use Rattle.simulator.proofs.Common.{WorldState, Event, ends_front, in_turn_once}
use Rattle.std.proofs.Common.{◌≡◌, List, ◌++◌}
use Rattle.replay.specs.InTurn.{HappensOnce, ShowsFront, Happening}
use Rattle.world_replay.specs.Rounds.{EndsRound, Again, EndsAgain, RoundOf, turns_in}
use Rattle.world_replay.proofs.lemmas.{again_front, again_once}

-- ---- no choice

pub round_once : {C L : Type 0} (Happens : Happening (WorldState C) Event L) → HappensOnce Happens → (old new other : WorldState C) (shown more : List L)
    → RoundOf Happens old new shown → RoundOf Happens old other more → (new ≡ other) × (shown ≡ more)
round_once Happens once old new other shown more h k = in_turn_once (Again Happens) (again_once Happens once) old (turns_in old.seats) new other shown more h k

-- ---- the first part

pub round_front : {C L : Type 0} (Happens Goes : Happening (WorldState C) Event L) → HappensOnce Happens → ShowsFront Goes Happens → (old new other : WorldState C) (part whole : List L)
    → EndsRound Happens Goes old new part → RoundOf Happens old other whole → (rest : List L) × (whole ≡ part ++ rest)
round_front Happens Goes once fronts old new other part whole h k =
    ends_front (Again Happens) (EndsAgain Happens Goes) (again_once Happens once) (again_front Happens Goes once fronts) old (turns_in old.seats) new other part whole h k
