-- What the contracts of private functions say. No public clause cites this file.
use Rattle.std.specs.Prelude.{◌≡◌, ℕ, suc, ◌+◌, false, true, List, [], ◌++◌, Option, Result, Ok, Err}
use Rattle.std.specs.Io.KnownBytes.{Appends}
use Rattle.interface.specs.declared.crossing.Crossing.{Crossing}
use Rattle.net_sim.specs.World.{stops}
use Rattle.net_sim.specs.declared.event.WorldFault.{WorldFault}
use Rattle.replay.specs.declared.events.ReplayFault.{ReplayFault}
use Rattle.replay.specs.declared.events.ReplayFault.TheVariants as fault
use Rattle.replay.specs.declared.print.Detail.{Detail}
use Rattle.world_replay.specs.Gains.{Gains, gained}
use Rattle.world_replay.specs.Kinds.{HappensBy, Kind, MayDoBy, StopsBy}
use Rattle.world_replay.specs.Output.{Shown, Writes, output, shown_in_turn}
use Rattle.world_script.specs.declared.event.WorldEvent.{WorldEvent}
use Rattle.world_script.specs.declared.event.WorldEvent.TheVariants.{Calm}

-- ---- what a replay needs of a kind of world

pub record IsReplayable {S : Type 0} (kind : Kind S) : Type 0 where
  -- a calm in which memory lasts isn't refused
  pub well : (n : ℕ) (old : S) (r : Result (Unit {0}) WorldFault) (new : S) → kind.gives old (Calm n) r new
      → stops r ≡ false → r ≡ Ok tt
  -- the book only grows
  pub gains : (e : WorldEvent) (old : S) (r : Result (Unit {0}) WorldFault) (new : S) → kind.gives old e r new
      → Gains (kind.kept old) (kind.kept new)
  -- rounds and then further ones are one calm, and so are their lines
  pub more :
      (n k : ℕ) (old mid new : S) (r q : Result (Unit {0}) WorldFault) → kind.gives old (Calm (suc n)) r mid
      → stops r ≡ false → kind.gives mid (Calm (suc k)) q new
      → kind.gives old (Calm (suc n + suc k)) q new
  pub shows :
      (n k : ℕ) (old mid new : S) (r q : Result (Unit {0}) WorldFault) → kind.gives old (Calm n) r mid
      → kind.gives mid (Calm k) q new
      → (g : Gains (kind.kept old) (kind.kept mid)) (h : Gains (kind.kept mid) (kind.kept new))
      (all : Gains (kind.kept old) (kind.kept new)) → gained all ≡ gained g ++ gained h
  -- a round in which memory runs out ends any longer calm
  pub ends : (k : ℕ) (old new : S) (r : Result (Unit {0}) WorldFault) → kind.gives old (Calm 1) r new
      → stops r ≡ true → kind.gives old (Calm (suc k)) r new

-- ---- how the replay of one event may end

abbrev pub EventEnds : {S : Type 0} → Kind S → Detail → S → WorldEvent → Result (Unit {0}) ReplayFault → S
    → Option (List ℕ) → Option (List ℕ) → Type 0
EventEnds kind detail old e (Ok done) new before after = Writes detail (HappensBy kind old e new) before after
EventEnds kind detail old e (Err fault.OutOfMemory) new before after = Writes detail (StopsBy kind old e new) before
    after
EventEnds kind detail old e (Err fault.CannotWrite) new before after = (shown : List Shown)
    × MayDoBy kind old e new shown

-- of one that is printed at once
abbrev pub OneEnds : {S : Type 0} → Kind S → Detail → S → WorldEvent → Result (Unit {0}) ReplayFault → S → Option (List ℕ)
    → Option (List ℕ) → Type 0
OneEnds kind detail old e (Ok done) new before after = Writes detail (HappensBy kind old e new) before after
OneEnds kind detail old e (Err fault.OutOfMemory) new before after = Writes detail (StopsBy kind old e new) before after
OneEnds kind detail old e (Err fault.CannotWrite) new before after = (outcome : Result (Unit {0}) WorldFault)
    × kind.gives old e outcome new

-- ---- printing

-- these news are written, with the crossings before them: what is shown of more news continues from there, with the crossings that
-- are left
pub record Fronts (detail : Detail) (before : ℕ) (crossings : List Crossing) (news : List Shown) (later : ℕ)
    (left : List Crossing) (a b : Option (List ℕ)) : Type 0 where
  pub shown : List Shown
  pub whole : (more : List Shown)
      → shown_in_turn before crossings (news ++ more) ≡ shown ++ shown_in_turn later left more
  pub written : Appends a b (output detail shown)
