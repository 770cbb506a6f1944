-- What a replay needs of worlds.
use Rattle.world_replay.proofs.Common.{◌≡◌, ℕ, ◌+◌, zero, suc, Bool, true, false, List, ◌++◌, Result, Ok, refl, ap₂, subst, ◌∙◌, arith, Calls, CalmGives, Calms, WorldState, stops, WorldFault, Gains, gained}
use Rattle.world_replay.specs.Steps.{IsReplayable}
use Rattle.world_replay.specs.Replay.{world_kind}
use Rattle.world_replay.specs.Output.{Shown}
use Rattle.world_replay.proofs.CalmRounds.{in_rounds, parted}
use Rattle.world_replay.proofs.Grown.{Grew, grew_more}
use Rattle.world_replay.proofs.Gaining.{script_gains}
use Rattle.world_replay.proofs.Replays.{calm_grows, gained_more, gains_once, same_news}
use Rattle.world_replay.proofs.Rounds.{calm_one, calm_stopped, done_runs, is_false, is_true, round_ends, when_false, when_true}

abbrev Answer : Type 0
Answer = Result (Unit {0}) WorldFault

module _ {C : Type 0} (calls : Calls C) where
  -- rounds in which memory lasts, and then further ones
  calms_on : (n k : ℕ) (old mid new : WorldState C) (r q : Answer) → stops r ≡ false → Calms calls n old r mid
      → Calms calls k mid q new → Calms calls (n + k) old q new
  calms_on zero k old mid new r q on (done, same) h =
      let none : k ≡ 0 + k = omega arith in subst (λ (n : ℕ). Calms calls n old q new) none (subst (λ (w : WorldState C). Calms calls k w q new) same h)
  calms_on (suc n) k old mid new r q on g h =
      let (first, round, left) = parted calls n old mid r on g in
      let later : Calms calls (n + k) first q new = calms_on n k first mid new r q on left h in
      let one : Calms calls 1 old (Ok tt) first = is_false _ _ old.stopped (done_runs calls 1 old first (Ok tt) refl old.stopped refl round) round in
      let count : suc (n + k) ≡ suc n + k = omega arith in
      subst (λ (n : ℕ). Calms calls n old q new) count (calm_one calls (n + k) old first (Ok tt) q new refl one later).1

  passes : (k : ℕ) (now new : WorldState C) (q : Answer) → CalmGives calls (suc k) now q new → (b : Bool)
      → now.stopped ≡ b → Calms calls (suc k) now q new
  passes k now new q h true is = calm_stopped calls k now new q is (is_true _ _ now.stopped is h)
  passes k now new q h false is = is_false _ _ now.stopped is h

  more : (n k : ℕ) (old mid new : WorldState C) (r q : Answer) → CalmGives calls (suc n) old r mid → stops r ≡ false
      → CalmGives calls (suc k) mid q new → CalmGives calls (suc n + suc k) old q new
  more n k old mid new r q g on h =
      let runs : old.stopped ≡ false = done_runs calls (suc n) old mid r on old.stopped refl g in
      when_false _ _ old.stopped runs (calms_on (suc n) (suc k) old mid new r q on (is_false _ _ old.stopped runs g) (passes k mid new q h mid.stopped refl))

  well : (n : ℕ) (old : WorldState C) (r : Answer) (new : WorldState C) → CalmGives calls n old r new
      → stops r ≡ false → r ≡ Ok tt
  well n old r new g on = (in_rounds calls n old new r on (is_false _ _ old.stopped (done_runs calls n old new r on old.stopped refl g) g)).0

  ends : (k : ℕ) (old new : WorldState C) (r : Answer) → CalmGives calls 1 old r new → stops r ≡ true → (b : Bool)
      → old.stopped ≡ b → CalmGives calls (suc k) old r new
  ends k old new r g halts true is = when_true _ _ old.stopped is (is_true _ _ old.stopped is g)
  ends k old new r g halts false is = when_false _ _ old.stopped is (round_ends calls k old new r halts g old.stopped refl)

  shows : (n k : ℕ) (old mid new : WorldState C) (r q : Answer) → CalmGives calls n old r mid
      → CalmGives calls k mid q new
      → (g : Gains old.kept mid.kept) (h : Gains mid.kept new.kept) (all : Gains old.kept new.kept)
      → gained all ≡ gained g ++ gained h
  shows n k old mid new r q first next g h all =
      let one : Grew old.kept mid.kept = calm_grows calls n old r mid first in
      let two : Grew mid.kept new.kept = calm_grows calls k mid q new next in
      let both : Gains old.kept new.kept = (grew_more old.kept mid.kept new.kept one two).gains in
      same_news old.kept new.kept new.kept all both (gains_once old.kept new.kept new.kept all both refl)
      ∙ gained_more old.kept mid.kept new.kept one two
      ∙ ap₂ (λ (xs ys : List Shown). xs ++ ys) (same_news old.kept mid.kept mid.kept one.gains g (gains_once old.kept mid.kept mid.kept one.gains g refl))
      (same_news mid.kept new.kept new.kept two.gains h (gains_once mid.kept new.kept new.kept two.gains h refl))

  pub world_replayable : IsReplayable (world_kind calls)
  world_replayable = record {
    well = λ n old r new g on. well n old r new g on;
    gains = λ e old r new h. script_gains calls e old r new h;
    more = λ n k old mid new r q g on h. more n k old mid new r q g on h;
    shows = λ n k old mid new r q first next g h all. shows n k old mid new r q first next g h all;
    ends = λ k old new r g halts. ends k old new r g halts old.stopped refl;
  }
