-- A calm is its rounds, one after another.
use Rattle.world_replay.proofs.Common.{◌≡◌, ℕ, zero, suc, Bool, true, false, List, [], ◌++◌, Result, Ok, refl, ap, ap₂, sym, subst, ◌∙◌, append-nil, false≢true, MatchBool, Calms, CalmGives, Refuses, TurnGives, TurnsOf, WorldState, stops, up_in, Quiet, WorldFault, Carrier, Calls, gained}
use Rattle.world_replay.specs.Replay.{Replays, Happens, rounds_of}
use Rattle.interface.specs.declared.carrier.CarrierFault.TheVariants as carrier
use Rattle.world_replay.specs.Output.{Shown, shown_refusal}
use Rattle.world_replay.proofs.Grown.{Grew, grew_more, grew_none}
use Rattle.world_replay.proofs.Replays.{calm_grows, gained_more, gains_once, same_news}
use Rattle.world_replay.proofs.Rounds.{calm_one, done_runs, is_false, is_true, when_false}
use Rattle.world_script.specs.declared.event.WorldEvent.TheVariants as event

abbrev Answer : Type 0
Answer = Result (Unit {0}) WorldFault

-- lines are what the book of a world gained
abbrev pub Gained : {C : Type 0} → WorldState C → WorldState C → List Shown → Type 0
Gained old new lines = (g : Grew old.kept new.kept) × (lines ≡ gained g.gains)

pub none_gained : {C : Type 0} (w : WorldState C) → Gained w w []
unfolding grew_none
none_gained w = (grew_none w.kept, refl)

pub more_gained : {C : Type 0} (old mid new : WorldState C) (lines more : List Shown) → Gained old mid lines
    → Gained mid new more → Gained old new (lines ++ more)
more_gained old mid new lines more (g, first) (k, rest) = (grew_more old.kept mid.kept new.kept g k, ap₂ (λ (xs ys : List Shown). xs ++ ys) first rest ∙ sym (gained_more old.kept mid.kept new.kept g k))

-- what a calm shows that went well
pub calm_gained : {C : Type 0} (calls : Calls C) (rounds : ℕ) (old new : WorldState C) (lines : List Shown)
    (h : Happens calls old (event.Calm rounds) new lines) → h.outcome ≡ Ok tt → Gained old new lines
calm_gained calls rounds old new lines h well =
    let grew : Grew old.kept new.kept = calm_grows calls rounds old h.outcome new h.gives in (
      grew,
      h.lines ∙ ap (λ (r : Answer). gained h.gains ++ shown_refusal r) well ∙ append-nil (gained h.gains) ∙ same_news old.kept new.kept new.kept h.gains grew.gains (gains_once old.kept new.kept new.kept h.gains grew.gains refl),
    )

-- ---- its rounds make a calm

pub runs_at : {C : Type 0} (calls : Calls C) (rounds : ℕ) (old new : WorldState C) (lines : List Shown)
    → Happens calls old (event.Calm rounds) new lines → old.stopped ≡ false
runs_at calls rounds old new lines h = done_runs calls rounds old new h.outcome h.goes_on old.stopped refl h.gives

rounds_pass : {C : Type 0} (calls : Calls C) (rounds : ℕ) (old new : WorldState C) (lines : List Shown)
    → Replays calls old (rounds_of rounds) new lines → Calms calls rounds old (Ok tt) new × Gained old new lines
rounds_pass {C} calls zero old new lines (same, none) =
    subst (λ (w : WorldState C). Calms calls 0 old (Ok tt) w × Gained old w lines) (sym same) ((refl, refl), subst (λ (ls : List Shown). Gained old old ls) (sym none) (none_gained old))
rounds_pass {C} calls (suc rounds) old new lines (mid, first, rest, one, more, all) =
    let later : Calms calls rounds mid (Ok tt) new × Gained mid new rest = rounds_pass calls rounds mid new rest more in
    let round : Calms calls 1 old one.outcome mid = is_false _ _ old.stopped (runs_at calls 1 old mid first one) one.gives in
    let longer : (one.outcome ≡ Ok tt) × Calms calls (suc rounds) old (Ok tt) new = calm_one calls rounds old mid one.outcome (Ok tt) new one.goes_on round later.0 in
    (longer.1, subst (λ (ls : List Shown). Gained old new ls) (sym all) (more_gained old mid new first rest (calm_gained calls 1 old mid first one longer.0) later.1))

pub rounds_calm : {C : Type 0} (calls : Calls C) (rounds : ℕ) (old new : WorldState C) (lines : List Shown)
    → old.stopped ≡ false → Replays calls old (rounds_of rounds) new lines
    → Happens calls old (event.Calm rounds) new lines
rounds_calm calls rounds old new lines on h =
    let (passed, (grew, is)) = rounds_pass calls rounds old new lines h in
    record { outcome = Ok tt; gives = when_false _ _ old.stopped on passed; goes_on = refl; gains = grew.gains; lines = is ∙ sym (append-nil (gained grew.gains)) }

-- ---- a calm is made of its rounds

-- in a world that has stopped no round goes well
pub steps_run : {C : Type 0} (calls : Calls C) (old quiet : WorldState C) (answer : Answer)
    → TurnGives calls old Quiet answer quiet → stops answer ≡ false → (b : Bool) → old.stopped ≡ b
    → old.stopped ≡ false
steps_run calls old quiet answer h on false is = is
steps_run calls old quiet answer h on true is =
    let refused : Refuses (Carrier carrier.Stopped) old answer quiet = is_true _ _ old.stopped is h in
    absurd (false≢true (sym on ∙ ap stops refused.0))

-- the first round of a calm that goes well, and what is left of it
abbrev Parted : {C : Type 0} → Calls C → ℕ → WorldState C → Answer → WorldState C → Type 0
Parted {C} calls rounds old r new = (mid : WorldState C) × CalmGives calls 1 old (Ok tt) mid × Calms calls rounds mid r new

pub parted : {C : Type 0} (calls : Calls C) (rounds : ℕ) (old new : WorldState C) (r : Answer) → stops r ≡ false
    → Calms calls (suc rounds) old r new → Parted calls rounds old r new
parted {C} calls rounds old new r on (first, quiet, step, rest) = by (stops first) refl where
  by : (b : Bool) → stops first ≡ b → Parted calls rounds old r new
  by true is = absurd (let ends : (r ≡ first) × (new ≡ quiet) = is_true _ _ (stops first) is rest in false≢true (sym on ∙ ap stops ends.0 ∙ is))
  by false is =
      let turned = is_false _ _ (stops first) is rest in
      inner turned.0 turned.1 turned.2 turned.3 (stops turned.0) refl where
        inner : (second : Answer) (t : WorldState C) → TurnsOf calls (up_in quiet.seats) quiet second t
            → MatchBool (stops second) ((r ≡ second) × (new ≡ t)) (Calms calls rounds t r new) → (b : Bool)
            → stops second ≡ b → Parted calls rounds old r new
        inner second t turns end true same = absurd (let ends : (r ≡ second) × (new ≡ t) = is_true _ _ (stops second) same end in false≢true (sym on ∙ ap stops ends.0 ∙ same))
        inner second t turns end false same = (
          t,
          when_false _ _ old.stopped (steps_run calls old quiet first step is old.stopped refl) (first, quiet, step, when_false _ _ (stops first) is (second, t, turns, when_false _ _ (stops second) same (refl, refl))),
          is_false _ _ (stops second) same end,
        )

-- one round, as it happens
one_round : {C : Type 0} (calls : Calls C) (old mid : WorldState C) → CalmGives calls 1 old (Ok tt) mid
    → (lines : List Shown) × Happens calls old (event.Calm 1) mid lines × Gained old mid lines
one_round calls old mid gives =
    let grew : Grew old.kept mid.kept = calm_grows calls 1 old (Ok tt) mid gives in
    (gained grew.gains, record { outcome = Ok tt; gives = gives; goes_on = refl; gains = grew.gains; lines = sym (append-nil (gained grew.gains)) }, (grew, refl))

-- all rounds of a calm, and that it is done
abbrev InRounds : {C : Type 0} → Calls C → ℕ → WorldState C → Answer → WorldState C → Type 0
InRounds calls rounds old r new = (r ≡ Ok tt) × ((lines : List Shown) × Replays calls old (rounds_of rounds) new lines × Gained old new lines)

pub in_rounds : {C : Type 0} (calls : Calls C) (rounds : ℕ) (old new : WorldState C) (r : Answer) → stops r ≡ false
    → Calms calls rounds old r new → InRounds calls rounds old r new
in_rounds {C} calls zero old new r on (done, same) = (done, ([], (same, refl), subst (λ (w : WorldState C). Gained old w []) (sym same) (none_gained old)))
in_rounds calls (suc rounds) old new r on h =
    let (mid, round, left) = parted calls rounds old new r on h in
    let (first, one, before) = one_round calls old mid round in
    let (done, (rest, more, later)) = in_rounds calls rounds mid new r on left in
    (done, (first ++ rest, (mid, first, rest, one, more, refl), more_gained old mid new first rest before later))

pub calm_rounds : {C : Type 0} (calls : Calls C) (rounds : ℕ) (old new : WorldState C) (lines : List Shown)
    → Happens calls old (event.Calm rounds) new lines → Replays calls old (rounds_of rounds) new lines
calm_rounds calls rounds old new lines h =
    let calms : Calms calls rounds old h.outcome new = is_false _ _ old.stopped (runs_at calls rounds old new lines h) h.gives in
    let (done, (own, replays, (grew, is))) = in_rounds calls rounds old new h.outcome h.goes_on calms in
    let (mine, shows) = calm_gained calls rounds old new lines h done in
    let same : own ≡ lines = is ∙ same_news old.kept new.kept new.kept grew.gains mine.gains (gains_once old.kept new.kept new.kept grew.gains mine.gains refl) ∙ sym shows in
    subst (λ (ls : List Shown). Replays calls old (rounds_of rounds) new ls) same replays
