-- A calm is its events, one after another.
use Rattle.world_replay.proofs.Common.{false≢true, MatchBool, All, Calls, Host, Calms, Does, Repeats, TurnGives, TurnsOf, WorldState, stops, up_in, Event, Offer, Quiet, Take, WorldFault, InTurn, gained}
use Rattle.std.proofs.Common.{◌≡◌, ℕ, zero, suc, Bool, true, false, List, [], ◌∷◌, ◌++◌, Result, Ok, refl, ap, sym, subst, ◌∙◌, length, nat_lt}
use Rattle.std.proofs.lemmas.List.Elements.{All-cons, All-nil}
use Rattle.world_replay.specs.Replay.{HappensInCalm, IsOfCalm, Happens, quiet_rounds}
use Rattle.world_replay.specs.Output.{Shown}
use Rattle.world_replay.proofs.CalmRounds.{Gained, calm_gained, more_gained, none_gained, runs_at}
use Rattle.world_replay.proofs.Grown.{Grew, begins, turn_grows}
use Rattle.world_replay.proofs.Replays.{gains_once, same_news}
use Rattle.world_replay.proofs.Rounds.{is_false, is_true}
use Rattle.world_script.specs.declared.event.WorldEvent.TheVariants as event

abbrev Answer : Type 0
Answer = Result (Unit {0}) WorldFault

-- events of a calm that lead from one world to another, with this many quiet rounds among them, and what they show
record Course {C : Type 0} (calls : Calls C) (rounds : ℕ) (old new : WorldState C) : Type 0 where
  events : List Event
  alike : All IsOfCalm events
  quiet : quiet_rounds events ≡ rounds
  lines : List Shown
  passes : InTurn (HappensInCalm calls) old events new lines
  shows : Gained old new lines

no_course : {C : Type 0} (calls : Calls C) (w : WorldState C) → Course calls 0 w w
no_course calls w = record { events = []; alike = All-nil IsOfCalm; quiet = refl; lines = []; passes = (refl, refl); shows = none_gained w }

-- the events from another world on lead from this one
moved : {C : Type 0} (calls : Calls C) (rounds : ℕ) (old mid new : WorldState C) → mid ≡ old → Course calls rounds mid new → Course calls rounds old new
moved {C} calls rounds old mid new same course = subst (λ (w : WorldState C). Course calls rounds w new) same course

-- one event before the others, which makes this many rounds of those that they make
one_before : {C : Type 0} (calls : Calls C) (e : Event) (rounds more : ℕ) (old mid new : WorldState C) (answer : Answer) → IsOfCalm e → begins e ≡ false → ((es : List Event) → quiet_rounds es ≡ rounds → quiet_rounds (e ∷ es) ≡ more)
    → TurnGives calls old e answer mid → stops answer ≡ false → Course calls rounds mid new → Course calls more old new
one_before calls e rounds more old mid new answer alike plain counts step on later =
    let grew : Grew old.kept mid.kept = turn_grows calls e old answer mid plain step in
    let first : List Shown = gained grew.gains in
    record {
      events = e ∷ later.events;
      alike = All-cons IsOfCalm e later.events alike later.alike;
      quiet = counts later.events later.quiet;
      lines = first ++ later.lines;
      passes = (mid, first, later.lines, record { outcome = answer; gives = step; goes_on = on; gains = grew.gains; lines = refl }, later.passes, refl);
      shows = more_gained old mid new first later.lines (grew, refl) later.shows;
    }

-- an event that is no quiet round, again and again
again_before : {C : Type 0} (calls : Calls C) (e : Event) (rounds times : ℕ) (old mid new : WorldState C) (r : Answer) → IsOfCalm e → begins e ≡ false → ((es : List Event) → quiet_rounds es ≡ rounds → quiet_rounds (e ∷ es) ≡ rounds)
    → stops r ≡ false → Repeats calls e times old r mid → Course calls rounds mid new → Course calls rounds old new
again_before calls e rounds zero old mid new r alike plain counts on (done, same) later = moved calls rounds old mid new same later
again_before {C} calls e rounds (suc times) old mid new r alike plain counts on (answer, m, step, rest) later = by (λ more. again_before calls e rounds times m mid new r alike plain counts on more later) (stops answer) refl where
  grows : Bool
  grows = nat_lt (length old.kept.book.crossings) (length m.kept.book.crossings)

  left : (Repeats calls e times m r mid → Course calls rounds m new) → (b : Bool) → MatchBool b (Repeats calls e times m r mid) (Does m r mid) → Course calls rounds m new
  left k true more = k more
  left k false done = moved calls rounds m mid new done.1 later

  by : (Repeats calls e times m r mid → Course calls rounds m new) → (b : Bool) → stops answer ≡ b → Course calls rounds old new
  by k true is = absurd (let ends : (r ≡ answer) × (mid ≡ m) = is_true _ _ (stops answer) is rest in false≢true (sym on ∙ ap stops ends.0 ∙ is))
  by k false is = one_before calls e rounds rounds old m new answer alike plain counts step is (left k grows (is_false _ _ (stops answer) is rest))

-- the turns of these hosts
turns_before : {C : Type 0} (calls : Calls C) (hosts : List Host) (rounds : ℕ) (old mid new : WorldState C) (r : Answer) → stops r ≡ false → TurnsOf calls hosts old r mid → Course calls rounds mid new → Course calls rounds old new
turns_before calls [] rounds old mid new r on (done, same) later = moved calls rounds old mid new same later
turns_before {C} calls (h ∷ hosts) rounds old mid new r on (first, taken, takes, rest) later = by (λ sent more. turns_before calls hosts rounds sent mid new r on more later) (stops first) refl where
  Others : Type 0
  Others = (sent : WorldState C) → TurnsOf calls hosts sent r mid → Course calls rounds sent new

  sent_by : Others → (second : Answer) (sent : WorldState C) → Repeats calls (Offer h) 32 taken second sent → MatchBool (stops second) ((r ≡ second) × (mid ≡ sent)) (TurnsOf calls hosts sent r mid) → (b : Bool) → stops second ≡ b → Course calls rounds taken new
  sent_by k second sent sends end true is = absurd (let ends : (r ≡ second) × (mid ≡ sent) = is_true _ _ (stops second) is end in false≢true (sym on ∙ ap stops ends.0 ∙ is))
  sent_by k second sent sends end false is = again_before calls (Offer h) rounds 32 taken sent new second tt refl (λ es same. same) is sends (k sent (is_false _ _ (stops second) is end))

  by : Others → (b : Bool) → stops first ≡ b → Course calls rounds old new
  by k true is = absurd (let ends : (r ≡ first) × (mid ≡ taken) = is_true _ _ (stops first) is rest in false≢true (sym on ∙ ap stops ends.0 ∙ is))
  by k false is =
      let turned = is_false _ _ (stops first) is rest in
      again_before calls (Take h) rounds 16 old taken new first tt refl (λ es same. same) is takes (sent_by k turned.0 turned.1 turned.2 turned.3 (stops turned.0) refl)

-- all rounds
calms_pass : {C : Type 0} (calls : Calls C) (rounds : ℕ) (old new : WorldState C) (r : Answer) → stops r ≡ false → Calms calls rounds old r new → (r ≡ Ok tt) × Course calls rounds old new
calms_pass calls zero old new r on (done, same) = (done, moved calls 0 old new new same (no_course calls new))
calms_pass {C} calls (suc rounds) old new r on (first, quiet, step, rest) = by (λ t more. calms_pass calls rounds t new r on more) (stops first) refl where
  Others : Type 0
  Others = (t : WorldState C) → Calms calls rounds t r new → (r ≡ Ok tt) × Course calls rounds t new

  turned_by : Others → (second : Answer) (t : WorldState C) → TurnsOf calls (up_in quiet.seats) quiet second t → MatchBool (stops second) ((r ≡ second) × (new ≡ t)) (Calms calls rounds t r new) → (b : Bool) → stops second ≡ b → (r ≡ Ok tt) × Course calls rounds quiet new
  turned_by k second t turns end true is = absurd (let ends : (r ≡ second) × (new ≡ t) = is_true _ _ (stops second) is end in false≢true (sym on ∙ ap stops ends.0 ∙ is))
  turned_by k second t turns end false is =
      let (done, later) = k t (is_false _ _ (stops second) is end) in
      (done, turns_before calls (up_in quiet.seats) rounds quiet t new second is turns later)

  by : Others → (b : Bool) → stops first ≡ b → (r ≡ Ok tt) × Course calls (suc rounds) old new
  by k true is = absurd (let ends : (r ≡ first) × (new ≡ quiet) = is_true _ _ (stops first) is rest in false≢true (sym on ∙ ap stops ends.0 ∙ is))
  by k false is =
      let turned = is_false _ _ (stops first) is rest in
      let (done, later) = turned_by k turned.0 turned.1 turned.2 turned.3 (stops turned.0) refl in
      (done, one_before calls Quiet rounds (suc rounds) old quiet new first tt refl (λ es same. ap suc same) step is later)

pub calm_events : {C : Type 0} (calls : Calls C) (rounds : ℕ) (old new : WorldState C) (lines : List Shown) → Happens calls old (event.Calm rounds) new lines
    → (events : List Event) × All IsOfCalm events × (quiet_rounds events ≡ rounds) × InTurn (HappensInCalm calls) old events new lines
calm_events calls rounds old new lines h =
    let calms : Calms calls rounds old h.outcome new = is_false _ _ old.stopped (runs_at calls rounds old new lines h) h.gives in
    let (done, course) = calms_pass calls rounds old new h.outcome h.goes_on calms in
    let (grew, is) = course.shows in
    let (mine, shows) = calm_gained calls rounds old new lines h done in
    let same : course.lines ≡ lines = is ∙ same_news old.kept new.kept new.kept grew.gains mine.gains (gains_once old.kept new.kept new.kept grew.gains mine.gains refl) ∙ sym shows in
    (course.events, course.alike, course.quiet, subst (λ (ls : List Shown). InTurn (HappensInCalm calls) old course.events new ls) same course.passes)
