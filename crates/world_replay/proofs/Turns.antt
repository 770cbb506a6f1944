-- A round of a calm is its events in their order.
use Rattle.world_replay.proofs.Common.{◌≡◌, inl, inr, ℕ, zero, suc, Bool, true, false, List, [], ◌∷◌, ◌++◌, Result, Ok, Err, refl, ap, ap₂, sym, subst, ◌∙◌, false≢true, MatchBool, Calls, Host, Calms, Does, QuietEnds, Refuses, Repeats, TurnGives, TurnsOf, WorldState, stops, up_in, Event, Offer, Quiet, Take, WorldFault, Carrier, Seat, Happening, HappensOnce, InTurn, ShowsFront, gained}
use Rattle.std.proofs.lemmas.List.{append-nil, append_assoc}
use Rattle.world_replay.specs.Replay.{HappensInCalm, Happens}
use Rattle.world_replay.specs.Rounds.{Again, EndsAgain, EndsRepeated, Repeated, RoundOf, crosses, turn_of}
use Rattle.std.specs.List.{flat_map}
use Rattle.interface.specs.declared.carrier.CarrierFault.{CarrierFault}
use Rattle.interface.specs.declared.carrier.CarrierFault.TheVariants as fault
use Rattle.world_replay.specs.Output.{Shown}
use Rattle.world_replay.proofs.CalmRounds.{Gained, calm_gained, more_gained, none_gained, runs_at, steps_run}
use Rattle.world_replay.proofs.Grown.{Grew, begins, turn_grows}
use Rattle.world_replay.proofs.Replays.{gains_once, same_news}
use Rattle.world_replay.proofs.Rounds.{is_false, is_true, when_false}
use Rattle.world_script.specs.declared.event.WorldEvent.TheVariants as event

abbrev Answer : Type 0
Answer = Result (Unit {0}) WorldFault

-- ---- no choice

left_once : {S L : Type 0} (P Q : Type 0) (mid new other : S) (rest more : List L) (b : Bool)
    → (P → Q → (new ≡ other) × (rest ≡ more)) → MatchBool b P ((new ≡ mid) × (rest ≡ []))
    → MatchBool b Q ((other ≡ mid) × (more ≡ []))
    → (new ≡ other) × (rest ≡ more)
left_once P Q mid new other rest more true k h g = k h g
left_once P Q mid new other rest more false k h g = (h.0 ∙ sym g.0, h.1 ∙ sym g.1)

pub repeated_once : {C : Type 0} {L : Type 0} (Happens : Happening (WorldState C) Event L) → HappensOnce Happens
    → (e : Event) (times : ℕ) (old new other : WorldState C) (shown more : List L)
    → Repeated Happens e times old new shown → Repeated Happens e times old other more → (new ≡ other) × (shown ≡ more)
repeated_once Happens once e zero old new other shown more h k = (h.0 ∙ sym k.0, h.1 ∙ sym k.1)
repeated_once {C} {L} Happens once e (suc times) old new other shown more (mid, first, rest, h, hs, whole) (mid', first', rest', k, ks, whole') =
    let one : (mid ≡ mid') × (first ≡ first') = once old e mid mid' first first' h k in
    let same : MatchBool (crosses old mid) (Repeated Happens e times mid other rest') ((other ≡ mid) × (rest' ≡ [])) =
    subst (λ (w : WorldState C). MatchBool (crosses old w) (Repeated Happens e times w other rest') ((other ≡ w) × (rest' ≡ []))) (sym one.0) ks in
    let others : (new ≡ other) × (rest ≡ rest') =
    left_once (Repeated Happens e times mid new rest) (Repeated Happens e times mid other rest') mid new other rest rest' (crosses old mid) (λ p q. repeated_once Happens once e times mid new other rest rest' p q) hs same in
    (others.0, whole ∙ ap₂ (λ (xs ys : List L). xs ++ ys) one.1 others.1 ∙ sym whole')

pub again_once : {C : Type 0} {L : Type 0} (Happens : Happening (WorldState C) Event L) → HappensOnce Happens
    → HappensOnce (Again Happens)
again_once Happens once old e new other shown more h k = repeated_once Happens once e.0 e.1 old new other shown more h k

-- what is shown up to the last of them is the first part of what all of them show
repeated_front : {C : Type 0} {L : Type 0} (Happens Goes : Happening (WorldState C) Event L) → HappensOnce Happens
    → ShowsFront Goes Happens → (e : Event) (times : ℕ) (old new other : WorldState C) (part whole : List L)
    → EndsRepeated Happens Goes e times old new part → Repeated Happens e times old other whole → (rest : List L) × (whole ≡ part ++ rest)
repeated_front Happens Goes once fronts e zero old new other part whole h k = absurd h
repeated_front {C} {L} Happens Goes once fronts e (suc times) old new other part whole (inl g) (mid, first, rest, k, ks, all) =
    let own : (more : List L) × (first ≡ part ++ more) = fronts old e new mid part first g k in
    (own.0 ++ rest, all ∙ ap (λ xs. xs ++ rest) own.1 ∙ append_assoc part own.0 rest)
repeated_front {C} {L} Happens Goes once fronts e (suc times) old new other part whole (inr (mid', first', rest', h, is, more, all')) (mid, first, rest, k, ks, all) =
    let one : (mid' ≡ mid) × (first' ≡ first) = once old e mid' mid first' first h k in
    let same : MatchBool (crosses old mid') (Repeated Happens e times mid' other rest) ((other ≡ mid') × (rest ≡ [])) =
    subst (λ (w : WorldState C). MatchBool (crosses old w) (Repeated Happens e times w other rest) ((other ≡ w) × (rest ≡ []))) (sym one.0) ks in
    let later : (tail : List L) × (rest ≡ rest' ++ tail) = repeated_front Happens Goes once fronts e times mid' new other rest' rest more (is_true _ _ (crosses old mid') is same) in
    (later.0, all ∙ ap₂ (λ (xs ys : List L). xs ++ ys) (sym one.1) later.1 ∙ sym (append_assoc first' rest' later.0) ∙ ap (λ xs. xs ++ later.0) (sym all'))

pub again_front : {C : Type 0} {L : Type 0} (Happens Goes : Happening (WorldState C) Event L) → HappensOnce Happens
    → ShowsFront Goes Happens → ShowsFront (EndsAgain Happens Goes) (Again Happens)
again_front Happens Goes once fronts old e new other part whole h k = repeated_front Happens Goes once fronts e.0 e.1 old new other part whole h k

-- ---- a quiet round changes no seat

quiet_end : {C : Type 0} (answer : Result (Unit {0}) CarrierFault) (c : C) (old new : WorldState C) (r : Answer)
    → QuietEnds answer c old r new → new.seats ≡ old.seats
quiet_end {C} (Ok done) c old new r ends = ap (λ (w : WorldState C). w.seats) ends.1
quiet_end {C} (Err f) c old new r ends = ap (λ (w : WorldState C). w.seats) ends.1

quiet_seats : {C : Type 0} (calls : Calls C) (old new : WorldState C) (r : Answer) → TurnGives calls old Quiet r new
    → (b : Bool) → old.stopped ≡ b → new.seats ≡ old.seats
quiet_seats {C} calls old new r step true is =
    let refused : Refuses (Carrier fault.Stopped) old r new = is_true _ _ old.stopped is step in
    ap (λ (w : WorldState C). w.seats) refused.1
quiet_seats calls old new r step false is = let t = is_false _ _ old.stopped is step in quiet_end t.0 t.1 old new r t.3

-- ---- the events of a round make a calm

-- what an event of a calm shows is what the book gained
step_gained : {C : Type 0} (calls : Calls C) (e : Event) (old new : WorldState C) (lines : List Shown)
    → begins e ≡ false → HappensInCalm calls old e new lines → Gained old new lines
step_gained calls e old new lines plain h =
    let grew : Grew old.kept new.kept = turn_grows calls e old h.outcome new plain h.gives in
    (grew, h.lines ∙ same_news old.kept new.kept new.kept h.gains grew.gains (gains_once old.kept new.kept new.kept h.gains grew.gains refl))

-- nothing crossed, and nothing more is shown
gained_no_more : {C : Type 0} (mid new : WorldState C) (rest : List Shown) → new ≡ mid → rest ≡ [] → Gained mid new rest
gained_no_more {C} mid new rest same none = subst (λ (w : WorldState C). Gained mid w rest) (sym same) (subst (λ (ls : List Shown). Gained mid mid ls) (sym none) (none_gained mid))

abbrev RepeatsSo : {C : Type 0} → Calls C → Event → ℕ → WorldState C → WorldState C → List Shown → Type 0
RepeatsSo calls e times old new lines = Repeats calls e times old (Ok tt) new × Gained old new lines

left_repeats : {C : Type 0} (calls : Calls C) (e : Event) (times : ℕ) (mid new : WorldState C) (rest : List Shown)
    (b : Bool) → (Repeated (HappensInCalm calls) e times mid new rest → RepeatsSo calls e times mid new rest)
    → MatchBool b (Repeated (HappensInCalm calls) e times mid new rest) ((new ≡ mid) × (rest ≡ [])) → MatchBool b (Repeats calls e times mid (Ok tt) new) (Does mid (Ok tt) new) × Gained mid new rest
left_repeats calls e times mid new rest true k h = k h
left_repeats calls e times mid new rest false k h = ((refl, h.0), gained_no_more mid new rest h.0 h.1)

repeats_of : {C : Type 0} (calls : Calls C) (e : Event) (times : ℕ) (old new : WorldState C) (lines : List Shown)
    → begins e ≡ false → Repeated (HappensInCalm calls) e times old new lines → RepeatsSo calls e times old new lines
repeats_of calls e zero old new lines plain (same, none) = ((refl, same), gained_no_more old new lines same none)
repeats_of {C} calls e (suc times) old new lines plain (mid, first, rest, h, hs, all) =
    let later : MatchBool (crosses old mid) (Repeats calls e times mid (Ok tt) new) (Does mid (Ok tt) new) × Gained mid new rest =
    left_repeats calls e times mid new rest (crosses old mid) (λ k. repeats_of calls e times mid new rest plain k) hs in (
      (h.outcome, mid, h.gives, when_false _ _ (stops h.outcome) h.goes_on later.0),
      subst (λ (ls : List Shown). Gained old new ls) (sym all) (more_gained old mid new first rest (step_gained calls e old mid first plain h) later.1),
    )

turns_of : {C : Type 0} (calls : Calls C) (hosts : List Host) (old new : WorldState C) (lines : List Shown)
    → InTurn (Again (HappensInCalm calls)) old (flat_map turn_of hosts) new lines
    → TurnsOf calls hosts old (Ok tt) new × Gained old new lines
turns_of calls [] old new lines (same, none) = ((refl, same), gained_no_more old new lines same none)
turns_of {C} calls (h ∷ hosts) old new lines (taken, first, more, takes, (sent, second, rest, sends, others, all), whole) =
    let t : RepeatsSo calls (Take h) 16 old taken first = repeats_of calls (Take h) 16 old taken first refl takes in
    let s : RepeatsSo calls (Offer h) 32 taken sent second = repeats_of calls (Offer h) 32 taken sent second refl sends in
    let o : TurnsOf calls hosts sent (Ok tt) new × Gained sent new rest = turns_of calls hosts sent new rest others in
    let later : Gained taken new more = subst (λ (ls : List Shown). Gained taken new ls) (sym all) (more_gained taken sent new second rest s.1 o.1) in (
      (Ok tt, taken, t.0, (Ok tt, sent, s.0, o.0)),
      subst (λ (ls : List Shown). Gained old new ls) (sym whole) (more_gained old taken new first more t.1 later),
    )

-- a single quiet round
quiet_once : {C : Type 0} (calls : Calls C) (old new : WorldState C) (lines : List Shown)
    → Repeated (HappensInCalm calls) Quiet 1 old new lines
    → (answer : Answer) × (stops answer ≡ false) × TurnGives calls old Quiet answer new × Gained old new lines
quiet_once {C} calls old new lines (mid, first, rest, h, hs, all) =
    let last : (new ≡ mid) × (rest ≡ []) = no_more (crosses old mid) hs in
    let shows : Gained old new lines = subst (λ (ls : List Shown). Gained old new ls) (sym all) (more_gained old mid new first rest (step_gained calls Quiet old mid first refl h) (gained_no_more mid new rest last.0 last.1)) in
    (h.outcome, h.goes_on, subst (λ (w : WorldState C). TurnGives calls old Quiet h.outcome w) (sym last.0) h.gives, shows)
  where
    no_more : (b : Bool) → MatchBool b ((new ≡ mid) × (rest ≡ [])) ((new ≡ mid) × (rest ≡ []))
        → (new ≡ mid) × (rest ≡ [])
    no_more true k = k
    no_more false k = k

pub round_calm : {C : Type 0} (calls : Calls C) (old new : WorldState C) (lines : List Shown)
    → RoundOf (HappensInCalm calls) old new lines → Happens calls old (event.Calm 1) new lines
round_calm {C} calls old new lines (quiet, first, rest, once, turns, all) =
    let (answer, on, step, before) = quiet_once calls old quiet first once in
    let running : old.stopped ≡ false = steps_run calls old quiet answer step on old.stopped refl in
    let (turned, after) = turns_of calls (up_in old.seats) quiet new rest turns in
    let same : old.seats ≡ quiet.seats = sym (quiet_seats calls old quiet answer step old.stopped refl) in
    let hosts : TurnsOf calls (up_in quiet.seats) quiet (Ok tt) new = subst (λ (seats : List Seat). TurnsOf calls (up_in seats) quiet (Ok tt) new) same turned in
    let calms : Calms calls 1 old (Ok tt) new = (answer, quiet, step, when_false _ _ (stops answer) on (Ok tt, new, hosts, (refl, refl))) in
    let (grew, is) = more_gained old quiet new first rest before after in
    record { outcome = Ok tt; gives = when_false _ _ old.stopped running calms; goes_on = refl; gains = grew.gains; lines = all ∙ is ∙ sym (append-nil (gained grew.gains)) }

-- ---- a calm of one round is these events

-- events that lead from one world to another, and what they show
abbrev Shows : {C : Type 0} → WorldState C → WorldState C → (List Shown → Type 0) → Type 0
Shows old new Holds = (lines : List Shown) × Holds lines × Gained old new lines

-- an event that doesn't end a calm
stepped : {C : Type 0} (calls : Calls C) (e : Event) (old mid : WorldState C) (answer : Answer) → begins e ≡ false
    → TurnGives calls old e answer mid → stops answer ≡ false → Shows old mid (HappensInCalm calls old e mid)
stepped calls e old mid answer plain step on =
    let grew : Grew old.kept mid.kept = turn_grows calls e old answer mid plain step in
    (gained grew.gains, record { outcome = answer; gives = step; goes_on = on; gains = grew.gains; lines = refl }, (grew, refl))

repeated_of : {C : Type 0} (calls : Calls C) (e : Event) (times : ℕ) (old new : WorldState C) (r : Answer)
    → begins e ≡ false → stops r ≡ false → Repeats calls e times old r new
    → Shows old new (Repeated (HappensInCalm calls) e times old new)
repeated_of calls e zero old new r plain on (done, same) = ([], (same, refl), gained_no_more old new [] same refl)
repeated_of {C} calls e (suc times) old new r plain on (answer, m, step, rest) = by (λ more. repeated_of calls e times m new r plain on more) (stops answer) refl where
  left : (Repeats calls e times m r new → Shows m new (Repeated (HappensInCalm calls) e times m new)) → (b : Bool)
      → MatchBool b (Repeats calls e times m r new) (Does m r new)
      → (lines : List Shown) × MatchBool b (Repeated (HappensInCalm calls) e times m new lines) ((new ≡ m) × (lines ≡ [])) × Gained m new lines
  left k true more = k more
  left k false done = ([], (done.1, refl), gained_no_more m new [] done.1 refl)

  by : (Repeats calls e times m r new → Shows m new (Repeated (HappensInCalm calls) e times m new)) → (b : Bool)
      → stops answer ≡ b → Shows old new (Repeated (HappensInCalm calls) e (suc times) old new)
  by k true is = absurd (let ends : (r ≡ answer) × (new ≡ m) = is_true _ _ (stops answer) is rest in false≢true (sym on ∙ ap stops ends.0 ∙ is))
  by k false is =
      let (first, one, before) = stepped calls e old m answer plain step is in
      let (more, others, after) = left k (crosses old m) (is_false _ _ (stops answer) is rest) in
      (first ++ more, (m, first, more, one, others, refl), more_gained old m new first more before after)

in_turns : {C : Type 0} (calls : Calls C) (hosts : List Host) (old new : WorldState C) (r : Answer) → stops r ≡ false
    → TurnsOf calls hosts old r new
    → Shows old new (InTurn (Again (HappensInCalm calls)) old (flat_map turn_of hosts) new)
in_turns calls [] old new r on (done, same) = ([], (same, refl), gained_no_more old new [] same refl)
in_turns {C} calls (h ∷ hosts) old new r on (first, taken, takes, rest) = by (λ sent more. in_turns calls hosts sent new r on more) (stops first) refl where
  Others : Type 0
  Others = (sent : WorldState C) → TurnsOf calls hosts sent r new → Shows sent new (InTurn (Again (HappensInCalm calls)) sent (flat_map turn_of hosts) new)

  Turns : Type 0
  Turns = Shows old new (InTurn (Again (HappensInCalm calls)) old (flat_map turn_of (h ∷ hosts)) new)

  sent_by : Others → stops first ≡ false → (second : Answer) (sent : WorldState C)
      → Repeats calls (Offer h) 32 taken second sent
      → MatchBool (stops second) ((r ≡ second) × (new ≡ sent)) (TurnsOf calls hosts sent r new) → (b : Bool)
      → stops second ≡ b → Turns
  sent_by k was second sent sends end true is = absurd (let ends : (r ≡ second) × (new ≡ sent) = is_true _ _ (stops second) is end in false≢true (sym on ∙ ap stops ends.0 ∙ is))
  sent_by k was second sent sends end false is =
      let (ls, t, a) = repeated_of calls (Take h) 16 old taken first refl was takes in
      let (ms, s, b) = repeated_of calls (Offer h) 32 taken sent second refl is sends in
      let (ns, o, c) = k sent (is_false _ _ (stops second) is end) in
      (ls ++ (ms ++ ns), (taken, ls, ms ++ ns, t, (sent, ms, ns, s, o, refl), refl), more_gained old taken new ls (ms ++ ns) a (more_gained taken sent new ms ns b c))

  by : Others → (b : Bool) → stops first ≡ b → Turns
  by k true is = absurd (let ends : (r ≡ first) × (new ≡ taken) = is_true _ _ (stops first) is rest in false≢true (sym on ∙ ap stops ends.0 ∙ is))
  by k false is =
      let turned = is_false _ _ (stops first) is rest in
      sent_by k is turned.0 turned.1 turned.2 turned.3 (stops turned.0) refl

either_way : (P : Type 0) (b : Bool) → P → MatchBool b P P
either_way P true p = p
either_way P false p = p

-- a quiet round that isn't followed by another
alone : {C : Type 0} (calls : Calls C) (old quiet : WorldState C) (lines : List Shown)
    → HappensInCalm calls old Quiet quiet lines → Repeated (HappensInCalm calls) Quiet 1 old quiet lines
alone calls old quiet lines h =
    let none : List Shown = [] in
    (quiet, lines, none, h, either_way ((quiet ≡ quiet) × (none ≡ [])) (crosses old quiet) (refl, refl), sym (append-nil lines))

-- the events of a round, and that it is done
abbrev RoundSo : {C : Type 0} → Calls C → WorldState C → Answer → WorldState C → Type 0
RoundSo calls old r new = (r ≡ Ok tt) × Shows old new (RoundOf (HappensInCalm calls) old new)

in_round : {C : Type 0} (calls : Calls C) (old new : WorldState C) (r : Answer) → stops r ≡ false
    → Calms calls 1 old r new → RoundSo calls old r new
in_round {C} calls old new r on (first, quiet, step, rest) = by (stops first) refl where
  turned_by : stops first ≡ false → (second : Answer) (t : WorldState C)
      → TurnsOf calls (up_in quiet.seats) quiet second t
      → MatchBool (stops second) ((r ≡ second) × (new ≡ t)) (Does t r new) → (b : Bool) → stops second ≡ b
      → RoundSo calls old r new
  turned_by was second t turns end true is = absurd (let ends : (r ≡ second) × (new ≡ t) = is_true _ _ (stops second) is end in false≢true (sym on ∙ ap stops ends.0 ∙ is))
  turned_by was second t turns end false is =
      let ends : (r ≡ Ok tt) × (new ≡ t) = is_false _ _ (stops second) is end in
      let same : quiet.seats ≡ old.seats = quiet_seats calls old quiet first step old.stopped refl in
      let whole : TurnsOf calls (up_in old.seats) quiet second new = subst (λ (seats : List Seat). TurnsOf calls (up_in seats) quiet second new) same (subst (λ (w : WorldState C). TurnsOf calls (up_in quiet.seats) quiet second w) (sym ends.1) turns) in
      let (ls, one, before) = stepped calls Quiet old quiet first refl step was in
      let (ms, others, after) = in_turns calls (up_in old.seats) quiet new second is whole in
      (ends.0, (ls ++ ms, (quiet, ls, ms, alone calls old quiet ls one, others, refl), more_gained old quiet new ls ms before after))

  by : (b : Bool) → stops first ≡ b → RoundSo calls old r new
  by true is = absurd (let ends : (r ≡ first) × (new ≡ quiet) = is_true _ _ (stops first) is rest in false≢true (sym on ∙ ap stops ends.0 ∙ is))
  by false is =
      let turned = is_false _ _ (stops first) is rest in
      turned_by is turned.0 turned.1 turned.2 turned.3 (stops turned.0) refl

pub calm_round : {C : Type 0} (calls : Calls C) (old new : WorldState C) (lines : List Shown)
    → Happens calls old (event.Calm 1) new lines → RoundOf (HappensInCalm calls) old new lines
calm_round {C} calls old new lines h =
    let calms : Calms calls 1 old h.outcome new = is_false _ _ old.stopped (runs_at calls 1 old new lines h) h.gives in
    let (done, (own, passes, (grew, is))) = in_round calls old new h.outcome h.goes_on calms in
    let (mine, shows) = calm_gained calls 1 old new lines h done in
    let same : own ≡ lines = is ∙ same_news old.kept new.kept new.kept grew.gains mine.gains (gains_once old.kept new.kept new.kept grew.gains mine.gains refl) ∙ sym shows in
    subst (λ (ls : List Shown). RoundOf (HappensInCalm calls) old new ls) same passes
