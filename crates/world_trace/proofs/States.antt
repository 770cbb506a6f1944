-- What each call of a carrier keeps holds of the carrier of each world that the replay of a script comes to.
use Rattle.world_trace.proofs.Common.{false, ◌≡◌, inl, inr, List, [], ◌∷◌, ◌++◌, Option, None, Some, Result, reverse, ap, refl, sym, subst, ◌∙◌, All-append, All-cons, All-head, All-nil, All-same, All-tail, All, Calls, Host, Crossing, WorldState, opening_world, Event, Seat, InTurn, NcpState, next_out, WorldEvent, IsReached, IsSaid}
use Rattle.std.proofs.lemmas.List.{append-nil, reverse-append, reverse-reverse}
use Rattle.replay.specs.Output.{Refused, shown_crossings, Shown, crossings_of}
use Rattle.replay.specs.Replay.{GoesOn, Happens}
use Rattle.script.specs.Spelling.{IsMessage, IsNetEvent}
use Rattle.world_replay.specs.Driven.{Drive, Goes, IsDriven, IsDrivenIn, Raw, Round, IsCourse, call_of, program_of}
use Rattle.world_replay.proofs.lemmas.Driven.{replay_drives}
use Rattle.std.specs.Option.{option_and_then, option_map, option_to_list}
use Rattle.interface.specs.declared.CarrierFault.{CarrierFault}
use Rattle.interface.specs.declared.HostMessage.{HostMessage}
use Rattle.interface.specs.declared.NetEvent.{NetEvent}
use Rattle.interface.specs.declared.crossing.Crossing.TheVariants as crossing
use Rattle.net_sim.specs.declared.event.Event.TheVariants as event
use Rattle.script.specs.declared.event.RawEvent.TheVariants as raw
use Rattle.world_replay.specs.Replay.{IsOfCalm}
use Rattle.world_script.specs.WorldSpelling.{IsWorldEvent}
use Rattle.world_script.specs.declared.event.WorldEvent.TheVariants as script

-- what the calls of a carrier keep, where events of the network and messages that cross are such as a script may ask for
pub record Keeps {C : Type 0} (calls : Calls C) (Holds : C → Type 0) : Type 0 where
  pub net : (old new : C) (e : NetEvent) (lines : List Shown) → IsNetEvent e → Happens calls old (raw.Net e) new lines → Holds old → Holds new
  pub take : (old new : C) (h : Host) (lines : List Shown) → Happens calls old (raw.Take h) new lines → Holds old → Holds new
  pub out : (old new : C) (m : HostMessage) (lines : List Shown) → IsMessage m → Happens calls old (raw.Out m) new lines → Holds old → Holds new
  pub unsaid : (old new : C) (m : HostMessage) (lines : List Shown) (f : CarrierFault) → lines ≡ Refused f ∷ [] → Happens calls old (raw.Out m) new lines → Holds old → Holds new
  pub round : (old new : C) (answer : Result (Unit {0}) CarrierFault) → calls.rounds old answer new → GoesOn answer → Holds old → Holds new

-- what is done does not show a refusal
pub not_refused : (cs : List Crossing) (f : CarrierFault) → shown_crossings cs ++ [] ≡ Refused f ∷ [] → ⊥
not_refused [] f is = cc
not_refused (c ∷ cs) f is = cc

-- what is asked of an event of a world: one of the network is such as a script may ask for
abbrev IsFit : Event → Type 0
IsFit (event.Net e) = IsNetEvent e
IsFit e = Unit {0}

fit_script : (e : Event) → IsWorldEvent false (script.Happen e) → IsFit e
fit_script (event.Net e) valid = valid
fit_script event.Quiet valid = tt
fit_script (event.Offer h) valid = tt
fit_script (event.Take h) valid = tt
fit_script (event.Ask h r) valid = tt
fit_script (event.Server h listen base) valid = tt
fit_script (event.User h peer listen own) valid = tt
fit_script (event.Typed h line) valid = tt
fit_script (event.Out m) valid = tt

fit_calm : (e : Event) → IsOfCalm e → IsFit e
fit_calm (event.Net e) calm = absurd calm
fit_calm event.Quiet calm = tt
fit_calm (event.Offer h) calm = tt
fit_calm (event.Take h) calm = tt
fit_calm (event.Ask h r) calm = tt
fit_calm (event.Server h listen base) calm = tt
fit_calm (event.User h peer listen own) calm = tt
fit_calm (event.Typed h line) calm = tt
fit_calm (event.Out m) calm = tt

all_fit : (events : List Event) → All IsOfCalm events → All IsFit events
all_fit [] calm = All-nil IsFit
all_fit (e ∷ events) calm = All-cons IsFit e events (fit_calm e (All-head IsOfCalm e events calm)) (all_fit events (All-tail IsOfCalm e events calm))

course_fit : (e : WorldEvent) (events : List Event) → IsWorldEvent false e → IsCourse e events → All IsFit events
course_fit (script.Happen e) events valid course = subst (All IsFit) (sym course) (All-cons IsFit e [] (fit_script e valid) (All-nil IsFit))
course_fit (script.Calm rounds) events valid course = all_fit events course.0

-- what was said earlier was said
earlier : (cs log : List Crossing) → All IsSaid (cs ++ log) → All IsSaid log
earlier [] log all = all
earlier (c ∷ cs) log all = earlier cs log (All-tail IsSaid c (cs ++ log) all)

later : (cs log : List Crossing) → All IsSaid (cs ++ log) → All IsSaid cs
later [] log all = All-nil IsSaid
later (c ∷ cs) log all = All-cons IsSaid c cs (All-head IsSaid c (cs ++ log) all) (later cs log (All-tail IsSaid c (cs ++ log) all))

-- in whichever order
all_reverse : (cs : List Crossing) → All IsSaid cs → All IsSaid (reverse cs)
all_reverse [] all = All-nil IsSaid
all_reverse (c ∷ cs) all =
    All-same IsSaid (reverse (c ∷ cs)) (reverse cs ++ c ∷ []) (reverse-append (c ∷ []) cs)
    (All-append IsSaid (reverse cs) (c ∷ []) (all_reverse cs (All-tail IsSaid c cs all)) (All-cons IsSaid c [] (All-head IsSaid c cs all) (All-nil IsSaid)))

pub in_order : (cs : List Crossing) → All IsSaid (reverse cs) → All IsSaid cs
in_order cs all = All-same IsSaid cs (reverse (reverse cs)) (sym (reverse-reverse cs)) (all_reverse (reverse cs) all)

module _ {C : Type 0} (calls : Calls C) (Holds : C → Type 0) (keeps : Keeps calls Holds) where
  -- one call, which shows these lines
  one_goes : (d : Drive) (old new : C) (lines : List Shown) (cs : List Crossing) → InTurn (Goes calls) old (d ∷ []) new lines → crossings_of lines ≡ cs → ((first : List Shown) → crossings_of first ≡ cs → Goes calls old d new first → Holds new) → Holds new
  one_goes d old new lines cs (mid, first, rest, one, (same, none), all) is k =
      let front : lines ≡ first = all ∙ ap (λ (ls : List Shown). first ++ ls) none ∙ append-nil first in
      k first (sym (ap crossings_of front) ∙ is) (subst (λ (c : C). Goes calls old d c first) (sym same) one)

  none_goes : (old new : C) (lines : List Shown) → InTurn (Goes calls) old [] new lines → Holds old → Holds new
  none_goes old new lines h holds = subst Holds (sym h.0) holds

  -- an event without calls
  still_holds : (old new : C) (drives : List Drive) (lines : List Shown) → drives ≡ [] → InTurn (Goes calls) old drives new lines → Holds old → Holds new
  still_holds old new drives lines none goes holds = none_goes old new lines (subst (λ (ds : List Drive). InTurn (Goes calls) old ds new lines) none goes) holds

  -- a host takes, if it is up
  taking_holds : (h : Host) (o : Option NcpState) (old new : C) (drives : List Drive) (lines : List Shown) → drives ≡ option_to_list (option_map (λ (s : NcpState). Raw (raw.Take h)) o) → InTurn (Goes calls) old drives new lines → Holds old → Holds new
  taking_holds h None old new drives lines makes goes holds = still_holds old new drives lines makes goes holds
  taking_holds h (Some s) old new drives lines makes goes holds =
      one_goes (Raw (raw.Take h)) old new lines (crossings_of lines) (subst (λ (ds : List Drive). InTurn (Goes calls) old ds new lines) makes goes) refl (λ first same one. keeps.take old new h first one.0 holds)

  -- a message that is offered goes out, or is refused
  out_holds : (m : HostMessage) (old new : C) (first : List Shown) → All IsSaid (crossings_of first) → Goes calls old (Raw (raw.Out m)) new first → Holds old → Holds new
  out_holds m old new first said one holds = elim one.1 [
    | inl it ↦
        let out : crossings_of first ≡ crossing.Out m ∷ [] = ap crossings_of it.2 ∙ ap (λ (cs : List Crossing). crossings_of (shown_crossings cs)) it.1 in
        keeps.out old new m first (All-head IsSaid (crossing.Out m) [] (subst (All IsSaid) out said)) one.0 holds
    | inr it ↦ keeps.unsaid old new m first it.0 it.1 one.0 holds
  ]

  offer_holds : (o : Option HostMessage) (old new : C) (drives : List Drive) (lines : List Shown) → drives ≡ option_to_list (option_map (λ (m : HostMessage). Raw (raw.Out m)) o) → All IsSaid (crossings_of lines)
      → InTurn (Goes calls) old drives new lines → Holds old → Holds new
  offer_holds None old new drives lines makes said goes holds = still_holds old new drives lines makes goes holds
  offer_holds (Some m) old new drives lines makes said goes holds =
      one_goes (Raw (raw.Out m)) old new lines (crossings_of lines) (subst (λ (ds : List Drive). InTurn (Goes calls) old ds new lines) makes goes) refl
      (λ first same one. out_holds m old new first (subst (All IsSaid) (sym same) said) one holds)

  made_holds : (e : Event) (seats : List Seat) (old new : C) (drives : List Drive) (lines : List Shown) → IsFit e → All IsSaid (crossings_of lines) → drives ≡ option_to_list (call_of seats e) → InTurn (Goes calls) old drives new lines → Holds old → Holds new
  made_holds (event.Net e) seats old new drives lines fit said makes goes holds =
      one_goes (Raw (raw.Net e)) old new lines (crossings_of lines) (subst (λ (ds : List Drive). InTurn (Goes calls) old ds new lines) makes goes) refl (λ first same h. keeps.net old new e first fit h.0 holds)
  made_holds event.Quiet seats old new drives lines fit said makes goes holds =
      one_goes Round old new lines (crossings_of lines) (subst (λ (ds : List Drive). InTurn (Goes calls) old ds new lines) makes goes) refl (λ first same h. keeps.round old new h.0 h.1 h.2 holds)
  made_holds (event.Offer h) seats old new drives lines fit said makes goes holds = offer_holds (option_and_then next_out (program_of h seats)) old new drives lines makes said goes holds
  made_holds (event.Take h) seats old new drives lines fit said makes goes holds = taking_holds h (program_of h seats) old new drives lines makes goes holds
  made_holds (event.Ask h r) seats old new drives lines fit said makes goes holds = still_holds old new drives lines makes goes holds
  made_holds (event.Server h listen base) seats old new drives lines fit said makes goes holds = still_holds old new drives lines makes goes holds
  made_holds (event.User h peer listen own) seats old new drives lines fit said makes goes holds = still_holds old new drives lines makes goes holds
  made_holds (event.Typed h line) seats old new drives lines fit said makes goes holds = still_holds old new drives lines makes goes holds
  made_holds (event.Out m) seats old new drives lines fit said makes goes holds = still_holds old new drives lines makes goes holds

  -- ---- events in turn

  abbrev Said : WorldState C → Type 0
  Said w = All IsSaid w.kept.book.crossings

  said_before : (e : Event) (old new : WorldState C) (drives : List Drive) → IsDriven calls old e new drives → Said new → Said old
  said_before e old new drives h said = earlier (reverse (crossings_of h.shown)) old.kept.book.crossings (subst (All IsSaid) h.crossed said)

  event_holds : (e : Event) (old new : WorldState C) (drives : List Drive) → IsFit e → Said new → IsDriven calls old e new drives → Holds old.carrier → Holds new.carrier
  event_holds e old new drives fit said h holds =
      let cs : List Crossing = crossings_of h.shown in
      made_holds e old.seats old.carrier new.carrier drives h.shown fit (in_order cs (later (reverse cs) old.kept.book.crossings (subst (All IsSaid) h.crossed said))) h.makes h.goes holds

  all_said : (events : List Event) (old new : WorldState C) (drives : List Drive) → InTurn (IsDriven calls) old events new drives → Said new → Said old
  all_said [] old new drives h said = subst Said h.0 said
  all_said (e ∷ events) old new drives (mid, first, rest, one, more, all) said = said_before e old mid first one (all_said events mid new rest more said)

  all_hold : (events : List Event) (old new : WorldState C) (drives : List Drive) → All IsFit events → Said new → InTurn (IsDriven calls) old events new drives → Holds old.carrier → Holds new.carrier
  all_hold [] old new drives fit said h holds = subst (λ (w : WorldState C). Holds w.carrier) (sym h.0) holds
  all_hold (e ∷ events) old new drives fit said (mid, first, rest, one, more, all) holds =
      all_hold events mid new rest (All-tail IsFit e events fit) said more
      (event_holds e old mid first (All-head IsFit e events fit) (all_said events mid new rest more said) one holds)

  scripts_said : (events : List WorldEvent) (old new : WorldState C) (drives : List Drive) → InTurn (IsDrivenIn calls) old events new drives → Said new → Said old
  scripts_said [] old new drives h said = subst Said h.0 said
  scripts_said (e ∷ events) old new drives (mid, first, rest, (es, course, one), more, all) said = all_said es old mid first one (scripts_said events mid new rest more said)

  scripts_hold : (events : List WorldEvent) (old new : WorldState C) (drives : List Drive) → All (IsWorldEvent false) events → Said new → InTurn (IsDrivenIn calls) old events new drives → Holds old.carrier → Holds new.carrier
  scripts_hold [] old new drives valid said h holds = subst (λ (w : WorldState C). Holds w.carrier) (sym h.0) holds
  scripts_hold (e ∷ events) old new drives valid said (mid, first, rest, (es, course, one), more, all) holds =
      scripts_hold events mid new rest (All-tail (IsWorldEvent false) e events valid) said more
      (all_hold es old mid first (course_fit e es (All-head (IsWorldEvent false) e events valid) course) (scripts_said events mid new rest more said) one holds)

  -- it holds of the carrier of each world that a replay comes to, if it holds at the opening
  pub reached_holds : (opening : C) (w : WorldState C) → IsReached calls opening w → Holds opening → Holds w.carrier
  reached_holds opening w is holds =
      let (drives, driven, all) = replay_drives calls is.script (opening_world calls opening) w is.lines refl is.replays in
      scripts_hold is.script (opening_world calls opening) w drives is.valid is.said driven holds
