-- One walk over the events of a world among strangers, as EachEvent has it where they do nothing: a message of one goes out, something comes
-- in for it, or nothing; it isn't asked; and all else.
use Rattle.net_sim.proofs.Common.{◌≡◌, inl, inr, Bool, true, false, List, [], ◌∷◌, Option, Some, None, Ok, Err, ap, refl, sym, subst, MatchBool, Calls, crossing_of, Host, CarrierFault, Crossing, Inbound, HostMessage, WorldState, WorldFault, Carrier, EventGives, Refuses, StepGives, TurnGives, with_carrier}
use Rattle.std.proofs.Common.{Result}
use Rattle.interface.specs.Host.{is_host}
use Rattle.interface.specs.declared.carrier.CarrierFault.TheVariants as fault
use Rattle.interface.specs.declared.crossing.Crossing.TheVariants as crossing
use Rattle.net_sim.specs.Steps.{AmongGives, FetchEnds, FetchGives, OutEnds, OutGives, asked_at, is_strange, strange_in}
use Rattle.net_sim.specs.World.{Event, HasProgram, NoProgram, Out, Take, changed, is_of_strangers}
use Rattle.net_sim.proofs.Books.EachEvent.{Answered, Shows, Ways, does, event_way, passes}

-- a choice, with what it was made by
pub either : (P Q R : Type 0) (b : Bool) → (b ≡ true → P → R) → (b ≡ false → Q → R) → MatchBool b P Q → R
either P Q R true k l h = k refl h
either P Q R false k l h = l refl h

module _ {C : Type 0} (calls : Calls C) (Crossed : C → C → List Crossing → Type 0) (shows : Shows calls Crossed)
    (R : WorldState C → Answered → WorldState C → Type 0) (ways : Ways calls Crossed R)
    (strange : (c : C) (x : Crossing) (old : WorldState C) → old.stopped ≡ false → Crossed old.carrier c (x ∷ []) → R old (Ok tt) (changed c (x ∷ []) old)) where
  out_ends : (m : HostMessage) (answer : Result (Unit {0}) CarrierFault) (c : C) (old : WorldState C) (r : Answered) (new : WorldState C) → old.stopped ≡ false
      → calls.offers old.carrier m answer c → OutEnds m answer c old r new → R old r new
  out_ends m (Ok done) c old r new running call (inl d) =
      does calls Crossed shows R ways (changed c (crossing.Out m ∷ []) old) old r new (strange c (crossing.Out m) old running (shows.offered old.carrier c m done call)) d
  out_ends m (Ok done) c old r new running call (inr x) =
      ways.halted c (crossing.Out m ∷ []) old r new running (shows.offered old.carrier c m done call) tt x
  out_ends m (Err e) c old r new running call ends = passes calls Crossed shows R ways e c old r new running (shows.unoffered old.carrier c m e call) ends

  pub out_way : (m : HostMessage) (old : WorldState C) (r : Answered) (new : WorldState C) → old.stopped ≡ false → OutGives calls m old r new → R old r new
  out_way m old r new running t = out_ends m t.0 t.1 old r new running t.2 t.3

  fetch_ends : (h : Host) (answer : Result (Option Inbound) CarrierFault) (c : C) (old : WorldState C) (r : Answered) (new : WorldState C) → old.stopped ≡ false
      → calls.takes old.carrier h answer c → FetchEnds answer c old r new → R old r new
  fetch_ends h (Ok None) c old r new running call ends =
      does calls Crossed shows R ways (with_carrier c old) old r new (ways.quiet c old running (shows.took_none old.carrier c h call)) ends
  fetch_ends h (Ok (Some i)) c old r new running call (inl d) =
      does calls Crossed shows R ways (changed c (crossing_of i ∷ []) old) old r new (strange c (crossing_of i) old running (shows.took old.carrier c h i call)) d
  fetch_ends h (Ok (Some i)) c old r new running call (inr x) =
      ways.halted c (crossing_of i ∷ []) old r new running (shows.took old.carrier c h i call) tt x
  fetch_ends h (Err e) c old r new running call ends = passes calls Crossed shows R ways e c old r new running (shows.untaken old.carrier c h e call) ends

  pub fetch_way : (h : Host) (old : WorldState C) (r : Answered) (new : WorldState C) → old.stopped ≡ false → FetchGives calls h old r new → R old r new
  fetch_way h old r new running t = fetch_ends h t.0 t.1 old r new running t.2 t.3

module _ {C : Type 0} (calls : Calls C) (Crossed : C → C → List Crossing → Type 0) (shows : Shows calls Crossed)
    (R : WorldState C → Answered → WorldState C → Type 0) (ways : Ways calls Crossed R)
    (strange : (c : C) (x : Crossing) (old : WorldState C) → old.stopped ≡ false → Crossed old.carrier c (x ∷ []) → R old (Ok tt) (changed c (x ∷ []) old))
    (left : (f : WorldFault) (w : WorldState C) → is_of_strangers (Err f) ≡ true → R w (Err f) w) where
  refused : (f : WorldFault) (old : WorldState C) (r : Answered) (new : WorldState C) → R old (Err f) old → Refuses f old r new → R old r new
  refused f old r new k h = subst (R old r) (sym h.1) (subst (λ (a : Answered). R old a old) (sym h.0) k)

  all_else : (e : Event) (old : WorldState C) (r : Answered) (new : WorldState C) → old.stopped ≡ false → EventGives calls old e r new → R old r new
  all_else e old r new running h = event_way calls Crossed shows R ways e (λ sent w. left HasProgram w refl) old r new running h

  among_way : (e : Event) (old : WorldState C) (r : Answered) (new : WorldState C) → old.stopped ≡ false → AmongGives calls old e r new → R old r new
  among_way (Out m) old r new running h =
      either (OutGives calls m old r new) (EventGives calls old (Out m) r new) (R old r new) (strange_in old m.flow.source)
      (λ on g. out_way calls Crossed shows R ways strange m old r new running g) (λ off g. all_else (Out m) old r new running g) h
  among_way (Take x) old r new running h =
      either (FetchGives calls x old r new) (EventGives calls old (Take x) r new) (R old r new) (strange_in old x)
      (λ on g. fetch_way calls Crossed shows R ways strange x old r new running g) (λ off g. all_else (Take x) old r new running g) h
  among_way e old r new running h =
      either (Refuses NoProgram old r new) (EventGives calls old e r new) (R old r new) (is_strange (strange_in old) (asked_at e))
      (λ on no. refused NoProgram old r new (left NoProgram old refl) no) (λ off g. all_else e old r new running g) h

  pub each_way : (e : Event) (old : WorldState C) (r : Answered) (new : WorldState C) → StepGives calls old e r new → R old r new
  each_way e old r new h =
      either (Refuses (Carrier fault.Stopped) old r new) (AmongGives calls old e r new) (R old r new) old.stopped
      (λ on no. refused (Carrier fault.Stopped) old r new (ways.left (Err (Carrier fault.Stopped)) old refl) no)
      (λ running g. among_way e old r new running g) h

-- ---- where there are none

pub none_strange : {C : Type 0} (w : WorldState C) → w.strangers ≡ [] → (h : Host) → strange_in w h ≡ false
none_strange w none h = ap (λ (xs : List Host). is_host xs h) none

module _ {C : Type 0} (calls : Calls C) (old : WorldState C) (r : Answered) (new : WorldState C) (none : old.strangers ≡ []) where
  otherwise : (P Q : Type 0) (b : Bool) → b ≡ false → MatchBool b P Q → Q
  otherwise P Q true is h = absurd (let no : true ≡ false = is in cc)
  otherwise P Q false is h = h

  no_one : (o : Option Host) → is_strange (strange_in old) o ≡ false
  no_one None = refl
  no_one (Some h) = none_strange old none h

  among_alone : (e : Event) → AmongGives calls old e r new → EventGives calls old e r new
  among_alone (Out m) h = otherwise (OutGives calls m old r new) (EventGives calls old (Out m) r new) (strange_in old m.flow.source) (none_strange old none m.flow.source) h
  among_alone (Take x) h = otherwise (FetchGives calls x old r new) (EventGives calls old (Take x) r new) (strange_in old x) (none_strange old none x) h
  among_alone e h = otherwise (Refuses NoProgram old r new) (EventGives calls old e r new) (is_strange (strange_in old) (asked_at e)) (no_one (asked_at e)) h

  -- an event happens as those of a calm do
  pub alone : (e : Event) → StepGives calls old e r new → TurnGives calls old e r new
  alone e h = by old.stopped h where
    by : (b : Bool) → MatchBool b (Refuses (Carrier fault.Stopped) old r new) (AmongGives calls old e r new) → MatchBool b (Refuses (Carrier fault.Stopped) old r new) (EventGives calls old e r new)
    by true out = out
    by false g = among_alone e g
