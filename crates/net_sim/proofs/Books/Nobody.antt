-- Worlds without strangers: what is kept of them describes a timeline of all hosts, after every event.
use Rattle.net_sim.proofs.Common.{◌≡◌, ℕ, Bool, true, false, List, [], ◌∷◌, map, refl, ap, sym, subst, ◌∙◌, Calls, Host, shown, Moment, IsTimeline, host_in, AreServed, Each, IsNamed, seat_in, WorldState, WorldFault, opening_seats, opening_services, opening_world, StepGives, TurnGives, RunGives, CalmGives, Seen}
use Rattle.net_sim.specs.Whole.{IsWhole, IsWholeAmong}
use Rattle.std.proofs.Common.{Result}
use Rattle.net_sim.specs.Mixed.{AreMixed}
use Rattle.net_sim.specs.Clean.{IsLawfulAmong, IsLawful}
use Rattle.net_sim.specs.Steps.{opening_among, with_programs}
use Rattle.net_sim.specs.World.{Event}
use Rattle.net_sim.proofs.Hosts.Telling.{kept_nobody}
use Rattle.net_sim.proofs.Books.Always.{run_keeps}
use Rattle.net_sim.proofs.Books.Same.{step_same}
use Rattle.net_sim.proofs.Books.Strangers.{alone}
use Rattle.net_sim.proofs.Books.Whole.{calm_among, opening_among_whole, turn_among}

pub any_mixed : (strange : Host → Bool) (hosts : List Host) (moments : List Moment) → IsTimeline hosts moments → AreMixed strange hosts moments
any_mixed strange hosts [] t = tt
any_mixed strange hosts (x ∷ moments) t = ((λ off. t.0), any_mixed strange hosts moments t.1)

module _ (strange : Host → Bool) (none : (h : Host) → strange h ≡ false) where
  only_timeline : (hosts : List Host) (moments : List Moment) → AreMixed strange hosts moments → IsTimeline hosts moments
  only_timeline hosts [] mixed = tt
  only_timeline hosts (x ∷ moments) mixed = (mixed.0 (none (host_in x)), only_timeline hosts moments mixed.1)

  pub all_programs : (hosts : List Host) → with_programs strange hosts ≡ hosts
  all_programs [] = refl
  all_programs (h ∷ hosts) = rw (none h) (ap (λ (hs : List Host). h ∷ hs) (all_programs hosts))

  module _ {C : Type 0} (seen : C → Seen) (hosts : List Host) (w : WorldState C) where
    pub among_whole : IsWholeAmong strange seen hosts w → IsWhole seen hosts w
    among_whole a = record {
      moments = a.moments;
      timeline = only_timeline hosts a.moments a.mixed;
      network = a.network;
      crossings = a.crossings;
      contacts = a.contacts;
      kept = a.kept ∙ kept_nobody strange none a.moments;
      seats = λ running. a.seats running ∙ ap (λ (hs : List Host). map (seat_in hosts a.moments) hs) (all_programs hosts);
      services = λ running. subst (λ (hs : List Host). AreServed hs w.services) (all_programs hosts) (a.services running);
    }

    pub whole_among : IsWhole seen hosts w → IsWholeAmong strange seen hosts w
    whole_among b = record {
      moments = b.moments;
      mixed = any_mixed strange hosts b.moments b.timeline;
      network = b.network;
      crossings = b.crossings;
      contacts = b.contacts;
      kept = b.kept ∙ sym (kept_nobody strange none b.moments);
      seats = λ running. b.seats running ∙ ap (λ (hs : List Host). map (seat_in hosts b.moments) hs) (sym (all_programs hosts));
      services = λ running. subst (λ (hs : List Host). AreServed hs w.services) (sym (all_programs hosts)) (b.services running);
    }

    pub among_lawful : IsLawfulAmong strange seen hosts w → IsLawful seen hosts w
    among_lawful a = record { whole = among_whole a.whole; booked = a.booked; run = a.run; addresses = a.addresses; reported = a.reported }

    pub lawful_among : IsLawful seen hosts w → IsLawfulAmong strange seen hosts w
    lawful_among b = record { whole = whole_among b.whole; booked = b.booked; run = b.run; addresses = b.addresses; strangers = λ h on. absurd (let no : false ≡ true = sym (none h) ∙ on in cc); reported = b.reported }

-- ---- the events of such worlds

abbrev nobody : Host → Bool
nobody h = false

no_one : (h : Host) → nobody h ≡ false
no_one h = refl

module _ {C : Type 0} (own : Calls C) (hosts : List Host) where
  pub turn_whole : (e : Event) (old : WorldState C) (r : Result (Unit {0}) WorldFault) (new : WorldState C) → IsNamed e → IsWhole own.seen hosts old → TurnGives (shown own) old e r new → IsWhole own.seen hosts new
  turn_whole e old r new named w h = among_whole nobody no_one own.seen hosts new (turn_among own nobody hosts e old r new named (whole_among nobody no_one own.seen hosts old w) h)

  -- it has no strangers, and is whole
  abbrev IsAlone : WorldState C → Type 0
  IsAlone w = (w.strangers ≡ []) × IsWhole own.seen hosts w

  pub step_whole : (e : Event) (old : WorldState C) (r : Result (Unit {0}) WorldFault) (new : WorldState C) → IsNamed e → old.strangers ≡ [] → IsWhole own.seen hosts old → StepGives (shown own) old e r new → IsWhole own.seen hosts new
  step_whole e old r new named none w h = turn_whole e old r new named w (alone (shown own) old r new none e h)

  step_alone : (e : Event) (old : WorldState C) (r : Result (Unit {0}) WorldFault) (new : WorldState C) → IsNamed e → IsAlone old → StepGives (shown own) old e r new → IsAlone new
  step_alone e old r new named w h = (step_same (shown own) e old r new h ∙ w.0, step_whole e old r new named w.0 w.1 h)

  pub run_whole : (events : List Event) (old : WorldState C) (r : Result (Unit {0}) WorldFault) (new : WorldState C) → Each IsNamed events → old.strangers ≡ [] → IsWhole own.seen hosts old → RunGives (shown own) old events r new → IsWhole own.seen hosts new
  run_whole events old r new named none w h = (run_keeps (shown own) IsAlone IsNamed step_alone events old r new named (none, w) h).1

  pub calm_whole : (times : ℕ) (old : WorldState C) (r : Result (Unit {0}) WorldFault) (new : WorldState C) → IsWhole own.seen hosts old → CalmGives (shown own) times old r new → IsWhole own.seen hosts new
  calm_whole times old r new w h = among_whole nobody no_one own.seen hosts new (calm_among own nobody hosts times old r new (whole_among nobody no_one own.seen hosts old w) h)

pub opening_nobody : {C : Type 0} (calls : Calls C) (c : C) → opening_among calls [] c ≡ opening_world calls c
opening_nobody {C} calls c = ap (λ (hs : List Host). at_first hs) (all_programs nobody no_one (calls.seen c).hosts) where
  at_first : List Host → WorldState C
  at_first hs = record (opening_world calls c) { seats = opening_seats hs; services = opening_services hs }

pub opening_whole : {C : Type 0} (own : Calls C) (c : C) → IsWhole own.seen (own.seen c).hosts (opening_world (shown own) c)
opening_whole own c =
    among_whole nobody no_one own.seen (own.seen c).hosts (opening_world (shown own) c)
    (subst (λ (w : WorldState _). IsWholeAmong nobody own.seen (own.seen c).hosts w) (opening_nobody (shown own) c) (opening_among_whole own [] c))
