-- What a world keeps is enough for its next event.
use Rattle.net_sim.proofs.Common.{◌≡◌, Bool, true, false, List, [], ap, sym, subst, ◌∙◌, MatchBool, Calls, Seen, InOrder, Host, IsAddress, is_host, IsNamed, shown, AreLive, EventGives, StepGives, TurnGives, WorldState, WorldFault, Carrier, Refuses, Seat, opening_world, running}
use Rattle.net_sim.specs.World.{Event}
use Rattle.std.proofs.Common.{All, Result}
use Rattle.std.specs.List.{filter}
use Rattle.interface.specs.Mailboxes.{IsRun}
use Rattle.interface.specs.declared.carrier.CarrierFault.TheVariants as fault
use Rattle.net_sim.specs.Inside.Held.{IsHeld, among}
use Rattle.net_sim.specs.Clean.{IsLawfulAmong}
use Rattle.net_sim.specs.Steps.{AmongGives, opening_mixed, strange_in, with_programs}
use Rattle.net_sim.proofs.Books.Seated.{have_addresses, seats_live}
use Rattle.net_sim.proofs.Books.Among as worlds
use Rattle.net_sim.proofs.Books.Nobody.{opening_nobody}
use Rattle.net_sim.proofs.Books.Whole.{some_hosts}
use Rattle.net_sim.proofs.Hosts.Anyone.{event_among}

-- ---- at first

pub opening_among_held : {C : Type 0} (own : Calls C) (c : C) (named : List Host) → (own.seen c).log ≡ [] → InOrder (own.seen c).hosts → All (λ (h : Host). IsAddress h) (own.seen c).hosts
    → IsHeld own.seen (opening_mixed (shown own) c named)
opening_among_held own c named none order addresses = record {
  ordered = order;
  lawful = worlds.opening_lawful own (filter (λ g. is_host named g) (own.seen c).hosts) c none (have_addresses (own.seen c).hosts addresses)
      (some_hosts (λ g. is_host named g) (own.seen c).hosts);
}

-- with no strangers
pub opening_held : {C : Type 0} (own : Calls C) (c : C) → (own.seen c).log ≡ [] → InOrder (own.seen c).hosts
    → All (λ (h : Host). IsAddress h) (own.seen c).hosts → IsHeld own.seen (opening_world (shown own) c)
opening_held {C} own c none order addresses =
    subst (λ (w : WorldState C). IsHeld own.seen w) (opening_nobody (shown own) c)
    (record {
      ordered = order;
      lawful = worlds.opening_lawful own [] c none (have_addresses (own.seen c).hosts addresses)
          (λ h on. absurd (let no : false ≡ true = on in cc));
    })

-- ---- no program is spent

pub core_live : {C : Type 0} (seen : C → Seen) (w : WorldState C) → IsHeld seen w → w.stopped ≡ false
    → (seats : List Seat) → seats ≡ w.seats → AreLive seats
core_live seen w held on seats is =
    let seated : List Host = with_programs (strange_in w) (seen w.carrier).hosts in
    subst AreLive (sym (is ∙ held.lawful.whole.seats on)) (seats_live (seen w.carrier).hosts seated held.lawful.whole.moments)

-- ---- each event leaves a world so

-- what keeps the law keeps the order of the hosts, which are the same
module _ {C : Type 0} (own : Calls C) (old new : WorldState C) (r : Result (Unit {0}) WorldFault)
    (held : IsHeld own.seen old) (run : IsRun (own.seen new.carrier).hosts (own.seen new.carrier).log) where
  abbrev hosts : List Host
  hosts = (own.seen old.carrier).hosts

  abbrev Lawful : List Host → Type 0
  Lawful hs = IsLawfulAmong (strange_in new) own.seen hs new

  held_by : worlds.Keeps own hosts (strange_in new) new → IsHeld own.seen new
  held_by kept =
      let same : (own.seen new.carrier).hosts ≡ hosts = kept.whole.network in
      let mine : IsRun hosts (own.seen new.carrier).log =
      subst (λ (hs : List Host). IsRun hs (own.seen new.carrier).log) same run in
      record {
        ordered = subst InOrder (sym same) held.ordered;
        lawful = subst Lawful (sym same) (worlds.lawful_by own hosts (strange_in new) new held.lawful.addresses mine kept);
      }

  pub step_held : (e : Event) → IsNamed e → StepGives (shown own) old e r new → IsHeld own.seen new
  step_held e named gives = held_by (worlds.step_keeps own hosts e old r new named (worlds.kept_of own hosts old held.lawful) gives)

  pub turn_held : (e : Event) → IsNamed e → TurnGives (shown own) old e r new → IsHeld own.seen new
  turn_held e named gives = held_by (worlds.turn_keeps own hosts e old r new named (worlds.kept_of own hosts old held.lawful) gives)

-- ---- a world that hasn't stopped

pub still_running : {C : Type 0} (w : WorldState C) → w.stopped ≡ false → among w.strangers (running w.carrier w.seats w.services w.kept) ≡ w
still_running {C} w e =
    let with : Bool → WorldState C = λ b. record { carrier = w.carrier; strangers = w.strangers; seats = w.seats; services = w.services; kept = w.kept; stopped = b } in
    ap with (sym e)

-- what happens, whichever hosts are strangers, happens among these
pub turn_goes : {C : Type 0} (calls : Calls C) (e : Event) (old : WorldState C) (r : Result (Unit {0}) WorldFault) (new : WorldState C) → old.stopped ≡ false
    → EventGives calls (running old.carrier old.seats old.services old.kept) e r new → TurnGives calls old e r (among old.strangers new)
turn_goes {C} calls e old r new on gives =
    let now : WorldState C = among old.strangers (running old.carrier old.seats old.services old.kept) in
    let mine : EventGives calls old e r (among old.strangers new) =
    subst (λ (w : WorldState C). EventGives calls w e r (among old.strangers new)) (still_running old on)
    (event_among calls old.strangers e (running old.carrier old.seats old.services old.kept) r new gives) in
    subst (λ (b : Bool). MatchBool b (Refuses (Carrier fault.Stopped) old r (among old.strangers new)) (EventGives calls old e r (among old.strangers new))) (sym on) mine

pub step_goes : {C : Type 0} (calls : Calls C) (e : Event) (old : WorldState C) (r : Result (Unit {0}) WorldFault) (new : WorldState C) → old.stopped ≡ false
    → AmongGives calls (among old.strangers (running old.carrier old.seats old.services old.kept)) e r new → StepGives calls old e r new
step_goes {C} calls e old r new on gives =
    let mine : AmongGives calls old e r new = subst (λ (w : WorldState C). AmongGives calls w e r new) (still_running old on) gives in
    subst (λ (b : Bool). MatchBool b (Refuses (Carrier fault.Stopped) old r new) (AmongGives calls old e r new)) (sym on) mine
