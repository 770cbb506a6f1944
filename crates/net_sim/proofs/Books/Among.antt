-- Worlds some of whose hosts may be strangers, event by event.
use Rattle.net_sim.proofs.Common.{◌≡◌, ℕ, Bool, true, false, List, [], sym, subst, Calls, Host, is_host, Crossing, shown, HaveAddresses, Each, IsNamed, WorldState, WorldFault, Carrier, CalmGives, EventGives, Refuses, RunGives, StepGives, TurnGives}
use Rattle.std.proofs.Common.{Result}
use Rattle.interface.specs.Mailboxes.{IsRun}
use Rattle.interface.specs.declared.carrier.CarrierFault.TheVariants as fault
use Rattle.net_sim.specs.Carriers.{IsBooked}
use Rattle.net_sim.specs.Clean.{IsLawfulAmong}
use Rattle.net_sim.specs.Reports.{AreReported}
use Rattle.net_sim.specs.Steps.{AmongGives, FetchGives, OutGives, asked_at, is_strange, opening_among, strange_in}
use Rattle.net_sim.specs.Whole.{IsWholeAmong}
use Rattle.net_sim.specs.World.{Event, NoProgram, Out, Take}
use Rattle.net_sim.proofs.Books.Always.{run_keeps}
use Rattle.net_sim.proofs.Books.Booked.{among_booked, calm_books, step_books, turn_books}
use Rattle.net_sim.proofs.Books.Reported.{among_reported, calm_reported, step_reported, turn_reported}
use Rattle.net_sim.proofs.Books.Same.{calm_same, step_same, turn_same}
use Rattle.net_sim.proofs.Books.Strangers.{either}
use Rattle.net_sim.proofs.Books.Whole.{calm_among, event_among, fetch_among, opening_among_whole, out_among, turn_among}

abbrev Answer : Type 0
Answer = Result (Unit {0}) WorldFault

module _ {C : Type 0} (own : Calls C) (hosts : List Host) where
  -- all that a lawful world is, but for the carrier's log
  pub record Keeps (strange : Host → Bool) (w : WorldState C) : Type 0 where
    pub whole : IsWholeAmong strange own.seen hosts w
    pub booked : IsBooked own.seen w
    pub reported : AreReported w
    pub strangers : (h : Host) → strange h ≡ true → is_host hosts h ≡ true

  abbrev pub Kept : WorldState C → Type 0
  Kept w = Keeps (strange_in w) w

  -- ---- one event

  -- its strangers are the same
  here : (old new : WorldState C) → new.strangers ≡ old.strangers → Keeps (strange_in old) new → Kept new
  here old new same k = subst (λ (xs : List Host). Keeps (λ g. is_host xs g) new) (sym same) k

  -- one of those of a calm, in which strangers do nothing
  pub turn_keeps : (e : Event) (old : WorldState C) (r : Answer) (new : WorldState C) → IsNamed e → Kept old → TurnGives (shown own) old e r new → Kept new
  turn_keeps e old r new named k h =
      here old new (turn_same (shown own) e old r new h)
      (record {
        whole = turn_among own (strange_in old) hosts e old r new named k.whole h;
        booked = turn_books own e old r new k.booked h;
        reported = turn_reported (shown own) e old r new k.reported h;
        strangers = k.strangers;
      })

  -- what becomes of the moments, by any event
  event_whole : (e : Event) (old : WorldState C) (r : Answer) (new : WorldState C) → old.stopped ≡ false → IsNamed e → Kept old → AmongGives (shown own) old e r new
      → IsWholeAmong (strange_in old) own.seen hosts new
  event_whole (Out m) old r new running named k h =
      either (OutGives (shown own) m old r new) (EventGives (shown own) old (Out m) r new) (IsWholeAmong (strange_in old) own.seen hosts new) (strange_in old m.flow.source)
      (λ on does. out_among own (strange_in old) hosts m old r new k.whole running on does)
      (λ off does. event_among own (strange_in old) hosts (Out m) old r new named k.whole running does) h
  event_whole (Take g) old r new running named k h =
      either (FetchGives (shown own) g old r new) (EventGives (shown own) old (Take g) r new) (IsWholeAmong (strange_in old) own.seen hosts new) (strange_in old g)
      (λ on does. fetch_among own (strange_in old) hosts g old r new k.whole running on does)
      (λ off does. event_among own (strange_in old) hosts (Take g) old r new named k.whole running does) h
  event_whole e old r new running named k h =
      either (Refuses NoProgram old r new) (EventGives (shown own) old e r new) (IsWholeAmong (strange_in old) own.seen hosts new) (is_strange (strange_in old) (asked_at e))
      (λ on no. subst (IsWholeAmong (strange_in old) own.seen hosts) (sym no.1) k.whole)
      (λ off does. event_among own (strange_in old) hosts e old r new named k.whole running does) h

  step_whole : (e : Event) (old : WorldState C) (r : Answer) (new : WorldState C) → IsNamed e → Kept old → StepGives (shown own) old e r new → IsWholeAmong (strange_in old) own.seen hosts new
  step_whole e old r new named k h =
      either (Refuses (Carrier fault.Stopped) old r new) (AmongGives (shown own) old e r new) (IsWholeAmong (strange_in old) own.seen hosts new) old.stopped
      (λ on no. subst (IsWholeAmong (strange_in old) own.seen hosts) (sym no.1) k.whole)
      (λ running does. event_whole e old r new running named k does) h

  pub step_keeps : (e : Event) (old : WorldState C) (r : Answer) (new : WorldState C) → IsNamed e → Kept old → StepGives (shown own) old e r new → Kept new
  step_keeps e old r new named k h =
      here old new (step_same (shown own) e old r new h)
      (record {
        whole = step_whole e old r new named k h;
        booked = step_books own e old r new k.booked h;
        reported = step_reported (shown own) e old r new k.reported h;
        strangers = k.strangers;
      })

  -- ---- several events

  run_keep : (events : List Event) (old : WorldState C) (r : Answer) (new : WorldState C) → Each IsNamed events → Kept old → RunGives (shown own) old events r new → Kept new
  run_keep events old r new named k h = run_keeps (shown own) Kept IsNamed step_keeps events old r new named k h

  calm_keep : (times : ℕ) (old : WorldState C) (r : Answer) (new : WorldState C) → Kept old → CalmGives (shown own) times old r new → Kept new
  calm_keep times old r new k h =
      here old new (calm_same (shown own) times old r new h)
      (record {
        whole = calm_among own (strange_in old) hosts times old r new k.whole h;
        booked = calm_books own times old r new k.booked h;
        reported = calm_reported (shown own) times old r new k.reported h;
        strangers = k.strangers;
      })

  -- ---- lawful worlds

  pub lawful_by : (strange : Host → Bool) (w : WorldState C) → HaveAddresses hosts
      → IsRun hosts (own.seen w.carrier).log → Keeps strange w → IsLawfulAmong strange own.seen hosts w
  lawful_by strange w addresses run k = record {
    whole = k.whole;
    booked = k.booked;
    run = run;
    addresses = addresses;
    strangers = k.strangers;
    reported = k.reported;
  }

  abbrev Lawful : WorldState C → Type 0
  Lawful w = IsLawfulAmong (strange_in w) own.seen hosts w

  pub kept_of : (w : WorldState C) → Lawful w → Kept w
  kept_of w l = record { whole = l.whole; booked = l.booked; reported = l.reported; strangers = l.strangers }

  module _ (old new : WorldState C) (r : Answer) (l : Lawful old) (run : IsRun hosts (own.seen new.carrier).log) where
    lawful_of : Kept new → Lawful new
    lawful_of k = lawful_by (strange_in new) new l.addresses run k

    pub step_lawful : (e : Event) → IsNamed e → StepGives (shown own) old e r new → Lawful new
    step_lawful e named h = lawful_of (step_keeps e old r new named (kept_of old l) h)

    pub turn_lawful : (e : Event) → IsNamed e → TurnGives (shown own) old e r new → Lawful new
    turn_lawful e named h = lawful_of (turn_keeps e old r new named (kept_of old l) h)

    pub run_lawful : (events : List Event) → Each IsNamed events → RunGives (shown own) old events r new → Lawful new
    run_lawful events named h = lawful_of (run_keep events old r new named (kept_of old l) h)

    pub calm_lawful : (times : ℕ) → CalmGives (shown own) times old r new → Lawful new
    calm_lawful times h = lawful_of (calm_keep times old r new (kept_of old l) h)

pub opening_lawful : {C : Type 0} (own : Calls C) (strangers : List Host) (c : C) → (own.seen c).log ≡ [] → HaveAddresses (own.seen c).hosts → ((h : Host) → is_host strangers h ≡ true → is_host (own.seen c).hosts h ≡ true)
    → IsLawfulAmong (λ h. is_host strangers h) own.seen (own.seen c).hosts (opening_among (shown own) strangers c)
opening_lawful own xs c none addresses strangers = record {
  whole = opening_among_whole own xs c;
  booked = among_booked own xs c none;
  run = subst (λ (log : List Crossing). IsRun (own.seen c).hosts log) (sym none) tt;
  addresses = addresses;
  strangers = strangers;
  reported = among_reported (shown own) xs c;
}
