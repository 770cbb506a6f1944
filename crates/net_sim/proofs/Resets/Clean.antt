-- A host that is through a reset takes of its peer only what went out after its last clean point.
use Rattle.net_sim.proofs.Common.{◌≡◌, ℕ, Bool, true, if◌then◌else◌, List, [], ◌∷◌, ◌++◌, length, Some, refl, ap, sym, subst, ◌∙◌, Calls, Seen, Host, same_host, same_flow, Flow, Crossing, HostMessage, run_below, NcpState, pair_with, Box, Waiting, Message, Other, In, Pair, pair, WaitsAfterClean, clean_run, ready_phase, Called, HaveAddresses, IsFresh, IsLawful, IsText, is_through, Agrees, event_of, last_out, events_of, program, contacts_of, crossings_of, events_in, seen_box, shown, Each, IsNamed, seat_in, Seat, WorldFault, WorldState, opening_world, seat_of, StepGives, TurnGives, RunGives, CalmGives}
use Rattle.std.proofs.Common.{false, Result}
use Rattle.interface.specs.Mailboxes as mail
use Rattle.interface.specs.declared.crossing.Crossing.TheVariants as crossing
use Rattle.reset_law.specs.Boxes.{Empty, Taken}
use Rattle.reset_law.specs.Events as reset
use Rattle.reset_law.specs.Runs.{IsRun}
use Rattle.net_sim.specs.Clean.{IsLawfulAmong}
use Rattle.net_sim.specs.Steps.{with_programs}
use Rattle.reset_law.specs.Stays.{IsPrefix, heard_in_stay, said_in_stay}
use Rattle.reset_law.proofs.lemmas.{heard_front}
use Rattle.net_sim.specs.World.{Event}
use Rattle.net_sim.proofs.Books.Booked.{calm_books, opening_booked, run_books, turn_books}
use Rattle.net_sim.proofs.Books.Reported.{calm_reported, opening_reported, run_reported, turn_reported}
use Rattle.net_sim.proofs.Hosts.Seats.{found_seat}
use Rattle.net_sim.proofs.Books.Nobody.{calm_whole, opening_whole, run_whole, turn_whole}
use Rattle.net_sim.proofs.Books.Strangers.{alone}
use Rattle.net_sim.proofs.Books.Whole.{program_is}
use Rattle.net_sim.proofs.Books.BookEvents.{box_in, pair_told, run_at, run_told, same_events, told_events}
use Rattle.net_sim.proofs.Resets.Coupled.{Coupled, coupled}
use Rattle.net_sim.proofs.Resets.StoryLemmas.{story_agrees}
use Rattle.reset_law.specs.Network.{AreOurs, Network}

-- ---- where a message that waits went out

out_by : (f : Flow) (m : HostMessage) (p : ℕ) (text : List Bool) (log : List Crossing) → (mail.box_of f log ≡ mail.Waiting p text → last_out f log ≡ Some p) → (b : Bool) → same_flow f m.flow ≡ b
    → mail.box_of f (crossing.Out m ∷ log) ≡ mail.Waiting p text → last_out f (crossing.Out m ∷ log) ≡ Some p
out_by f m p text log rest true e is =
    let here : mail.Waiting (length log) m.text ≡ mail.Waiting p text = rw e at is in
    rw e (ap (λ (x : mail.Box). Some (place_of x)) here) where
      place_of : mail.Box → ℕ
      place_of mail.Empty = 0
      place_of (mail.Waiting place kept) = place
      place_of (mail.Taken place kept) = place
out_by f m p text log rest false e is = let before : mail.box_of f log ≡ mail.Waiting p text = rw e at is in rw e (rest before)

pub fetched_waits : (box : mail.Box) (p : ℕ) (text : List Bool) (b : Bool) → (if b then mail.fetched box else box) ≡ mail.Waiting p text → box ≡ mail.Waiting p text
fetched_waits mail.Empty p text true is = is
fetched_waits (mail.Waiting place kept) p text true is = absurd (let no : mail.Taken place kept ≡ mail.Waiting p text = is in cc)
fetched_waits (mail.Taken place kept) p text true is = is
fetched_waits box p text false is = is

pub cleared_waits : (box : mail.Box) (p : ℕ) (text : List Bool) (b : Bool) → (if b then mail.Empty else box) ≡ mail.Waiting p text → box ≡ mail.Waiting p text
cleared_waits box p text true is = absurd (let no : mail.Empty ≡ mail.Waiting p text = is in cc)
cleared_waits box p text false is = is

pub waiting_out : (f : Flow) (p : ℕ) (text : List Bool) (log : List Crossing) → mail.box_of f log ≡ mail.Waiting p text → last_out f log ≡ Some p
waiting_out f p text [] is = absurd (let no : mail.Empty ≡ mail.Waiting p text = is in cc)
waiting_out f p text (crossing.Out m ∷ log) is = out_by f m p text log (λ e. waiting_out f p text log e) (same_flow f m.flow) refl is
waiting_out f p text (crossing.In m ∷ log) is = waiting_out f p text log (fetched_waits (mail.box_of f log) p text (same_flow f m.flow) is)
waiting_out f p text (crossing.Answer kind g ∷ log) is = waiting_out f p text log (cleared_waits (mail.box_of f log) p text (same_flow f g) is)
waiting_out f p text (crossing.Down h ∷ log) is = waiting_out f p text log is
waiting_out f p text (crossing.Up h ∷ log) is = waiting_out f p text log (cleared_waits (mail.box_of f log) p text (same_host f.source h) is)

pub seen_waiting : (link : ℕ) (box : mail.Box) (p : ℕ) (message : Message) → seen_box link box ≡ Waiting p message → (text : List Bool) × (box ≡ mail.Waiting p text)
seen_waiting link mail.Empty p message is = absurd (cc)
seen_waiting link (mail.Waiting place text) p message is = (text, ap (λ (x : Box). mail.Waiting (place_of x) text) is) where
  place_of : Box → ℕ
  place_of Empty = 0
  place_of (Waiting n m) = n
  place_of (Taken n m) = n
seen_waiting link (mail.Taken place text) p message is = absurd (cc)

-- ---- the book is a run of the law of resets

module _ {C : Type 0} (seen : C → Seen) (hosts : Network) (w : WorldState C) (lawful : IsLawfulAmong hosts.strange seen hosts.all w) where
  abbrev contacts : List Called
  contacts = w.kept.book.contacts

  abbrev log : List Crossing
  log = w.kept.book.crossings

  book_coupled : Coupled hosts lawful.whole.moments
  book_coupled =
      let all : mail.IsRun hosts.all (lawful.booked.unbooked ++ log) = subst (λ (xs : List Crossing). mail.IsRun hosts.all xs) lawful.booked.book lawful.run in
      let run : mail.IsRun hosts.all (crossings_of lawful.whole.moments) = subst (λ (xs : List Crossing). mail.IsRun hosts.all xs) lawful.whole.crossings (run_below hosts.all lawful.booked.unbooked log all) in
      coupled hosts lawful.addresses lawful.whole.moments run lawful.whole.mixed

  book_events : events_in contacts log ≡ told_events lawful.whole.moments
  book_events =
      ap (λ (cs : List Called). events_in cs log) lawful.whole.contacts ∙ ap (λ (xs : List Crossing). events_in (contacts_of lawful.whole.moments) xs) lawful.whole.crossings ∙ same_events lawful.whole.moments

  pub book_run : IsRun hosts (events_in contacts log)
  book_run = subst (λ (es : List reset.Event). IsRun hosts es) (sym book_events) (run_told hosts lawful.whole.moments book_coupled.run)

  -- each host's program is where the book has it
  book_agrees : (a b : Host) → AreOurs hosts a b → Agrees (pair_with b (program a lawful.whole.moments).peers) (pair a b (events_in contacts log))
  book_agrees a b ours =
      let same : pair a b (events_in contacts log) ≡ pair a b (events_of lawful.whole.moments) = ap (λ (es : List reset.Event). pair a b es) book_events ∙ pair_told a b lawful.whole.moments in
      subst (λ (p : Pair). Agrees (pair_with b (program a lawful.whole.moments).peers) p) (sym same) (story_agrees hosts lawful.whole.moments a b ours book_coupled.story)

  pub book_clean : (newer older : List Crossing) (m : HostMessage) → log ≡ newer ++ crossing.In m ∷ older → AreOurs hosts m.flow.source m.flow.destination → IsText m → is_through m.flow.destination m.flow.source contacts older ≡ true → IsFresh m contacts older
  book_clean newer older m parts ours plain through =
      let all : IsRun hosts (events_in contacts (newer ++ crossing.In m ∷ older)) = subst (λ (xs : List Crossing). IsRun hosts (events_in contacts xs)) parts book_run in
      let here : IsRun hosts (event_of (crossing.In m) ∷ events_in contacts older) = run_at hosts contacts newer (crossing.In m) older all in
      let run : IsRun hosts (In m.flow.source m.flow.destination m.flow.link.0 (Other m.text) ∷ events_in contacts older) =
      subst (λ (x : Message). IsRun hosts (In m.flow.source m.flow.destination m.flow.link.0 x ∷ events_in contacts older)) plain here in
      let waits : WaitsAfterClean m.flow.source m.flow.destination m.flow.link.0 m.text (events_in contacts older) =
      clean_run hosts (events_in contacts older) m.flow.source m.flow.destination m.flow.link.0 m.text ours run (ready_phase (pair m.flow.destination m.flow.source (events_in contacts older)).phase through) in
      let box : seen_box m.flow.link.0 (mail.box_of m.flow older) ≡ Waiting waits.place (Other m.text) = sym (box_in m.flow.source m.flow.destination contacts older m.flow.link.0) ∙ waits.waits in
      let kept : (text : List Bool) × (mail.box_of m.flow older ≡ mail.Waiting waits.place text) = seen_waiting m.flow.link.0 (mail.box_of m.flow older) waits.place (Other m.text) box in
      record { place = waits.place; out = waiting_out m.flow waits.place kept.0 older kept.1; after = waits.after }

  -- link by link, what a host heard in its last stay is a prefix of what was said
  pub book_front : (a b : Host) → AreOurs hosts a b → (link : ℕ) → IsPrefix (heard_in_stay a b link (events_in contacts log)) (said_in_stay a b link (events_in contacts log))
  book_front a b ours link = heard_front hosts (events_in contacts log) book_run a b ours link

  -- and so is the program in the seat of each host that is up
  pub seat_agrees : w.stopped ≡ false → (a b : Host) → AreOurs hosts a b → (s : NcpState) → seat_of a w.seats ≡ Some (record { host = a; program = Some s }) → Agrees (pair_with b s.peers) (pair a b (events_in contacts log))
  seat_agrees running a b ours s is =
      let there : record { host = a; program = Some s } ≡ seat_in hosts.all lawful.whole.moments a =
      found_seat hosts.all (with_programs hosts.strange hosts.all) lawful.whole.moments a (record { host = a; program = Some s }) (ap (λ (seats : List Seat). seat_of a seats) (sym (lawful.whole.seats running)) ∙ is) in
      let here : (mail.is_up hosts.all a (crossings_of lawful.whole.moments) ≡ true) × (program a lawful.whole.moments ≡ s) =
      program_is (mail.is_up hosts.all a (crossings_of lawful.whole.moments)) (program a lawful.whole.moments) s (ap (λ (x : Seat). x.program) (sym there)) in
      subst (λ (x : NcpState). Agrees (pair_with b x.peers) (pair a b (events_in contacts log))) here.1 (book_agrees a b ours)

-- ---- worlds come to be so, and stay so

pub opening_lawful : {C : Type 0} (own : Calls C) (c : C) → (own.seen c).log ≡ [] → HaveAddresses (own.seen c).hosts → IsLawful own.seen (own.seen c).hosts (opening_world (shown own) c)
opening_lawful own c none addresses = record {
  whole = opening_whole own c;
  booked = opening_booked own c none;
  run = subst (λ (xs : List Crossing). mail.IsRun (own.seen c).hosts xs) (sym none) tt;
  addresses = addresses;
  reported = opening_reported (shown own) c;
}

module _ {C : Type 0} (own : Calls C) (hosts : List Host) (old new : WorldState C) (r : Result (Unit {0}) WorldFault) (lawful : IsLawful own.seen hosts old) (run : mail.IsRun hosts (own.seen new.carrier).log) where
  pub turn_lawful : (e : Event) → IsNamed e → TurnGives (shown own) old e r new → IsLawful own.seen hosts new
  turn_lawful e named h = record { whole = turn_whole own hosts e old r new named lawful.whole h; booked = turn_books own e old r new lawful.booked h; run = run; addresses = lawful.addresses; reported = turn_reported (shown own) e old r new lawful.reported h }

  pub step_lawful : old.strangers ≡ [] → (e : Event) → IsNamed e → StepGives (shown own) old e r new → IsLawful own.seen hosts new
  step_lawful none e named h = turn_lawful e named (alone (shown own) old r new none e h)

  pub run_lawful : old.strangers ≡ [] → (events : List Event) → Each IsNamed events → RunGives (shown own) old events r new → IsLawful own.seen hosts new
  run_lawful none events named h = record { whole = run_whole own hosts events old r new named none lawful.whole h; booked = run_books own events old r new lawful.booked h; run = run; addresses = lawful.addresses; reported = run_reported (shown own) events old r new lawful.reported h }

  pub calm_lawful : (times : ℕ) → CalmGives (shown own) times old r new → IsLawful own.seen hosts new
  calm_lawful times h = record { whole = calm_whole own hosts times old r new lawful.whole h; booked = calm_books own times old r new lawful.booked h; run = run; addresses = lawful.addresses; reported = calm_reported (shown own) times old r new lawful.reported h }
