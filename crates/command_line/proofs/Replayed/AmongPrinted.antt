-- What a replay prints is one book, with strangers or without.
use Rattle.command_line.proofs.Common.{AreLived, ungranted, CarrierKind, Calls, Crossing, Detail, Host, is_host, Life, ShowsAmong, StopsAmong, TopologyFields, WorldEvent, WritesWorld, are_some, hosts_of, Told, WorldState, plain_calls, plain_of, subnet_of, shown, subnet_calls, false≢true, contains_head, IsRun, SafeMessages, HostMessage, beside_among, lives_among, KeepsAmong, KeepsToward, opening_mixed, strange_in, FormedBook, SafeBook, log_of, shown_book}
use Rattle.std.proofs.Common.{◌≡◌, ◌∙◌, ℕ, Bool, true, false, List, [], ◌∷◌, Option, refl, sym, subst, inl, inr, map, ◌&&◌, ◌==◌}
use Rattle.command_line.specs.Replayed.{EndsFrom, EndsOver, Ran, RanInPart, ReplaysFrom, ReplaysOver, ShowsBook, ShowsIn, StopsIn}
use Rattle.std.specs.Prelude.{◌||◌}
use Rattle.interface.specs.declared.crossing.Crossing.TheVariants as crossing
use Rattle.host_pairs.specs.declared.notice.Notice.TheVariants as notice
use Rattle.mixed_worlds.specs.Told.{ToldAmong}
use Rattle.mixed_worlds.specs.Toward.{HasAsked, IsCarried}
use Rattle.topology.specs.declared.network.CarrierKind.TheVariants as kind
use Rattle.world_replay.specs.Output.{Crossed, Noticed, Shown}
use Rattle.world_replay.specs.Output as lines
use Rattle.command_line.specs.Events.{Asked, Raw, World}
use Rattle.command_line.specs.PrintedAmong.{AreOneBookAmong, PrintsBookAmong, PrintsIn, PrintsOn, PrintsPartAmong, PrintsPartIn, PrintsPartOn}
use Rattle.command_line.proofs.Replayed.AmongLived.{replayed_lived, stopped_lived}
use Rattle.command_line.proofs.Printed.{joined_as, raw_part, raw_prints, world_part, world_prints}
use Rattle.command_line.proofs.Verdicts.MixedKept.Kept.{one_test}
use Rattle.world_replay.proofs.lemmas.{part_same, replay_same}
use Rattle.command_line.proofs.Verdicts.MixedKept.Stay.{picked_stay}
use Rattle.command_line.proofs.WorkedLines.{some_life}

-- the book of a world with strangers, by what its lines have
among_book : {C : Type 0} (strange : Host → Bool) (hosts : List Host) (w : WorldState C) (shows : List Shown)
    → ShowsBook w.kept.book shows → KeepsAmong strange hosts w → KeepsToward strange w
    → AreLived w.kept.book.crossings w.kept.book.notices w.kept.book.lives
    → AreOneBookAmong strange shows w.kept.book.lives
among_book strange hosts w shows booked among toward lived =
    let lives : List Life = w.kept.book.lives in
    let some : List Life = lives_among strange lives in record {
      handed = w.kept.handed;
      hosts = hosts;
      run = subst (IsRun hosts) booked.crossed among.run;
      messages = subst SafeMessages booked.crossed toward.messages;
      lived = subst (λ (told : List Told). AreLived (log_of shows) told lives) booked.told
          (subst (λ (log : List Crossing). AreLived log w.kept.book.notices lives) booked.crossed lived);
      formed = subst (λ log. FormedBook log some) booked.crossed among.formed;
      safe = subst (λ log. SafeBook log some (beside_among strange lives w.kept.handed)) booked.crossed among.safe;
      told = subst (λ (told : List Told). ToldAmong strange (log_of shows) told) booked.told
          (subst (λ (log : List Crossing). ToldAmong strange log w.kept.book.notices) booked.crossed among.told);
      joined = joined_as (record w.kept.book { lives = some }) (shown_book shows some) booked.crossed booked.said refl
          among.joined;
      owner = toward.owner;
      asked = λ x there. subst (λ log. HasAsked log x) booked.crossed (toward.asked x there);
      once = toward.once;
      carried = λ x there. subst (λ log. IsCarried log x) booked.crossed (toward.carried x there);
      taken = toward.taken;
    }

-- ---- over a carrier

abbrev picked : {C : Type 0} → Calls C → C → List Host → Host → Bool
picked calls opening named h = is_host named h && is_host (calls.seen opening).hosts h

stays : {C : Type 0} (calls : Calls C) (opening : C) (named : List Host) (last : WorldState C)
    → last.strangers ≡ (opening_mixed (shown calls) opening named).strangers
    → strange_in last ≡ picked calls opening named
stays calls opening named last same =
    one_test (strange_in last) (picked calls opening named) (picked_stay calls opening named last same)

printed_from : {C : Type 0} (calls : Calls C) (opening : C) (named : List Host) (events : List WorldEvent)
    (book : Bool) (detail : Detail) (a b : Option (List ℕ))
    → WritesWorld book detail (ShowsAmong calls named opening events) a b
    → PrintsBookAmong (picked calls opening named) book detail a b
printed_from {C} calls opening named events book detail a b r =
    let last : WorldState C = r.shows.last in
    let kept : last.strangers ≡ (opening_mixed (shown calls) opening named).strangers =
    replay_same (shown calls) events (opening_mixed (shown calls) opening named) last r.shown r.shows.replayed in record {
      shown = r.shown;
      lives = r.lives;
      one = subst (λ (strange : Host → Bool). AreOneBookAmong strange r.shown r.lives)
          (stays calls opening named last kept)
          (subst (AreOneBookAmong (strange_in last) r.shown) (sym r.shows.left)
          (among_book (strange_in last) (calls.seen last.carrier).hosts last r.shown r.shows.booked
          r.shows.among r.shows.toward
          (replayed_lived (shown calls) opening named events last r.shown r.shows.replayed)));
      written = r.written;
    }

part_from : {C : Type 0} (calls : Calls C) (opening : C) (named : List Host) (events : List WorldEvent)
    (detail : Detail) (a b : Option (List ℕ)) → lines.Writes detail (StopsAmong calls named opening events) a b
    → PrintsPartAmong (picked calls opening named) detail a b
part_from {C} calls opening named events detail a b r =
    let last : WorldState C = r.is_shown.last in
    let kept : last.strangers ≡ (opening_mixed (shown calls) opening named).strangers =
    part_same (shown calls) events (opening_mixed (shown calls) opening named) last r.shown r.is_shown.stopped in
    record {
      shown = r.shown;
      lives = last.kept.book.lives;
      one = subst (λ (strange : Host → Bool). AreOneBookAmong strange r.shown last.kept.book.lives)
          (stays calls opening named last kept)
          (among_book (strange_in last) (calls.seen last.carrier).hosts last r.shown r.is_shown.booked
          r.is_shown.among r.is_shown.toward
          (stopped_lived (shown calls) opening named events last r.shown r.is_shown.stopped));
      written = r.written;
    }

-- ---- with strangers or without, over the carrier that a topology names

prints : {C : Type 0} (calls : Calls C) (t : TopologyFields) (opening : C) (book : Bool) (detail : Detail)
    (events : Asked) (a b : Option (List ℕ)) → (calls.seen opening).hosts ≡ hosts_of t
    → ReplaysFrom calls t.strangers opening book detail events a b → PrintsOn t events book detail a b
prints calls t opening book detail (Raw events) a b at r = raw_prints calls opening book detail events a b r
prints calls t opening book detail (World events) a b at r = by (are_some t.strangers) r where
  by : (among : Bool) → WritesWorld book detail (ShowsIn among calls t.strangers opening events) a b
      → PrintsIn among t (World events) book detail a b
  by true r = subst (λ (hosts : List Host). PrintsBookAmong (λ h. is_host t.strangers h && is_host hosts h) book detail a b)
      at (printed_from calls opening t.strangers events book detail a b r)
  by false r = world_prints calls opening book detail events a b r

prints_over : (carrier : CarrierKind) (t : TopologyFields) (book : Bool) (detail : Detail) (events : Asked)
    (a b : Option (List ℕ)) → ReplaysOver carrier t book detail events a b → PrintsOn t events book detail a b
prints_over kind.Plain t book detail events a b r = prints plain_calls t (plain_of t) book detail events a b refl r
prints_over kind.Subnet t book detail events a b r = prints subnet_calls t (subnet_of t) book detail events a b refl r

pub printed : (book : Bool) (detail : Detail) (a b : Option (List ℕ)) (h : Ran book detail a b)
    → PrintsOn h.network h.events book detail a b
printed book detail a b h = prints_over h.network.carrier h.network book detail h.events a b h.replayed

prints_part : {C : Type 0} (calls : Calls C) (t : TopologyFields) (opening : C) (detail : Detail) (events : Asked)
    (a b : Option (List ℕ)) → (calls.seen opening).hosts ≡ hosts_of t
    → EndsFrom calls t.strangers opening detail events a b → PrintsPartOn t events detail a b
prints_part calls t opening detail (Raw events) a b at r = raw_part calls opening detail events a b r
prints_part calls t opening detail (World events) a b at r = by (are_some t.strangers) r where
  by : (among : Bool) → lines.Writes detail (StopsIn among calls t.strangers opening events) a b
      → PrintsPartIn among t (World events) detail a b
  by true r = subst (λ (hosts : List Host). PrintsPartAmong (λ h. is_host t.strangers h && is_host hosts h) detail a b)
      at (part_from calls opening t.strangers events detail a b r)
  by false r = world_part calls opening detail events a b r

part_over : (carrier : CarrierKind) (t : TopologyFields) (detail : Detail) (events : Asked) (a b : Option (List ℕ))
    → EndsOver carrier t detail events a b → PrintsPartOn t events detail a b
part_over kind.Plain t detail events a b r = prints_part plain_calls t (plain_of t) detail events a b refl r
part_over kind.Subnet t detail events a b r = prints_part subnet_calls t (subnet_of t) detail events a b refl r

pub printed_in_part : (detail : Detail) (a b : Option (List ℕ)) (h : RanInPart detail a b)
    → PrintsPartOn h.network h.events detail a b
printed_in_part detail a b h = part_over h.network.carrier h.network detail h.events a b h.stopped

-- ---- lines that no such book has

pub never_out : (strange : Host → Bool) (m : HostMessage) (lives : List Life)
    → AreOneBookAmong strange (Crossed (crossing.In m) ∷ []) lives → ⊥
never_out strange m lives h = h.run.0.1

pub nothing_in : (strange : Host → Bool) (h : Host) (socket : ℕ) (bits : List Bool) (lives : List Life)
    → AreOneBookAmong strange
    (Noticed (record { host = h; place = 0; notice = notice.Arrived socket bits }) ∷ []) lives → ⊥
nothing_in strange h socket bits lives book = book.told

pub untold : (strange : Host → Bool) (m : HostMessage) (lives : List Life) → strange m.flow.source ≡ false
    → strange m.flow.destination ≡ false → (m.flow.link.0 == 0) ≡ false
    → AreOneBookAmong strange (Crossed (crossing.Out m) ∷ []) lives → ⊥
untold strange m lives source destination off book = elim book.told.0 [
  | inl is ↦ false≢true (sym (by (strange m.flow.source) (strange m.flow.destination) source destination) ∙ is)
  | inr control ↦ false≢true (sym off ∙ control)
]
  where
    by : (a b : Bool) → a ≡ false → b ≡ false → (a || b) ≡ false
    by false false p q = refl
    by false true p q = absurd (false≢true (sym q))
    by true b p q = absurd (false≢true (sym p))

pub no_notice : (strange : Host → Bool) (life : Life) (lives : List Life)
    → AreOneBookAmong strange [] (life ∷ lives) → ⊥
no_notice strange life lives book = some_life (ungranted life) (map ungranted lives) book.lived

pub of_stranger : (strange : Host → Bool) (life : Life) (lives : List Life) (shown : List Shown)
    → strange life.host ≡ true → AreOneBookAmong strange shown (life ∷ lives) → ⊥
of_stranger strange life lives shown is book = false≢true (sym (book.owner life (contains_head life lives)) ∙ is)

pub not_printed : (strange : Host → Bool) (book : Bool) (detail : Detail) (before after : Option (List ℕ))
    (m : HostMessage) (p : PrintsBookAmong strange book detail before after)
    → p.shown ≡ Crossed (crossing.In m) ∷ [] → ⊥
not_printed strange book detail before after m p is =
    never_out strange m p.lives (subst (λ (shown : List Shown). AreOneBookAmong strange shown p.lives) is p.one)
