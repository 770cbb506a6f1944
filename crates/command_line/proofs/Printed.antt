-- What a replay prints is a formed and safe book.
use Rattle.command_line.proofs.Common.{length-append, Appends, Contains, WorldKeeps, plain_calls, Boxes, Host, IsRun, SafeMessages, Crossing, Told, WorldState, Life, RawEvent, Reported, Detail, WorldEvent, WritesWorld, book_text, AreOneBook, PrintsBook, PrintsPart, log_of, shown_book, plain_settled, FormedBook}
use Rattle.std.proofs.Common.{arith, ◌≡◌, ◌+◌, ℕ, Bool, true, false, List, [], ◌∷◌, ◌++◌, Option, codes, refl, ap, sym, subst, ◌∙◌, reverse, length}
use Rattle.interface.specs.Calls.{Calls, Seen}
use Rattle.promise.specs.Safe.{AreTwo, Match, SafeBook}
use Rattle.replay.specs.Output.{crossings_of, output, Shown, Writes}
use Rattle.script.specs.Input.{ended_line}
use Rattle.command_line.specs.Lived.{AreLived, lives_in}
use Rattle.command_line.specs.Replayed.{ShowsBook, ShowsFrom, StopsFrom, WorldShowsFrom, WorldStopsFrom, WritesAll}
use Rattle.promise.specs.Book.{Book}
use Rattle.promise.specs.Notices.{FormedNotices}
use Rattle.net_sim.specs.declared.event.WorldFault.TheVariants.{Carrier}
use Rattle.icp.specs.declared.outcome.Outcome.TheVariants as outcome
use Rattle.host_services.specs.declared.report.Report.TheVariants as report
use Rattle.replay.specs.Output as raw
use Rattle.promise.specs.Connections.{HasReported, IsEnd, JoinedBook}
use Rattle.world_replay.specs.Output as lines
use Rattle.command_line.proofs.Lived.{lived, none_lived}
use Rattle.command_line.proofs.Once.{world_once}

-- ---- a network without host programs

-- lines without notices are lines
pub as_world : List Shown → List lines.Shown
as_world [] = []
as_world (raw.Crossed c ∷ shown) = lines.Crossed c ∷ as_world shown
as_world (raw.Refused f ∷ shown) = lines.Refused (Carrier f) ∷ as_world shown

pub same_output : (detail : Detail) (shown : List Shown) → output detail shown ≡ lines.output detail (as_world shown)
unfolding as_world
same_output detail [] = refl
same_output detail (raw.Crossed c ∷ shown) = ap (λ xs. ended_line (raw.shown_text detail (raw.Crossed c)) ++ xs) (same_output detail shown)
same_output detail (raw.Refused f ∷ shown) = ap (λ xs. ended_line (raw.shown_text detail (raw.Refused f)) ++ xs) (same_output detail shown)

pub same_crossings : (shown : List Shown) → crossings_of shown ≡ lines.crossings_of (as_world shown)
unfolding as_world
same_crossings [] = refl
same_crossings (raw.Crossed c ∷ shown) = ap (λ cs. c ∷ cs) (same_crossings shown)
same_crossings (raw.Refused f ∷ shown) = same_crossings shown

pub none_there : (x : Life) → Contains [] x → ⊥
none_there x there = omega (arith, there.1)

none_two : (x y : Life) → AreTwo [] x y → ⊥
none_two x y ([], between, rest, is) = let e : [] ≡ x ∷ between ++ y ∷ rest = is in cc
none_two x y (z ∷ front, between, rest, is) = let e : [] ≡ z ∷ front ++ x ∷ between ++ y ∷ rest = is in cc

-- a book without lives is safe where its messages are
pub safe_alone : (log : List Crossing) → SafeMessages log → SafeBook log [] []
safe_alone log messages = record {
  messages = messages;
  partners = record {
    own_once = λ x y two same. none_two x y two;
    partner_once = λ x y name two here there. none_two x y two;
    named = λ x there. absurd (none_there x there);
    peers = λ x y there other same. absurd (none_there x there);
    both_ways = λ x y there other same. absurd (none_there x there);
  };
  streams = record {
    one = λ receiver x y there two mx my. none_there receiver there;
    source = λ receiver there kind some. absurd (none_there receiver there);
    sent = refl;
  };
  grants = record {
    taken = λ receiver there kind. absurd (none_there receiver there);
    sent = λ receiver sender here there match. absurd (none_there receiver here);
  };
}

no_notices : (shown : List Shown) → lines.notices_of (as_world shown) ≡ []
unfolding as_world
no_notices [] = refl
no_notices (raw.Crossed c ∷ shown) = no_notices shown
no_notices (raw.Refused f ∷ shown) = no_notices shown

no_reports : (shown : List Shown) → lines.reports_of (as_world shown) ≡ []
unfolding as_world
no_reports [] = refl
no_reports (raw.Crossed c ∷ shown) = no_reports shown
no_reports (raw.Refused f ∷ shown) = no_reports shown

-- nothing was reported, so no initial connection is finished
none_reported : (r : Reported) (reports : List Reported) → reports ≡ [] → Contains reports r → ⊥
none_reported r reports none there = let few : length reports ≡ 0 = ap length none in omega (arith, few, there.1)

raw_joined : (shown : List Shown) → JoinedBook (shown_book (as_world shown) [])
raw_joined shown = λ server user s u a b c d h. absurd (none_reported h.served.entry (lines.reports_of (as_world shown)) (no_reports shown) h.served.there)

raw_lived : (shown : List Shown) → AreLived (log_of (as_world shown)) (lines.notices_of (as_world shown)) []
raw_lived shown = sym (ap (lives_in (log_of (as_world shown))) (no_notices shown) ∙ none_lived (log_of (as_world shown)))

raw_book : (hosts : List Host) (shown : List Shown) → SafeMessages (reverse (crossings_of shown)) →
    IsRun hosts (reverse (crossings_of shown)) → AreOneBook true (as_world shown) []
raw_book hosts shown messages run = record {
  handed = [];
  hosts = hosts;
  formed = λ x there. absurd (none_there x there);
  told = record { no_notices = no_notices shown; no_reports = no_reports shown; no_lives = refl };
  safe = safe_alone (log_of (as_world shown)) (subst (λ cs. SafeMessages (reverse cs)) (same_crossings shown) messages);
  joined = raw_joined shown;
  run = subst (λ cs. IsRun hosts (reverse cs)) (same_crossings shown) run;
  lived = raw_lived shown;
}

pub no_lives : (book : Bool) → book_text book [] ≡ []
no_lives true = refl
no_lives false = refl

-- ---- a network whose hosts have programs

-- what two books have in common is all that a joined book is about
is_end : (b other : Book) → b.lives ≡ other.lives → (holder : Host) (own : ℕ) (partner : Host) (foreign : ℕ) (x : Life) → IsEnd b holder own partner foreign x → IsEnd other holder own partner foreign x
is_end b other same holder own partner foreign x h = record { there = subst (λ (lives : List Life). Contains lives x) same h.there; host = h.host; socket = h.socket; peer = h.peer; foreign = h.foreign; live = h.live }

pub joined_as : (b other : Book) → b.crossings ≡ other.crossings → b.reports ≡ other.reports → b.lives ≡ other.lives → JoinedBook b → JoinedBook other
joined_as b other crossings reports lives joined = λ server user s u a e c d h.
    subst (λ (log : List Crossing). Match log c e × Match log a d) crossings
    (joined server user s u a e c d (record {
      served = subst (HasReported server (report.Server (outcome.Done s (s + 1)))) (sym reports) h.served;
      asked = subst (HasReported user (report.User (outcome.Done (u + 2) (u + 3)))) (sym reports) h.asked;
      server_hears = is_end other b (sym lives) server s user (u + 3) a h.server_hears;
      server_speaks = is_end other b (sym lives) server (s + 1) user (u + 2) e h.server_speaks;
      user_hears = is_end other b (sym lives) user (u + 2) server (s + 1) c h.user_hears;
      user_speaks = is_end other b (sym lives) user (u + 3) server s d h.user_speaks;
    }))

world_book : {C : Type 0} (seen : C → Seen) (last : WorldState C) (shows : List lines.Shown) →
    ShowsBook last.kept.book shows → WorldKeeps seen last → AreOneBook false shows last.kept.book.lives
world_book seen last shows booked promise = record {
  handed = last.kept.handed;
  hosts = (seen last.carrier).hosts;
  formed = subst (λ log. FormedBook log last.kept.book.lives) booked.crossed promise.book.formed;
  told = subst (λ (told : List Told). FormedNotices (log_of shows) told) booked.told (subst (λ (log : List Crossing). FormedNotices log last.kept.book.notices) booked.crossed promise.book.told);
  safe = subst (λ log. SafeBook log last.kept.book.lives last.kept.handed) booked.crossed promise.book.safe;
  joined = joined_as last.kept.book (shown_book shows last.kept.book.lives) booked.crossed booked.said refl promise.book.joined;
  run = subst (IsRun (seen last.carrier).hosts) booked.crossed promise.book.run;
  lived = subst (λ (told : List Told). AreLived (log_of shows) told last.kept.book.lives) booked.told
      (subst (λ (log : List Crossing). AreLived log last.kept.book.notices last.kept.book.lives) booked.crossed (lived promise.exact.lawful.whole.moments last.kept promise.exact.lawful.whole.kept));
}

-- ---- what is written

pub raw_prints : {C : Type 0} (calls : Calls C) (opening : C) (book : Bool) (detail : Detail) (events : List RawEvent)
    (a b : Option (List ℕ)) → WritesAll detail (ShowsFrom calls opening events) a b → PrintsBook true book detail a b
raw_prints calls opening book detail events a b r = record {
  shown = as_world r.shown;
  lives = [];
  one = raw_book (calls.seen r.shows.last).hosts r.shown (subst SafeMessages r.shows.crossed r.shows.messages) (subst (IsRun (calls.seen r.shows.last).hosts) r.shows.crossed r.shows.run);
  written = subst (λ xs. Appends a b (lines.output detail (as_world r.shown) ++ (xs ++ codes "end\n"))) (sym (no_lives book))
      (subst (λ xs. Appends a b (xs ++ codes "end\n")) (same_output detail r.shown) r.written);
}

pub world_prints : {C : Type 0} (calls : Calls C) (opening : C) (book : Bool) (detail : Detail)
    (events : List WorldEvent) (a b : Option (List ℕ)) → WritesWorld book detail (WorldShowsFrom calls opening events) a b
    → PrintsBook false book detail a b
world_prints calls opening book detail events a b r = record {
  shown = r.shown;
  lives = r.lives;
  one = subst (AreOneBook false r.shown) (sym r.shows.left) (world_book calls.seen r.shows.last r.shown r.shows.booked r.shows.promise);
  written = r.written;
}

pub raw_part : {C : Type 0} (calls : Calls C) (opening : C) (detail : Detail) (events : List RawEvent)
    (a b : Option (List ℕ)) → Writes detail (StopsFrom calls opening events) a b → PrintsPart true detail a b
raw_part calls opening detail events a b r = record {
  shown = as_world r.shown;
  lives = [];
  one = raw_book (calls.seen r.is_shown.last).hosts r.shown (subst SafeMessages r.is_shown.crossed r.is_shown.messages) (subst (IsRun (calls.seen r.is_shown.last).hosts) r.is_shown.crossed r.is_shown.run);
  written = subst (Appends a b) (same_output detail r.shown) r.written;
}

pub world_part : {C : Type 0} (calls : Calls C) (opening : C) (detail : Detail) (events : List WorldEvent)
    (a b : Option (List ℕ)) → lines.Writes detail (WorldStopsFrom calls opening events) a b → PrintsPart false detail a b
world_part calls opening detail events a b r = record {
  shown = r.shown;
  lives = r.is_shown.last.kept.book.lives;
  one = world_book calls.seen r.is_shown.last r.shown r.is_shown.booked r.is_shown.promise;
  written = r.written;
}

-- ---- lives that are shown of no world

pub another_book : (opening : Boxes) (life : Life) (lives : List Life) (shows : List lines.Shown) → WorldShowsFrom plain_calls opening [] (life ∷ lives) shows → ⊥
another_book opening life lives shows h =
    let none : life ∷ lives ≡ [] = h.left ∙ ap (λ (w : WorldState Boxes). w.kept.book.lives) h.replayed.0 in
    cc

pub without_the_last : (opening : Boxes) (events : List WorldEvent) (lives : List Life) (last : Life) (shows more : List lines.Shown)
    → WorldShowsFrom plain_calls opening events (lives ++ last ∷ []) shows → WorldShowsFrom plain_calls opening events lives more → ⊥
without_the_last opening events lives last shows more h k =
    let one : (lives ++ last ∷ [] ≡ lives) × (shows ≡ more) = world_once plain_calls plain_settled opening events (lives ++ last ∷ []) lives shows more h k in
    omega (arith, ap length one.0, length-append lives (last ∷ []))

-- ---- what it means that lines and lives are one book

pub joined_in : (raw : Bool) (shown : List lines.Shown) (lives : List Life) (b : Book) → AreOneBook raw shown lives →
    b.crossings ≡ reverse (lines.crossings_of shown) → b.reports ≡ lines.reports_of shown → b.lives ≡ lives →
    JoinedBook b
joined_in raw shown lives b h crossings reports alive =
    joined_as (shown_book shown lives) b (sym crossings) (sym reports) (sym alive) h.joined
