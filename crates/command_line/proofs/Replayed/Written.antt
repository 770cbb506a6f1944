-- A replay over the carrier of a topology continues, and ends.
use Rattle.command_line.proofs.Common.{Appends, Keeps, WorldKeeps, IsRun, SafeMessages, shown, WorldState, opening_world, Life, Calls, Detail, RawEvent, TopologyFields, CarrierKind, Host, WorldEvent, WritesWorld, book_text, subnet_calls, subnet_of}
use Rattle.std.proofs.Common.{◌≡◌, ◌⊎◌, inl, inr, ℕ, Bool, List, [], ◌++◌, Option, Result, OnOk, codes, ap, sym, subst, ◌∙◌, reverse}
use Rattle.replay.specs.Output.{Writes, crossings_of, output}
use Rattle.command_line.specs.Logs.{LogsFrom, LogsOn, LogsOver}
use Rattle.command_line.specs.Replayed.{EndsFrom, ReplaysFrom, ReplaysOn, ReplaysOver, ShowsBook, ShowsFrom, StopsFrom, WorldShowsFrom, WorldStopsFrom, EndsOn, EndsOver, WritesAll}
use Rattle.replay.proofs.lemmas.{appends_more, replays_show, stops_show}
use Rattle.std.proofs.lemmas.List.{append-nil}
use Rattle.net_sim.specs.Book.{Kept, opening_kept}
use Rattle.replay.specs.Replay.{EndsIn, Replays, StopsIn}
use Rattle.subnet.specs.Calls as subnet
use Rattle.topology.specs.declared.network.CarrierKind.TheVariants as kind
use Rattle.world_replay.specs.Output as lines
use Rattle.world_replay.specs.Replay as worlds
use Rattle.world_replay.proofs.lemmas.Gained as world
use Rattle.command_line.specs.Events.{Asked}

-- ---- without host programs

-- from an opening, at which nothing has crossed: a whole replay, and the last line
pub writes_all : {C : Type 0} (calls : Calls C) (opening last : C) (events : List RawEvent) (detail : Detail) (a b c : Option (List ℕ)) → (calls.seen opening).log ≡ [] → Writes detail (Replays calls opening events last) a b
    → SafeMessages (calls.seen last).log → IsRun (calls.seen last).hosts (calls.seen last).log → Appends b c (codes "end\n") → WritesAll detail (ShowsFrom calls opening events) a c
writes_all calls opening last events detail a b c empty h safe run end = record {
  shown = h.shown;
  shows = record {
    last = last;
    replayed = h.is_shown;
    crossed = replays_show calls opening last events h.shown h.is_shown ∙ ap (λ log. reverse (crossings_of h.shown) ++ log) empty ∙ append-nil (reverse (crossings_of h.shown));
    messages = safe;
    run = run;
  };
  written = appends_more a b c (output detail h.shown) (codes "end\n") h.written end;
}

-- a replay that runs out of memory
pub writes_part : {C : Type 0} (calls : Calls C) (opening last : C) (events : List RawEvent) (detail : Detail) (a b : Option (List ℕ)) → (calls.seen opening).log ≡ [] → Writes detail (EndsIn calls StopsIn opening events last) a b
    → SafeMessages (calls.seen last).log → IsRun (calls.seen last).hosts (calls.seen last).log → Writes detail (StopsFrom calls opening events) a b
writes_part calls opening last events detail a b empty h safe run = record {
  shown = h.shown;
  is_shown = record {
    last = last;
    stopped = h.is_shown;
    crossed = stops_show calls opening last events h.shown h.is_shown ∙ ap (λ log. reverse (crossings_of h.shown) ++ log) empty ∙ append-nil (reverse (crossings_of h.shown));
    messages = safe;
    run = run;
  };
  written = h.written;
}

-- ---- with host programs

-- what a book has gained since its opening is all that it has
pub shows_book : (last : Kept) (shows : List lines.Shown) → world.HaveGains opening_kept last shows → ShowsBook last.book shows
shows_book last shows h = record { crossed = h.crossed ∙ append-nil (reverse (lines.crossings_of shows)); told = h.told; said = h.said }

pub world_writes_all : {C : Type 0} (calls : Calls C) (carrier : C) (opening last : WorldState C) (events : List WorldEvent) (lives : List Life) (book : Bool) (detail : Detail) (a b c : Option (List ℕ)) → opening ≡ opening_world (shown calls) carrier
    → lines.Writes detail (worlds.Replays (shown calls) opening events last) a b → WorldKeeps calls.seen last → lives ≡ last.kept.book.lives → Appends b c (book_text book lives ++ codes "end\n")
    → WritesWorld book detail (WorldShowsFrom calls carrier events) a c
world_writes_all {C} calls carrier opening last events lives book detail a b c is h promise left end =
    let from : worlds.Replays (shown calls) (opening_world (shown calls) carrier) events last h.shown =
    subst (λ (w : WorldState C). worlds.Replays (shown calls) w events last h.shown) is h.is_shown in
    record {
      shown = h.shown;
      lives = lives;
      shows = record {
        last = last;
        replayed = from;
        booked = shows_book last.kept h.shown (world.replays_show (worlds.world_kind (shown calls)) (opening_world (shown calls) carrier) events last h.shown from);
        left = left;
        promise = promise;
      };
      written = appends_more a b c (lines.output detail h.shown) (book_text book lives ++ codes "end\n") h.written end;
    }

pub world_writes_part : {C : Type 0} (calls : Calls C) (carrier : C) (opening last : WorldState C) (events : List WorldEvent) (detail : Detail) (a b : Option (List ℕ)) → opening ≡ opening_world (shown calls) carrier
    → lines.Writes detail (worlds.EndsIn (shown calls) (worlds.StopsIn (shown calls)) opening events last) a b → WorldKeeps calls.seen last
    → lines.Writes detail (WorldStopsFrom calls carrier events) a b
world_writes_part {C} calls carrier opening last events detail a b is h promise =
    let from : worlds.EndsIn (shown calls) (worlds.StopsIn (shown calls)) (opening_world (shown calls) carrier) events last h.shown =
    subst (λ (w : WorldState C). worlds.EndsIn (shown calls) (worlds.StopsIn (shown calls)) w events last h.shown) is h.is_shown in
    record {
      shown = h.shown;
      is_shown = record {
        last = last;
        stopped = from;
        booked = shows_book last.kept h.shown (world.stops_show (worlds.world_kind (shown calls)) (opening_world (shown calls) carrier) events last h.shown from);
        promise = promise;
      };
      written = h.written;
    }

-- ---- over the carrier that a topology names

over_part : (carrier : CarrierKind) (network : TopologyFields) (detail : Detail) (events : Asked) (a b : Option (List ℕ)) → network.carrier ≡ carrier → (Keeps a b ⊎ EndsOver carrier network detail events a b) → Keeps a b ⊎ EndsOn network detail events a b
over_part carrier network detail events a b is (inl kept) = inl kept
over_part carrier network detail events a b is (inr h) = inr (subst (λ (k : CarrierKind). EndsOver k network detail events a b) (sym is) h)

over_all : {A E : Type 0} (carrier : CarrierKind) (network : TopologyFields) (book : Bool) (detail : Detail) (events : Asked) (a b : Option (List ℕ)) (r : Result A E) → network.carrier ≡ carrier → OnOk r (ReplaysOver carrier network book detail events a b) → OnOk r (ReplaysOn network book detail events a b)
over_all carrier network book detail events a b r is h = subst (λ (k : CarrierKind). OnOk r (ReplaysOver k network book detail events a b)) (sym is) h

logged_over : {A E : Type 0} (carrier : CarrierKind) (network : TopologyFields) (events : Asked) (a b : Option (List ℕ)) (r : Result A E) → network.carrier ≡ carrier → OnOk r (LogsOver carrier network events a b) → OnOk r (LogsOn network events a b)
logged_over carrier network events a b r is h = subst (λ (k : CarrierKind). OnOk r (LogsOver k network events a b)) (sym is) h

-- such a subnet, with such hosts as strangers, is what the topology names
subnet_named : (t : TopologyFields) (k : subnet.Kept) (named : List Host) (F : List Host → subnet.Kept → Type 0)
    → k ≡ subnet_of t → named ≡ t.strangers → F named k → F t.strangers (subnet_of t)
subnet_named t k named F at same h = subst (λ (hosts : List Host). F hosts (subnet_of t)) same
    (subst (λ (x : subnet.Kept). F named x) at h)

pub subnet_part : (t : TopologyFields) (k : subnet.Kept) (named : List Host) (detail : Detail) (events : Asked)
    (a b : Option (List ℕ)) → t.carrier ≡ kind.Subnet → k ≡ subnet_of t → named ≡ t.strangers
    → Keeps a b ⊎ EndsFrom subnet_calls named k detail events a b → Keeps a b ⊎ EndsOn t detail events a b
subnet_part t k named detail events a b is at same h =
    over_part kind.Subnet t detail events a b is
    (subnet_named t k named (λ hosts x. Keeps a b ⊎ EndsFrom subnet_calls hosts x detail events a b) at same h)

pub subnet_all : {A E : Type 0} (t : TopologyFields) (k : subnet.Kept) (named : List Host) (book : Bool) (detail : Detail)
    (events : Asked) (a b : Option (List ℕ)) (r : Result A E) → t.carrier ≡ kind.Subnet → k ≡ subnet_of t
    → named ≡ t.strangers → OnOk r (ReplaysFrom subnet_calls named k book detail events a b)
    → OnOk r (ReplaysOn t book detail events a b)
subnet_all t k named book detail events a b r is at same h =
    over_all kind.Subnet t book detail events a b r is
    (subnet_named t k named (λ hosts x. OnOk r (ReplaysFrom subnet_calls hosts x book detail events a b)) at same h)

pub subnet_logged : {A E : Type 0} (t : TopologyFields) (k : subnet.Kept) (named : List Host) (events : Asked)
    (a b : Option (List ℕ)) (r : Result A E) → t.carrier ≡ kind.Subnet → k ≡ subnet_of t → named ≡ t.strangers
    → OnOk r (LogsFrom subnet_calls named k events a b) → OnOk r (LogsOn t events a b)
subnet_logged t k named events a b r is at same h =
    logged_over kind.Subnet t events a b r is
    (subnet_named t k named (λ hosts x. OnOk r (LogsFrom subnet_calls hosts x events a b)) at same h)
