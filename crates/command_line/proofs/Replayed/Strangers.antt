-- A replay among strangers continues, and ends.
use Rattle.command_line.proofs.Common.{Appends, ArePicked, Calls, Detail, Host, is_host, Life, ShowsAmong, StopsAmong, TopologyFields, book_text, WritesWorld, shown, All, hosts_of, WorldEvent, KeepsAmong, KeepsToward, absent_in, opening_mixed, strange_in, WorldState, EndsIn, Replays, StopsIn}
use Rattle.world_replay.specs.Replay.{world_kind}
use Rattle.std.proofs.Common.{◌≡◌, ℕ, Bool, true, List, [], ◌∷◌, ◌++◌, Option, None, sym, subst, refl, codes}
use Rattle.replay.proofs.lemmas.{appends_more}
use Rattle.std.proofs.lemmas.List.Elements.{All-head, All-tail}
use Rattle.world_replay.specs.Output as lines
use Rattle.world_replay.proofs.lemmas.Gained.{replays_show, stops_show}
use Rattle.command_line.proofs.Replayed.Written.{shows_book}

-- none of these hosts is absent
all_there : (hosts named : List Host) → All (λ h. is_host hosts h ≡ true) named → absent_in hosts named ≡ None
all_there hosts [] there = refl
all_there hosts (h ∷ named) there = rw (All-head (λ g. is_host hosts g ≡ true) h named there)
    (all_there hosts named (All-tail (λ g. is_host hosts g ≡ true) h named there))

-- the strangers that a topology names are hosts of its carrier
pub strangers_there : (t : TopologyFields) (hosts named : List Host) → hosts ≡ hosts_of t → named ≡ t.strangers
    → All (λ h. is_host (hosts_of t) h ≡ true) t.strangers → absent_in hosts named ≡ None
strangers_there t hosts named at same there =
    subst (λ (hs : List Host). absent_in hs named ≡ None) (sym at)
    (subst (λ (ns : List Host). absent_in (hosts_of t) ns ≡ None) (sym same)
    (all_there (hosts_of t) t.strangers there))

-- in the order of these
pub strangers_picked : (t : TopologyFields) (hosts named : List Host) → hosts ≡ hosts_of t → named ≡ t.strangers
    → ArePicked (hosts_of t) t.strangers → ArePicked hosts named
strangers_picked t hosts named at same picked =
    subst (λ (hs : List Host). ArePicked hs named) (sym at)
    (subst (λ (ns : List Host). ArePicked (hosts_of t) ns) (sym same) picked)

-- ---- what is written

pub among_writes_all : {C : Type 0} (calls : Calls C) (strangers : List Host) (carrier : C)
    (opening last : WorldState C) (events : List WorldEvent) (lives : List Life) (book : Bool) (detail : Detail)
    (a b c : Option (List ℕ)) → opening ≡ opening_mixed (shown calls) carrier strangers
    → lines.Writes detail (Replays (shown calls) opening events last) a b
    → KeepsAmong (strange_in last) (calls.seen last.carrier).hosts last
    → KeepsToward (strange_in last) last
    → lives ≡ last.kept.book.lives → Appends b c (book_text book lives ++ codes "end\n")
    → WritesWorld book detail (ShowsAmong calls strangers carrier events) a c
among_writes_all {C} calls strangers carrier opening last events lives book detail a b c is h among toward left end =
    let from : Replays (shown calls) (opening_mixed (shown calls) carrier strangers) events last
    h.shown =
    subst (λ (w : WorldState C). Replays (shown calls) w events last h.shown) is h.is_shown in
    record {
      shown = h.shown;
      lives = lives;
      shows = record {
        last = last;
        replayed = from;
        booked = shows_book last.kept h.shown
            (replays_show (world_kind (shown calls)) (opening_mixed (shown calls) carrier strangers) events last
            h.shown from);
        left = left;
        among = among;
        toward = toward;
      };
      written = appends_more a b c (lines.output detail h.shown) (book_text book lives ++ codes "end\n") h.written end;
    }

pub among_writes_part : {C : Type 0} (calls : Calls C) (strangers : List Host) (carrier : C)
    (opening last : WorldState C) (events : List WorldEvent) (detail : Detail) (a b : Option (List ℕ))
    → opening ≡ opening_mixed (shown calls) carrier strangers
    → lines.Writes detail (EndsIn (shown calls) (StopsIn (shown calls)) opening events last) a b
    → KeepsAmong (strange_in last) (calls.seen last.carrier).hosts last
    → KeepsToward (strange_in last) last
    → lines.Writes detail (StopsAmong calls strangers carrier events) a b
among_writes_part {C} calls strangers carrier opening last events detail a b is h among toward =
    let from : EndsIn (shown calls) (StopsIn (shown calls)) (opening_mixed (shown calls) carrier strangers) events last
    h.shown =
    subst (λ (w : WorldState C). EndsIn (shown calls) (StopsIn (shown calls)) w events last h.shown) is h.is_shown in
    record {
      shown = h.shown;
      is_shown = record {
        last = last;
        stopped = from;
        booked = shows_book last.kept h.shown
            (stops_show (world_kind (shown calls)) (opening_mixed (shown calls) carrier strangers) events last
            h.shown from);
        among = among;
        toward = toward;
      };
      written = h.written;
    }
