-- What `--log` writes among strangers, and of an input.
use Rattle.command_line.proofs.Common.{Appends, Calls, AreFated, Detail, shown, TopologyFields, WorldEvent, ScriptFault, IsInput, on_ok, KeepsAmong, KeepsToward, AreUnhanded, IsLawfulAmong, absent_in, opening_mixed, strange_in, WorldState, Replays, ArePicked, Logged, LogsAmong, LogsInput}
use Rattle.std.proofs.Common.{◌≡◌, ℕ, List, ◌++◌, Option, Result, OnOk, subst, sym, None}
use Rattle.interface.specs.Host.{Host, InOrder}
use Rattle.book_log.specs.Log.{log_text, IsBook, strangers_text}
use Rattle.command_line.specs.Logs.{LogsOn, world_book}
use Rattle.net_sim.specs.Book.{Kept}
use Rattle.world_replay.specs.Output as lines
use Rattle.command_line.specs.Events.{Asked}
use Rattle.command_line.proofs.Verdicts.MixedKept.Named.{are_strangers}

-- ---- among strangers

pub logs_among : {C : Type 0} (calls : Calls C) (strangers : List Host) (carrier : C) (opening last : WorldState C)
    (events : List WorldEvent) (detail : Detail) (k : Kept) (x y before after : Option (List ℕ))
    → absent_in (calls.seen carrier).hosts strangers ≡ None → ArePicked (calls.seen carrier).hosts strangers
    → InOrder (calls.seen carrier).hosts → opening ≡ opening_mixed (shown calls) carrier strangers
    → IsLawfulAmong (strange_in last) calls.seen (calls.seen last.carrier).hosts last
    → AreUnhanded last.kept.book.lives last.kept.handed
    → lines.Writes detail (Replays (shown calls) opening events last) x y
    → KeepsAmong (strange_in last) (calls.seen last.carrier).hosts last
    → KeepsToward (strange_in last) last
    → k ≡ last.kept → AreFated last.kept.book.lives last.kept.fates
    → Appends before after (strangers_text strangers ++ log_text (world_book k))
    → (AreFated k.book.lives k.fates → IsBook (world_book k))
    → LogsAmong calls strangers carrier events before after
logs_among {C} calls strangers carrier opening last events detail k x y before after there picked order begins lawful
    lists w among toward is fated written valid =
    let replayed : Replays (shown calls) (opening_mixed (shown calls) carrier strangers) events last
    w.shown =
    subst (λ (s : WorldState C). Replays (shown calls) s events last w.shown) begins w.is_shown in
    record {
      there = there;
      named = are_strangers calls strangers carrier events last w.shown there picked order replayed lawful;
      last = last;
      shows = w.shown;
      replayed = replayed;
      among = among;
      toward = toward;
      lists = lists;
      fated = fated;
      written = subst (λ (b : Kept). Appends before after (strangers_text strangers ++ log_text (world_book b))) is written;
      valid = subst (λ (b : Kept). IsBook (world_book b)) is
          (valid (subst (λ (b : Kept). AreFated b.book.lives b.fates) (sym is) fated));
    }

-- ---- of an input

pub input_logged : (octets : List ℕ) (network : TopologyFields) (events : Asked)
    (r : Result (Unit {0}) ScriptFault) (a b : Option (List ℕ)) → IsInput octets network events
    → OnOk r (LogsOn network events a b) → OnOk r (LogsInput octets a b)
input_logged octets network events r a b read h = on_ok r (λ (k : LogsOn network events a b).
    record { network = network; events = events; input = read; logged = k }) h

pub any_logged : (octets : List ℕ) (a b : Option (List ℕ)) → LogsInput octets a b → Logged a b
any_logged octets a b h = record { network = h.network; events = h.events; logged = h.logged }
