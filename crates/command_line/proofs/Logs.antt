-- What `--log` writes is the log of the book that a replay leaves.
use Rattle.command_line.proofs.Common.{Appends, AreSuited, AreFated, Fate, WorldKeeps, IsRun, SafeMessages, Crossing, shown, WorldState, opening_world, Life, Calls, Detail, Host, RawEvent, WorldEvent, on_ok}
use Rattle.std.proofs.Common.{◌≡◌, ℕ, Bool, List, [], ◌++◌, Option, Result, OnOk, refl, subst, sym, reverse}
use Rattle.book_log.specs.Log.{log_text, Book, IsBook, logged_book, strangers_text}
use Rattle.replay.specs.Output.{Writes}
use Rattle.command_line.specs.Logs.{world_book, LogsRaw, LogsWorld}
use Rattle.net_sim.specs.Book.{Kept}
use Rattle.replay.specs.Replay.{Replays}
use Rattle.world_replay.specs.Output as lines
use Rattle.world_replay.specs.Replay as worlds
use Rattle.command_line.proofs.Verdicts.Judged.{joins}

pub logs_raw : {C : Type 0} (calls : Calls C) (opening last : C) (events : List RawEvent) (detail : Detail) (log : List Crossing) (x y before after : Option (List ℕ))
    → Writes detail (Replays calls opening events last) x y
    → SafeMessages (calls.seen last).log → IsRun (calls.seen last).hosts (calls.seen last).log → log ≡ reverse
    (calls.seen last).log → Appends before after (log_text (logged_book log [] [] [])) →
    (AreFated [] [] → IsBook (logged_book log [] [] [])) → LogsRaw calls opening events before after
logs_raw calls opening last events detail log x y before after w safe run is written valid = record {
  last = last;
  shown = w.shown;
  replayed = w.is_shown;
  messages = safe;
  run = run;
  written = subst (λ (cs : List Crossing). Appends before after (log_text (logged_book cs [] [] []))) is written;
  valid = subst (λ (cs : List Crossing). IsBook (logged_book cs [] [] [])) is (valid refl);
}

fated_back : (lives : List Life) (fates : List Fate) (others : List Life) (other : List Fate) → lives ≡ others
    → fates ≡ other → AreFated others other → AreFated lives fates
fated_back lives fates others other e f are =
    subst (λ (xs : List Life). AreFated xs fates) (sym e) (subst (λ (fs : List Fate). AreFated others fs) (sym f) are)

-- what is written of a book is what a log says of a world
pub book_logged : (k : Kept) (crossings : List Crossing) (lives : List Life) (handed : List (List Bool))
    (fates : List Fate) → crossings ≡ reverse k.book.crossings → lives ≡ k.book.lives → handed ≡ k.handed
    → fates ≡ k.fates → logged_book crossings lives handed fates ≡ world_book k
book_logged k crossings lives handed fates p q r s = λ i. logged_book (p i) (q i) (r i) (s i)

pub book_written : {E : Type 0} (k : Kept) (strangers : List Host) (crossings : List Crossing) (lives : List Life)
    (handed : List (List Bool)) (fates : List Fate) (r : Result (Unit {0}) E) (a b c : Option (List ℕ))
    → crossings ≡ reverse k.book.crossings → lives ≡ k.book.lives → handed ≡ k.handed → fates ≡ k.fates
    → Appends a b (strangers_text strangers)
    → OnOk r (Appends b c (log_text (logged_book crossings lives handed fates)))
    → OnOk r (Appends a c (strangers_text strangers ++ log_text (world_book k)))
book_written k strangers crossings lives handed fates r a b c p q x y before h =
    on_ok r (λ (w : Appends b c (log_text (logged_book crossings lives handed fates))).
    joins a b c (strangers_text strangers) (log_text (world_book k)) before
    (subst (λ (o : Book). Appends b c (log_text o)) (book_logged k crossings lives handed fates p q x y) w)) h

pub book_valid : {E : Type 0} (k : Kept) (crossings : List Crossing) (lives : List Life) (handed : List (List Bool))
    (fates : List Fate) (r : Result (Unit {0}) E) → crossings ≡ reverse k.book.crossings → lives ≡ k.book.lives
    → handed ≡ k.handed → fates ≡ k.fates
    → OnOk r (AreFated lives fates → IsBook (logged_book crossings lives handed fates))
    → OnOk r (AreFated k.book.lives k.fates → IsBook (world_book k))
book_valid k crossings lives handed fates r p q x y h =
    on_ok r (λ (v : AreFated lives fates → IsBook (logged_book crossings lives handed fates)).
    λ are. subst IsBook (book_logged k crossings lives handed fates p q x y)
    (v (fated_back lives fates k.book.lives k.fates q y are))) h

pub logs_world : {C : Type 0} (calls : Calls C) (opening : C) (first last : WorldState C) (events : List WorldEvent)
    (detail : Detail) (k : Kept) (x y before after : Option (List ℕ)) → first ≡ opening_world (shown calls) opening
    → lines.Writes detail (worlds.Replays (shown calls) first events last) x y → WorldKeeps calls.seen last
    → k ≡ last.kept → AreSuited last.kept.book.crossings last.kept.book.lives last.kept.fates
    → Appends before after (log_text (world_book k))
    → (AreFated k.book.lives k.fates → IsBook (world_book k)) → LogsWorld calls opening events before after
logs_world {C} calls opening first last events detail k x y before after begins w promise is suited written valid =
    record {
      last = last;
      shows = w.shown;
      replayed = subst (λ (s : WorldState C). worlds.Replays (shown calls) s events last w.shown) begins w.is_shown;
      promise = promise;
      suited = suited;
      written = subst (λ (b : Kept). Appends before after (log_text (world_book b))) is written;
      valid = subst (λ (b : Kept). IsBook (world_book b)) is
          (valid (subst (λ (b : Kept). AreFated b.book.lives b.fates) (sym is) promise.book.fated));
    }
