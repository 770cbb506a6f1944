-- An input has one log, and its outputs are of one replay.
use Rattle.command_line.proofs.Common.{reverse-reverse, are_some, AreFated, Crossing, Host, IsInput, LogsInput, ReplaysInput, WorldEvent, WritesWorld, book_text, false≢true, opening_mixed, world_book, shown, WorldState, opening_world, Life, Calls, AreSettled, Detail, TopologyFields, CarrierKind, plain_calls, subnet_calls, plain_of, subnet_of, subnet_settled, plain_settled}
use Rattle.std.proofs.Common.{◌≡◌, Bool, true, false, List, [], ◌∷◌, ◌++◌, Some, arith, codes, refl, sym, ap, ap₂, subst, ◌∙◌, ℕ, reverse}
use Rattle.book_log.specs.Log.{Book, IsBook, IsLog, lives_of, log_text, strangers_text}
use Rattle.book_log.proofs.lemmas.{lives_back, alone}
use Rattle.replay.specs.Output.{crossings_of, output, Shown}
use Rattle.replay.proofs.lemmas.{OneReplay, replays_once}
use Rattle.command_line.specs.Events.{AsksFor, Raw, World, Asked, is_raw}
use Rattle.command_line.specs.Logs.{LogsFrom, LogsIn, LogsOn, LogsOver, raw_book}
use Rattle.command_line.specs.Replayed.{ReplaysFrom, ReplaysOn, ReplaysOver, ShowsBook, ShowsIn}
use Rattle.topology.specs.declared.network.CarrierKind.TheVariants as kind
use Rattle.world_replay.specs.Output as lines
use Rattle.world_replay.proofs.lemmas.Once as worlds
use Rattle.script.specs.Script.{lines_of}
use Rattle.std.proofs.lemmas.Bool.Decides.{nat_tests}
use Rattle.topology.proofs.lemmas.{described_keeps}
use Rattle.command_line.specs.Joins.{PrintTheSame, TellTheSame, printed}
use Rattle.command_line.proofs.Once.{raw_once, shows_once}
use Rattle.command_line.proofs.OneInput.{OneInput, input_once}
use Rattle.command_line.proofs.Printed.{as_world, no_lives, same_crossings, same_output}

-- ---- one log

log_in : {C : Type 0} (among : Bool) (calls : Calls C) → AreSettled calls → (strangers : List Host) (opening : C)
    (events : List WorldEvent) (before after other : List ℕ)
    → LogsIn among calls strangers opening events (Some before) (Some after)
    → LogsIn among calls strangers opening events (Some before) (Some other) → after ≡ other
log_in {C} true calls settled strangers opening events before after other h k =
    let one : (h.last ≡ k.last) × (h.shows ≡ k.shows) =
    worlds.one_replay calls settled (opening_mixed (shown calls) opening strangers) h.last k.last events h.shows k.shows
    h.replayed k.replayed in
    h.written
    ∙ ap (λ (s : WorldState C). before ++ (strangers_text strangers ++ log_text (world_book s.kept))) one.0
    ∙ sym k.written
log_in {C} false calls settled strangers opening events before after other h k =
    let one : (h.last ≡ k.last) × (h.shows ≡ k.shows) = worlds.one_replay calls settled (opening_world (shown calls) opening) h.last k.last events h.shows k.shows h.replayed k.replayed in
    h.written ∙ ap (λ (last : WorldState C). before ++ log_text (world_book last.kept)) one.0 ∙ sym k.written

log_from : {C : Type 0} (calls : Calls C) → AreSettled calls → (strangers : List Host) (opening : C) (events : Asked) (before after other : List ℕ) → LogsFrom calls strangers opening events (Some before) (Some after) → LogsFrom calls strangers opening events (Some before) (Some other)
    → after ≡ other
log_from {C} calls settled strangers opening (Raw events) before after other h k =
    let one : OneReplay h.last k.last h.shown k.shown = replays_once calls settled opening events h.last k.last h.shown k.shown h.replayed k.replayed in
    h.written ∙ ap (λ (last : C). before ++ log_text (raw_book (calls.seen last).log)) one.carriers ∙ sym k.written
log_from {C} calls settled strangers opening (World events) before after other h k =
    log_in (are_some strangers) calls settled strangers opening events before after other h k

log_over : (carrier : CarrierKind) (network : TopologyFields) (events : Asked) (before after other : List ℕ) → LogsOver carrier network events (Some before) (Some after) → LogsOver carrier network events (Some before) (Some other) → after ≡ other
log_over kind.Plain network events before after other h k = log_from plain_calls plain_settled network.strangers (plain_of network) events before after other h k
log_over kind.Subnet network events before after other h k = log_from subnet_calls subnet_settled network.strangers (subnet_of network) events before after other h k

pub one_log : (input before after other : List ℕ) → LogsInput input (Some before) (Some after) → LogsInput input (Some before) (Some other) → after ≡ other
one_log input before after other h k =
    let same : OneInput h.network k.network h.events k.events = input_once input h.network k.network h.events k.events h.input k.input in
    let moved : LogsOn k.network k.events (Some before) (Some after) =
    subst (λ (network : TopologyFields). LogsOn network k.events (Some before) (Some after)) same.same_network
    (subst (λ (events : Asked). LogsOn h.network events (Some before) (Some after)) same.same_events h.logged) in
    log_over k.network.carrier k.network k.events before after other moved k.logged

-- ---- two outputs

-- the lines of a raw network, as lines
raw_printed : (book : Bool) (detail : Detail) (out : List ℕ) (shown : List Shown) → out ≡ output detail shown ++ codes "end\n" → out ≡ lines.output detail (as_world shown) ++ (book_text book [] ++ codes "end\n")
raw_printed book detail out shown is = is ∙ ap₂ (λ (xs ys : List ℕ). xs ++ (ys ++ codes "end\n")) (same_output detail shown) (sym (no_lives book))

both_from : {C : Type 0} (calls : Calls C) → AreSettled calls → (strangers : List Host) (opening : C) (events : Asked) (book other : Bool) (detail more : Detail) (one two : List ℕ) → ReplaysFrom calls strangers opening book detail events (Some []) (Some one)
    → ReplaysFrom calls strangers opening other more events (Some []) (Some two) → PrintTheSame book other detail more one two
both_from calls settled strangers opening (Raw events) book other detail more one two h k =
    let same : h.shown ≡ k.shown = raw_once calls settled opening events h.shown k.shown h.shows k.shows in
    record {
      shown = as_world h.shown;
      lives = [];
      first = raw_printed book detail one h.shown h.written;
      second = raw_printed other more two h.shown (k.written ∙ ap (λ (shown : List Shown). output more shown ++ codes "end\n") (sym same));
    }
both_from calls settled strangers opening (World events) book other detail more one two h k =
    let same : (h.lives ≡ k.lives) × (h.shown ≡ k.shown) = shows_once (are_some strangers) calls settled strangers opening events h.lives k.lives h.shown k.shown h.shows k.shows in
    record {
      shown = h.shown;
      lives = h.lives;
      first = h.written;
      second = k.written ∙ ap₂ (λ (lives : List Life) (shows : List lines.Shown). lines.output more shows ++ (book_text other lives ++ codes "end\n")) (sym same.0) (sym same.1);
    }

both_over : (carrier : CarrierKind) (network : TopologyFields) (events : Asked) (book other : Bool) (detail more : Detail) (one two : List ℕ) → ReplaysOver carrier network book detail events (Some []) (Some one)
    → ReplaysOver carrier network other more events (Some []) (Some two) → PrintTheSame book other detail more one two
both_over kind.Plain network events book other detail more one two h k = both_from plain_calls plain_settled network.strangers (plain_of network) events book other detail more one two h k
both_over kind.Subnet network events book other detail more one two h k = both_from subnet_calls subnet_settled network.strangers (subnet_of network) events book other detail more one two h k

pub print_the_same : (book other : Bool) (detail more : Detail) (input one two : List ℕ) → ReplaysInput book detail input (Some []) (Some one) → ReplaysInput other more input (Some []) (Some two) → PrintTheSame book other detail more one two
print_the_same book other detail more input one two h k =
    let same : OneInput h.network k.network h.events k.events = input_once input h.network k.network h.events k.events h.input k.input in
    let moved : ReplaysOn k.network book detail k.events (Some []) (Some one) =
    subst (λ (network : TopologyFields). ReplaysOn network book detail k.events (Some []) (Some one)) same.same_network
    (subst (λ (events : Asked). ReplaysOn h.network book detail events (Some []) (Some one)) same.same_events h.replayed) in
    both_over k.network.carrier k.network k.events book other detail more one two moved k.replayed

-- ---- an output and a log

-- without strangers
log_alone : (log : List ℕ) (told : Book) (strangers : List Host) → strangers ≡ [] → log ≡ log_text told → IsBook told
    → IsLog log strangers told
log_alone log told strangers none written valid =
    subst (λ (hosts : List Host). IsLog log hosts told) (sym none) ((alone log told).1 (written, valid))

none_some : (strangers : List Host) → are_some strangers ≡ false → strangers ≡ []
none_some [] e = refl
none_some (h ∷ strangers) e = absurd (let some : are_some (h ∷ strangers) ≡ true = grind (arith, nat_tests) in false≢true (sym e ∙ some))

-- the book of a world at the end of its replay, by the lives that are printed and the log that is written
told_world : {C : Type 0} (shown : List lines.Shown) (last other : WorldState C) (lives : List Life)
    (strangers : List Host) (book : Bool) (detail : Detail) (out log : List ℕ) → last ≡ other
    → ShowsBook last.kept.book shown → lives ≡ last.kept.book.lives
    → AreFated other.kept.book.lives other.kept.fates → out ≡ printed book detail shown lives
    → IsLog log strangers (world_book other.kept) → TellTheSame strangers book detail out log
told_world {C} shown last other lives strangers book detail out log one booked left fated prints logs =
    let alive : lives ≡ lives_of (world_book other.kept) =
    left ∙ ap (λ (w : WorldState C). w.kept.book.lives) one ∙ sym (lives_back other.kept.book.lives other.kept.fates fated) in
    record {
      shown = shown;
      told = world_book other.kept;
      prints = prints ∙ ap (λ (lives : List Life). printed book detail shown lives) alive;
      logs = logs;
      crossed =
          ap (λ (w : WorldState C). reverse w.kept.book.crossings) (sym one) ∙ ap (λ (cs : List Crossing). reverse cs) booked.crossed ∙ reverse-reverse (lines.crossings_of shown);
    }

told_in : {C : Type 0} (among : Bool) (calls : Calls C) → AreSettled calls → (strangers : List Host) (opening : C)
    (events : List WorldEvent) (book : Bool) (detail : Detail) (out log : List ℕ) → (among ≡ false → strangers ≡ [])
    → WritesWorld book detail (ShowsIn among calls strangers opening events) (Some []) (Some out)
    → LogsIn among calls strangers opening events (Some []) (Some log) → TellTheSame strangers book detail out log
told_in {C} true calls settled strangers opening events book detail out log none h k =
    let one : (h.shows.last ≡ k.last) × (h.shown ≡ k.shows) =
    worlds.one_replay calls settled (opening_mixed (shown calls) opening strangers) h.shows.last k.last events h.shown k.shows
    h.shows.replayed k.replayed in
    told_world h.shown h.shows.last k.last h.lives strangers book detail out log one.0 h.shows.booked
    h.shows.left k.fated h.written (record { spelled = k.written; named = k.named; valid = k.valid })
told_in {C} false calls settled strangers opening events book detail out log none h k =
    let one : (h.shows.last ≡ k.last) × (h.shown ≡ k.shows) =
    worlds.one_replay calls settled (opening_world (shown calls) opening) h.shows.last k.last events h.shown k.shows h.shows.replayed k.replayed in
    told_world h.shown h.shows.last k.last h.lives strangers book detail out log one.0 h.shows.booked
    h.shows.left k.promise.book.fated h.written
    (log_alone log (world_book k.last.kept) strangers (none refl) k.written k.valid)

told_from : {C : Type 0} (calls : Calls C) → AreSettled calls → (strangers : List Host) (opening : C) (events : Asked) (book : Bool) (detail : Detail) (out log : List ℕ) → (is_raw events ≡ true → strangers ≡ [])
    → ReplaysFrom calls strangers opening book detail events (Some []) (Some out)
    → LogsFrom calls strangers opening events (Some []) (Some log) → TellTheSame strangers book detail out log
told_from {C} calls settled strangers opening (Raw events) book detail out log none h k =
    let one : OneReplay h.shows.last k.last h.shown k.shown = replays_once calls settled opening events h.shows.last k.last h.shown k.shown h.shows.replayed k.replayed in
    record {
      shown = as_world h.shown;
      told = raw_book (calls.seen k.last).log;
      prints = raw_printed book detail out h.shown h.written;
      logs = log_alone log (raw_book (calls.seen k.last).log) strangers (none refl) k.written k.valid;
      crossed =
          ap (λ (last : C). reverse (calls.seen last).log) (sym one.carriers) ∙ ap (λ (cs : List Crossing). reverse cs) h.shows.crossed
          ∙ reverse-reverse (crossings_of h.shown) ∙ same_crossings h.shown;
    }
told_from {C} calls settled strangers opening (World events) book detail out log none h k =
    told_in (are_some strangers) calls settled strangers opening events book detail out log (none_some strangers) h k

told_over : (carrier : CarrierKind) (network : TopologyFields) (events : Asked) (book : Bool) (detail : Detail) (out log : List ℕ) → (is_raw events ≡ true → network.strangers ≡ [])
    → ReplaysOver carrier network book detail events (Some []) (Some out)
    → LogsOver carrier network events (Some []) (Some log) → TellTheSame network.strangers book detail out log
told_over kind.Plain network events book detail out log none h k = told_from plain_calls plain_settled network.strangers (plain_of network) events book detail out log none h k
told_over kind.Subnet network events book detail out log none h k = told_from subnet_calls subnet_settled network.strangers (subnet_of network) events book detail out log none h k

-- lines ask for events without host programs only where the network is raw
asked_raw : (raw among : Bool) (events : Asked) (text : List (List ℕ)) → AsksFor raw among events text
    → is_raw events ≡ true → raw ≡ true
asked_raw true among events text h e = refl
asked_raw false among (Raw events) text h e = absurd h
asked_raw false among (World events) text h e = absurd (false≢true e)

-- and a raw network has no strangers
no_strangers : (octets : List ℕ) (network : TopologyFields) (events : Asked) → IsInput octets network events
    → is_raw events ≡ true → network.strangers ≡ []
no_strangers octets network events input e =
    (described_keeps input.document network input.described).programs
    (asked_raw network.raw (are_some network.strangers) events (lines_of input.script) input.asked e)

pub tell_the_same : (book : Bool) (detail : Detail) (input out log : List ℕ)
    (r : ReplaysInput book detail input (Some []) (Some out)) → LogsInput input (Some []) (Some log)
    → TellTheSame r.network.strangers book detail out log
tell_the_same book detail input out log h k =
    let same : OneInput k.network h.network k.events h.events = input_once input k.network h.network k.events h.events k.input h.input in
    let moved : LogsOn h.network h.events (Some []) (Some log) =
    subst (λ (network : TopologyFields). LogsOn network h.events (Some []) (Some log)) same.same_network
    (subst (λ (events : Asked). LogsOn k.network events (Some []) (Some log)) same.same_events k.logged) in
    told_over h.network.carrier h.network h.events book detail out log (no_strangers input h.network h.events h.input)
    h.replayed moved
