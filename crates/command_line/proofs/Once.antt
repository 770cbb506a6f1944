-- An input leaves a replay no choice.
use Rattle.command_line.proofs.Common.{append_assoc, are_some, Host, ReplaysInput, ShowsAmong, StopsInput, book_text, opening_mixed, shown, WorldState, opening_world, Life, Calls, AreSettled, Detail, TopologyFields, CarrierKind, WorldEvent, plain_calls, subnet_calls, plain_of, subnet_of, RawEvent, subnet_settled, plain_settled}
use Rattle.std.proofs.Common.{◌≡◌, Bool, true, false, List, ◌++◌, Some, codes, sym, ap, subst, ◌∙◌, ℕ}
use Rattle.replay.specs.Output.{output, Shown}
use Rattle.command_line.specs.Events.{Raw, World, Asked}
use Rattle.command_line.specs.Replayed.{ReplaysFrom, ReplaysOn, ReplaysOver, ShowsFrom, ShowsIn, StopsFrom, StopsIn, WorldShowsFrom, WorldStopsFrom, EndsFrom, EndsOn, EndsOver}
use Rattle.replay.proofs.lemmas.{OneReplay, replays_once, StartsWith, output-append}
use Rattle.topology.specs.declared.network.CarrierKind.TheVariants as kind
use Rattle.world_replay.specs.Output as lines
use Rattle.world_replay.proofs.lemmas.News as lines_of
use Rattle.world_replay.proofs.lemmas.Once as worlds
use Rattle.command_line.proofs.OneInput.{OneInput, input_once}
use Rattle.replay.proofs.lemmas.Settled as replay

-- ---- a whole replay

pub raw_once : {C : Type 0} (calls : Calls C) → AreSettled calls → (opening : C) (events : List RawEvent) (shown more : List Shown) → ShowsFrom calls opening events shown → ShowsFrom calls opening events more → shown ≡ more
raw_once calls settled opening events shown more h k =
    let one : OneReplay h.last k.last shown more = replays_once calls settled opening events h.last k.last shown more h.replayed k.replayed in
    one.lines

pub world_once : {C : Type 0} (calls : Calls C) → AreSettled calls → (opening : C) (events : List WorldEvent) (lives others : List Life) (shows more : List lines.Shown) → WorldShowsFrom calls opening events lives shows
    → WorldShowsFrom calls opening events others more → (lives ≡ others) × (shows ≡ more)
world_once {C} calls settled opening events lives others shows more h k =
    let one : (h.last ≡ k.last) × (shows ≡ more) = worlds.one_replay calls settled (opening_world (shown calls) opening) h.last k.last events shows more h.replayed k.replayed in
    (h.left ∙ ap (λ (w : WorldState C). w.kept.book.lives) one.0 ∙ sym k.left, one.1)

-- and among strangers
pub among_once : {C : Type 0} (calls : Calls C) → AreSettled calls → (strangers : List Host) (opening : C)
    (events : List WorldEvent) (lives others : List Life) (shows more : List lines.Shown)
    → ShowsAmong calls strangers opening events lives shows → ShowsAmong calls strangers opening events others more
    → (lives ≡ others) × (shows ≡ more)
among_once {C} calls settled strangers opening events lives others shows more h k =
    let one : (h.last ≡ k.last) × (shows ≡ more) =
    worlds.one_replay calls settled (opening_mixed (shown calls) opening strangers) h.last k.last events shows more
    h.replayed k.replayed in
    (h.left ∙ ap (λ (w : WorldState C). w.kept.book.lives) one.0 ∙ sym k.left, one.1)

-- with strangers or without
pub shows_once : {C : Type 0} (among : Bool) (calls : Calls C) → AreSettled calls → (strangers : List Host) (opening : C)
    (events : List WorldEvent) (lives others : List Life) (shows more : List lines.Shown)
    → ShowsIn among calls strangers opening events lives shows
    → ShowsIn among calls strangers opening events others more → (lives ≡ others) × (shows ≡ more)
shows_once true calls settled strangers opening events lives others shows more h k =
    among_once calls settled strangers opening events lives others shows more h k
shows_once false calls settled strangers opening events lives others shows more h k =
    world_once calls settled opening events lives others shows more h k

from_once : {C : Type 0} (calls : Calls C) → AreSettled calls → (strangers : List Host) (opening : C) (book : Bool) (detail : Detail) (events : Asked) (before after other : List ℕ) → ReplaysFrom calls strangers opening book detail events (Some before) (Some after)
    → ReplaysFrom calls strangers opening book detail events (Some before) (Some other) → after ≡ other
from_once calls settled strangers opening book detail (Raw events) before after other h k =
    h.written ∙ ap (λ shown. before ++ (output detail shown ++ codes "end\n")) (raw_once calls settled opening events h.shown k.shown h.shows k.shows) ∙ sym k.written
from_once calls settled strangers opening book detail (World events) before after other h k =
    let one : (h.lives ≡ k.lives) × (h.shown ≡ k.shown) = shows_once (are_some strangers) calls settled strangers opening events h.lives k.lives h.shown k.shown h.shows k.shows in
    h.written ∙ ap (λ shows. before ++ (lines.output detail shows ++ (book_text book h.lives ++ codes "end\n"))) one.1 ∙ ap (λ lives. before ++ (lines.output detail k.shown ++ (book_text book lives ++ codes "end\n"))) one.0 ∙ sym k.written

over_once : (carrier : CarrierKind) (network : TopologyFields) (book : Bool) (detail : Detail) (events : Asked) (before after other : List ℕ) → ReplaysOver carrier network book detail events (Some before) (Some after) → ReplaysOver carrier network book detail events (Some before) (Some other)
    → after ≡ other
over_once kind.Plain network book detail events before after other h k = from_once plain_calls plain_settled network.strangers (plain_of network) book detail events before after other h k
over_once kind.Subnet network book detail events before after other h k = from_once subnet_calls subnet_settled network.strangers (subnet_of network) book detail events before after other h k

pub one_output : (book : Bool) (detail : Detail) (input before after other : List ℕ) → ReplaysInput book detail input (Some before) (Some after) → ReplaysInput book detail input (Some before) (Some other) → after ≡ other
one_output book detail input before after other h k =
    let same : OneInput h.network k.network h.events k.events = input_once input h.network k.network h.events k.events h.input k.input in
    let moved : ReplaysOn k.network book detail k.events (Some before) (Some after) =
    subst (λ (network : TopologyFields). ReplaysOn network book detail k.events (Some before) (Some after)) same.same_network
    (subst (λ (events : Asked). ReplaysOn h.network book detail events (Some before) (Some after)) same.same_events h.replayed) in
    over_once k.network.carrier k.network book detail k.events before after other moved k.replayed

-- ---- the first part of a replay

raw_front : {C : Type 0} (calls : Calls C) → AreSettled calls → (opening : C) (events : List RawEvent) (part whole : List Shown) → StopsFrom calls opening events part → ShowsFrom calls opening events whole → StartsWith whole part
raw_front calls settled opening events part whole h k = replay.first_part calls settled opening events h.last k.last part whole h.stopped k.replayed

world_front : {C : Type 0} (calls : Calls C) → AreSettled calls → (opening : C) (events : List WorldEvent) (part : List lines.Shown) (lives : List Life) (whole : List lines.Shown) → WorldStopsFrom calls opening events part
    → WorldShowsFrom calls opening events lives whole → (rest : List lines.Shown) × (whole ≡ part ++ rest)
world_front calls settled opening events part lives whole h k = worlds.first_part calls settled (opening_world (shown calls) opening) h.last k.last events part whole h.stopped k.replayed

among_front : {C : Type 0} (among : Bool) (calls : Calls C) → AreSettled calls → (strangers : List Host) (opening : C)
    (events : List WorldEvent) (part : List lines.Shown) (lives : List Life) (whole : List lines.Shown)
    → StopsIn among calls strangers opening events part → ShowsIn among calls strangers opening events lives whole
    → (rest : List lines.Shown) × (whole ≡ part ++ rest)
among_front true calls settled strangers opening events part lives whole h k =
    worlds.first_part calls settled (opening_mixed (shown calls) opening strangers) h.last k.last events part whole
    h.stopped k.replayed
among_front false calls settled strangers opening events part lives whole h k =
    world_front calls settled opening events part lives whole h k

-- a text that begins with another
begins : (before part whole first rest behind : List ℕ) → part ≡ before ++ first → whole ≡ before ++ ((first ++ rest) ++ behind) → (more : List ℕ) × (whole ≡ part ++ more)
begins before part whole first rest behind is all = (
  rest ++ behind,
  all ∙ ap (λ xs. before ++ xs) (append_assoc first rest behind) ∙ sym (append_assoc before first (rest ++ behind)) ∙ ap (λ xs. xs ++ (rest ++ behind)) (sym is),
)

from_front : {C : Type 0} (calls : Calls C) → AreSettled calls → (strangers : List Host) (opening : C) (book : Bool) (detail : Detail) (events : Asked) (before part whole : List ℕ) → EndsFrom calls strangers opening detail events (Some before) (Some part)
    → ReplaysFrom calls strangers opening book detail events (Some before) (Some whole) → (rest : List ℕ) × (whole ≡ part ++ rest)
from_front calls settled strangers opening book detail (Raw events) before part whole h k =
    let starts : StartsWith k.shown h.shown = raw_front calls settled opening events h.shown k.shown h.is_shown k.shows in
    let lines : output detail k.shown ≡ output detail h.shown ++ output detail starts.rest = ap (output detail) starts.parts ∙ output-append detail h.shown starts.rest in
    begins before part whole (output detail h.shown) (output detail starts.rest) (codes "end\n") h.written (k.written ∙ ap (λ xs. before ++ (xs ++ codes "end\n")) lines)
from_front calls settled strangers opening book detail (World events) before part whole h k =
    let starts : (rest : List lines.Shown) × (k.shown ≡ h.shown ++ rest) = among_front (are_some strangers) calls settled strangers opening events h.shown k.lives k.shown h.is_shown k.shows in
    let all : lines.output detail k.shown ≡ lines.output detail h.shown ++ lines.output detail starts.0 = ap (lines.output detail) starts.1 ∙ lines_of.output-append detail h.shown starts.0 in
    begins before part whole (lines.output detail h.shown) (lines.output detail starts.0) (book_text book k.lives ++ codes "end\n") h.written (k.written ∙ ap (λ xs. before ++ (xs ++ (book_text book k.lives ++ codes "end\n"))) all)

over_front : (carrier : CarrierKind) (network : TopologyFields) (book : Bool) (detail : Detail) (events : Asked) (before part whole : List ℕ) → EndsOver carrier network detail events (Some before) (Some part) → ReplaysOver carrier network book detail events (Some before) (Some whole)
    → (rest : List ℕ) × (whole ≡ part ++ rest)
over_front kind.Plain network book detail events before part whole h k = from_front plain_calls plain_settled network.strangers (plain_of network) book detail events before part whole h k
over_front kind.Subnet network book detail events before part whole h k = from_front subnet_calls subnet_settled network.strangers (subnet_of network) book detail events before part whole h k

pub first_part : (book : Bool) (detail : Detail) (input before part whole : List ℕ) → StopsInput detail input (Some before) (Some part) → ReplaysInput book detail input (Some before) (Some whole) → (rest : List ℕ) × (whole ≡ part ++ rest)
first_part book detail input before part whole h k =
    let same : OneInput h.network k.network h.events k.events = input_once input h.network k.network h.events k.events h.input k.input in
    let moved : EndsOn k.network detail k.events (Some before) (Some part) =
    subst (λ (network : TopologyFields). EndsOn network detail k.events (Some before) (Some part)) same.same_network
    (subst (λ (events : Asked). EndsOn h.network detail events (Some before) (Some part)) same.same_events h.stopped) in
    over_front k.network.carrier k.network book detail k.events before part whole moved k.replayed
