-- An output leaves out no line that its trace has as printed: a line whose event printed something is read in no other way.
use Rattle.simulator.proofs.Common.{Crossing, text_of, ended_line, Host, RawEvent, WorldEvent}
use Rattle.std.proofs.Common.{◌≡◌, ℕ, List, [], ◌∷◌, ◌++◌, Bool, false, Option, None, Some, codes, map, length, arith, refl, sym, ap, ◌∙◌, ◌==◌, append_assoc, length-append, lit<}
use Rattle.std.proofs.lemmas.List.{length-map, append_cancel_left}
use Rattle.std.specs.List.{flat_map}
use Rattle.script.specs.Spelling.{spelling, net_spelling}
use Rattle.simulator.specs.Recorded.{OfElement, OfWorld, PrintsTrace, Recorded, printed_lines, recorded_text, unforgotten}
use Rattle.command_line.specs.Replayed.{book_text}
use Rattle.std.proofs.lemmas.List.Elements.{All-append, All-cons}
use Rattle.std.specs.Fmt.{decimal}
use Rattle.sockets.specs.declared.request.Request.{Request}
use Rattle.sockets.specs.declared.request.Request.TheVariants as request
use Rattle.interface.specs.declared.crossing.Crossing.TheVariants as crossing
use Rattle.interface.specs.declared.event.NetEvent.{NetEvent}
use Rattle.interface.specs.declared.event.NetEvent.TheVariants as net
use Rattle.net_sim.specs.declared.event.Event.TheVariants as event
use Rattle.script.proofs.lemmas.{same_cut, unmarked_where}
use Rattle.script.specs.Steps.{Lacks}
use Rattle.script.specs.declared.event.RawEvent.TheVariants as script
use Rattle.trace.proofs.lemmas.{decimal_lacks, first_same, other_first, rest_same}
use Rattle.trace.specs.Texts.{array, crossing_object, fate_members, further, member, shown_members}
use Rattle.trace.specs.declared.fate.Fate.{Fate}
use Rattle.world_script.specs.WorldSpelling.{request_spelling}
use Rattle.world_script.specs.declared.event.WorldEvent.TheVariants as world
use Rattle.world_trace.specs.Texts.{event_text, lines_text}

-- a list with an item is not empty
none_left : {X : Type 0} {x : X} {xs : List X} → [] ≡ x ∷ xs → ⊥
none_left e = absurd (cc)

-- ---- the beginning of a line: three numbers and an event

-- what follows a number is the same, if a comma ends the number
behind_number : (m n : ℕ) (xs ys : List ℕ) → decimal m ++ 44 ∷ xs ≡ decimal n ++ 44 ∷ ys → xs ≡ ys
behind_number m n xs ys is =
    (same_cut 44 (decimal m) xs (decimal n) ys (decimal_lacks 44 m (lit< tt)) (decimal_lacks 44 n (lit< tt)) is).back

-- a line from its event on, from its round on, from its number on, and as a whole
abbrev from_event : List ℕ → List ℕ → List ℕ
from_event event rest = codes "\"event\":\"" ++ ((event ++ 34 ∷ []) ++ rest)

abbrev from_round : ℕ → List ℕ → List ℕ → List ℕ
from_round round event rest = codes "\"round\":" ++ (decimal round ++ 44 ∷ from_event event rest)

abbrev from_number : ℕ → ℕ → List ℕ → List ℕ → List ℕ
from_number number round event rest = codes "\"number\":" ++ (decimal number ++ 44 ∷ from_round round event rest)

abbrev from_line : ℕ → ℕ → ℕ → List ℕ → List ℕ → List ℕ
from_line line number round event rest =
    codes "{\"line\":" ++ (decimal line ++ 44 ∷ from_number number round event rest)

-- from its event on it is the same, whatever the numbers are
event_on : (a b c d e f : ℕ) (s t xs ys : List ℕ) → from_line a b c s xs ≡ from_line d e f t ys
    → (s ++ 34 ∷ []) ++ xs ≡ (t ++ 34 ∷ []) ++ ys
event_on a b c d e f s t xs ys is =
    let number : from_number b c s xs ≡ from_number e f t ys = behind_number a d (from_number b c s xs) (from_number e f t ys)
    (append_cancel_left (codes "{\"line\":") (decimal a ++ 44 ∷ from_number b c s xs) (decimal d ++ 44 ∷ from_number e f t ys) is) in
    let round : from_round c s xs ≡ from_round f t ys = behind_number b e (from_round c s xs) (from_round f t ys)
    (append_cancel_left (codes "\"number\":") (decimal b ++ 44 ∷ from_round c s xs) (decimal e ++ 44 ∷ from_round f t ys) number) in
    let event : from_event s xs ≡ from_event t ys = behind_number c f (from_event s xs) (from_event t ys)
    (append_cancel_left (codes "\"round\":") (decimal c ++ 44 ∷ from_event s xs) (decimal f ++ 44 ∷ from_event t ys) round) in
    append_cancel_left (codes "\"event\":\"") ((s ++ 34 ∷ []) ++ xs) ((t ++ 34 ∷ []) ++ ys) event

-- ---- the event of the worked line, and what comes after it

abbrev forgets : List ℕ
forgets = net_spelling (net.Forget 1 2)

abbrev behind : List ℕ
behind = codes ",\"crossed\":[],\"printed\":[\"refused Unsettled\"],\"parts\":{}}"

-- a text of an event, and what comes after it, are as in the worked line
abbrev IsIt : List ℕ → List ℕ → Type 0
IsIt text rest = (forgets ++ 34 ∷ []) ++ behind ≡ (text ++ 34 ∷ []) ++ rest

forget_lacks : (at from : ℕ) → Lacks 34 (net_spelling (net.Forget at from))
forget_lacks at from = All-append P (codes "forget ") (decimal at ++ 32 ∷ decimal from) (unmarked_where 34 (codes "forget ") refl)
    (All-append P (decimal at) (32 ∷ decimal from) (decimal_lacks 34 at (lit< tt))
    (All-cons P 32 (decimal from) refl (decimal_lacks 34 from (lit< tt)))) where
      P : ℕ → Type 0
      P x = (x == 34) ≡ false

net_is : (e : NetEvent) (rest : List ℕ) → IsIt (net_spelling e) rest → behind ≡ rest
net_is (net.Forget at from) rest is =
    (same_cut 34 forgets behind (net_spelling (net.Forget at from)) rest (forget_lacks 1 2) (forget_lacks at from)
    (sym (append_assoc forgets (34 ∷ []) behind) ∙ is ∙ append_assoc (net_spelling (net.Forget at from)) (34 ∷ []) rest)).back
net_is e rest is = absurd (other_first refl is)

raw_is : (e : RawEvent) (rest : List ℕ) → IsIt (spelling e) rest → behind ≡ rest
raw_is (script.Net e) rest is = net_is e rest is
raw_is (script.Out m) rest is = absurd (other_first refl is)
raw_is (script.Take h) rest is = absurd (other_first refl is)
raw_is (script.Calm rounds) rest is = absurd (other_first refl is)

asked_is : (h : Host) (r : Request) (rest : List ℕ) → IsIt (request_spelling h r) rest → ⊥
asked_is h (request.Contact peer) rest is = other_first refl is
asked_is h (request.Echo peer octet) rest is = other_first refl is
asked_is h (request.Listen socket size) rest is = other_first refl is
asked_is h (request.OpenSend peer own foreign size) rest is = other_first refl is
asked_is h (request.OpenReceive peer own foreign) rest is = other_first refl is
asked_is h (request.Send socket bits) rest is = other_first refl is
asked_is h (request.Grant socket messages bits) rest is = other_first refl is
asked_is h (request.AskBack socket messages bits) rest is = other_first refl is
asked_is h (request.Interrupt socket) rest is = other_first refl is
asked_is h (request.Close socket) rest is = other_first refl is

world_is : (e : WorldEvent) (rest : List ℕ) → IsIt (event_text e) rest → behind ≡ rest
world_is (world.Happen (event.Net e)) rest is = net_is e rest is
world_is (world.Happen (event.Ask h r)) rest is = absurd (asked_is h r rest is)
world_is (world.Happen event.Quiet) rest is = absurd (other_first refl is)
world_is (world.Happen (event.Offer h)) rest is = absurd (other_first refl is)
world_is (world.Happen (event.Take h)) rest is = absurd (other_first refl is)
world_is (world.Happen (event.Server h listen base)) rest is = absurd (other_first refl is)
world_is (world.Happen (event.User h peer listen own)) rest is = absurd (other_first refl is)
world_is (world.Happen (event.Typed h text)) rest is = absurd (other_first refl is)
world_is (world.Happen (event.Out m)) rest is = absurd (other_first refl is)
world_is (world.Calm rounds) rest is = absurd (other_first refl is)

-- ---- a line with nothing printed is another one

abbrev none_crossed : List ℕ
none_crossed = codes ",\"crossed\":[],\"printed\":["

-- of a network without host programs
element_prints : (fate : Option Fate) (parts : List ℕ) → behind ≡ further (codes "}") (fate_members fate ++ (shown_members [] ++ (member (codes "parts") parts ∷ []))) → ⊥
element_prints None parts is = other_first refl (append_cancel_left none_crossed (codes "\"refused Unsettled\"],\"parts\":{}}")
    (codes "]" ++ further (codes "}") (member (codes "parts") parts ∷ [])) is)
element_prints (Some fate) parts is = other_first refl (rest_same (rest_same is))

-- with them
crossed_is : (c : Crossing) (xs ys zs : List ℕ) → 93 ∷ xs ≡ (crossing_object c ++ ys) ++ zs → ⊥
crossed_is (crossing.Out m) xs ys zs is = other_first refl is
crossed_is (crossing.In m) xs ys zs is = other_first refl is
crossed_is (crossing.Answer kind f) xs ys zs is = other_first refl is
crossed_is (crossing.Down h) xs ys zs is = other_first refl is
crossed_is (crossing.Up h) xs ys zs is = other_first refl is

abbrev world_members : List Crossing → List (List ℕ) → List (List ℕ)
world_members crossings state =
    member (codes "crossed") (array (map crossing_object crossings)) ∷ member (codes "printed") (lines_text []) ∷ state

world_prints : (crossings : List Crossing) (state : List (List ℕ)) → behind ≡ further (codes "}") (world_members crossings state) → ⊥
world_prints [] state is = other_first refl (append_cancel_left none_crossed (codes "\"refused Unsettled\"],\"parts\":{}}")
    (codes "]" ++ further (codes "}") state) is)
world_prints (c ∷ crossings) state is =
    let items : List ℕ = further (codes "]") (map crossing_object crossings) in
    let more : List ℕ = further (codes "}") (member (codes "printed") (lines_text []) ∷ state) in
    crossed_is c (codes ",\"printed\":[\"refused Unsettled\"],\"parts\":{}}") items more
    (append_cancel_left (codes ",\"crossed\":[") (codes "],\"printed\":[\"refused Unsettled\"],\"parts\":{}}") ((crossing_object c ++ items) ++ more) is)

-- ---- an output without it

-- where only the last line is, nothing else is printed
prints_none : (texts : List (List ℕ)) (lives : List ℕ) → codes "end\n" ≡ text_of (λ line. line) texts ++ (lives ++ codes "end\n") → texts ≡ []
prints_none [] lives is = refl
prints_none (x ∷ texts) lives is =
    let rest : List ℕ = text_of (λ (line : List ℕ). line) texts in
    let size : length (codes "end\n") ≡ length ((ended_line x ++ rest) ++ (lives ++ codes "end\n")) = ap (λ (xs : List ℕ). length xs) is in
    absurd (omega (arith, size, length-append (ended_line x ++ rest) (lives ++ codes "end\n"), length-append (ended_line x) rest, length-append x (10 ∷ []), length-append lives (codes "end\n")))

not_it : (r : Recorded) → recorded_text unforgotten ≡ recorded_text r → printed_lines r ++ [] ≡ [] → ⊥
not_it (OfElement spot x fate [] parts) is none =
    let rest : List ℕ = further (codes "}") (fate_members fate ++ (shown_members [] ++ (member (codes "parts") parts ∷ []))) in
    element_prints fate parts (raw_is x.event rest (event_on 5 1 0 spot.line spot.number x.round forgets (spelling x.event) behind rest is))
not_it (OfElement spot x fate (s ∷ shown) parts) is none = cc
not_it (OfWorld spot round e crossings [] state) is none =
    let rest : List ℕ = further (codes "}") (world_members crossings state) in
    world_prints crossings state (world_is e rest (event_on 5 1 0 spot.line spot.number round forgets (event_text e) behind rest is))
not_it (OfWorld spot round e crossings (s ∷ shown) state) is none = cc

pub left_out : (book : Bool) (opening trace : List ℕ) → PrintsTrace book (codes "end\n") trace (opening ∷ recorded_text unforgotten ∷ []) → ⊥
left_out book opening trace h = by h.recorded (rest_same h.traced) h.printed where
  by : (recorded : List Recorded) → recorded_text unforgotten ∷ [] ≡ map recorded_text recorded → codes "end\n" ≡ text_of (λ line. line) (flat_map printed_lines recorded) ++ (book_text book h.lives ++ codes "end\n") → ⊥
  by [] is prints = none_left (sym is)
  by (r ∷ []) is prints = not_it r (first_same is) (prints_none (printed_lines r ++ []) (book_text book h.lives) prints)
  by (r ∷ s ∷ recorded) is prints = none_left (rest_same is)

-- each line after the first is of one record
pub one_each : (book : Bool) (out opening trace : List ℕ) (lines : List (List ℕ)) (h : PrintsTrace book out trace (opening ∷ lines)) → length h.recorded ≡ length lines
one_each book out opening trace lines h =
    sym (ap (λ (ls : List (List ℕ)). length ls) (rest_same h.traced) ∙ length-map h.recorded recorded_text)
