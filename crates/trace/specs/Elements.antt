-- Elementary events: an event of a script, or within a calm each of its parts. First what all networks share, and then
-- plain mailboxes.
use Rattle.std.specs.Prelude.{ℕ, zero, suc, ◌-◌, ◌==◌, Bool, false, ◌&&◌, drop, if◌then◌else◌, is_some, List, [], ◌∷◌}
use Rattle.std.specs.Prelude.{◌++◌, map}
use Rattle.leader1822.specs.Boxes.{Boxes, inbound_taken, is_running, next_for}
use Rattle.interface.specs.Host.{Host}
use Rattle.script.specs.declared.event.RawEvent.{RawEvent}
use Rattle.script.specs.declared.event.RawEvent.TheVariants as event
use Rattle.trace.specs.declared.element.Element.{Element}
use Rattle.trace.specs.declared.turn.Turn.{Turn}

-- ---- courses

-- elementary events one after another, and the network after them
pub record Course (S : Type 0) : Type 0 where
  pub elements : List Element
  pub left : S

abbrev pub no_course : {S : Type 0} → S → Course S
no_course s = record { elements = []; left = s }

-- one course, and then the next
abbrev pub then_course : {S : Type 0} → Course S → (S → Course S) → Course S
then_course first next = record {
  elements = first.elements ++ (next first.left).elements;
  left =
      (next first.left).left;
}

-- one event in this round, and the network after it
abbrev pub one_event : {S : Type 0} → ℕ → RawEvent → S → Course S
one_event round e left = record { elements = record { round = round; event = e } ∷ []; left = left }

-- ---- takings

-- what hosts are given: whether a taking gives something, and what it leaves then
pub record Giving (S : Type 0) : Type 0 where
  pub is_given : S → Host → Bool
  pub after : S → Host → S

-- one taking
abbrev pub taking : {S : Type 0} → Giving S → ℕ → Host → S → Course S
taking giving round h s = one_event round (event.Take h) (giving.after s h)

-- in a round of a calm a host takes while it is given something, this many times at most
abbrev pub takings : {S : Type 0} → Giving S → ℕ → Host → ℕ → S → Course S
takings giving round h zero s = no_course s
takings giving round h (suc times) s =
    if giving.is_given s h then then_course (taking giving round h s) (takings giving round h times) else no_course s

-- these hosts take one after the other, each 16 times at most
abbrev pub all_takings : {S : Type 0} → Giving S → ℕ → List Host → S → Course S
all_takings giving round [] s = no_course s
all_takings giving round (h ∷ hosts) s = then_course (takings giving round h 16 s) (all_takings giving round hosts)

-- what is left of the takings of a round, where the first of these hosts takes this many times at most, and the others
-- 16 times
abbrev pub takings_from : {S : Type 0} → Giving S → ℕ → List Host → ℕ → S → Course S
takings_from giving round [] times s = no_course s
takings_from giving round (h ∷ hosts) times s =
    then_course (takings giving round h times s) (all_takings giving round hosts)

-- ---- rounds

-- this many rounds, from this one on, where a round is this course
abbrev pub rounds_from : {S : Type 0} → (ℕ → S → Course S) → ℕ → ℕ → S → Course S
rounds_from whole round zero s = no_course s
rounds_from whole round (suc times) s = then_course (whole round s) (rounds_from whole (suc round) times)

-- what is left of a round, and then the rounds after it, up to this one
abbrev pub rest_of_calm : {S : Type 0} → (ℕ → S → Course S) → ℕ → ℕ → Course S → List Element
rest_of_calm whole round rounds first = (then_course first (rounds_from whole (suc round) (rounds - round))).elements

-- ---- events

-- an event as its elementary events: a calm is what the network says, and any other event is one itself
abbrev pub elements_in : (ℕ → List Element) → RawEvent → List Element
elements_in calm (event.Calm rounds) = calm rounds
elements_in calm (event.Out m) = record { round = 0; event = event.Out m } ∷ []
elements_in calm (event.Take h) = record { round = 0; event = event.Take h } ∷ []
elements_in calm (event.Net e) = record { round = 0; event = event.Net e } ∷ []

-- ---- rounds of a calm, of its elementary events

-- the first of these elementary events is of this round
abbrev pub begins_in : ℕ → List Element → Bool
begins_in round [] = false
begins_in round (x ∷ xs) = x.round == round

-- one more before these rounds: in the first of them, or in a round of its own
abbrev pub with_first : Bool → Element → List (List Element) → List (List Element)
with_first same x [] = (x ∷ []) ∷ []
with_first same x (round ∷ rounds) = if same then (x ∷ round) ∷ rounds else (x ∷ []) ∷ round ∷ rounds

-- elementary events, round by round. A round without any is not among them
abbrev pub by_round : List Element → List (List Element)
by_round [] = []
by_round (x ∷ xs) = with_first (begins_in x.round xs) x (by_round xs)

-- what elementary events ask for
abbrev pub events_of : List Element → List RawEvent
events_of elements = map (λ x. x.event) elements

-- ---- plain mailboxes

-- a taking gives something where the host is up and something waits for it
abbrev pub is_given : Boxes → Host → Bool
is_given b h = is_running b.hosts b.down h && is_some (next_for b h)

abbrev pub from_boxes : Giving Boxes
from_boxes = record { is_given = is_given; after = λ b h. inbound_taken b h (next_for b h) }

-- the quiet round of plain mailboxes changes nothing, and then all hosts take
abbrev pub round_of : ℕ → Boxes → Course Boxes
round_of round b = all_takings from_boxes round b.hosts b

-- the elementary events of a calm of this many rounds
abbrev pub calm_of : Boxes → ℕ → List Element
calm_of b rounds = (rounds_from round_of 1 rounds b).elements

abbrev pub elements_of : Boxes → RawEvent → List Element
elements_of b e = elements_in (calm_of b) e

-- what is left of the round of a turn
abbrev pub round_left : Boxes → Turn → Course Boxes
round_left b t = takings_from from_boxes t.round (drop t.host b.hosts) t.times b

-- and of its calm
abbrev pub calm_left : Boxes → Turn → List Element
calm_left b t = rest_of_calm round_of t.round t.rounds (round_left b t)
