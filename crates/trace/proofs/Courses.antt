-- Courses of elementary events, over any network.
use Rattle.trace.proofs.Common.{◌≡◌, ◌<◌, ◌+◌, ℕ, zero, suc, Bool, true, false, List, [], ◌∷◌, ◌++◌, drop, length, get_or, refl, sym, ap, ◌∙◌, subst, All-append, All-cons, All-nil, All-same, All, Host, RawEvent, Element}
use Rattle.std.proofs.lemmas.List.{append_assoc, drop_more, map-append}
use Rattle.script.specs.declared.event.RawEvent.TheVariants as event
use Rattle.trace.specs.Elements.{Course, Giving, all_takings, events_of, no_course, one_event, rounds_from, taking, takings, takings_from, then_course}

-- ---- courses

-- it is one thing, how three courses are put together
pub then_twice : {S : Type 0} (first : Course S) (next last : S → Course S) → then_course (then_course first next) last ≡ then_course first (λ s. then_course (next s) last)
then_twice {S} first next last =
    ap (λ (xs : List Element). record { elements = xs; left = (last (next first.left).left).left }) (append_assoc first.elements (next first.left).elements (last (next first.left).left).elements)

-- all events of a course have this property
abbrev pub AllEvents : {S : Type 0} → (RawEvent → Type 0) → Course S → Type 0
AllEvents P c = All P (events_of c.elements)

pub none_events : {S : Type 0} (P : RawEvent → Type 0) (s : S) → AllEvents P (no_course s)
none_events P s = All-nil P

pub one_events : {S : Type 0} (P : RawEvent → Type 0) (round : ℕ) (e : RawEvent) (s : S) → P e → AllEvents P (one_event round e s)
one_events P round e s h = All-cons P e [] h (All-nil P)

pub then_events : {S : Type 0} (P : RawEvent → Type 0) (first : Course S) (next : S → Course S) → AllEvents P first → ((s : S) → AllEvents P (next s)) → AllEvents P (then_course first next)
then_events P first next h k =
    All-same P (events_of (then_course first next).elements) (events_of first.elements ++ events_of (next first.left).elements) (map-append (λ x. x.event) first.elements (next first.left).elements)
    (All-append P (events_of first.elements) (events_of (next first.left).elements) h (k first.left))

-- ---- a host's takings

pub none_given : {S : Type 0} (giving : Giving S) (round : ℕ) (h : Host) (times : ℕ) (s : S) → giving.is_given s h ≡ false → takings giving round h (suc times) s ≡ no_course s
none_given giving round h times s e = rw e refl

pub one_given : {S : Type 0} (giving : Giving S) (round : ℕ) (h : Host) (times : ℕ) (s : S) → giving.is_given s h ≡ true
    → takings giving round h (suc times) s ≡ then_course (taking giving round h s) (takings giving round h times)
one_given giving round h times s e = rw e refl

takings_events : {S : Type 0} (P : RawEvent → Type 0) (giving : Giving S) → ((h : Host) → P (event.Take h)) → (round : ℕ) (h : Host) (times : ℕ) (s : S) → AllEvents P (takings giving round h times s)
takings_events P giving is round h zero s = none_events P s
takings_events {S} P giving is round h (suc times) s = by (λ t. takings_events P giving is round h times t) (giving.is_given s h) refl where
  by : ((t : S) → AllEvents P (takings giving round h times t)) → (b : Bool) → giving.is_given s h ≡ b → AllEvents P (takings giving round h (suc times) s)
  by more true e =
      subst (λ (c : Course S). AllEvents P c) (sym (one_given giving round h times s e))
      (then_events P (taking giving round h s) (takings giving round h times) (one_events P round _ (giving.after s h) (is h)) more)
  by more false e = subst (λ (c : Course S). AllEvents P c) (sym (none_given giving round h times s e)) (none_events P s)

pub all_takings_events : {S : Type 0} (P : RawEvent → Type 0) (giving : Giving S) → ((h : Host) → P (event.Take h)) → (round : ℕ) (hosts : List Host) (s : S) → AllEvents P (all_takings giving round hosts s)
all_takings_events P giving is round [] s = none_events P s
all_takings_events P giving is round (h ∷ hosts) s =
    then_events P _ (all_takings giving round hosts) (takings_events P giving is round h 16 s) (λ t. all_takings_events P giving is round hosts t)

pub rounds_events : {S : Type 0} (P : RawEvent → Type 0) (whole : ℕ → S → Course S) → ((round : ℕ) (s : S) → AllEvents P (whole round s)) → (round times : ℕ) (s : S) → AllEvents P (rounds_from whole round times s)
rounds_events P whole is round zero s = none_events P s
rounds_events P whole is round (suc times) s =
    then_events P _ (rounds_from whole (suc round) times) (is round s) (λ t. rounds_events P whole is (suc round) times t)

-- ---- the rest of a round's takings, at some host

pub takings_all : {S : Type 0} (giving : Giving S) (round : ℕ) (hosts : List Host) (s : S) → all_takings giving round hosts s ≡ takings_from giving round hosts 16 s
takings_all giving round [] s = refl
takings_all giving round (h ∷ hosts) s = refl

-- a host that has taken so often as it may, or is given nothing, is passed over
no_takings : {S : Type 0} (giving : Giving S) (round : ℕ) (h : Host) (times : ℕ) (s : S) → ((n : ℕ) → times ≡ suc n → giving.is_given s h ≡ false) → takings giving round h times s ≡ no_course s
no_takings giving round h zero s none = refl
no_takings giving round h (suc times) s none = none_given giving round h times s (none times refl)

passed : {S : Type 0} (giving : Giving S) (round : ℕ) (h : Host) (hosts : List Host) (times : ℕ) (s : S) → ((n : ℕ) → times ≡ suc n → giving.is_given s h ≡ false)
    → takings_from giving round (h ∷ hosts) times s ≡ takings_from giving round hosts 16 s
passed giving round h hosts times s none = ap (λ c. then_course c (all_takings giving round hosts)) (no_takings giving round h times s none) ∙ takings_all giving round hosts s

-- in a list that is gone through place by place
pub passes : {S : Type 0} (giving : Giving S) (round i times : ℕ) (hosts : List Host) (h : Host) (s : S) → i < length hosts → h ≡ get_or hosts i h → ((n : ℕ) → times ≡ suc n → giving.is_given s h ≡ false)
    → takings_from giving round (drop i hosts) times s ≡ takings_from giving round (drop (i + 1) hosts) 16 s
passes giving round i times hosts h s lt is none =
    ap (λ (hs : List Host). takings_from giving round hs times s) (drop_more hosts i h lt ∙ ap (λ (g : Host). g ∷ drop (i + 1) hosts) (sym is)) ∙ passed giving round h _ times s none

pub takes_here : {S : Type 0} (giving : Giving S) (round i n times : ℕ) (hosts : List Host) (h : Host) (s : S) → i < length hosts → h ≡ get_or hosts i h → times ≡ suc n → giving.is_given s h ≡ true
    → takings_from giving round (drop i hosts) times s ≡ then_course (taking giving round h s) (λ c. takings_from giving round (drop i hosts) n c)
takes_here giving round i n times hosts h s lt is more given =
    let here : drop i hosts ≡ h ∷ drop (i + 1) hosts = drop_more hosts i h lt ∙ ap (λ (g : Host). g ∷ drop (i + 1) hosts) (sym is) in
    ap (λ (hs : List Host). takings_from giving round hs times s) here
    ∙ ap (λ (t : ℕ). then_course (takings giving round h t s) (all_takings giving round (drop (i + 1) hosts))) more
    ∙ ap (λ c. then_course c (all_takings giving round (drop (i + 1) hosts))) (one_given giving round h n s given)
    ∙ then_twice (taking giving round h s) (takings giving round h n) (all_takings giving round (drop (i + 1) hosts))
    ∙ ap (λ (hs : List Host). then_course (taking giving round h s) (λ c. takings_from giving round hs n c)) (sym here)

-- ---- a round in which nothing is left

given_or_not : {S : Type 0} (giving : Giving S) (round : ℕ) (h : Host) (hosts : List Host) (s : S) → all_takings giving round (h ∷ hosts) s ≡ no_course s → giving.is_given s h ≡ false
given_or_not {S} giving round h hosts s e = by (giving.is_given s h) refl where
  by : (t : Bool) → giving.is_given s h ≡ t → giving.is_given s h ≡ false
  by false is = is
  by true is =
      let bad : (then_course (then_course (taking giving round h s) (takings giving round h 15)) (all_takings giving round hosts)).elements ≡ [] =
      ap (λ c. (then_course c (all_takings giving round hosts)).elements) (sym (one_given giving round h 15 s is)) ∙ ap (λ (c : Course S). c.elements) e in
      absurd (cc)

none_after : {S : Type 0} (giving : Giving S) (round : ℕ) (h : Host) (hosts : List Host) (s : S) → giving.is_given s h ≡ false → all_takings giving round (h ∷ hosts) s ≡ all_takings giving round hosts s
none_after giving round h hosts s none = ap (λ c. then_course c (all_takings giving round hosts)) (none_given giving round h 15 s none)

-- so nothing is left in any other round
pub idle_takings : {S : Type 0} (giving : Giving S) (round other : ℕ) (hosts : List Host) (s : S) → all_takings giving round hosts s ≡ no_course s → all_takings giving other hosts s ≡ no_course s
idle_takings giving round other [] s e = refl
idle_takings giving round other (h ∷ hosts) s e =
    let none : giving.is_given s h ≡ false = given_or_not giving round h hosts s e in
    none_after giving other h hosts s none ∙ idle_takings giving round other hosts s (sym (none_after giving round h hosts s none) ∙ e)

pub idle_rounds : {S : Type 0} (whole : ℕ → S → Course S) (from times : ℕ) (s : S) → ((round : ℕ) → whole round s ≡ no_course s) → rounds_from whole from times s ≡ no_course s
idle_rounds whole from zero s none = refl
idle_rounds whole from (suc times) s none = ap (λ c. then_course c (rounds_from whole (suc from) times)) (none from) ∙ idle_rounds whole (suc from) times s none
