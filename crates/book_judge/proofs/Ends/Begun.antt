-- A life comes as far as what follows its requests says.
use Rattle.book_judge.proofs.Common.{option_map, or-false, Host, same_host, Crossing, Life, Key, Deed, Ahead, Begin, Firsts, Change, Turn, changes_in, owes_never, same_key, Courses, Known}
use Rattle.std.proofs.Common.{◌≡◌, ◌⊎◌, inl, inr, ℕ, suc, ◌+◌, ◌-◌, ◌<◌, ◌≤◌, ◌==◌, get_or, Bool, true, false, ◌&&◌, ◌||◌, List, [], ◌∷◌, ◌++◌, length, Option, Some, None, refl, ap, ap₂, reverse, subst, sym, ◌∙◌, if◌then◌else◌, arith, nat_lt, eq-eqb}
use Rattle.std.proofs.lemmas.Bool.{and_from, cases_lt, eqb-true, false≢true, or_right, and_left, and_right, lt-ltb}
use Rattle.std.proofs.lemmas.List.{length-append, append_assoc}
use Rattle.promise.specs.Ends.{Asking, Cause, Closed, Dropped, Going, Over, Stage, Stopped, cut}
use Rattle.book_judge.specs.Inside.Begins.{IsAhead, ask_key, asks_at, begin_at, closes_at, drops_at, first_begin, first_close, first_drop, first_stop, firsts_from, firsts_with, place_at, stops_at, AreCourses, IsKnown, cut_from, ends_before, is_before, key, known_by, known_two, pace_at, reached_from, reached_if, stage_of}
use Rattle.book_judge.specs.Inside.Deeds.{Pace, after, begun_of, closed, deeds_in, end_after, opening, pace_of, end_by}
use Rattle.book_judge.specs.declared.fates.begins.Reached.{Reached}
use Rattle.book_judge.specs.declared.fates.begins.Reached.TheVariants as reached
use Rattle.book_judge.specs.declared.fates.changes.Turn.TheVariants as turn
use Rattle.book_judge.proofs.Ends.Changed.{changes_same, close_key, ended, turned, turned_by}
use Rattle.book_judge.proofs.Ends.Owed.{not_less}

-- ---- tests

same_pace : (b : Bool) (s : Pace) → (if b then s else s) ≡ s
same_pace true s = refl
same_pace false s = refl

-- ---- where changes crossed

-- each change of a list is where this says that the one crossed with which as many are left
abbrev ArePlaced : (ℕ → ℕ) → List Change → Type 0
ArePlaced at [] = Unit {0}
ArePlaced at (c ∷ changes) = (at (1 + length changes) ≡ c.place) × ArePlaced at changes

place_here : (front : List Change) (c : Change) (changes : List Change)
    → place_at (front ++ c ∷ changes) (1 + length changes) ≡ c.place
place_here [] c changes =
    let here : (1 + length changes == 1 + length changes) ≡ true =
    eq-eqb (1 + length changes) (1 + length changes) refl in
    ap (λ (b : Bool). if b then c.place else place_at changes (1 + length changes)) here
place_here (d ∷ front) c changes =
    by (1 + length changes == 1 + length (front ++ c ∷ changes)) refl (place_here front c changes) where
      by : (b : Bool) → (1 + length changes == 1 + length (front ++ c ∷ changes)) ≡ b
          → place_at (front ++ c ∷ changes) (1 + length changes) ≡ c.place
          → (if b then d.place else place_at (front ++ c ∷ changes) (1 + length changes)) ≡ c.place
      by true e rest =
          let same : 1 + length changes ≡ 1 + length (front ++ c ∷ changes) =
          eqb-true (1 + length changes) (1 + length (front ++ c ∷ changes)) e in
          let all : length (front ++ c ∷ changes) ≡ length front + length (c ∷ changes) =
          length-append front (c ∷ changes) in
          absurd (omega (arith, same, all))
      by false e rest = rest

placed : (front changes : List Change) → ArePlaced (place_at (front ++ changes)) changes
placed front [] = tt
placed front (c ∷ changes) = (
  place_here front c changes,
  subst (λ (cs : List Change). ArePlaced (place_at cs) changes) (append_assoc front (c ∷ []) changes)
      (placed (front ++ c ∷ []) changes),
)

-- where none is
pub place_none : (changes : List Change) (n : ℕ) → (n ≡ 0) ⊎ (length changes < n) → place_at changes n ≡ 0
place_none [] n h = refl
place_none (c ∷ changes) n h = by (n == 1 + length changes) refl (λ other. place_none changes n other) where
  by : (b : Bool) → (n == 1 + length changes) ≡ b
      → ((n ≡ 0) ⊎ (length changes < n) → place_at changes n ≡ 0)
      → (if b then c.place else place_at changes n) ≡ 0
  by true e rest =
      let same : n ≡ 1 + length changes = eqb-true n (1 + length changes) e in elim h [
        | inl zero ↦ absurd (omega (arith, same, zero))
        | inr past ↦ absurd (omega (arith, same, past))
      ]
  by false e rest = rest (elim h [ inl zero ↦ inl zero | inr past ↦ inr (omega (arith, past)) ])

not_last : (a b : ℕ) → a ≤ suc b → (a ≡ 1 + b → ⊥) → a ≤ b
not_last a b le other = elim (cases_lt b a) [
  | inl past ↦ absurd (other (omega (arith, le, past)))
  | inr fits ↦ fits
]

pub not_zero : (n : ℕ) → (n ≡ 0 → ⊥) → 0 < n
not_zero n other = elim (cases_lt 0 n) [ inl some ↦ some | inr none ↦ absurd (other (omega (arith, none))) ]

pub place_get : (changes : List Change) (n k : ℕ) (c : Change) → 0 < n → n ≤ length changes
    → k ≡ length changes - n → c ≡ get_or changes k c → c.place ≡ place_at changes n
place_get [] n k c some within at read = absurd (omega (arith, some, within))
place_get (d ∷ changes) n k c some within at read =
    by (n == 1 + length changes) refl (λ j less back got. place_get changes n j c some less back got) where
      by : (b : Bool) → (n == 1 + length changes) ≡ b
          → ((j : ℕ) → n ≤ length changes → j ≡ length changes - n → c ≡ get_or changes j c
          → c.place ≡ place_at changes n)
          → c.place ≡ (if b then d.place else place_at changes n)
      by true e rest =
          let same : n ≡ 1 + length changes = eqb-true n (1 + length changes) e in
          let first : k ≡ 0 = omega (arith, at, same) in
          ap (λ (z : Change). z.place) (read ∙ ap (λ (j : ℕ). get_or (d ∷ changes) j c) first)
      by false e rest =
          let less : n ≤ length changes =
          (let other : (n ≡ 1 + length changes → ⊥) =
          (λ same. false≢true (sym e ∙ eq-eqb n (1 + length changes) same)) in
          not_last n (length changes) within other) in
          let later : k ≡ suc (length changes - n) = omega (arith, at, less) in
          rest (length changes - n) less refl (read ∙ ap (λ (j : ℕ). get_or (d ∷ changes) j c) later)

-- ---- as many are left as there are

left_by : (b : Bool) (n m : ℕ) → m ≤ n → (if b then 1 + n else m) ≤ suc n
left_by true n m h = omega arith
left_by false n m h = omega (arith, h)

close_left : (k : Key) (changes : List Change) → first_close k changes ≤ length changes
close_left k [] = omega arith
close_left k (c ∷ changes) =
    left_by (closes_at k c c.turn) (length changes) (first_close k changes) (close_left k changes)

drop_left : (h peer : Host) (changes : List Change) → first_drop h peer changes ≤ length changes
drop_left h peer [] = omega arith
drop_left h peer (c ∷ changes) =
    left_by (drops_at h peer c c.turn) (length changes) (first_drop h peer changes) (drop_left h peer changes)

stop_left : (h : Host) (changes : List Change) → first_stop h changes ≤ length changes
stop_left h [] = omega arith
stop_left h (c ∷ changes) =
    left_by (stops_at h c c.turn) (length changes) (first_stop h changes) (stop_left h changes)

abbrev pub rest_of : Option Begin → ℕ
rest_of None = 0
rest_of (Some b) = b.rest

-- a request that comes before these changes
abbrev pub begin_here : Key → List Change → Option Begin
begin_here k changes = Some (record { rest = 1 + length changes; firsts = firsts_with k changes })

begin_left : (k : Key) (changes : List Change) → rest_of (first_begin k changes) ≤ length changes
begin_left k [] = omega arith
begin_left k (c ∷ changes) = by (asks_at k c c.turn) (begin_left k changes) where
  by : (b : Bool) → rest_of (first_begin k changes) ≤ length changes
      → rest_of (if b then begin_here k changes else first_begin k changes) ≤ length (c ∷ changes)
  by true le = omega arith
  by false le = omega (arith, le)

-- ---- what is over stays so

abbrev paced : Stage → Bool → Pace
paced s e = (s, e)

over_if : (b : Bool) (c : Cause) (n : ℕ) (e : Bool)
    → (if b then paced (Over c n) (e || false) else paced (Over c n) e) ≡ paced (Over c n) e
over_if true c n e = ap (paced (Over c n)) (or-false e)
over_if false c n e = refl

over_turned : (x : Life) (d : Change) (t : Turn) (c : Cause) (n : ℕ) (e : Bool)
    → turned_by x d t (paced (Over c n) e) ≡ paced (Over c n) e
over_turned x d (turn.Asks true own foreign) c n e = same_pace _ (paced (Over c n) e)
over_turned x d (turn.Asks false own foreign) c n e = same_pace _ (paced (Over c n) e)
over_turned x d (turn.Closes true own foreign) c n e = over_if _ c n e
over_turned x d (turn.Closes false own foreign) c n e = over_if _ c n e
over_turned x d turn.Drops c n e = over_if _ c n e
over_turned x d turn.Stops c n e = over_if _ c n e

stays : (x : Life) (changes : List Change) (c : Cause) (n : ℕ) (e : Bool)
    → turned x changes (paced (Over c n) e) ≡ paced (Over c n) e
stays x [] c n e = refl
stays x (d ∷ changes) c n e = ap (turned x changes) (over_turned x d d.turn c n e) ∙ stays x changes c n e

-- ---- a life that continues

-- what comes first of what may end it
abbrev firsts_of : Life → List Change → Firsts
firsts_of x changes = firsts_from x.host x.peer x.socket x.foreign changes

-- how far it comes where these of its CLS have crossed
abbrev going_to : Bool → Bool → Firsts → Reached
going_to false false e = reached_from e
going_to true false e =
    if is_before e.partner e.drop e.stop then reached.Closed true e.partner else cut_from e true false
going_to false true e = if is_before e.own e.drop e.stop then reached.Closed false e.own else cut_from e false true
going_to true true e = reached.Going true true

-- one change more, if a test says that it is about the life
abbrev first_if : Bool → List Change → ℕ → ℕ
first_if b changes n = if b then 1 + length changes else n

before_all : (n drop stop : ℕ) → drop ≤ n → stop ≤ n → is_before (1 + n) drop stop ≡ true
before_all n drop stop d s =
    and_from (nat_lt drop (1 + n)) (nat_lt stop (1 + n)) (lt-ltb drop (1 + n) (omega (arith, d)))
    (lt-ltb stop (1 + n) (omega (arith, s)))

after_drop : (n own stop : ℕ) → own ≤ n → is_before own (1 + n) stop ≡ false
after_drop n own stop o =
    and_left (nat_lt (1 + n) own) (nat_lt stop own) (not_less (1 + n) own (omega (arith, o)))

after_stop : (n own drop : ℕ) → own ≤ n → is_before own drop (1 + n) ≡ false
after_stop n own drop o =
    and_right (nat_lt drop own) (nat_lt (1 + n) own) (not_less (1 + n) own (omega (arith, o)))

module _ (at : ℕ → ℕ) (x : Life) where
  abbrev GoesTo : List Change → Type 0
  GoesTo changes =
      (o p v : Bool) → o && p ≡ false
      → turned x changes (paced (Going o p) v) ≡ paced (stage_of at (going_to o p (firsts_of x changes))) v

  -- a stage and what it is said to be, where nothing else is known of it
  abbrev to_stage : Bool → Reached → Pace
  to_stage v r = paced (stage_of at r) v

  module _ (c : Change) (changes : List Change) (here : at (1 + length changes) ≡ c.place) where
    abbrev e : Firsts
    e = firsts_of x changes

    abbrev n : ℕ
    n = length changes

    own_le : e.own ≤ n
    own_le = close_left (close_key x false) changes

    partner_le : e.partner ≤ n
    partner_le = close_left (close_key x true) changes

    drop_le : e.drop ≤ n
    drop_le = drop_left x.host x.peer changes

    stop_le : e.stop ≤ n
    stop_le = stop_left x.host changes

    -- what is over now
    over_now : (cause : Cause) (v : Bool)
        → turned x changes (paced (Over cause c.place) (v || false)) ≡ paced (Over cause (at (1 + n))) v
    over_now cause v =
        stays x changes cause c.place (v || false) ∙ ap (paced (Over cause c.place)) (or-false v)
        ∙ ap (λ (m : ℕ). paced (Over cause m) v) (sym here)

    first_of_all : is_before (1 + n) e.drop e.stop ≡ true
    first_of_all = before_all n e.drop e.stop drop_le stop_le

    -- its own CLS
    abbrev with_own : Firsts
    with_own = record { own = 1 + n; partner = e.partner; drop = e.drop; stop = e.stop }

    own_second : (b : Bool)
        → (if b then reached.Closed true e.partner else cut_from e true false) ≡ reached_if with_own true b
    own_second true =
        ap (λ (t : Bool). if t then reached.Closed true e.partner else reached.Closed false (1 + n))
        (sym (lt-ltb e.partner (1 + n) (let le : e.partner ≤ n = partner_le in omega (arith, le))))
    own_second false = refl

    own_closes : (o p v b : Bool) → o && p ≡ false → GoesTo changes
        → turned x changes (if b then ended (closed false c.place) (paced (Going o p) v) else paced (Going o p) v)
        ≡ to_stage v
        (going_to o p (record { own = first_if b changes e.own; partner = e.partner; drop = e.drop; stop = e.stop }))
    own_closes o p v false h on = on o p v h
    own_closes true true v true h on = absurd (false≢true (sym h))
    own_closes true false v true h on =
        ap (λ (w : Bool). turned x changes (paced (Going true false) w)) (or-false v) ∙ on true false v refl
    own_closes false false v true h on =
        ap (λ (w : Bool). turned x changes (paced (Going true false) w)) (or-false v) ∙ on true false v refl
        ∙ ap (to_stage v) (own_second (is_before e.partner e.drop e.stop)
        ∙ ap (λ (t : Bool). reached_if with_own t (is_before e.partner e.drop e.stop)) (sym first_of_all))
    own_closes false true v true h on =
        over_now (Closed false) v
        ∙ ap (λ (t : Bool). to_stage v (if t then reached.Closed false (1 + n) else cut_from with_own false true))
        (sym first_of_all)

    -- its partner's
    abbrev with_partner : Firsts
    with_partner = record { own = e.own; partner = 1 + n; drop = e.drop; stop = e.stop }

    partner_second : (b : Bool)
        → (if b then reached.Closed false e.own else cut_from e false true) ≡ reached_if with_partner b true
    partner_second true =
        ap (λ (t : Bool). if t then reached.Closed true (1 + n) else reached.Closed false e.own)
        (sym (not_less (1 + n) e.own (let le : e.own ≤ n = own_le in omega (arith, le))))
    partner_second false = refl

    partner_closes : (o p v b : Bool) → o && p ≡ false → GoesTo changes
        → turned x changes (if b then ended (closed true c.place) (paced (Going o p) v) else paced (Going o p) v)
        ≡ to_stage v
        (going_to o p (record { own = e.own; partner = first_if b changes e.partner; drop = e.drop; stop = e.stop }))
    partner_closes o p v false h on = on o p v h
    partner_closes true true v true h on = absurd (false≢true (sym h))
    partner_closes false true v true h on =
        ap (λ (w : Bool). turned x changes (paced (Going false true) w)) (or-false v) ∙ on false true v refl
    partner_closes false false v true h on =
        ap (λ (w : Bool). turned x changes (paced (Going false true) w)) (or-false v) ∙ on false true v refl
        ∙ ap (to_stage v) (partner_second (is_before e.own e.drop e.stop)
        ∙ ap (λ (t : Bool). reached_if with_partner (is_before e.own e.drop e.stop) t) (sym first_of_all))
    partner_closes true false v true h on =
        over_now (Closed true) v
        ∙ ap (λ (t : Bool). to_stage v (if t then reached.Closed true (1 + n) else cut_from with_partner true false))
        (sym first_of_all)

    -- its connections are dropped, or its host stops: neither CLS that is left comes before that
    cut_now : (f : Firsts) (r : Reached) → is_before f.own f.drop f.stop ≡ false
        → is_before f.partner f.drop f.stop ≡ false → ((a b : Bool) → cut_from f a b ≡ r) → (o p : Bool)
        → o && p ≡ false → going_to o p f ≡ r
    cut_now f r own partner is true true h = absurd (false≢true (sym h))
    cut_now f r own partner is true false h =
        ap (λ (t : Bool). if t then reached.Closed true f.partner else cut_from f true false) partner ∙ is true false
    cut_now f r own partner is false true h =
        ap (λ (t : Bool). if t then reached.Closed false f.own else cut_from f false true) own ∙ is false true
    cut_now f r own partner is false false h = ap₂ (reached_if f) own partner ∙ is false false

    abbrev with_drop : Firsts
    with_drop = record { own = e.own; partner = e.partner; drop = 1 + n; stop = e.stop }

    drops : (o p v b : Bool) → o && p ≡ false → GoesTo changes
        → turned x changes (if b then ended (cut Dropped c.place) (paced (Going o p) v) else paced (Going o p) v)
        ≡ to_stage v
        (going_to o p (record { own = e.own; partner = e.partner; drop = first_if b changes e.drop; stop = e.stop }))
    drops o p v false h on = on o p v h
    drops o p v true h on =
        over_now Dropped v
        ∙ ap (to_stage v) (sym (cut_now with_drop (reached.Dropped (1 + n)) (after_drop n e.own e.stop own_le)
        (after_drop n e.partner e.stop partner_le)
        (λ a b. ap (λ (t : Bool). if t then reached.Dropped (1 + n) else
        (if nat_lt 0 e.stop then reached.Stopped e.stop else reached.Going a b))
        (lt-ltb e.stop (1 + n) (let le : e.stop ≤ n = stop_le in omega (arith, le)))) o p h))

    abbrev with_stop : Firsts
    with_stop = record { own = e.own; partner = e.partner; drop = e.drop; stop = 1 + n }

    stops : (o p v b : Bool) → o && p ≡ false → GoesTo changes
        → turned x changes (if b then ended (cut Stopped c.place) (paced (Going o p) v) else paced (Going o p) v)
        ≡ to_stage v
        (going_to o p (record { own = e.own; partner = e.partner; drop = e.drop; stop = first_if b changes e.stop }))
    stops o p v false h on = on o p v h
    stops o p v true h on =
        over_now Stopped v
        ∙ ap (to_stage v) (sym (cut_now with_stop (reached.Stopped (1 + n)) (after_stop n e.own e.drop own_le)
        (after_stop n e.partner e.drop partner_le)
        (λ a b. ap (λ (t : Bool). if t then reached.Dropped e.drop else
        (if nat_lt 0 (1 + n) then reached.Stopped (1 + n) else reached.Going a b))
        (not_less (1 + n) e.drop (let le : e.drop ≤ n = drop_le in omega (arith, le)))
        ∙ ap (λ (t : Bool). if t then reached.Stopped (1 + n) else reached.Going a b)
        (lt-ltb 0 (1 + n) (omega arith))) o p h))

    -- with one change more, of which it is said what it is
    abbrev firsts_next : Turn → Firsts
    firsts_next t = record {
      own = first_if (closes_at (close_key x false) c t) changes e.own;
      partner = first_if (closes_at (close_key x true) c t) changes e.partner;
      drop = first_if (drops_at x.host x.peer c t) changes e.drop;
      stop = first_if (stops_at x.host c t) changes e.stop;
    }

    going_one : (t : Turn) (o p v : Bool) → o && p ≡ false → GoesTo changes
        → turned x changes (turned_by x c t (paced (Going o p) v)) ≡ to_stage v (going_to o p (firsts_next t))
    going_one (turn.Asks true own foreign) o p v h on =
        ap (turned x changes) (same_pace _ (paced (Going o p) v)) ∙ on o p v h
    going_one (turn.Asks false own foreign) o p v h on =
        ap (turned x changes) (same_pace _ (paced (Going o p) v)) ∙ on o p v h
    going_one (turn.Closes true own foreign) o p v h on =
        partner_closes o p v (same_key (close_key x true) (key 0 c.host c.peer true own foreign)) h on
    going_one (turn.Closes false own foreign) o p v h on =
        own_closes o p v (same_key (close_key x false) (key 0 c.host c.peer false own foreign)) h on
    going_one turn.Drops o p v h on = drops o p v (same_host x.host c.host && same_host x.peer c.peer) h on
    going_one turn.Stops o p v h on = stops o p v (same_host x.host c.host) h on

  going : (changes : List Change) → ArePlaced at changes → GoesTo changes
  going [] h true true v off = absurd (false≢true (sym off))
  going [] h true false v off = refl
  going [] h false true v off = refl
  going [] h false false v off = refl
  going (c ∷ changes) h o p v off = going_one c changes h.0 c.turn o p v off (going changes h.1)

  -- ---- a life of which one request has crossed

  begun_stage : (v : Bool) (r : Reached) → begun_of (to_stage v r) ≡ Some (to_stage v r)
  begun_stage v (reached.Going own partner) = refl
  begun_stage v (reached.Dropped rest) = refl
  begun_stage v (reached.Stopped rest) = refl
  begun_stage v (reached.Closed own_first rest) = refl

  -- its own, while its partner's is awaited, or the other way round
  abbrev half : Bool → Stage
  half true = Asking true false
  half false = Asking false true

  -- where the other comes it begins, too early if what ends lives had come
  abbrev waited : Bool → Firsts → Option Begin → Option Pace
  waited v e None = None
  waited v e (Some b) = Some (to_stage (v || ends_before b.rest e) (reached_from b.firsts))

  abbrev Awaits : Bool → List Change → Type 0
  Awaits comes changes =
      (v : Bool) → begun_of (turned x changes (paced (half comes) v))
      ≡ waited v (firsts_of x changes) (first_begin (ask_key x comes) changes)

  module _ (c : Change) (changes : List Change) where
    none_ends : ends_before (1 + length changes) (firsts_of x changes) ≡ false
    none_ends =
        let own : nat_lt (1 + length changes) (first_close (close_key x false) changes) ≡ false =
        not_less (1 + length changes) (first_close (close_key x false) changes)
        (let le = close_left (close_key x false) changes in omega (arith, le)) in
        let partner : nat_lt (1 + length changes) (first_close (close_key x true) changes) ≡ false =
        not_less (1 + length changes) (first_close (close_key x true) changes)
        (let le = close_left (close_key x true) changes in omega (arith, le)) in
        let drop : nat_lt (1 + length changes) (first_drop x.host x.peer changes) ≡ false =
        not_less (1 + length changes) (first_drop x.host x.peer changes)
        (let le = drop_left x.host x.peer changes in omega (arith, le)) in
        let stop : nat_lt (1 + length changes) (first_stop x.host changes) ≡ false =
        not_less (1 + length changes) (first_stop x.host changes)
        (let le = stop_left x.host changes in omega (arith, le)) in
        ap (λ (t : Bool). t || (nat_lt (1 + length changes) (first_close (close_key x true) changes)
        || (nat_lt (1 + length changes) (first_drop x.host x.peer changes)
        || nat_lt (1 + length changes) (first_stop x.host changes)))) own
        ∙ ap (λ (t : Bool). t || (nat_lt (1 + length changes) (first_drop x.host x.peer changes)
        || nat_lt (1 + length changes) (first_stop x.host changes))) partner
        ∙ ap (λ (t : Bool). t || nat_lt (1 + length changes) (first_stop x.host changes)) drop ∙ stop

    -- the other request, if a test says so
    begins_now : (comes b v : Bool) → ArePlaced at changes → Awaits comes changes
        → firsts_with (ask_key x comes) changes ≡ firsts_of x changes
        → begun_of (turned x changes (if b then paced (Going false false) v else paced (half comes) v))
        ≡ waited v (firsts_of x changes)
        (if b then begin_here (ask_key x comes) changes else first_begin (ask_key x comes) changes)
    begins_now comes false v h on is = on v
    begins_now comes true v h on is =
        ap begun_of (going changes h false false v refl) ∙ begun_stage v (reached_from (firsts_of x changes))
        ∙ ap (λ (f : Firsts). Some (to_stage v (reached_from f))) (sym is)
        ∙ ap (λ (w : Bool). Some (to_stage w (reached_from (firsts_with (ask_key x comes) changes))))
        (sym (ap (λ (w : Bool). v || w) none_ends ∙ or-false v))

    -- what ends it, if a test says so
    ends_now : (comes b v : Bool) (e : Firsts) → Awaits comes changes
        → ((rest : ℕ) → rest ≤ length changes → ends_before rest e ≡ true)
        → begun_of (turned x changes (if b then paced (half comes) (v || true) else paced (half comes) v))
        ≡ waited v (if b then e else firsts_of x changes) (first_begin (ask_key x comes) changes)
    ends_now comes false v e on ends = on v
    ends_now comes true v e on ends =
        ap (λ (w : Bool). begun_of (turned x changes (paced (half comes) w))) (or_right v true refl) ∙ on true
        ∙ by (first_begin (ask_key x comes) changes) (begin_left (ask_key x comes) changes) where
          by : (o : Option Begin) → rest_of o ≤ length changes → waited true (firsts_of x changes) o ≡ waited v e o
          by None le = refl
          by (Some b) le =
              ap (λ (w : Bool). Some (to_stage w (reached_from b.firsts)))
              (sym (or_right v (ends_before b.rest e) (ends b.rest le)))

    abbrev firsts_by : Turn → Firsts
    firsts_by t = record {
      own = first_if (closes_at (close_key x false) c t) changes (first_close (close_key x false) changes);
      partner = first_if (closes_at (close_key x true) c t) changes (first_close (close_key x true) changes);
      drop = first_if (drops_at x.host x.peer c t) changes (first_drop x.host x.peer changes);
      stop = first_if (stops_at x.host c t) changes (first_stop x.host changes);
    }

    abbrev begin_with : Key → Turn → Option Begin
    begin_with k t = if asks_at k c t then begin_here k changes else first_begin k changes

    less_all : (rest : ℕ) → rest ≤ length changes → nat_lt rest (1 + length changes) ≡ true
    less_all rest le = lt-ltb rest (1 + length changes) (omega (arith, le))

    own_ends : (comes b v : Bool) → Awaits comes changes
        → begun_of (turned x changes (if b then paced (half comes) (v || true) else paced (half comes) v))
        ≡ waited v (record {
          own = first_if b changes (firsts_of x changes).own;
          partner = (firsts_of x changes).partner;
          drop = (firsts_of x changes).drop;
          stop = (firsts_of x changes).stop;
        }) (first_begin (ask_key x comes) changes)
    own_ends comes false v on = on v
    own_ends comes true v on =
        ends_now comes true v (record {
          own = 1 + length changes;
          partner = (firsts_of x changes).partner;
          drop = (firsts_of x changes).drop;
          stop = (firsts_of x changes).stop;
        }) on (λ rest le. ap (λ (t : Bool). t || (nat_lt rest (firsts_of x changes).partner
        || (nat_lt rest (firsts_of x changes).drop || nat_lt rest (firsts_of x changes).stop))) (less_all rest le))

    partner_ends : (comes b v : Bool) → Awaits comes changes
        → begun_of (turned x changes (if b then paced (half comes) (v || true) else paced (half comes) v))
        ≡ waited v (record {
          own = (firsts_of x changes).own;
          partner = first_if b changes (firsts_of x changes).partner;
          drop = (firsts_of x changes).drop;
          stop = (firsts_of x changes).stop;
        }) (first_begin (ask_key x comes) changes)
    partner_ends comes false v on = on v
    partner_ends comes true v on =
        ends_now comes true v (record {
          own = (firsts_of x changes).own;
          partner = 1 + length changes;
          drop = (firsts_of x changes).drop;
          stop = (firsts_of x changes).stop;
        }) on (λ rest le. or_right (nat_lt rest (firsts_of x changes).own) _
        (ap (λ (t : Bool). t || (nat_lt rest (firsts_of x changes).drop || nat_lt rest (firsts_of x changes).stop))
        (less_all rest le)))

    drop_ends : (comes b v : Bool) → Awaits comes changes
        → begun_of (turned x changes (if b then paced (half comes) (v || true) else paced (half comes) v))
        ≡ waited v (record {
          own = (firsts_of x changes).own;
          partner = (firsts_of x changes).partner;
          drop = first_if b changes (firsts_of x changes).drop;
          stop = (firsts_of x changes).stop;
        }) (first_begin (ask_key x comes) changes)
    drop_ends comes false v on = on v
    drop_ends comes true v on =
        ends_now comes true v (record {
          own = (firsts_of x changes).own;
          partner = (firsts_of x changes).partner;
          drop = 1 + length changes;
          stop = (firsts_of x changes).stop;
        }) on (λ rest le. or_right (nat_lt rest (firsts_of x changes).own) _
        (or_right (nat_lt rest (firsts_of x changes).partner) _
        (ap (λ (t : Bool). t || nat_lt rest (firsts_of x changes).stop) (less_all rest le))))

    stop_ends : (comes b v : Bool) → Awaits comes changes
        → begun_of (turned x changes (if b then paced (half comes) (v || true) else paced (half comes) v))
        ≡ waited v (record {
          own = (firsts_of x changes).own;
          partner = (firsts_of x changes).partner;
          drop = (firsts_of x changes).drop;
          stop = first_if b changes (firsts_of x changes).stop;
        }) (first_begin (ask_key x comes) changes)
    stop_ends comes false v on = on v
    stop_ends comes true v on =
        ends_now comes true v (record {
          own = (firsts_of x changes).own;
          partner = (firsts_of x changes).partner;
          drop = (firsts_of x changes).drop;
          stop = 1 + length changes;
        }) on (λ rest le. or_right (nat_lt rest (firsts_of x changes).own) _
        (or_right (nat_lt rest (firsts_of x changes).partner) _
        (or_right (nat_lt rest (firsts_of x changes).drop) _ (less_all rest le))))

    own_first : (t : Turn) (v : Bool) → ArePlaced at changes → Awaits true changes
        → begun_of (turned x changes (turned_by x c t (paced (Asking true false) v)))
        ≡ waited v (firsts_by t) (begin_with (ask_key x true) t)
    own_first (turn.Asks true own foreign) v h on =
        begins_now true (same_key (ask_key x true) (key c.place c.host c.peer true own foreign)) v h on refl
    own_first (turn.Asks false own foreign) v h on =
        ap (λ (s : Pace). begun_of (turned x changes s)) (same_pace _ (paced (Asking true false) v)) ∙ on v
    own_first (turn.Closes true own foreign) v h on =
        partner_ends true (same_key (close_key x true) (key 0 c.host c.peer true own foreign)) v on
    own_first (turn.Closes false own foreign) v h on =
        own_ends true (same_key (close_key x false) (key 0 c.host c.peer false own foreign)) v on
    own_first turn.Drops v h on = drop_ends true (same_host x.host c.host && same_host x.peer c.peer) v on
    own_first turn.Stops v h on = stop_ends true (same_host x.host c.host) v on

    partner_first : (t : Turn) (v : Bool) → ArePlaced at changes → Awaits false changes
        → begun_of (turned x changes (turned_by x c t (paced (Asking false true) v)))
        ≡ waited v (firsts_by t) (begin_with (ask_key x false) t)
    partner_first (turn.Asks false own foreign) v h on =
        begins_now false (same_key (ask_key x false) (key c.place c.host c.peer false own foreign)) v h on refl
    partner_first (turn.Asks true own foreign) v h on =
        ap (λ (s : Pace). begun_of (turned x changes s)) (same_pace _ (paced (Asking false true) v)) ∙ on v
    partner_first (turn.Closes true own foreign) v h on =
        partner_ends false (same_key (close_key x true) (key 0 c.host c.peer true own foreign)) v on
    partner_first (turn.Closes false own foreign) v h on =
        own_ends false (same_key (close_key x false) (key 0 c.host c.peer false own foreign)) v on
    partner_first turn.Drops v h on = drop_ends false (same_host x.host c.host && same_host x.peer c.peer) v on
    partner_first turn.Stops v h on = stop_ends false (same_host x.host c.host) v on

  awaits : (comes : Bool) (changes : List Change) → ArePlaced at changes → Awaits comes changes
  awaits true [] h v = refl
  awaits false [] h v = refl
  awaits true (c ∷ changes) h v = own_first c changes c.turn v h.1 (awaits true changes h.1)
  awaits false (c ∷ changes) h v = partner_first c changes c.turn v h.1 (awaits false changes h.1)

  -- ---- a life none of whose requests has crossed

  abbrev known_pace : Option Begin → Option Begin → Option Pace
  known_pace own partner = option_map (pace_at at) (known_by own partner)

  abbrev IsBegun : List Change → Type 0
  IsBegun changes =
      begun_of (turned x changes (paced (Asking false false) false))
      ≡ known_pace (first_begin (ask_key x false) changes) (first_begin (ask_key x true) changes)

  -- the request that crossed first has more changes left with it than the other
  own_earlier : (n : ℕ) (e : Firsts) (p : Option Begin) → rest_of p ≤ n
      → waited false e p ≡ known_pace (Some (record { rest = 1 + n; firsts = e })) p
  own_earlier n e None h = refl
  own_earlier n e (Some b) h =
      let a : Begin = record { rest = 1 + n; firsts = e } in
      ap (λ (t : Bool). Some (pace_at at (if t then known_two b a else known_two a b)))
      (sym (not_less (1 + n) b.rest (omega (arith, h))))

  partner_earlier : (n : ℕ) (e : Firsts) (o : Option Begin) → rest_of o ≤ n
      → waited false e o ≡ known_pace o (Some (record { rest = 1 + n; firsts = e }))
  partner_earlier n e None h = refl
  partner_earlier n e (Some a) h =
      let b : Begin = record { rest = 1 + n; firsts = e } in
      ap (λ (t : Bool). Some (pace_at at (if t then known_two b a else known_two a b)))
      (sym (lt-ltb a.rest (1 + n) (omega (arith, h))))

  module _ (c : Change) (changes : List Change) (h : ArePlaced at changes) where
    own_comes : (b : Bool) → IsBegun changes
        → begun_of (turned x changes (if b then paced (Asking true false) false else paced (Asking false false) false))
        ≡ known_pace (if b then begin_here (ask_key x false) changes else first_begin (ask_key x false) changes)
        (first_begin (ask_key x true) changes)
    own_comes true on =
        awaits true changes h false
        ∙ own_earlier (length changes) (firsts_of x changes) (first_begin (ask_key x true) changes)
        (begin_left (ask_key x true) changes)
    own_comes false on = on

    partner_comes : (b : Bool) → IsBegun changes
        → begun_of (turned x changes (if b then paced (Asking false true) false else paced (Asking false false) false))
        ≡ known_pace (first_begin (ask_key x false) changes)
        (if b then begin_here (ask_key x true) changes else first_begin (ask_key x true) changes)
    partner_comes true on =
        awaits false changes h false
        ∙ partner_earlier (length changes) (firsts_of x changes) (first_begin (ask_key x false) changes)
        (begin_left (ask_key x false) changes)
    partner_comes false on = on

    idle : (b : Bool) → IsBegun changes
        → begun_of (turned x changes (if b then paced (Asking false false) false else paced (Asking false false) false))
        ≡ known_pace (first_begin (ask_key x false) changes) (first_begin (ask_key x true) changes)
    idle b on =
        ap (λ (s : Pace). begun_of (turned x changes s)) (same_pace b (paced (Asking false false) false)) ∙ on

    one_begins : (t : Turn) → IsBegun changes
        → begun_of (turned x changes (turned_by x c t (paced (Asking false false) false)))
        ≡ known_pace (if asks_at (ask_key x false) c t then begin_here (ask_key x false) changes else first_begin
        (ask_key x false) changes)
        (if asks_at (ask_key x true) c t then begin_here (ask_key x true) changes else first_begin (ask_key x true)
        changes)
    one_begins (turn.Asks true own foreign) on =
        partner_comes (same_key (ask_key x true) (key c.place c.host c.peer true own foreign)) on
    one_begins (turn.Asks false own foreign) on =
        own_comes (same_key (ask_key x false) (key c.place c.host c.peer false own foreign)) on
    one_begins (turn.Closes true own foreign) on = idle _ on
    one_begins (turn.Closes false own foreign) on = idle _ on
    one_begins turn.Drops on = idle _ on
    one_begins turn.Stops on = idle _ on

  begun : (changes : List Change) → ArePlaced at changes → IsBegun changes
  begun [] h = refl
  begun (c ∷ changes) h = one_begins c changes h.1 c.turn (begun changes h.1)

-- so what is known of a life's two requests is what is known after deeds
pub pace_by_begins : (x : Life) (deeds : List Deed)
    → option_map (pace_at (place_at (changes_in owes_never deeds)))
    (known_by (first_begin (ask_key x false) (changes_in owes_never deeds))
    (first_begin (ask_key x true) (changes_in owes_never deeds)))
    ≡ begun_of (pace_of (after x deeds opening))
pace_by_begins x deeds =
    sym (begun (place_at (changes_in owes_never deeds)) x (changes_in owes_never deeds)
    (placed [] (changes_in owes_never deeds)))
    ∙ ap begun_of (changes_same x deeds owes_never opening refl)

module _ (x : Life) (deeds : List Deed) (cs : Courses) (are : AreCourses deeds cs) where
  ahead : IsAhead (changes_in owes_never deeds) cs.ahead
  ahead = subst (λ (changes : List Change). IsAhead changes cs.ahead) are.0 are.1

  pub known_after : (own partner : Option Begin) (known : Option Known) → own ≡ begin_at cs.ahead (ask_key x false)
      → partner ≡ begin_at cs.ahead (ask_key x true) → known ≡ known_by own partner
      → IsKnown deeds x known
  known_after own partner known e f g =
      ap (λ (o : Option Known). option_map (pace_at (place_at (changes_in owes_never deeds))) o)
      (g ∙ ap₂ known_by (e ∙ ahead.begins (ask_key x false)) (f ∙ ahead.begins (ask_key x true)))
      ∙ pace_by_begins x deeds

  pub end_known : (all end : ℕ) (known : Option Known) (changes : List Change) → changes ≡ cs.changes.items
      → end ≡ end_by all (option_map (pace_at (place_at changes)) known)
      → IsKnown deeds x known → end ≡ end_after all deeds x
  end_known all end known changes same e g =
      e
      ∙ ap (λ (ds : List Change). end_by all (option_map (pace_at (place_at ds)) known)) (same ∙ are.0)
      ∙ ap (end_by all) g

-- the search
pub courses_known : (log : List Crossing) (deeds : List Deed) (changes items : List Change) (a : Ahead)
    → deeds ≡ deeds_in (reverse log) → items ≡ changes_in owes_never deeds → changes ≡ items → IsAhead changes a
    → (items ≡ changes_in owes_never (deeds_in (reverse log))) × IsAhead items a
courses_known log deeds changes items a e g same h =
    (g ∙ ap (changes_in owes_never) e, subst (λ (ds : List Change). IsAhead ds a) same h)
