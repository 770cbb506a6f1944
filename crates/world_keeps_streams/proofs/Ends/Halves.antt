-- Before a life begins: while only one of its requests is there, its stage is that of this one, and no CLS, reset or
-- stop has come since. And one that has begun, or is over, stays so.
use Rattle.world_keeps_streams.proofs.Common.{◌≡◌, inl, inr, ℕ, ◌+◌, ◌<◌, ◌≤◌, ◌==◌, ◌&&◌, ◌||◌, not, Bool, true, false, if◌then◌else◌, List, [], ◌∷◌, Some, refl, ap, sym, subst, ◌∙◌, arith, same_host, Legal, Order, Wrong, orders_of, Command, both, Mark, Asked, Crossed, Moment, places, control_flow, none_some, Network}
use Rattle.std.proofs.lemmas.Bool.{eqb-true, or_from}
use Rattle.pairing_law.specs.Ends.{End, nothing}
use Rattle.promise.specs.Ends.{Asking, Cause, Course, Dropped, Going, Over, Stage, Stopped, cut, each, ended_by, fails, heard, own_asked, own_closed, own_step, partner_asked, partner_closed, partner_step, said, asks_for, closes, is_half}
use Rattle.host_keeps_pairing.specs.Words.{all_gone, all_taken}
use Rattle.interface.specs.Mailboxes.{same_flow}
use Rattle.interface.specs.declared.crossing.Crossing.TheVariants as crossing
use Rattle.ncp_control.specs.declared.command.Command.TheVariants as command
use Rattle.sockets.specs.declared.request.Request.TheVariants as request
use Rattle.promise.specs.declared.life.Life.{Life}
use Rattle.world_keeps_streams.proofs.Ends.Courses.{contacted_if, course_in, moved}
use Rattle.world_keeps_streams.proofs.Ends.Kinds.{ItDrops, ItHears, ItIdles, ItSays, ItStays, ItStops, Kind, Pace, end_of, pace, stage_of}
use Rattle.world_keeps_streams.proofs.Ends.MarkedEnds.{asked_heard, heard_from, heard_gone, heard_open, heard_still, heard_taken, own_first, own_stays, own_unclosed, partner_first, partner_said, partner_stays, partner_unclosed, said_from, said_gone, said_none, said_open, said_taken}
use Rattle.world_keeps_streams.proofs.Ends.Marks.{NoClose, begun_own, begun_own_closed, begun_partner, begun_partner_closed, is_asking, not_half, own_early, own_marks, partner_early, partner_marks}
use Rattle.world_keeps_streams.proofs.Requests.Sides.{Lawful, below}

-- ---- what each step keeps

module _ (x : Life) (place : ℕ) (P : Course → Type 0) where
  record Closed : Type 0 where
    own : place ≡ x.own_stamp → (k : Course) → P k → P (record k { stage = own_asked k.stage })
    partner : place ≡ x.partner_stamp → (k : Course) → P k → P (record k { stage = partner_asked k.stage })
    own_close : (k : Course) → P k → P (ended_by (own_closed place) k)
    partner_close : (k : Course) → P k → P (ended_by (partner_closed place) k)
    cuts : (c : Cause) (k : Course) → P k → P (ended_by (cut c place) k)
    owed : (v : Bool) (k : Course) → P k → P (record k { owes = v })

  module _ (closed : Closed) where
    own_keeps : (c : Command) (k : Course) → P k → P (own_step x place c k)
    own_keeps c k h = by (asks_for x.socket x.foreign c && place == x.own_stamp) (closes x.socket x.foreign c) refl where
      by : (v w : Bool) → (asks_for x.socket x.foreign c && place == x.own_stamp) ≡ v
          → P (if v then record k { stage = own_asked k.stage } else (if w then ended_by (own_closed place) k else k))
      by true w e =
          closed.own (eqb-true place x.own_stamp (both (asks_for x.socket x.foreign c) (place == x.own_stamp) e).1) k h
      by false true e = closed.own_close k h
      by false false e = h

    partner_keeps : (c : Command) (k : Course) → P k → P (partner_step x place c k)
    partner_keeps c k h = by (asks_for x.foreign x.socket c && place == x.partner_stamp) (closes x.foreign x.socket c) refl where
      by : (v w : Bool) → (asks_for x.foreign x.socket c && place == x.partner_stamp) ≡ v
          → P (if v then record k { stage = partner_asked k.stage } else
          (if w then ended_by (partner_closed place) k else k))
      by true w e =
          closed.partner (eqb-true place x.partner_stamp (both (asks_for x.foreign x.socket c)
          (place == x.partner_stamp) e).1) k h
      by false true e = closed.partner_close k h
      by false false e = h

    said_keeps : (c : Command) (k : Course) → P k → P (said x place c k)
    said_keeps command.Rst k h = closed.cuts Dropped k h
    said_keeps command.Rrp k h =
        closed.owed false (if k.owes then k else ended_by (cut Dropped place) k) (by k.owes) where
          by : (v : Bool) → P (if v then k else ended_by (cut Dropped place) k)
          by true = h
          by false = closed.cuts Dropped k h
    said_keeps c k h = own_keeps c k h

    heard_keeps : (c : Command) (k : Course) → P k → P (heard x place c k)
    heard_keeps command.Rst k h = closed.owed true (ended_by (cut Dropped place) k) (closed.cuts Dropped k h)
    heard_keeps c k h = partner_keeps c k h

    each_keeps : (step : Command → Course → Course) → ((c : Command) (k : Course) → P k → P (step c k))
        → (os : List Order) (k : Course) → P k → P (each step os k)
    each_keeps step keeps [] k h = h
    each_keeps step keeps (Legal c ∷ os) k h = each_keeps step keeps os (step c k) (keeps c k h)
    each_keeps step keeps (Wrong code octets ∷ os) k h = each_keeps step keeps os k h

    if_keeps : (v : Bool) (j k : Course) → P j → P k → P (if v then j else k)
    if_keeps true j k a b = a
    if_keeps false j k a b = b

    moved_keeps : (y : Moment) (k : Course) → P k → P (moved x place y k)
    moved_keeps (Crossed (crossing.Out m)) k h = if_keeps (same_flow (control_flow x.host x.peer) m.flow) (each (said x place) (orders_of m.text) k) k (each_keeps (said x place) said_keeps (orders_of m.text) k h) h
    moved_keeps (Crossed (crossing.In m)) k h = if_keeps (same_flow (control_flow x.peer x.host) m.flow) (each (heard x place) (orders_of m.text) k) k (each_keeps (heard x place) heard_keeps (orders_of m.text) k h) h
    moved_keeps (Crossed (crossing.Answer kind f)) k h =
        if_keeps (fails kind && (same_host x.host f.source && same_host x.peer f.destination) && not k.owes)
        (ended_by (cut Dropped place) k) k (closed.cuts Dropped k h) h
    moved_keeps (Crossed (crossing.Down g)) k h =
        if_keeps (same_host x.host g) (record (ended_by (cut Stopped place) k) { owes = false }) k
        (closed.owed false (ended_by (cut Stopped place) k) (closed.cuts Stopped k h)) h
    moved_keeps (Crossed (crossing.Up g)) k h =
        if_keeps (same_host x.host g) (record k { owes = false }) k (closed.owed false k h) h
    moved_keeps (Asked g (request.Contact peer)) k h =
        if_keeps (same_host x.host g && same_host x.peer peer) (ended_by (cut Dropped place) k) k
        (closed.cuts Dropped k h) h
    moved_keeps (Asked g r) k h = h

-- ---- what is over stays so

pub over_stays : (x : Life) (y : Moment) (ms : List Moment) (c : Cause) (n : ℕ) → stage_of x ms ≡ Over c n → stage_of x (y ∷ ms) ≡ Over c n
over_stays x y ms c n is =
    moved_keeps x (places ms) (λ (k : Course). k.stage ≡ Over c n) (record {
      own = λ e k i. ap own_asked i;
      partner = λ e k i. ap partner_asked i;
      own_close = λ k i. ap (own_closed (places ms)) i;
      partner_close = λ k i. ap (partner_closed _) i;
      cuts = λ d k i. ap (cut d _) i;
      owed = λ v k i. i;
    }) y _ is

-- ---- and what has begun was early if it was so when it began

begun_cut : (c : Cause) (place : ℕ) (s : Stage) → is_asking s ≡ false → is_asking (cut c place s) ≡ false
begun_cut c place (Asking o p) g = g
begun_cut c place (Going o p) g = refl
begun_cut c place (Over d n) g = refl

abbrev Begun : Course → Type 0
Begun k = (is_asking k.stage ≡ false) × (k.early ≡ false)

pub begun_stays : (x : Life) (y : Moment) (ms : List Moment) → is_asking (stage_of x ms) ≡ false
    → (course_in x ms).early ≡ false → (course_in x (y ∷ ms)).early ≡ false
begun_stays x y ms begun early = (moved_keeps x (places ms) Begun closed y _ (begun, early)).1 where
  closed : Closed x (places ms) Begun
  closed = record {
    own = λ e k b. (begun_own x (places ms) true k.stage b.0, b.1);
    partner = λ e k b. (begun_partner x (places ms) true k.stage b.0, b.1);
    own_close =
        λ k b. (
          begun_own_closed x (places ms) k.stage b.0,
          or_from k.early (is_half k.stage) b.1
              (not_half k.stage b.0),
        );
    partner_close =
        λ k b. (
          begun_partner_closed x (places ms) k.stage b.0,
          or_from k.early (is_half k.stage) b.1
              (not_half k.stage b.0),
        );
    cuts =
        λ c k b. (begun_cut c _ k.stage b.0, or_from k.early (is_half k.stage) b.1 (not_half k.stage b.0));
    owed = λ v k b. b;
  }

-- ---- and one that has just ended did so here

-- if it is over, it is so at this place
abbrev IsAt : ℕ → Stage → Type 0
IsAt place (Over c n) = n ≡ place
IsAt place s = Unit {0}

own_asked_at : (place : ℕ) (s : Stage) → IsAt place s → IsAt place (own_asked s)
own_asked_at place (Asking o true) at = tt
own_asked_at place (Asking o false) at = tt
own_asked_at place (Going o p) at = tt
own_asked_at place (Over c n) at = at

partner_asked_at : (place : ℕ) (s : Stage) → IsAt place s → IsAt place (partner_asked s)
partner_asked_at place (Asking true p) at = tt
partner_asked_at place (Asking false p) at = tt
partner_asked_at place (Going o p) at = tt
partner_asked_at place (Over c n) at = at

own_closed_at : (place : ℕ) (s : Stage) → IsAt place s → IsAt place (own_closed place s)
own_closed_at place (Asking o p) at = tt
own_closed_at place (Going o true) at = refl
own_closed_at place (Going o false) at = tt
own_closed_at place (Over c n) at = at

partner_closed_at : (place : ℕ) (s : Stage) → IsAt place s → IsAt place (partner_closed place s)
partner_closed_at place (Asking o p) at = tt
partner_closed_at place (Going true p) at = refl
partner_closed_at place (Going false p) at = tt
partner_closed_at place (Over c n) at = at

cut_at : (c : Cause) (place : ℕ) (s : Stage) → IsAt place s → IsAt place (cut c place s)
cut_at c place (Asking o p) at = tt
cut_at c place (Going o p) at = refl
cut_at c place (Over d n) at = at

pub over_here : (x : Life) (y : Moment) (ms : List Moment) (o p : Bool) (c : Cause) (n : ℕ)
    → stage_of x ms ≡ Going o p → stage_of x (y ∷ ms) ≡ Over c n → n ≡ places ms
over_here x y ms o p c n was now = subst (IsAt (places ms)) now
    (moved_keeps x (places ms) (λ (k : Course). IsAt (places ms) k.stage) (record {
      own = λ e k at. own_asked_at (places ms) k.stage at;
      partner = λ e k at. partner_asked_at (places ms) k.stage at;
      own_close = λ k at. own_closed_at (places ms) k.stage at;
      partner_close = λ k at. partner_closed_at (places ms) k.stage at;
      cuts = λ d k at. cut_at d (places ms) k.stage at;
      owed = λ v k at. at;
    }) y _ (subst (IsAt (places ms)) (sym was) tt))

-- ---- places

pub places_next : (y : Moment) (ms : List Moment) → places ms ≤ places (y ∷ ms)
places_next (Crossed c) ms = omega arith
places_next (Asked h r) ms = omega arith

-- ---- neither request is there

module _ (x : Life) where
  abbrev Unasked : Course → Type 0
  Unasked k = (k.stage ≡ Asking false false) × (k.early ≡ false)

  pub unasked : (ms : List Moment) → places ms ≤ x.own_stamp → places ms ≤ x.partner_stamp
      → (stage_of x ms ≡ Asking false false) × ((course_in x ms).early ≡ false)
  unasked [] own partner = (refl, refl)
  unasked (y ∷ ms) own partner =
      by y own partner
      (unasked ms (let n : places ms ≤ places (y ∷ ms) = places_next y ms in omega (arith, n, own))
      (let n : places ms ≤ places (y ∷ ms) = places_next y ms in omega (arith, n, partner))) where
        ends : (change : Stage → Stage) → change (Asking false false) ≡ Asking false false → (k : Course) → Unasked k
            → Unasked (ended_by change k)
        ends change same k u = (ap change u.0 ∙ same, or_from k.early (is_half k.stage) u.1 (ap is_half u.0))

        closed : 1 + places ms ≤ x.own_stamp → 1 + places ms ≤ x.partner_stamp → Closed x (places ms) Unasked
        closed own partner = record {
          own = λ e k u. absurd (omega (arith, own, e));
          partner = λ e k u. absurd (omega (arith, partner, e));
          own_close = λ k u. ends (own_closed (places ms)) refl k u;
          partner_close = λ k u. ends (partner_closed _) refl k u;
          cuts = λ c k u. ends (cut c _) refl k u;
          owed = λ v k u. u;
        }

        contact : (v : Bool) (k : Course) → Unasked k → Unasked (contacted_if v (places ms) k)
        contact true k u = ends (cut Dropped _) refl k u
        contact false k u = u

        by : (z : Moment) → places (z ∷ ms) ≤ x.own_stamp → places (z ∷ ms) ≤ x.partner_stamp → Unasked (course_in x ms)
            → Unasked (course_in x (z ∷ ms))
        by (Crossed c) own partner u =
            moved_keeps x (places ms) Unasked (closed own partner) (Crossed c) (course_in x ms) u
        by (Asked h (request.Contact peer)) own partner u =
            contact (same_host x.host h && same_host x.peer peer) (course_in x ms) u
        by (Asked h r) own partner u = u

-- ---- one request is there

module _ (x : Life) (hosts : Network)
    (kind : (y : Moment) (ms : List Moment) → Lawful hosts (y ∷ ms) → Kind x y ms) where
  no_ask : {A : Type 0} (e : End) (a : ℕ) → e ≡ nothing → e.asked ≡ Some a → A
  no_ask e a none is = none_some a (sym (ap (λ (f : End). f.asked) none) ∙ is)

  no_partner : {A : Type 0} (e : End) (a : ℕ) → e ≡ nothing → e.partner ≡ Some a → A
  no_partner e a none is = none_some a (sym (ap (λ (f : End). f.partner) none) ∙ is)

  -- its own, which was sent before
  pub asked_below : (ms : List Moment) → Lawful hosts ms → (a : ℕ) → (end_of x ms).asked ≡ Some a → a < places ms
  asked_below [] l a is = none_some a is
  asked_below (y ∷ ms) l a is = by (kind y ms l) (asked_below ms (below hosts y ms l) a) where
    later : a < places ms → a < places (y ∷ ms)
    later less = let n : places ms ≤ places (y ∷ ms) = places_next y ms in omega (arith, n, less)

    by : Kind x y ms → ((end_of x ms).asked ≡ Some a → a < places ms) → a < places (y ∷ ms)
    by (ItSays s) before = elim (said_from x (places ms) s.marks (end_of x ms) a s.here (ap (λ (e : End). e.asked) (sym s.ends) ∙ is)) [
      | inl at ↦ (let n : places (y ∷ ms) ≡ 1 + places ms = s.next in omega (arith, n, at))
      | inr was ↦ later (before was)
    ]
    by (ItHears s) before = later (before (asked_heard x (places ms) s.marks (end_of x ms) a (ap (λ (e : End). e.asked) (sym s.ends) ∙ is)))
    by (ItDrops s) before = no_ask (end_of x (y ∷ ms)) a s.ends is
    by (ItStops s) before = no_ask (end_of x (y ∷ ms)) a s.ends is
    by (ItStays s) before = later (before (ap (λ (e : End). e.asked) (sym s.ends) ∙ is))
    by (ItIdles s) before = no_ask (end_of x (y ∷ ms)) a s.ends is

  -- and its partner's, which was taken
  partner_below : (ms : List Moment) → Lawful hosts ms → (b : ℕ) → (end_of x ms).partner ≡ Some b → b < places ms
  partner_below [] l b is = none_some b is
  partner_below (y ∷ ms) l b is = by (kind y ms l) (partner_below ms (below hosts y ms l) b) where
    later : b < places ms → b < places (y ∷ ms)
    later less = let n : places ms ≤ places (y ∷ ms) = places_next y ms in omega (arith, n, less)

    by : Kind x y ms → ((end_of x ms).partner ≡ Some b → b < places ms) → b < places (y ∷ ms)
    by (ItHears s) before =
        elim (heard_from x (places ms) s.marks _ b s.here (ap (λ (e : End). e.partner) (sym s.ends) ∙ is)) [
          | inl at ↦ (let n : places (y ∷ ms) ≡ 1 + places ms = s.next in omega (arith, n, at))
          | inr was ↦ later (before was)
        ]
    by (ItSays s) before =
        later (before (partner_said x (places ms) s.marks _ b
        (ap (λ (e : End). e.partner) (sym s.ends) ∙ is)))
    by (ItDrops s) before = no_partner _ b s.ends is
    by (ItStops s) before = no_partner _ b s.ends is
    by (ItStays s) before = later (before (ap (λ (e : End). e.partner) (sym s.ends) ∙ is))
    by (ItIdles s) before = no_partner _ b s.ends is

  -- its stage, and that nothing came too early
  abbrev Half : Stage → List Moment → Type 0
  Half s ms = (stage_of x ms ≡ s) × ((course_in x ms).early ≡ false)

  first_of : (p q : Pace) → p ≡ q → p.0 ≡ q.0
  first_of p q e = ap (λ (r : Pace). r.0) e

  second_of : (p q : Pace) → p ≡ q → p.1 ≡ q.1
  second_of p q e = ap (λ (r : Pace). r.1) e

  same_half : (s : Stage) (y : Moment) (ms : List Moment) → pace (course_in x (y ∷ ms)) ≡ pace (course_in x ms)
      → Half s ms → Half s (y ∷ ms)
  same_half s y ms same h = (
    first_of _ _ same
        ∙ h.0,
    second_of _ _ same ∙ h.1,
  )

  -- what is said, or heard, changes a stage
  said_half : (r s : Stage) (y : Moment) (ms : List Moment) (marks : List Mark)
      → stage_of x (y ∷ ms) ≡ own_marks x (places ms) marks (stage_of x ms)
      → (course_in x (y ∷ ms)).early ≡ ((course_in x ms).early || own_early x (places ms) marks (stage_of x ms))
      → Half r ms → own_marks x (places ms) marks r ≡ s → own_early x (places ms) marks r ≡ false → Half s (y ∷ ms)
  said_half r s y ms marks stage early h now on = (
    stage ∙ ap (λ (t : Stage). own_marks x (places ms) marks t) h.0 ∙ now,
    early ∙ or_from (course_in x ms).early (own_early x (places ms) marks (stage_of x ms)) h.1
        (ap (λ (t : Stage). own_early x (places ms) marks t) h.0 ∙ on),
  )

  heard_half : (r s : Stage) (y : Moment) (ms : List Moment) (marks : List Mark)
      → stage_of x (y ∷ ms) ≡ partner_marks x (places ms) marks (stage_of x ms)
      → (course_in x (y ∷ ms)).early ≡ ((course_in x ms).early || partner_early x (places ms) marks (stage_of x ms))
      → Half r ms → partner_marks x (places ms) marks r ≡ s → partner_early x (places ms) marks r ≡ false
      → Half s (y ∷ ms)
  heard_half r s y ms marks stage early h now on = (
    stage ∙ ap (λ (t : Stage). partner_marks x (places ms) marks t) h.0 ∙ now,
    early ∙ or_from (course_in x ms).early (partner_early x (places ms) marks (stage_of x ms)) h.1
        (ap (λ (t : Stage). partner_early x (places ms) marks t) h.0 ∙ on),
  )

  pub half_own : (ms : List Moment) → Lawful hosts ms → (end_of x ms).asked ≡ Some x.own_stamp
      → (end_of x ms).gone ≡ false → (end_of x ms).taken ≡ false → places ms ≤ x.partner_stamp
      → Half (Asking true false) ms
  half_own [] l is on unheard le = none_some x.own_stamp is
  half_own (y ∷ ms) l is on unheard le = by (kind y ms l) (half_own ms old) where
    old : Lawful hosts ms
    old = below hosts y ms l

    here : places ms ≤ x.partner_stamp
    here = let n : places ms ≤ places (y ∷ ms) = places_next y ms in omega (arith, n, le)

    by : Kind x y ms → ((end_of x ms).asked ≡ Some x.own_stamp → (end_of x ms).gone ≡ false
        → (end_of x ms).taken ≡ false → places ms ≤ x.partner_stamp → Half (Asking true false) ms)
        → Half (Asking true false) (y ∷ ms)
    by (ItSays s) before = elim (said_from x (places ms) s.marks (end_of x ms) x.own_stamp s.here now) [
      | inl at ↦
          (let f : (own_marks x (places ms) s.marks (Asking false false) ≡ Asking true false)
          × (own_early x (places ms) s.marks (Asking false false) ≡ false) =
          own_first x (places ms) s.marks (end_of x ms) (places ms) s.here (sym at) (s.may (places ms) (omega arith))
          (λ was. (let less : x.own_stamp < places ms = asked_below ms old x.own_stamp was in absurd
          (omega (arith, less, at)))) now unshut in
          said_half (Asking false false) (Asking true false) y ms s.marks s.stage s.early
          (unasked x ms (omega (arith, at)) here) f.0 f.1)
      | inr was ↦
          (let rest : s.marks ≡ [] = said_none x (places ms) s.marks (end_of x ms) (places ms)
          (asked_below ms old x.own_stamp was) was (s.may (places ms) (omega arith)) now unshut in
          said_half (Asking true false) (Asking true false) y ms s.marks s.stage s.early
          (before was (ap (λ (ns : List Mark). (all_gone ns (end_of x ms)).gone) (sym rest) ∙ unshut)
          (ap (λ (ns : List Mark). (all_gone ns (end_of x ms)).taken) (sym rest) ∙ untaken) here)
          (ap (λ (ns : List Mark). own_marks x (places ms) ns (Asking true false)) rest)
          (ap (λ (ns : List Mark). own_early x (places ms) ns (Asking true false)) rest))
    ] where
      now : (all_gone s.marks (end_of x ms)).asked ≡ Some x.own_stamp
      now = ap (λ (e : End). e.asked) (sym s.ends) ∙ is

      unshut : (all_gone s.marks (end_of x ms)).gone ≡ false
      unshut = ap (λ (e : End). e.gone) (sym s.ends) ∙ on

      untaken : (all_gone s.marks (end_of x ms)).taken ≡ false
      untaken = ap (λ (e : End). e.taken) (sym s.ends) ∙ unheard
    by (ItHears s) before =
        heard_half (Asking true false) (Asking true false) y ms s.marks s.stage s.early
        (before (asked_heard x (places ms) s.marks (end_of x ms) x.own_stamp now)
        (sym (heard_gone x (places ms) s.marks (end_of x ms) none) ∙ ap (λ (e : End). e.gone) (sym s.ends) ∙ on)
        (sym (heard_taken x (places ms) s.marks (end_of x ms) none) ∙ untaken) here)
        (own_stays x (places ms) s.marks apart) (own_unclosed x (places ms) s.marks none apart) where
          now : (all_taken s.marks (end_of x ms)).asked ≡ Some x.own_stamp
          now = ap (λ (e : End). e.asked) (sym s.ends) ∙ is

          untaken : (all_taken s.marks (end_of x ms)).taken ≡ false
          untaken = ap (λ (e : End). e.taken) (sym s.ends) ∙ unheard

          none : NoClose s.marks
          none = heard_open x (places ms) s.marks (end_of x ms) x.own_stamp s.fit now untaken

          apart : x.partner_stamp ≡ places ms → ⊥
          apart same = let n : places (y ∷ ms) ≡ 1 + places ms = s.next in absurd (omega (arith, n, same, le))
    by (ItDrops s) before = no_ask (end_of x (y ∷ ms)) x.own_stamp s.ends is
    by (ItStops s) before = no_ask (end_of x (y ∷ ms)) x.own_stamp s.ends is
    by (ItStays s) before =
        same_half (Asking true false) y ms s.pace (before (ap (λ (e : End). e.asked) (sym s.ends) ∙ is)
        (ap (λ (e : End). e.gone) (sym s.ends) ∙ on) (ap (λ (e : End). e.taken) (sym s.ends) ∙ unheard) here)
    by (ItIdles s) before = no_ask (end_of x (y ∷ ms)) x.own_stamp s.ends is

  pub half_partner : (ms : List Moment) → Lawful hosts ms → (end_of x ms).partner ≡ Some x.partner_stamp
      → (end_of x ms).gone ≡ false → (end_of x ms).taken ≡ false → places ms ≤ x.own_stamp → Half (Asking false true) ms
  half_partner [] l is on unheard le = none_some x.partner_stamp is
  half_partner (y ∷ ms) l is on unheard le = by (kind y ms l) (half_partner ms old) where
    old : Lawful hosts ms
    old = below hosts y ms l

    here : places ms ≤ x.own_stamp
    here = let n : places ms ≤ places (y ∷ ms) = places_next y ms in omega (arith, n, le)

    by : Kind x y ms → ((end_of x ms).partner ≡ Some x.partner_stamp → (end_of x ms).gone ≡ false
        → (end_of x ms).taken ≡ false → places ms ≤ x.own_stamp → Half (Asking false true) ms)
        → Half (Asking false true) (y ∷ ms)
    by (ItSays s) before =
        said_half (Asking false true) (Asking false true) y ms s.marks s.stage s.early
        (before (partner_said x (places ms) s.marks (end_of x ms) x.partner_stamp now)
        (sym (said_gone x (places ms) s.marks (end_of x ms) none) ∙ unshut)
        (sym (said_taken x (places ms) s.marks (end_of x ms) none) ∙ ap (λ (e : End). e.taken) (sym s.ends)
        ∙ unheard) here)
        (partner_stays x (places ms) s.marks apart) (partner_unclosed x (places ms) s.marks none apart) where
          now : (all_gone s.marks (end_of x ms)).partner ≡ Some x.partner_stamp
          now = ap (λ (e : End). e.partner) (sym s.ends) ∙ is

          unshut : (all_gone s.marks (end_of x ms)).gone ≡ false
          unshut = ap (λ (e : End). e.gone) (sym s.ends) ∙ on

          none : NoClose s.marks
          none =
              said_open x (places ms) s.marks (end_of x ms) (places ms) x.partner_stamp
              (s.may (places ms) (omega arith)) now unshut

          apart : x.own_stamp ≡ places ms → ⊥
          apart same = let n : places (y ∷ ms) ≡ 1 + places ms = s.next in absurd (omega (arith, n, same, le))
    by (ItHears s) before = elim (heard_from x (places ms) s.marks (end_of x ms) x.partner_stamp s.here now) [
      | inl at ↦
          (let f : (partner_marks x (places ms) s.marks (Asking false false) ≡ Asking false true)
          × (partner_early x (places ms) s.marks (Asking false false) ≡ false) =
          partner_first x (places ms) s.marks (end_of x ms) (sym at) s.once s.fit
          (λ was. (let less : x.partner_stamp < places ms = partner_below ms old x.partner_stamp was in absurd
          (omega (arith, less, at)))) now untaken in
          heard_half (Asking false false) (Asking false true) y ms s.marks s.stage s.early
          (unasked x ms here (omega (arith, at))) f.0 f.1)
      | inr was ↦
          (let less : x.partner_stamp < places ms = partner_below ms old x.partner_stamp was in
          let rest : s.marks ≡ [] =
          heard_still x (places ms) s.marks (end_of x ms) s.here (λ same. absurd
          (omega (arith, less, same))) was s.fit now untaken in
          heard_half (Asking false true) (Asking false true) y ms s.marks s.stage s.early
          (before was (ap (λ (ns : List Mark). (all_taken ns (end_of x ms)).gone) (sym rest)
          ∙ ap (λ (e : End). e.gone) (sym s.ends) ∙ on) (ap (λ (ns : List Mark). (all_taken ns (end_of x ms)).taken)
          (sym rest) ∙ untaken) here)
          (ap (λ (ns : List Mark). partner_marks x (places ms) ns (Asking false true)) rest)
          (ap (λ (ns : List Mark). partner_early x (places ms) ns (Asking false true)) rest))
    ] where
      now : (all_taken s.marks (end_of x ms)).partner ≡ Some x.partner_stamp
      now = ap (λ (e : End). e.partner) (sym s.ends) ∙ is

      untaken : (all_taken s.marks (end_of x ms)).taken ≡ false
      untaken = ap (λ (e : End). e.taken) (sym s.ends) ∙ unheard
    by (ItDrops s) before = no_partner (end_of x (y ∷ ms)) x.partner_stamp s.ends is
    by (ItStops s) before = no_partner (end_of x (y ∷ ms)) x.partner_stamp s.ends is
    by (ItStays s) before =
        same_half (Asking false true) y ms s.pace (before (ap (λ (e : End). e.partner) (sym s.ends) ∙ is)
        (ap (λ (e : End). e.gone) (sym s.ends) ∙ on) (ap (λ (e : End). e.taken) (sym s.ends) ∙ unheard) here)
    by (ItIdles s) before = no_partner (end_of x (y ∷ ms)) x.partner_stamp s.ends is
