-- A contact resets all lives of a host with a peer. What goes out next is an RST, so each life that begins after it does so
-- after that, or after a stop of the host: after a cut of all lives that have begun before.
use Rattle.book_judge.proofs.Common.{false≢true, or_right, or_left, and_true, same_host-true, Host, same_host, same_flow, Crossing, orders_of, Legal, Order, Wrong, control_flow, Fate, Life, is_begun, AreSuited, Outlasts, cut_at, over_at, reopened, unclosed, was_contacted, opening, Command, list_any, Called}
use Rattle.std.proofs.Common.{◌≡◌, ◌⊎◌, inl, inr, ℕ, ◌<◌, ◌≤◌, ◌==◌, ◌&&◌, ◌||◌, not, Bool, true, false, if◌then◌else◌, List, [], ◌∷◌, length, refl, ap, ap₂, arith, sym, subst, ◌∙◌}
use Rattle.promise.specs.Ends.{Asking, Course, Dropped, Going, Over, Stage, Stopped, Closed, course, Cause, cut, ended_by, is_half, stage, AreContacts, AreLeft, IsLeft, Leaves, asks_for, closes, contacts_now, crosses, each, fails, heard, is_contact, partner_asked, partner_closed, said, still_contacts}
use Rattle.interface.specs.declared.crossing.Crossing.TheVariants as crossing
use Rattle.ncp_control.specs.declared.command.Command.TheVariants as command
use Rattle.promise.specs.Ends as ends
use Rattle.promise.specs.declared.life.Fate.TheVariants as fate
use Rattle.book_judge.proofs.Ends.Contacts.{Alike, Begun, Behind, Follows, Parted, alike_crosses, begun_acts, dropped_reset, early_acts, follows, kept_crosses, one_suited, over_acts, parted}
use Rattle.book_judge.proofs.Ends.Unclosed.{IsBesideOpen, Placed, beside_open, over_open, placed_crosses, placed_open}

-- ---- what comes in after a contact

-- a life's own request hasn't crossed
abbrev IsUnasked : Stage → Type 0
IsUnasked (Asking own partner) = own ≡ false
IsUnasked (Going own partner) = ⊥
IsUnasked (Over cause place) = ⊥

unasked_cut : (c : Cause) (place : ℕ) (s : Stage) → IsUnasked s → IsUnasked (cut c place s)
unasked_cut c place (Asking o p) h = h
unasked_cut c place (Going o p) h = absurd h
unasked_cut c place (Over d n) h = absurd h

unasked_asks : (s : Stage) → IsUnasked s → IsUnasked (partner_asked s)
unasked_asks (Asking true p) h = absurd (false≢true (sym h))
unasked_asks (Asking false p) h = refl
unasked_asks (Going o p) h = absurd h
unasked_asks (Over c n) h = absurd h

unasked_closes : (place : ℕ) (s : Stage) → IsUnasked s → IsUnasked (partner_closed place s)
unasked_closes place (Asking o p) h = h
unasked_closes place (Going o p) h = absurd h
unasked_closes place (Over c n) h = absurd h

unasked_open : (s : Stage) → IsUnasked s → IsUnasked (reopened s)
unasked_open (Asking o p) h = h
unasked_open (Going o p) h = absurd h
unasked_open (Over c n) h = absurd h

module _ (x : Life) (place : ℕ) where
  partner_unasked : (c : Command) (k : Course) → IsUnasked k.stage → IsUnasked (ends.partner_step x place c k).stage
  partner_unasked c k h =
      by (asks_for x.foreign x.socket c && place == x.partner_stamp) (closes x.foreign x.socket c) where
        by : (v w : Bool) → IsUnasked (if v then record k { stage = partner_asked k.stage } else
            (if w then ended_by (partner_closed place) k else k)).stage
        by true w = unasked_asks k.stage h
        by false true = unasked_closes place k.stage h
        by false false = h

  heard_unasked : (c : Command) (k : Course) → IsUnasked k.stage → IsUnasked (heard x place c k).stage
  heard_unasked command.Rst k h = unasked_cut Dropped place k.stage h
  heard_unasked c k h = partner_unasked c k h

  each_unasked : (os : List Order) (k : Course) → IsUnasked k.stage → IsUnasked (each (heard x place) os k).stage
  each_unasked [] k h = h
  each_unasked (Legal c ∷ os) k h = each_unasked os (heard x place c k) (heard_unasked c k h)
  each_unasked (Wrong code octets ∷ os) k h = each_unasked os k h

  -- it crosses in no way but that a message goes out to the peer
  abbrev Goes : Crossing → Type 0
  Goes (crossing.Out n) = same_host x.host n.flow.source && same_host x.peer n.flow.destination ≡ true
  Goes c = ⊥

  -- and then what goes out is an RST
  abbrev GoesReset : Crossing → Type 0
  GoesReset (crossing.Out n) = (n.flow.link.0 ≡ 0) × (orders_of n.text ≡ Legal command.Rst ∷ [])
  GoesReset c = Unit {0}

  crosses_unasked : (c : Crossing) (k : Course) → (Goes c → GoesReset c) → IsUnasked k.stage
      → IsUnasked (crosses x place c k).stage
  crosses_unasked (crossing.Out n) k reset h =
      by (same_host x.host n.flow.source) (same_host x.peer n.flow.destination) (0 == n.flow.link.0) refl refl where
        by : (a b l : Bool) → same_host x.host n.flow.source ≡ a → same_host x.peer n.flow.destination ≡ b
            → IsUnasked (if a && b && l then each (said x place) (orders_of n.text) k else k).stage
        by true true true e f =
            (let r = reset (ap₂ (λ (u v : Bool). u && v) e f) in
            subst (λ (os : List Order). IsUnasked (each (said x place) os k).stage) (sym r.1)
            (unasked_cut Dropped place k.stage h))
        by true true false e f = h
        by true false l e f = h
        by false b l e f = h
  crosses_unasked (crossing.In n) k reset h = by (same_flow (control_flow x.peer x.host) n.flow) where
    by : (v : Bool) → IsUnasked (if v then each (heard x place) (orders_of n.text) k else k).stage
    by true = each_unasked (orders_of n.text) k h
    by false = h
  crosses_unasked (crossing.Answer kind f) k reset h =
      by (fails kind && (same_host x.host f.source && same_host x.peer f.destination) && not k.owes) where
        by : (v : Bool) → IsUnasked (if v then ended_by (cut Dropped place) k else k).stage
        by true = unasked_cut Dropped place k.stage h
        by false = h
  crosses_unasked (crossing.Down g) k reset h = by (same_host x.host g) where
    by : (v : Bool) → IsUnasked (if v then record (ended_by (cut Stopped place) k) { owes = false } else k).stage
    by true = unasked_cut Stopped place k.stage h
    by false = h
  crosses_unasked (crossing.Up g) k reset h = by (same_host x.host g) where
    by : (v : Bool) → IsUnasked (if v then record k { owes = false } else k).stage
    by true = h
    by false = h

  -- that cuts a life that continues, and so does a stop of its host: no contact is waited for any more
  abbrev IsCut : Stage → Type 0
  IsCut s = (c : Cause) × (s ≡ Over c place) × (reopened (Over c place) ≡ Over c place)

  crosses_cut : (c : Crossing) (k : Course) → k.stage ≡ Going false false → (Goes c → GoesReset c)
      → still_contacts x.host x.peer c true ≡ false → IsCut (crosses x place c k).stage
  crosses_cut (crossing.Out n) k goes reset gone =
      by (same_host x.host n.flow.source) (same_host x.peer n.flow.destination) (0 == n.flow.link.0) refl refl refl
      gone where
        by : (a b l : Bool) → same_host x.host n.flow.source ≡ a → same_host x.peer n.flow.destination ≡ b
            → (0 == n.flow.link.0) ≡ l → not (a && b) ≡ false
            → IsCut (if a && b && l then each (said x place) (orders_of n.text) k else k).stage
        by true true true e f g none =
            (let r = reset (ap₂ (λ (u v : Bool). u && v) e f) in
            subst (λ (os : List Order). IsCut (each (said x place) os k).stage) (sym r.1)
            (Dropped, ap (cut Dropped place) goes, refl))
        by true true false e f g none =
            (let r = reset (ap₂ (λ (u v : Bool). u && v) e f) in
            let on : (0 == n.flow.link.0) ≡ true = ap (λ (j : ℕ). 0 == j) r.0 in
            absurd (false≢true (sym g ∙ on)))
        by true false l e f g none = absurd (false≢true (sym none))
        by false b l e f g none = absurd (false≢true (sym none))
  crosses_cut (crossing.Down g) k goes reset gone = by (same_host x.host g) gone where
    by : (v : Bool) → not v ≡ false
        → IsCut (if v then record (ended_by (cut Stopped place) k) { owes = false } else k).stage
    by true none = (Stopped, ap (cut Stopped place) goes, refl)
    by false none = absurd (false≢true (sym none))
  crosses_cut (crossing.In n) k goes reset gone = absurd (false≢true (sym gone))
  crosses_cut (crossing.Answer kind f) k goes reset gone = absurd (false≢true (sym gone))
  crosses_cut (crossing.Up g) k goes reset gone = absurd (false≢true (sym gone))

-- ---- where a life is over, so much has crossed

over_within : (contacts : List Called) (x : Life) (log : List Crossing)
    → Placed (λ n. n ≤ length log) (course contacts x log).stage
over_within contacts x [] = by (list_any (is_contact x.host x.peer 0) contacts) where
  by : (b : Bool) → Placed (λ n. n ≤ 0) (if b then ended_by (cut Dropped 0) opening else opening).stage
  by true = tt
  by false = tt
over_within contacts x (c ∷ log) =
    called (list_any (is_contact x.host x.peer (length (c ∷ log))) contacts)
    (placed_crosses (λ n. n ≤ length log) x (length log) (omega arith) c (course contacts x log)
    (over_within contacts x log)) where
      here : Course
      here = crosses x (length log) c (course contacts x log)

      cut_there : (s : Stage) → Placed (λ n. n ≤ length log) s
          → Placed (λ n. n ≤ length (c ∷ log)) (cut Dropped (length (c ∷ log)) s)
      cut_there (Asking o p) h = tt
      cut_there (Going o p) h = omega arith
      cut_there (Over d n) h = let le : n ≤ length log = h in omega (arith, le)

      stay : (s : Stage) → Placed (λ n. n ≤ length log) s → Placed (λ n. n ≤ length (c ∷ log)) s
      stay (Asking o p) h = tt
      stay (Going o p) h = tt
      stay (Over d n) h = let le : n ≤ length log = h in omega (arith, le)

      called : (b : Bool) → Placed (λ n. n ≤ length log) here.stage
          → Placed (λ n. n ≤ length (c ∷ log)) (if b then ended_by (cut Dropped (length (c ∷ log))) here else here).stage
      called true h = cut_there here.stage h
      called false h = stay here.stage h

-- and by a crossing, less than all
before_called : (contacts : List Called) (x : Life) (c : Crossing) (log : List Crossing)
    → Placed (λ n. n ≤ length log) (crosses x (length log) c (course contacts x log)).stage
before_called contacts x c log =
    placed_crosses (λ n. n ≤ length log) x (length log) (omega arith) c (course contacts x log)
    (over_within contacts x log)

open_within : (x : Life) (log : List Crossing) → Placed (λ n. n < length log) (unclosed x log)
open_within x [] = tt
open_within x (c ∷ log) =
    placed_open (λ n. n < length (c ∷ log)) here.stage
    (placed_crosses (λ n. n < length (c ∷ log)) x (length log) (omega arith) c was
    (stay (unclosed x log) (open_within x log))) where
      was : Course
      was = record (course [] x log) { stage = unclosed x log }

      here : Course
      here = crosses x (length log) c was

      stay : (s : Stage) → Placed (λ n. n < length log) s → Placed (λ n. n < length (c ∷ log)) s
      stay (Asking o p) h = tt
      stay (Going o p) h = tt
      stay (Over d n) h = let less : n < length log = h in omega (arith, less)

-- ---- two lives of a host with a peer, one of which a contact reset

-- since then the other is over, or a contact waits for the RST, or one was cut, and the other begins later
record Gone (m : ℕ) (s : Stage) : Type 0 where
  cause : Cause
  place : ℕ
  is : s ≡ Over cause place
  before : (place < m) ⊎ (cause ≡ Dropped)

record Waits (calls : Bool) (u v : Stage) : Type 0 where
  called : calls ≡ true
  goes : u ≡ Going false false
  waits : IsUnasked v

record Cut (all : ℕ) (u v : Stage) : Type 0 where
  cause : Cause
  place : ℕ
  is : u ≡ Over cause place
  within : place < all
  later : Placed (λ n. place < n) v

abbrev Since : Bool → ℕ → ℕ → Course → Stage → Stage → Type 0
Since calls all m k u v = (k.early ≡ true) ⊎ (Gone m k.stage ⊎ (Waits calls u v ⊎ Cut all u v))

-- a contact, if there is one
since_called : (b calls : Bool) (all m : ℕ) (k : Course) (u v : Stage) → Since calls all m k u v
    → Since (b || calls) all m (if b then ended_by (cut Dropped all) k else k) u v
since_called false calls all m k u v h = h
since_called true calls all m k u v (inl e) = inl (or_left k.early (is_half k.stage) e)
since_called true calls all m k u v (inr (inl g)) = inr
    (inl (record {
      cause = g.cause;
      place = g.place;
      is = ap (cut Dropped all) g.is;
      before = g.before;
    }))
since_called true calls all m k u v (inr (inr (inl w))) =
    inr (inr (inl (record { called = refl; goes = w.goes; waits = w.waits })))
since_called true calls all m k u v (inr (inr (inr c))) = inr (inr (inr c))

-- the first contact: what hasn't begun waits for it
since_first : (all : ℕ) (k : Course) (u v : Stage) → Placed (λ n. n < all) k.stage → u ≡ Going false false
    → ((o p : Bool) → k.stage ≡ Asking o p → v ≡ Asking o p)
    → Since true all all (ended_by (cut Dropped all) k) u v
since_first all k u v within goes same = by k.stage refl within where
  by : (s : Stage) → k.stage ≡ s → Placed (λ n. n < all) s → Since true all all (ended_by (cut Dropped all) k) u v
  by (Asking true p) e h = inl (or_right k.early (is_half k.stage) (ap is_half e))
  by (Asking false true) e h = inl (or_right k.early (is_half k.stage) (ap is_half e))
  by (Asking false false) e h = inr (inr (inl (record {
    called = refl;
    goes = goes;
    waits = subst IsUnasked (sym (same false false e)) refl;
  })))
  by (Going o p) e h =
      inr (inl (record { cause = Dropped; place = all; is = ap (cut Dropped all) e; before = inr refl }))
  by (Over c n) e h = inr (inl (record { cause = c; place = n; is = ap (cut Dropped all) e; before = inl h }))

module _ (contacts : List Called) (x z : Life) where
  -- a life of the same host with the same peer
  abbrev y : Life
  y = record z { host = x.host; peer = x.peer }

  abbrev calls : List Crossing → Bool
  calls log = contacts_now contacts x.host x.peer log

  resets_next : (c : Crossing) (log : List Crossing) → calls log ≡ true → Follows contacts log c
      → Goes x (length log) c → GoesReset x (length log) c
  resets_next (crossing.Out n) log on after to =
      let both = and_true (same_host x.host n.flow.source) (same_host x.peer n.flow.destination) to in
      after
      (ap (λ (h : Host). contacts_now contacts h n.flow.destination log)
      (sym (same_host-true x.host n.flow.source both.0))
      ∙ ap (λ (h : Host). contacts_now contacts x.host h log)
      (sym (same_host-true x.peer n.flow.destination both.1)) ∙ on)
  resets_next (crossing.In n) log on after to = absurd to
  resets_next (crossing.Answer kind f) log on after to = absurd to
  resets_next (crossing.Down g) log on after to = absurd to
  resets_next (crossing.Up g) log on after to = absurd to

  since_crosses : (c : Crossing) (log : List Crossing) (m : ℕ) → Follows contacts log c
      → Since (calls log) (length log) m (course contacts y log) (unclosed x log) (unclosed y log)
      → Since (still_contacts x.host x.peer c (calls log)) (length (c ∷ log)) m
      (crosses y (length log) c (course contacts y log)) (unclosed x (c ∷ log)) (unclosed y (c ∷ log))
  since_crosses c log m after (inl e) =
      inl (kept_crosses y (λ (k : Course). k.early ≡ true) (early_acts y) (length log) c (course contacts y log) e)
  since_crosses c log m after (inr (inl g)) = inr (inl (record {
    cause = g.cause;
    place = g.place;
    is = kept_crosses y (λ (k : Course). k.stage ≡ Over g.cause g.place)
        (λ place a k e. over_acts y place a k g.cause g.place e) (length log) c (course contacts y log) g.is;
    before = g.before;
  }))
  since_crosses c log m after (inr (inr (inr k))) = inr (inr (inr (record {
    cause = k.cause;
    place = k.place;
    is = ap reopened (kept_crosses x (λ (j : Course). j.stage ≡ Over k.cause k.place)
        (λ place a j e. over_acts x place a j k.cause k.place e) (length log) c
        (record (course [] x log) { stage = unclosed x log }) k.is)
        ∙ over_open x log k.cause k.place k.is;
    within = (let less : k.place < length log = k.within in omega (arith, less));
    later = placed_open (λ n. k.place < n) (crosses y (length log) c (record (course [] y log) { stage = unclosed y log })).stage
        (placed_crosses (λ n. k.place < n) y (length log) k.within c
        (record (course [] y log) { stage = unclosed y log }) k.later);
  })))
  since_crosses c log m after (inr (inr (inl w))) =
      by (still_contacts x.host x.peer c true) refl where
        was : Course
        was = record (course [] x log) { stage = unclosed x log }

        reset : Goes x (length log) c → GoesReset x (length log) c
        reset = resets_next c log w.called after

        unasked : IsUnasked (unclosed y (c ∷ log))
        unasked =
            unasked_open (crosses y (length log) c (record (course [] y log) { stage = unclosed y log })).stage
            (crosses_unasked y (length log) c (record (course [] y log) { stage = unclosed y log }) reset w.waits)

        never : (s : Stage) → IsUnasked s → (n : ℕ) → Placed (λ k. n < k) s
        never (Asking o p) h n = tt
        never (Going o p) h n = absurd h
        never (Over d k) h n = absurd h

        cuts : (c' : Cause) (n : ℕ) → unclosed x (c ∷ log) ≡ Over c' n
            → Since (still_contacts x.host x.peer c (calls log)) (length (c ∷ log)) m
            (crosses y (length log) c (course contacts y log)) (unclosed x (c ∷ log)) (unclosed y (c ∷ log))
        cuts d n e = inr (inr (inr (record {
          cause = d;
          place = n;
          is = e;
          within = subst (Placed (λ k. k < length (c ∷ log))) e (open_within x (c ∷ log));
          later = never (unclosed y (c ∷ log)) unasked n;
        })))

        on : (b : Bool) → still_contacts x.host x.peer c true ≡ b → still_contacts x.host x.peer c (calls log) ≡ b
        on b e = ap (still_contacts x.host x.peer c) w.called ∙ e

        goes_on : (s : Stage) → (crosses x (length log) c was).stage ≡ s → is_begun s ≡ true
            → still_contacts x.host x.peer c true ≡ true
            → Since (still_contacts x.host x.peer c (calls log)) (length (c ∷ log)) m
            (crosses y (length log) c (course contacts y log)) (unclosed x (c ∷ log)) (unclosed y (c ∷ log))
        goes_on (Asking o p) e b f = absurd (false≢true b)
        goes_on (Going o p) e b f =
            inr (inr (inl (record { called = on true f; goes = ap reopened e; waits = unasked })))
        goes_on (Over Dropped n) e b f = cuts Dropped n (ap reopened e)
        goes_on (Over Stopped n) e b f = cuts Stopped n (ap reopened e)
        goes_on (Over (Closed first) n) e b f =
            inr (inr (inl (record { called = on true f; goes = ap reopened e; waits = unasked })))

        begun : is_begun (crosses x (length log) c was).stage ≡ true
        begun =
            (kept_crosses x (Begun was.early)
            (λ place a k b. begun_acts x place a was.early k b) (length log) c was
            (ap is_begun w.goes, refl)).0

        by : (b : Bool) → still_contacts x.host x.peer c true ≡ b
            → Since (still_contacts x.host x.peer c (calls log)) (length (c ∷ log)) m
            (crosses y (length log) c (course contacts y log)) (unclosed x (c ∷ log)) (unclosed y (c ∷ log))
        by true e = goes_on (crosses x (length log) c was).stage refl begun e
        by false e =
            let k = crosses_cut x (length log) c was w.goes reset e in
            cuts k.0 (length log) (ap reopened k.1 ∙ k.2)

  -- as far with contacts as without, or reset by one; and so the other
  abbrev Joint : List Crossing → Type 0
  Joint log =
      Alike (course contacts x log) (course [] x log)
      ⊎ ((m : ℕ) × (stage contacts x log ≡ Over Dropped m)
      × Since (calls log) (length log) m (course contacts y log) (unclosed x log) (unclosed y log))

  module _ (c : Crossing) (log : List Crossing) (are : AreContacts contacts (c ∷ log)) where
    abbrev all : ℕ
    all = length (c ∷ log)

    abbrev one : Course
    one = crosses x (length log) c (course contacts x log)

    abbrev other : Course
    other = crosses y (length log) c (course contacts y log)

    abbrev JointBy : Bool → Type 0
    JointBy b =
        Alike (if b then ended_by (cut Dropped all) one else one) (course [] x (c ∷ log))
        ⊎ ((m : ℕ) × ((if b then ended_by (cut Dropped all) one else one).stage ≡ Over Dropped m)
        × Since (b || still_contacts x.host x.peer c (calls log)) all m
        (if b then ended_by (cut Dropped all) other else other) (unclosed x (c ∷ log)) (unclosed y (c ∷ log)))

    -- what hasn't begun hasn't without contacts
    asks_same : (o p : Bool) → other.stage ≡ Asking o p → unclosed y (c ∷ log) ≡ Asking o p
    asks_same o p e = by (parted contacts y (c ∷ log) are) where
      now : (b : Bool) → (if b then ended_by (cut Dropped all) other else other).stage ≡ Asking o p
      now true = ap (cut Dropped all) e
      now false = e

      asks : stage contacts y (c ∷ log) ≡ Asking o p
      asks = now (list_any (is_contact y.host y.peer all) contacts)

      by : Parted (contacts_now contacts y.host y.peer (c ∷ log)) all (course contacts y (c ∷ log))
          (course [] y (c ∷ log)) → unclosed y (c ∷ log) ≡ Asking o p
      by (inl h) =
          subst (λ (s : Stage). IsBesideOpen s (unclosed y (c ∷ log))) (sym h.stage ∙ asks)
          (beside_open y (c ∷ log))
      by (inr h) = absurd (let both : Over Dropped h.at ≡ Asking o p = sym h.stage ∙ asks in cc)

    joint_called : (b : Bool) → Alike one (course [] x (c ∷ log)) → JointBy b
    joint_called false h = inl h
    joint_called true h = by (stage [] x (c ∷ log)) refl where
      early : (course [] x (c ∷ log)).early ≡ true → (one.early || is_half one.stage) ≡ true
      early e = or_left one.early (is_half one.stage) (h.early e)

      by : (s : Stage) → stage [] x (c ∷ log) ≡ s → JointBy true
      by (Asking o p) is =
          inl (record { stage = ap (cut Dropped all) (h.stage ∙ is) ∙ sym is; owes = h.owes; early = early })
      by (Over d n) is =
          inl (record { stage = ap (cut Dropped all) (h.stage ∙ is) ∙ sym is; owes = h.owes; early = early })
      by (Going o p) is = inr (
        all,
        ap (cut Dropped all) (h.stage ∙ is),
        since_first all other (unclosed x (c ∷ log)) (unclosed y (c ∷ log)) (less other.stage (before_called contacts y c log))
            (subst (λ (s : Stage). IsBesideOpen s (unclosed x (c ∷ log))) is (beside_open x (c ∷ log))) asks_same,
      ) where
        less : (s : Stage) → Placed (λ n. n ≤ length log) s → Placed (λ n. n < all) s
        less (Asking o p) h = tt
        less (Going o p) h = tt
        less (Over d n) h = let le : n ≤ length log = h in omega (arith, le)

    joint_next : (b : Bool) → Joint log → JointBy b
    joint_next b (inl h) =
        joint_called b (alike_crosses x (length log) c (course contacts x log) (course [] x log) h)
    joint_next b (inr h) = inr (
      h.0,
      dropped b,
      since_called b (still_contacts x.host x.peer c (calls log)) all h.0 other (unclosed x (c ∷ log))
          (unclosed y (c ∷ log)) (since_crosses c log h.0 (follows contacts c log are).0 h.2),
    ) where
      still : one.stage ≡ Over Dropped h.0
      still =
          kept_crosses x (λ (k : Course). k.stage ≡ Over Dropped h.0)
          (λ place a k e. over_acts x place a k Dropped h.0 e) (length log) c (course contacts x log) h.1

      dropped : (d : Bool) → (if d then ended_by (cut Dropped all) one else one).stage ≡ Over Dropped h.0
      dropped true = ap (cut Dropped all) still
      dropped false = still

  joint : (log : List Crossing) → AreContacts contacts log → Joint log
  joint [] are = by (list_any (is_contact x.host x.peer 0) contacts) where
    by : (b : Bool)
        → Alike (if b then ended_by (cut Dropped 0) opening else opening) opening
        ⊎ ((m : ℕ) × ((if b then ended_by (cut Dropped 0) opening else opening).stage ≡ Over Dropped m)
        × Since (calls []) 0 m (course contacts y []) (Asking false false) (Asking false false))
    by true = inl (record { stage = refl; owes = refl; early = λ e. e })
    by false = inl (record { stage = refl; owes = refl; early = λ e. e })
  joint (c ∷ log) are =
      joint_next c log are (list_any (is_contact x.host x.peer (length (c ∷ log))) contacts)
      (joint log (follows contacts c log are).1)

-- ---- fates

never_contacted : (s : Stage) → was_contacted s ≡ true → Leaves s fate.Reset → ⊥
never_contacted (Asking o p) e h = absurd (false≢true e)
never_contacted (Going o p) e h = h
never_contacted (Over Dropped n) e h = absurd (false≢true e)
never_contacted (Over Stopped n) e h = h
never_contacted (Over (Closed first) n) e h = h

behind_over : (calls : Bool) (n m : ℕ) (s : Stage) → Behind calls m s → m ≤ n → m ≤ over_at n s
behind_over calls n m (Asking o p) b h = h
behind_over calls n m (Going o p) b h = h
behind_over calls n m (Over Dropped k) b h = b
behind_over calls n m (Over Stopped k) b h = b
behind_over calls n m (Over (Closed first) k) b h = b.1

module _ (contacts : List Called) (log : List Crossing) (are : AreContacts contacts log) (x z : Life) (f : Fate)
    (left : IsLeft contacts log x fate.Reset) (other : IsLeft contacts log (record z { host = x.host; peer = x.peer }) f)
    (contact : was_contacted (stage [] x log) ≡ true)
    (cuts : cut_at log x ≡ cut_at log (record z { host = x.host; peer = x.peer }))
    (later : over_at (length log) (stage [] x log)
    ≤ over_at (length log) (stage [] (record z { host = x.host; peer = x.peer }) log)) where
  abbrev w : Life
  w = record z { host = x.host; peer = x.peer }

  never_alike : stage contacts x log ≡ stage [] x log → ⊥
  never_alike e =
      never_contacted (stage [] x log) contact (subst (λ (s : Stage). Leaves s fate.Reset) e left.fate)

  -- the contact came before the life was over
  bound : (m : ℕ) → stage contacts x log ≡ Over Dropped m → m ≤ over_at (length log) (stage [] x log)
  bound m e = by (parted contacts x log are) where
    by : Parted (contacts_now contacts x.host x.peer log) (length log) (course contacts x log) (course [] x log)
        → m ≤ over_at (length log) (stage [] x log)
    by (inl h) = absurd (never_alike h.stage)
    by (inr h) =
        let same : Over Dropped h.at ≡ Over Dropped m = sym h.stage ∙ e in
        let is : h.at ≡ m = ap (over_at 0) same in
        subst (λ (n : ℕ). n ≤ over_at (length log) (stage [] x log)) is
        (behind_over (contacts_now contacts x.host x.peer log) (length log) h.at (stage [] x log) h.behind h.within)

  module _ (h : Alike (course contacts w log) (course [] w log)) where
    -- it isn't over before the contact
    never_gone : (m : ℕ) → stage contacts x log ≡ Over Dropped m → Gone m (stage contacts w log) → f ≡ fate.Reset
    never_gone m e g = by g.before where
      over : stage [] w log ≡ Over g.cause g.place
      over = sym h.stage ∙ g.is

      by : (g.place < m) ⊎ (g.cause ≡ Dropped) → f ≡ fate.Reset
      by (inl less) =
          let most : m ≤ over_at (length log) (stage [] x log) = bound m e in
          let end : over_at (length log) (stage [] w log) ≡ g.place = ap (over_at (length log)) over in
          let after : over_at (length log) (stage [] x log) ≤ over_at (length log) (stage [] w log) = later in
          absurd (omega (arith, less, most, end, after))
      by (inr d) =
          dropped_reset g.place f
          (subst (λ (s : Stage). Leaves s f) (g.is ∙ ap (λ (c : Cause). Over c g.place) d) other.fate)

    never_waits : (u : Stage) → IsBesideOpen (stage [] w log) u → IsUnasked u → f ≡ fate.Reset
    never_waits u b q = by (stage [] w log) (sym h.stage) b where
      by : (s : Stage) → s ≡ stage contacts w log → IsBesideOpen s u → f ≡ fate.Reset
      by (Asking o p) e r = absurd (subst (λ (s : Stage). Leaves s f) (sym e) other.fate)
      by (Going o p) e r = absurd (subst IsUnasked r q)
      by (Over c n) e r = absurd (begun u q r) where
        begun : (v : Stage) → IsUnasked v → is_begun v ≡ true → ⊥
        begun (Asking o p) g i = false≢true i
        begun (Going o p) g i = g
        begun (Over d k) g i = g

    never_cut : Cut (length log) (unclosed x log) (unclosed w log) → ⊥
    never_cut k = by (unclosed w log) refl k.later where
      at : cut_at log x ≡ k.place
      at = ap (over_at (length log)) k.is

      by : (v : Stage) → unclosed w log ≡ v → Placed (λ n. k.place < n) v → ⊥
      by (Asking o p) e q =
          let end : cut_at log w ≡ length log = ap (over_at (length log)) e in
          let less : k.place < length log = k.within in
          let same : k.place ≡ length log = sym at ∙ cuts ∙ end in
          omega (arith, less, same)
      by (Going o p) e q =
          let end : cut_at log w ≡ length log = ap (over_at (length log)) e in
          let less : k.place < length log = k.within in
          let same : k.place ≡ length log = sym at ∙ cuts ∙ end in
          omega (arith, less, same)
      by (Over d n) e q =
          let end : cut_at log w ≡ n = ap (over_at (length log)) e in
          let same : k.place ≡ n = sym at ∙ cuts ∙ end in
          let less : k.place < n = q in
          omega (arith, less, same)

    since_reset : (m : ℕ) → stage contacts x log ≡ Over Dropped m
        → Since (contacts_now contacts x.host x.peer log) (length log) m (course contacts w log) (unclosed x log)
        (unclosed w log) → f ≡ fate.Reset
    since_reset m e (inl early) = absurd (false≢true (sym other.begins ∙ early))
    since_reset m e (inr (inl g)) = never_gone m e g
    since_reset m e (inr (inr (inl v))) = never_waits (unclosed w log) (beside_open w log) v.waits
    since_reset m e (inr (inr (inr k))) = absurd (never_cut k)

  reset_too : f ≡ fate.Reset
  reset_too = by (parted contacts w log are) (joint contacts x z log are) where
    by : Parted (contacts_now contacts x.host x.peer log) (length log) (course contacts w log) (course [] w log)
        → Alike (course contacts x log) (course [] x log)
        ⊎ ((m : ℕ) × (stage contacts x log ≡ Over Dropped m)
        × Since (contacts_now contacts x.host x.peer log) (length log) m (course contacts w log) (unclosed x log)
        (unclosed w log)) → f ≡ fate.Reset
    by (inr h) j = dropped_reset h.at f (subst (λ (s : Stage). Leaves s f) h.stage other.fate)
    by (inl h) (inl same) = absurd (never_alike same.stage)
    by (inl h) (inr j) = since_reset h j.0 j.1 j.2

reset_together : (contacts : List Called) (log : List Crossing) → AreContacts contacts log → (x y : Life) (f : Fate)
    → IsLeft contacts log x fate.Reset → IsLeft contacts log y f → Outlasts log x y → f ≡ fate.Reset
reset_together contacts log are x y f left other both =
    reset_too contacts log are x y f left (subst (λ (v : Life). IsLeft contacts log v f) same other) both.contact
    (both.stretch ∙ ap (cut_at log) same)
    (subst (λ (v : Life). over_at (length log) (stage [] x log) ≤ over_at (length log) (stage [] v log)) same
    both.later) where
      same : y ≡ record y { host = x.host; peer = x.peer }
      same = λ i. record y { host = sym both.host i; peer = sym both.peer i }

-- where contacts leave lives their fates, these suit what crossed
pub suited_with : (contacts : List Called) (log : List Crossing) (lives : List Life) (fates : List Fate)
    → AreContacts contacts log → AreLeft contacts log lives fates → AreSuited log lives fates
suited_with contacts log lives fates are left = record {
  each = λ x f b. one_suited contacts log x f are (left x f b);
  contact = λ x y f b c both. reset_together contacts log are x y f (left x fate.Reset b) (left y f c) both;
}
