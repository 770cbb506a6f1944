-- Contacts of a life's host don't cross. With them it is as far as without them, or one has reset it; and what goes out
-- to its peer next is then an RST.
use Rattle.book_judge.proofs.Common.{false≢true, false_from_ne_true, or_right, or_left, Host, same_host, same_flow, Flow, Crossing, HostMessage, orders_of, Legal, Order, Wrong, control_flow, before, receives, Contains, list_any, Fate, Life, AreMade, IsSuited, suits, is_begun, Act, Deed, length-append, same_host-true, or-false, Command, Called}
use Rattle.std.proofs.Common.{◌≡◌, ◌⊎◌, inl, inr, ℕ, suc, ◌≤◌, ◌==◌, ◌&&◌, ◌||◌, not, Bool, true, false, if◌then◌else◌, List, [], ◌∷◌, length, refl, ap, sym, subst, ◌∙◌, arith, ◌-◌, drop, Option, Some, None, zero}
use Rattle.promise.specs.Ends.{Asking, Closed, Course, Dropped, Going, Over, Stage, Stopped, course, Cause, cut, ended_by, is_half, stage, AreContacts, IsLeft, Leaves, asks_for, closes, contacts_now, crosses, each, fails, heard, is_contact, partner_asked, partner_closed, said, still_contacts}
use Rattle.promise.specs.Formed.{FormedBook, text_of, flow_of, link_of, texts_of, texts_on}
use Rattle.book_judge.specs.Inside.Deeds.{acts, after, asked, closed, deeds_at, opening, step, is_of, owes_by, stamp}
use Rattle.interface.specs.declared.crossing.Crossing.TheVariants as crossing
use Rattle.ncp_control.specs.declared.command.Command.TheVariants as command
use Rattle.promise.specs.Ends as ends
use Rattle.std.specs.Prelude.{nat_lt}
use Rattle.promise.specs.declared.life.Fate.TheVariants as fate
use Rattle.book_judge.specs.declared.fates.deeds.Act.TheVariants as act
use Rattle.book_judge.proofs.Ends.Changed.{owes_acts}
use Rattle.book_judge.proofs.Ends.Reached.{one_crossing}

-- ---- as far with contacts as without

pub record Alike (s t : Course) : Type 0 where
  pub stage : s.stage ≡ t.stage
  pub owes : s.owes ≡ t.owes
  pub early : t.early ≡ true → s.early ≡ true

alike_if : (b : Bool) (p s q t : Course) → Alike p q → Alike s t → Alike (if b then p else s) (if b then q else t)
alike_if true p s q t h k = h
alike_if false p s q t h k = k

early_or : (s t : Course) → Alike s t → (t.early || is_half t.stage) ≡ true → (s.early || is_half s.stage) ≡ true
early_or s t h either = by t.early refl where
  by : (v : Bool) → t.early ≡ v → (s.early || is_half s.stage) ≡ true
  by true e = or_left s.early (is_half s.stage) (h.early e)
  by false e =
      or_right s.early (is_half s.stage)
      (ap is_half h.stage ∙ ap (λ (v : Bool). v || is_half t.stage) (sym e) ∙ either)

alike_ended : (change : Stage → Stage) (s t : Course) → Alike s t → Alike (ended_by change s) (ended_by change t)
alike_ended change s t h = record { stage = ap change h.stage; owes = h.owes; early = early_or s t h }

alike_unowed : (place : ℕ) (s t : Course) → Alike s t
    → Alike (if s.owes then s else ended_by (cut Dropped place) s)
    (if t.owes then t else ended_by (cut Dropped place) t)
alike_unowed place s t h = by s.owes t.owes h.owes where
  by : (v w : Bool) → v ≡ w
      → Alike (if v then s else ended_by (cut Dropped place) s) (if w then t else ended_by (cut Dropped place) t)
  by true true e = h
  by false false e = alike_ended (cut Dropped place) s t h
  by true false e = absurd (false≢true (sym e))
  by false true e = absurd (false≢true e)

alike_acts : (x : Life) (place : ℕ) (a : Act) (s t : Course) → Alike s t → Alike (acts x place a s) (acts x place a t)
alike_acts x place (act.Asks comes own foreign) s t h =
    alike_if (is_of x comes own foreign && place == stamp x comes) (record s { stage = asked comes s.stage }) s
    (record t { stage = asked comes t.stage }) t
    (record { stage = ap (asked comes) h.stage; owes = h.owes; early = h.early }) h
alike_acts x place (act.Closes comes own foreign) s t h =
    alike_if (is_of x comes own foreign) (ended_by (closed comes place) s) s (ended_by (closed comes place) t) t
    (alike_ended (closed comes place) s t h) h
alike_acts x place (act.Resets comes) s t h = record {
  stage = ap (cut Dropped place) h.stage;
  owes = ap (λ (o : Bool). comes || o) h.owes;
  early = early_or s t h;
}
alike_acts x place act.Replies s t h =
    let r = alike_unowed place s t h in
    record { stage = r.stage; owes = refl; early = r.early }
alike_acts x place act.Fails s t h = alike_unowed place s t h
alike_acts x place act.Stops s t h =
    record { stage = ap (cut Stopped place) h.stage; owes = refl; early = early_or s t h }
alike_acts x place act.Starts s t h = record { stage = h.stage; owes = refl; early = h.early }

alike_after : (x : Life) (deeds : List Deed) (s t : Course) → Alike s t → Alike (after x deeds s) (after x deeds t)
alike_after x [] s t h = h
alike_after x (d ∷ deeds) s t h =
    alike_after x deeds (step x d s) (step x d t)
    (alike_if _ (acts x d.place d.act s) s (acts x d.place d.act t) t (alike_acts x d.place d.act s t h) h)

pub alike_crosses : (x : Life) (place : ℕ) (c : Crossing) (s t : Course) → Alike s t
    → Alike (crosses x place c s) (crosses x place c t)
alike_crosses x place c s t h =
    subst (λ (k : Course). Alike k (crosses x place c t)) (one_crossing x place c s)
    (subst (λ (k : Course). Alike (after x (deeds_at place c) s) k) (one_crossing x place c t)
    (alike_after x (deeds_at place c) s t h))

-- ---- what every deed keeps

over_asked : (comes : Bool) (c : Cause) (n : ℕ) → asked comes (Over c n) ≡ Over c n
over_asked true c n = refl
over_asked false c n = refl

over_closed : (comes : Bool) (place : ℕ) (c : Cause) (n : ℕ) → closed comes place (Over c n) ≡ Over c n
over_closed true place c n = refl
over_closed false place c n = refl

-- what is over stays so
pub over_acts : (x : Life) (place : ℕ) (a : Act) (k : Course) (c : Cause) (n : ℕ) → k.stage ≡ Over c n
    → (acts x place a k).stage ≡ Over c n
over_acts x place (act.Asks comes own foreign) k c n e = by (is_of x comes own foreign && place == stamp x comes) where
  by : (b : Bool) → (if b then record k { stage = asked comes k.stage } else k).stage ≡ Over c n
  by true = ap (asked comes) e ∙ over_asked comes c n
  by false = e
over_acts x place (act.Closes comes own foreign) k c n e = by (is_of x comes own foreign) where
  by : (b : Bool) → (if b then ended_by (closed comes place) k else k).stage ≡ Over c n
  by true = ap (closed comes place) e ∙ over_closed comes place c n
  by false = e
over_acts x place (act.Resets comes) k c n e = ap (cut Dropped place) e
over_acts x place act.Replies k c n e = by k.owes where
  by : (b : Bool) → (if b then k else ended_by (cut Dropped place) k).stage ≡ Over c n
  by true = e
  by false = ap (cut Dropped place) e
over_acts x place act.Fails k c n e = by k.owes where
  by : (b : Bool) → (if b then k else ended_by (cut Dropped place) k).stage ≡ Over c n
  by true = e
  by false = ap (cut Dropped place) e
over_acts x place act.Stops k c n e = ap (cut Stopped place) e
over_acts x place act.Starts k c n e = e

-- what was early stays so
pub early_acts : (x : Life) (place : ℕ) (a : Act) (k : Course) → k.early ≡ true → (acts x place a k).early ≡ true
early_acts x place (act.Asks comes own foreign) k e = by (is_of x comes own foreign && place == stamp x comes) where
  by : (b : Bool) → (if b then record k { stage = asked comes k.stage } else k).early ≡ true
  by true = e
  by false = e
early_acts x place (act.Closes comes own foreign) k e = by (is_of x comes own foreign) where
  by : (b : Bool) → (if b then ended_by (closed comes place) k else k).early ≡ true
  by true = or_left k.early (is_half k.stage) e
  by false = e
early_acts x place (act.Resets comes) k e = or_left k.early (is_half k.stage) e
early_acts x place act.Replies k e = by k.owes where
  by : (b : Bool) → (if b then k else ended_by (cut Dropped place) k).early ≡ true
  by true = e
  by false = or_left k.early (is_half k.stage) e
early_acts x place act.Fails k e = by k.owes where
  by : (b : Bool) → (if b then k else ended_by (cut Dropped place) k).early ≡ true
  by true = e
  by false = or_left k.early (is_half k.stage) e
early_acts x place act.Stops k e = or_left k.early (is_half k.stage) e
early_acts x place act.Starts k e = e

-- what has begun stays so, and is early only if it was
not_half : (s : Stage) → is_begun s ≡ true → is_half s ≡ false
not_half (Asking o p) e = absurd (false≢true e)
not_half (Going o p) e = refl
not_half (Over c n) e = refl

pub begun_asked : (comes : Bool) (s : Stage) → is_begun s ≡ true → is_begun (asked comes s) ≡ true
begun_asked comes (Asking o p) e = absurd (false≢true e)
begun_asked true (Going o p) e = refl
begun_asked false (Going o p) e = refl
begun_asked true (Over c n) e = refl
begun_asked false (Over c n) e = refl

begun_closed : (comes : Bool) (place : ℕ) (s : Stage) → is_begun s ≡ true → is_begun (closed comes place s) ≡ true
begun_closed comes place (Asking o p) e = absurd (false≢true e)
begun_closed true place (Going true p) e = refl
begun_closed true place (Going false p) e = refl
begun_closed false place (Going o true) e = refl
begun_closed false place (Going o false) e = refl
begun_closed true place (Over c n) e = refl
begun_closed false place (Over c n) e = refl

pub begun_cut : (c : Cause) (place : ℕ) (s : Stage) → is_begun s ≡ true → is_begun (cut c place s) ≡ true
begun_cut c place (Asking o p) e = absurd (false≢true e)
begun_cut c place (Going o p) e = refl
begun_cut c place (Over d n) e = refl

abbrev pub Begun : Bool → Course → Type 0
Begun v k = (is_begun k.stage ≡ true) × (k.early ≡ v)

begun_ended : (change : Stage → Stage) (v : Bool) (k : Course)
    → ((s : Stage) → is_begun s ≡ true → is_begun (change s) ≡ true) → Begun v k → Begun v (ended_by change k)
begun_ended change v k keeps h = (
  keeps k.stage h.0,
  ap (λ (w : Bool). k.early || w) (not_half k.stage h.0) ∙ or-false k.early ∙ h.1,
)

pub begun_acts : (x : Life) (place : ℕ) (a : Act) (v : Bool) (k : Course) → Begun v k → Begun v (acts x place a k)
begun_acts x place (act.Asks comes own foreign) v k h = by (is_of x comes own foreign && place == stamp x comes) where
  by : (b : Bool) → Begun v (if b then record k { stage = asked comes k.stage } else k)
  by true = (begun_asked comes k.stage h.0, h.1)
  by false = h
begun_acts x place (act.Closes comes own foreign) v k h = by (is_of x comes own foreign) where
  by : (b : Bool) → Begun v (if b then ended_by (closed comes place) k else k)
  by true = begun_ended (closed comes place) v k (begun_closed comes place) h
  by false = h
begun_acts x place (act.Resets comes) v k h = begun_ended (cut Dropped place) v k (begun_cut Dropped place) h
begun_acts x place act.Replies v k h = by k.owes where
  by : (b : Bool) → Begun v (if b then k else ended_by (cut Dropped place) k)
  by true = h
  by false = begun_ended (cut Dropped place) v k (begun_cut Dropped place) h
begun_acts x place act.Fails v k h = by k.owes where
  by : (b : Bool) → Begun v (if b then k else ended_by (cut Dropped place) k)
  by true = h
  by false = begun_ended (cut Dropped place) v k (begun_cut Dropped place) h
begun_acts x place act.Stops v k h = begun_ended (cut Stopped place) v k (begun_cut Stopped place) h
begun_acts x place act.Starts v k h = h

-- so all deeds do
kept_after : (x : Life) (P : Course → Type 0)
    → ((place : ℕ) (a : Act) (k : Course) → P k → P (acts x place a k)) → (deeds : List Deed) (k : Course) → P k
    → P (after x deeds k)
kept_after x P keeps [] k h = h
kept_after x P keeps (d ∷ deeds) k h = kept_after x P keeps deeds (step x d k) (by _) where
  by : (b : Bool) → P (if b then acts x d.place d.act k else k)
  by true = keeps d.place d.act k h
  by false = h

pub kept_crosses : (x : Life) (P : Course → Type 0)
    → ((place : ℕ) (a : Act) (k : Course) → P k → P (acts x place a k)) → (place : ℕ) (c : Crossing) (k : Course) → P k
    → P (crosses x place c k)
kept_crosses x P keeps place c k h =
    subst P (one_crossing x place c k) (kept_after x P keeps (deeds_at place c) k h)

owes_after : (x : Life) (deeds : List Deed) (s t : Course) → s.owes ≡ t.owes
    → (after x deeds s).owes ≡ (after x deeds t).owes
owes_after x [] s t e = e
owes_after x (d ∷ deeds) s t e = owes_after x deeds (step x d s) (step x d t) (by _) where
  by : (b : Bool) → (if b then acts x d.place d.act s else s).owes ≡ (if b then acts x d.place d.act t else t).owes
  by true =
      owes_acts x d.place d.act s ∙ ap (owes_by d.act) e ∙ sym (owes_acts x d.place d.act t)
  by false = e

pub owes_crosses : (x : Life) (place : ℕ) (c : Crossing) (s t : Course) → s.owes ≡ t.owes
    → (crosses x place c s).owes ≡ (crosses x place c t).owes
owes_crosses x place c s t e =
    ap (λ (k : Course). k.owes) (sym (one_crossing x place c s)) ∙ owes_after x (deeds_at place c) s t e
    ∙ ap (λ (k : Course). k.owes) (one_crossing x place c t)

-- ---- or reset by a contact

-- how far a life is by what crosses that a contact reset when as much had crossed: it continues as long as nothing has
-- gone out since
abbrev pub Behind : Bool → ℕ → Stage → Type 0
Behind calls m (Asking o p) = ⊥
Behind calls m (Going o p) = calls ≡ true
Behind calls m (Over Dropped n) = m ≤ n
Behind calls m (Over Stopped n) = m ≤ n
Behind calls m (Over (Closed first) n) = (first ≡ true) × (m ≤ n)

pub record Reset (calls : Bool) (all : ℕ) (s t : Course) : Type 0 where
  pub at : ℕ
  pub within : at ≤ all
  pub stage : s.stage ≡ Over Dropped at
  pub owes : s.owes ≡ t.owes
  pub early : t.early ≡ true → s.early ≡ true
  pub behind : Behind calls at t.stage

abbrev pub Parted : Bool → ℕ → Course → Course → Type 0
Parted calls all s t = Alike s t ⊎ Reset calls all s t

behind_begun : (calls : Bool) (m : ℕ) (s : Stage) → Behind calls m s → is_begun s ≡ true
behind_begun calls m (Asking o p) h = absurd h
behind_begun calls m (Going o p) h = refl
behind_begun calls m (Over c n) h = refl

-- what is over is so whether or not anything has gone out
behind_over : (calls other : Bool) (m : ℕ) (c : Cause) (n : ℕ) → Behind calls m (Over c n) → Behind other m (Over c n)
behind_over calls other m Dropped n h = h
behind_over calls other m Stopped n h = h
behind_over calls other m (Closed first) n h = h

behind_calls : (calls : Bool) (m : ℕ) (s : Stage) → Behind calls m s → Behind true m s
behind_calls calls m (Asking o p) h = h
behind_calls calls m (Going o p) h = refl
behind_calls calls m (Over c n) h = behind_over calls true m c n h

-- ---- a crossing, where nothing has gone out since the contact

module _ (x : Life) (place m : ℕ) (less : m ≤ place) where
  -- what comes in drops it, or ends it where its own CLS was the first
  behind_cut : (c : Cause) (s : Stage) → Behind true m s → ((d : Cause) → d ≡ Dropped → Behind true m (Over d place))
      → c ≡ Dropped → Behind true m (cut c place s)
  behind_cut c (Asking o p) h over e = h
  behind_cut c (Going o p) h over e = over c e
  behind_cut c (Over d n) h over e = h

  dropped_here : (d : Cause) → d ≡ Dropped → Behind true m (Over d place)
  dropped_here d e = subst (λ (c : Cause). Behind true m (Over c place)) (sym e) less

  partner_asks : (s : Stage) → Behind true m s → Behind true m (partner_asked s)
  partner_asks (Asking o p) h = absurd h
  partner_asks (Going o p) h = h
  partner_asks (Over c n) h = h

  partner_closes : (s : Stage) → Behind true m s → Behind true m (partner_closed place s)
  partner_closes (Asking o p) h = absurd h
  partner_closes (Going true p) h = (refl, less)
  partner_closes (Going false p) h = refl
  partner_closes (Over c n) h = h

  partner_behind : (c : Command) (k : Course) → Behind true m k.stage
      → Behind true m (ends.partner_step x place c k).stage
  partner_behind c k h =
      by (asks_for x.foreign x.socket c && place == x.partner_stamp) (closes x.foreign x.socket c) where
        by : (v w : Bool) → Behind true m (if v then record k { stage = partner_asked k.stage } else
            (if w then ended_by (partner_closed place) k else k)).stage
        by true w = partner_asks k.stage h
        by false true = partner_closes k.stage h
        by false false = h

  heard_behind : (c : Command) (k : Course) → Behind true m k.stage → Behind true m (heard x place c k).stage
  heard_behind command.Rst k h = behind_cut Dropped k.stage h dropped_here refl
  heard_behind c k h = partner_behind c k h

  each_behind : (os : List Order) (k : Course) → Behind true m k.stage
      → Behind true m (each (heard x place) os k).stage
  each_behind [] k h = h
  each_behind (Legal c ∷ os) k h = each_behind os (heard x place c k) (heard_behind c k h)
  each_behind (Wrong code octets ∷ os) k h = each_behind os k h

  -- a message goes out: to the peer it is an RST
  abbrev IsReset : HostMessage → Type 0
  IsReset n = (n.flow.link.0 ≡ 0) × (orders_of n.text ≡ Legal command.Rst ∷ [])

  out_behind : (n : HostMessage) (k : Course) (o p : Bool) → k.stage ≡ Going o p
      → (same_host x.host n.flow.source ≡ true → same_host x.peer n.flow.destination ≡ true → IsReset n)
      → Behind (not (same_host x.host n.flow.source && same_host x.peer n.flow.destination)) m
      (crosses x place (crossing.Out n) k).stage
  out_behind n k o p is reset =
      by (same_host x.host n.flow.source) (same_host x.peer n.flow.destination)
      (0 == n.flow.link.0) refl refl refl where
        to : Bool → Bool → Bool → Course
        to a b l = if a && b && l then each (said x place) (orders_of n.text) k else k

        gone : IsReset n → Behind false m (each (said x place) (orders_of n.text) k).stage
        gone r =
            subst (λ (os : List Order). Behind false m (each (said x place) os k).stage) (sym r.1)
            (subst (λ (s : Stage). Behind false m (cut Dropped place s)) (sym is) less)

        still : Behind true m k.stage
        still = subst (λ (s : Stage). Behind true m s) (sym is) refl

        by : (a b l : Bool) → same_host x.host n.flow.source ≡ a → same_host x.peer n.flow.destination ≡ b
            → (0 == n.flow.link.0) ≡ l → Behind (not (a && b)) m (to a b l).stage
        by true true true e f g = gone (reset e f)
        by true true false e f g =
            absurd (let on : (0 == n.flow.link.0) ≡ true = ap (λ (j : ℕ). 0 == j) (reset e f).0 in
            false≢true (sym g ∙ on))
        by true false l e f g = still
        by false b l e f g = still

-- ---- any crossing

-- what a contact is followed by, if it is of a message to a life's peer
abbrev pub Follows : List Called → List Crossing → Crossing → Type 0
Follows contacts log (crossing.Out n) =
    contacts_now contacts n.flow.source n.flow.destination log ≡ true
    → (n.flow.link.0 ≡ 0) × (orders_of n.text ≡ Legal command.Rst ∷ [])
Follows contacts log c = Unit {0}

pub follows : (contacts : List Called) (c : Crossing) (log : List Crossing) → AreContacts contacts (c ∷ log)
    → Follows contacts log c × AreContacts contacts log
follows contacts (crossing.Out n) log h = h
follows contacts (crossing.In n) log h = (tt, h)
follows contacts (crossing.Answer kind f) log h = (tt, h)
follows contacts (crossing.Down g) log h = (tt, h)
follows contacts (crossing.Up g) log h = (tt, h)

module _ (contacts : List Called) (x : Life) (log : List Crossing) where
  abbrev calls_now : Bool
  calls_now = contacts_now contacts x.host x.peer log

  abbrev all : ℕ
  all = length log

  behind_here : (c : Crossing) (k : Course) (m : ℕ) (o p : Bool) → m ≤ all → calls_now ≡ true → Follows contacts log c
      → k.stage ≡ Going o p → Behind (still_contacts x.host x.peer c calls_now) m (crosses x all c k).stage
  behind_here (crossing.Out n) k m o p less on after is =
      subst (λ (v : Bool). Behind (v && not (same_host x.host n.flow.source && same_host x.peer n.flow.destination)) m
      (crosses x all (crossing.Out n) k).stage) (sym on)
      (out_behind x all m less n k o p is (λ e f. after
      (ap (λ (h : Host). contacts_now contacts h n.flow.destination log) (sym (same_host-true x.host n.flow.source e))
      ∙ ap (λ (h : Host). contacts_now contacts x.host h log) (sym (same_host-true x.peer n.flow.destination f)) ∙ on)))
  behind_here (crossing.In n) k m o p less on after is =
      by (same_flow (control_flow x.peer x.host) n.flow) where
        was : Behind true m k.stage
        was = subst (λ (s : Stage). Behind true m s) (sym is) refl

        by : (v : Bool) → Behind calls_now m (if v then each (heard x all) (orders_of n.text) k else k).stage
        by true =
            subst (λ (w : Bool). Behind w m (each (heard x all) (orders_of n.text) k).stage) (sym on)
            (each_behind x all m less (orders_of n.text) k was)
        by false = subst (λ (w : Bool). Behind w m k.stage) (sym on) was
  behind_here (crossing.Answer kind f) k m o p less on after is =
      by (fails kind && (same_host x.host f.source && same_host x.peer f.destination) && not k.owes) where
        by : (v : Bool) → Behind calls_now m (if v then ended_by (cut Dropped all) k else k).stage
        by true = subst (λ (s : Stage). Behind calls_now m (cut Dropped all s)) (sym is) less
        by false = subst (λ (s : Stage). Behind calls_now m s) (sym is) on
  behind_here (crossing.Down g) k m o p less on after is = by (same_host x.host g) where
    by : (v : Bool) → Behind (calls_now && not v) m
        (if v then record (ended_by (cut Stopped all) k) { owes = false } else k).stage
    by true = subst (λ (s : Stage). Behind (calls_now && false) m (cut Stopped all s)) (sym is) less
    by false =
        subst (λ (s : Stage). Behind (calls_now && true) m s) (sym is) (ap (λ (w : Bool). w && true) on)
  behind_here (crossing.Up g) k m o p less on after is = by (same_host x.host g) where
    by : (v : Bool) → Behind calls_now m (if v then record k { owes = false } else k).stage
    by true = subst (λ (s : Stage). Behind calls_now m s) (sym is) on
    by false = subst (λ (s : Stage). Behind calls_now m s) (sym is) on

  parted_crosses : (c : Crossing) (s t : Course) → Follows contacts log c → Parted calls_now all s t
      → Parted (still_contacts x.host x.peer c calls_now) (length (c ∷ log)) (crosses x all c s) (crosses x all c t)
  parted_crosses c s t after (inl h) = inl (alike_crosses x all c s t h)
  parted_crosses c s t after (inr h) = inr (record {
    at = h.at;
    within = (let w : h.at ≤ all = h.within in omega (arith, w));
    stage = kept_crosses x (λ (k : Course). k.stage ≡ Over Dropped h.at)
        (λ place a k e. over_acts x place a k Dropped h.at e) all c s h.stage;
    owes = owes_crosses x all c s t h.owes;
    early = λ e. kept_crosses x (λ (k : Course). k.early ≡ true) (early_acts x) all c s
        (h.early (sym (kept_crosses x (Begun t.early) (λ place a k b. begun_acts x place a t.early k b) all c t
        (behind_begun calls_now h.at t.stage h.behind, refl)).1 ∙ e));
    behind = by t.stage refl h.behind;
  }) where
    by : (u : Stage) → t.stage ≡ u → Behind calls_now h.at u
        → Behind (still_contacts x.host x.peer c calls_now) h.at (crosses x all c t).stage
    by (Asking o p) is b = absurd b
    by (Going o p) is b = behind_here c t h.at o p h.within b after is
    by (Over d n) is b =
        subst (λ (u : Stage). Behind (still_contacts x.host x.peer c calls_now) h.at u)
        (sym (kept_crosses x (λ (k : Course). k.stage ≡ Over d n) (λ place a k e. over_acts x place a k d n e) all c t
        is)) (behind_over calls_now (still_contacts x.host x.peer c calls_now) h.at d n b)

-- a contact, if there is one
parted_called : (b calls : Bool) (place : ℕ) (s t : Course) → Parted calls place s t
    → Parted (b || calls) place (if b then ended_by (cut Dropped place) s else s) t
parted_called false calls place s t h = h
parted_called true calls place s t (inl h) = by t.stage refl where
  early : t.early ≡ true → (s.early || is_half s.stage) ≡ true
  early e = or_left s.early (is_half s.stage) (h.early e)

  by : (u : Stage) → t.stage ≡ u → Parted true place (ended_by (cut Dropped place) s) t
  by (Asking o p) is =
      inl (record { stage = ap (cut Dropped place) (h.stage ∙ is) ∙ sym is; owes = h.owes; early = early })
  by (Going o p) is = inr (record {
    at = place;
    within = omega arith;
    stage = ap (cut Dropped place) (h.stage ∙ is);
    owes = h.owes;
    early = early;
    behind = subst (λ (u : Stage). Behind true place u) (sym is) refl;
  })
  by (Over c n) is =
      inl (record { stage = ap (cut Dropped place) (h.stage ∙ is) ∙ sym is; owes = h.owes; early = early })
parted_called true calls place s t (inr h) = inr (record {
  at = h.at;
  within = h.within;
  stage = ap (cut Dropped place) h.stage;
  owes = h.owes;
  early = λ e. or_left s.early (is_half s.stage) (h.early e);
  behind = behind_calls calls h.at t.stage h.behind;
})

pub parted : (contacts : List Called) (x : Life) (log : List Crossing) → AreContacts contacts log
    → Parted (contacts_now contacts x.host x.peer log) (length log) (course contacts x log) (course [] x log)
parted contacts x [] are =
    subst (λ (v : Bool). Parted v 0 (course contacts x []) opening)
    (or-false (list_any (is_contact x.host x.peer 0) contacts))
    (parted_called (list_any (is_contact x.host x.peer 0) contacts) false 0 opening opening
    (inl (record { stage = refl; owes = refl; early = λ e. e })))
parted contacts x (c ∷ log) are =
    parted_called (list_any (is_contact x.host x.peer (length (c ∷ log))) contacts)
    (still_contacts x.host x.peer c (contacts_now contacts x.host x.peer log)) (length (c ∷ log))
    (crosses x (length log) c (course contacts x log)) (course [] x (c ∷ log))
    (parted_crosses contacts x log c (course contacts x log) (course [] x log) (follows contacts c log are).0
    (parted contacts x log (follows contacts c log are).1))

-- ---- fates

leaves_suits : (s : Stage) (f : Fate) → Leaves s f → suits s f ≡ true
leaves_suits (Asking own partner) f h = refl
leaves_suits (Going own partner) fate.Open h = refl
leaves_suits (Going own partner) fate.Closing h = refl
leaves_suits (Going own partner) fate.Closed h = absurd h
leaves_suits (Going own partner) fate.Ended h = absurd h
leaves_suits (Going own partner) fate.Reset h = refl
leaves_suits (Going own partner) fate.Stopped h = absurd h
leaves_suits (Over Dropped place) fate.Open h = absurd h
leaves_suits (Over Dropped place) fate.Closing h = absurd h
leaves_suits (Over Dropped place) fate.Closed h = absurd h
leaves_suits (Over Dropped place) fate.Ended h = absurd h
leaves_suits (Over Dropped place) fate.Reset h = refl
leaves_suits (Over Dropped place) fate.Stopped h = absurd h
leaves_suits (Over Stopped place) fate.Open h = absurd h
leaves_suits (Over Stopped place) fate.Closing h = absurd h
leaves_suits (Over Stopped place) fate.Closed h = absurd h
leaves_suits (Over Stopped place) fate.Ended h = absurd h
leaves_suits (Over Stopped place) fate.Reset h = refl
leaves_suits (Over Stopped place) fate.Stopped h = refl
leaves_suits (Over (Closed first) place) fate.Open h = absurd h
leaves_suits (Over (Closed first) place) fate.Closing h = absurd h
leaves_suits (Over (Closed first) place) fate.Closed h = refl
leaves_suits (Over (Closed first) place) fate.Ended h = ap not h
leaves_suits (Over (Closed first) place) fate.Reset h = absurd h
leaves_suits (Over (Closed first) place) fate.Stopped h = absurd h

-- what is left to one that was reset
pub dropped_reset : (m : ℕ) (f : Fate) → Leaves (Over Dropped m) f → f ≡ fate.Reset
dropped_reset m fate.Reset h = refl
dropped_reset m fate.Open h = absurd h
dropped_reset m fate.Closing h = absurd h
dropped_reset m fate.Closed h = absurd h
dropped_reset m fate.Ended h = absurd h
dropped_reset m fate.Stopped h = absurd h

reset_suits : (calls : Bool) (m : ℕ) (s : Stage) → Behind calls m s → suits s fate.Reset ≡ true
reset_suits calls m (Asking own partner) h = refl
reset_suits calls m (Going own partner) h = refl
reset_suits calls m (Over Dropped n) h = refl
reset_suits calls m (Over Stopped n) h = refl
reset_suits calls m (Over (Closed first) n) h = h.0

pub one_suited : (contacts : List Called) (log : List Crossing) (x : Life) (f : Fate) → AreContacts contacts log
    → IsLeft contacts log x f → IsSuited log x f
one_suited contacts log x f are left = by (parted contacts x log are) where
  early : ((course [] x log).early ≡ true → (course contacts x log).early ≡ true) → (course [] x log).early ≡ false
  early less = false_from_ne_true (course [] x log).early (λ e. false≢true (sym left.begins ∙ less e))

  by : Parted (contacts_now contacts x.host x.peer log) (length log) (course contacts x log) (course [] x log)
      → IsSuited log x f
  by (inl h) = record {
    begins = λ b. early h.early;
    fate = ap (λ (s : Stage). suits s f) (sym h.stage) ∙ leaves_suits (stage contacts x log) f left.fate;
  }
  by (inr h) = record {
    begins = λ b. early h.early;
    fate =
        ap (suits (stage [] x log)) (dropped_reset h.at f (subst (λ (s : Stage). Leaves s f) h.stage left.fate))
        ∙ reset_suits (contacts_now contacts x.host x.peer log) h.at (stage [] x log) h.behind;
  }

-- ---- what lives are made of

over_behind : (calls : Bool) (m : ℕ) (c : Cause) (n : ℕ) → Behind calls m (Over c n) → m ≤ n
over_behind calls m Dropped n h = h
over_behind calls m Stopped n h = h
over_behind calls m (Closed first) n h = h.1

texts_prefix : (comes : Bool) (f : Flow) (a b m n : ℕ) (log : List Crossing) → m ≤ n
    → length (texts_of comes f a b (before m log)) ≤ length (texts_of comes f a b (before n log))
texts_prefix comes f a b m n log less = dropped (length log - m) (length log - n) log (omega (arith, less)) where
  older : (c : Crossing) (cs : List Crossing)
      → length (texts_of comes f a b cs) ≤ length (texts_of comes f a b (c ∷ cs))
  older c cs =
      let all = length-append (texts_of comes f a b cs)
      (if nat_lt a (length cs) && nat_lt b (length cs) then text_of comes f c else []) in
      omega (arith, all)

  dropped : (j k : ℕ) (cs : List Crossing) → k ≤ j
      → length (texts_of comes f a b (drop j cs)) ≤ length (texts_of comes f a b (drop k cs))
  dropped zero k cs le = let none : k ≡ 0 = omega (arith, le) in
      subst (λ (i : ℕ). length (texts_of comes f a b cs) ≤ length (texts_of comes f a b (drop i cs))) (sym none)
      (omega arith)
  dropped (suc j) zero [] le = omega arith
  dropped (suc j) zero (c ∷ cs) le =
      let rest = dropped j zero cs (omega arith) in
      let one = older c cs in
      omega (arith, rest, one)
  dropped (suc j) (suc k) [] le = omega arith
  dropped (suc j) (suc k) (c ∷ cs) le = dropped j k cs (omega (arith, le))

texts_less : (x : Life) (o : Option ℕ) (m n : ℕ) (log : List Crossing) → m ≤ n
    → length (texts_on x o (before m log)) ≤ length (texts_on x o (before n log))
texts_less x None m n log less = omega arith
texts_less x (Some link) m n log less =
    texts_prefix (receives x) (flow_of x link) x.own_stamp x.partner_stamp m n log less

-- with whatever contacts: one resets a life before what crosses ends it
pub made_with : (contacts : List Called) (log : List Crossing) (lives : List Life) → AreContacts contacts log
    → FormedBook log lives
    → ((x : Life) (cause : Cause) (place : ℕ) → Contains lives x → stage contacts x log ≡ Over cause place
    → x.messages ≤ length (texts_on x (link_of log x) (before place log)))
    → AreMade log lives
made_with contacts log lives are formed within x there = record {
  formed = formed x there;
  within = λ cause place is. by cause place is (parted contacts x log are);
} where
  by : (cause : Cause) (place : ℕ) → stage [] x log ≡ Over cause place
      → Parted (contacts_now contacts x.host x.peer log) (length log) (course contacts x log) (course [] x log)
      → x.messages ≤ length (texts_on x (link_of log x) (before place log))
  by cause place is (inl h) = within x cause place there (h.stage ∙ is)
  by cause place is (inr h) =
      let first : x.messages ≤ length (texts_on x (link_of log x) (before h.at log)) =
      within x Dropped h.at there h.stage in
      let later =
      texts_less x (link_of log x) h.at place log
      (over_behind (contacts_now contacts x.host x.peer log) h.at cause place
      (subst (λ (s : Stage). Behind (contacts_now contacts x.host x.peer log) h.at s) is h.behind)) in
      omega (arith, first, later)
