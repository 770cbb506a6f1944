-- A life that nobody closes: it is as far as deeds without CLS bring it.
use Rattle.book_judge.proofs.Common.{◌≡◌, ℕ, ◌==◌, ◌&&◌, ◌||◌, Bool, true, false, if◌then◌else◌, List, [], ◌∷◌, ◌++◌, length, refl, ap, sym, subst, ◌∙◌, false≢true, Host, Crossing, orders_of, Legal, Order, Wrong, is_begun, over_at, reopened, unclosed, Life, Act, Deed, Command}
use Rattle.promise.specs.Ends.{Asking, Cause, Closed, Course, Dropped, Going, Over, Stage, Stopped, course, cut, ended_by, stage, crosses}
use Rattle.book_judge.specs.Inside.Deeds.{acts, after, asked, begun_by, closed, deeds_at, deeds_by, deeds_in, is_of, opening, stamp, step, act_of, concerns, end_by, with_act}
use Rattle.interface.specs.declared.crossing.Answer.TheVariants as answer
use Rattle.interface.specs.declared.crossing.Crossing.TheVariants as crossing
use Rattle.ncp_control.specs.declared.command.Command.TheVariants as command
use Rattle.book_judge.specs.declared.fates.deeds.Act.TheVariants as act
use Rattle.book_judge.specs.Inside.Contacts.{but_closes, is_open}
use Rattle.book_judge.proofs.Ends.Contacts.{begun_asked, begun_cut, owes_crosses}
use Rattle.book_judge.proofs.Ends.Reached.{after_append, all_crossings, one_crossing}

-- ---- deeds of one crossing

-- a CLS among them comes in, or it goes out
abbrev IsSide : Bool → Act → Type 0
IsSide comes (act.Closes way own foreign) = way ≡ comes
IsSide comes a = Unit {0}

abbrev AreAt : Bool → ℕ → List Deed → Type 0
AreAt comes place [] = Unit {0}
AreAt comes place (d ∷ deeds) = (d.place ≡ place) × IsSide comes d.act × AreAt comes place deeds

module _ (place : ℕ) (host peer : Host) where
  at_with : (comes : Bool) (c : Command) (deeds : List Deed) → AreAt comes place deeds
      → AreAt comes place (with_act place host peer (act_of comes c) deeds)
  at_with comes (command.Rts receive send link) deeds h = (refl, tt, h)
  at_with comes (command.Str send receive size) deeds h = (refl, tt, h)
  at_with comes (command.Cls own foreign) deeds h = (refl, refl, h)
  at_with comes command.Rst deeds h = (refl, tt, h)
  at_with true command.Rrp deeds h = h
  at_with false command.Rrp deeds h = (refl, tt, h)
  at_with true c deeds h = h
  at_with false c deeds h = h

  at_by : (comes : Bool) (orders : List Order) → AreAt comes place (deeds_by comes place host peer orders)
  at_by comes [] = tt
  at_by comes (Legal c ∷ orders) = at_with comes c (deeds_by comes place host peer orders) (at_by comes orders)
  at_by comes (Wrong code octets ∷ orders) = at_by comes orders

at_if : (b comes : Bool) (place : ℕ) (deeds : List Deed) → AreAt comes place deeds
    → AreAt comes place (if b then deeds else [])
at_if true comes place deeds h = h
at_if false comes place deeds h = tt

-- those of a message go out, or come in; no other crossing has CLS
abbrev side : Crossing → Bool
side (crossing.In m) = true
side c = false

at_crossing : (c : Crossing) (place : ℕ) → AreAt (side c) place (deeds_at place c)
at_crossing (crossing.Out m) place =
    at_if (0 == m.flow.link.0) false place
    (deeds_by false place m.flow.source m.flow.destination (orders_of m.text))
    (at_by place m.flow.source m.flow.destination false (orders_of m.text))
at_crossing (crossing.In m) place =
    at_if (0 == m.flow.link.0) true place
    (deeds_by true place m.flow.destination m.flow.source (orders_of m.text))
    (at_by place m.flow.destination m.flow.source true (orders_of m.text))
at_crossing (crossing.Answer answer.Rfnm f) place = tt
at_crossing (crossing.Answer answer.Incomplete f) place = (refl, tt, tt)
at_crossing (crossing.Answer answer.Dead f) place = (refl, tt, tt)
at_crossing (crossing.Answer answer.NotTaken f) place = (refl, tt, tt)
at_crossing (crossing.Down h) place = (refl, tt, tt)
at_crossing (crossing.Up h) place = (refl, tt, tt)

-- ---- where a life is over

-- this holds of the place
abbrev pub Placed : (ℕ → Type 0) → Stage → Type 0
Placed Q (Asking own partner) = Unit {0}
Placed Q (Going own partner) = Unit {0}
Placed Q (Over cause n) = Q n

module _ (Q : ℕ → Type 0) (x : Life) (place : ℕ) (here : Q place) where
  placed_cut : (c : Cause) (s : Stage) → Placed Q s → Placed Q (cut c place s)
  placed_cut c (Asking o p) h = tt
  placed_cut c (Going o p) h = here
  placed_cut c (Over d n) h = h

  placed_asked : (comes : Bool) (s : Stage) → Placed Q s → Placed Q (asked comes s)
  placed_asked true (Asking true p) h = tt
  placed_asked true (Asking false p) h = tt
  placed_asked false (Asking o true) h = tt
  placed_asked false (Asking o false) h = tt
  placed_asked true (Going o p) h = tt
  placed_asked false (Going o p) h = tt
  placed_asked true (Over d n) h = h
  placed_asked false (Over d n) h = h

  placed_closed : (comes : Bool) (s : Stage) → Placed Q s → Placed Q (closed comes place s)
  placed_closed true (Asking o p) h = tt
  placed_closed false (Asking o p) h = tt
  placed_closed true (Going true p) h = here
  placed_closed true (Going false p) h = tt
  placed_closed false (Going o true) h = here
  placed_closed false (Going o false) h = tt
  placed_closed true (Over d n) h = h
  placed_closed false (Over d n) h = h

  placed_acts : (a : Act) (k : Course) → Placed Q k.stage → Placed Q (acts x place a k).stage
  placed_acts (act.Asks comes own foreign) k h = by (is_of x comes own foreign && place == stamp x comes) where
    by : (b : Bool) → Placed Q (if b then record k { stage = asked comes k.stage } else k).stage
    by true = placed_asked comes k.stage h
    by false = h
  placed_acts (act.Closes comes own foreign) k h = by (is_of x comes own foreign) where
    by : (b : Bool) → Placed Q (if b then ended_by (closed comes place) k else k).stage
    by true = placed_closed comes k.stage h
    by false = h
  placed_acts (act.Resets comes) k h = placed_cut Dropped k.stage h
  placed_acts act.Replies k h = by k.owes where
    by : (b : Bool) → Placed Q (if b then k else ended_by (cut Dropped place) k).stage
    by true = h
    by false = placed_cut Dropped k.stage h
  placed_acts act.Fails k h = by k.owes where
    by : (b : Bool) → Placed Q (if b then k else ended_by (cut Dropped place) k).stage
    by true = h
    by false = placed_cut Dropped k.stage h
  placed_acts act.Stops k h = placed_cut Stopped k.stage h
  placed_acts act.Starts k h = h

  placed_after : (comes : Bool) (deeds : List Deed) (k : Course) → AreAt comes place deeds → Placed Q k.stage
      → Placed Q (after x deeds k).stage
  placed_after comes [] k at h = h
  placed_after comes (d ∷ deeds) k at h = placed_after comes deeds (step x d k) at.2 (by _) where
    by : (b : Bool) → Placed Q (if b then acts x d.place d.act k else k).stage
    by true = subst (λ (n : ℕ). Placed Q (acts x n d.act k).stage) (sym at.0) (placed_acts d.act k h)
    by false = h

  pub placed_crosses : (c : Crossing) (k : Course) → Placed Q k.stage → Placed Q (crosses x place c k).stage
  placed_crosses c k h =
      subst (λ (j : Course). Placed Q j.stage) (one_crossing x place c k)
      (placed_after (side c) (deeds_at place c) k (at_crossing c place) h)

pub placed_open : (Q : ℕ → Type 0) (s : Stage) → Placed Q s → Placed Q (reopened s)
placed_open Q (Asking o p) h = h
placed_open Q (Going o p) h = h
placed_open Q (Over Dropped n) h = h
placed_open Q (Over Stopped n) h = h
placed_open Q (Over (Closed first) n) h = tt

-- ---- with the CLS of one side and without

abbrev IsSided : Bool → Stage → Type 0
IsSided comes (Asking o p) = Unit {0}
IsSided true (Going o p) = o ≡ false
IsSided false (Going o p) = p ≡ false
IsSided comes (Over Dropped n) = Unit {0}
IsSided comes (Over Stopped n) = Unit {0}
IsSided comes (Over (Closed first) n) = ⊥

record IsOpened (comes : Bool) (s t : Course) : Type 0 where
  stage : t.stage ≡ reopened s.stage
  owes : t.owes ≡ s.owes
  sided : IsSided comes s.stage

open_sided : (comes : Bool) (s : Stage) → IsSided comes (reopened s)
open_sided comes (Asking o p) = tt
open_sided true (Going o p) = refl
open_sided false (Going o p) = refl
open_sided comes (Over Dropped n) = tt
open_sided comes (Over Stopped n) = tt
open_sided true (Over (Closed first) n) = refl
open_sided false (Over (Closed first) n) = refl

open_twice : (s : Stage) → reopened (reopened s) ≡ reopened s
open_twice (Asking o p) = refl
open_twice (Going o p) = refl
open_twice (Over Dropped n) = refl
open_twice (Over Stopped n) = refl
open_twice (Over (Closed first) n) = refl

abbrev IsKept : Bool → Stage → Stage → Type 0
IsKept comes s t = (t ≡ reopened s) × IsSided comes s

kept_asked : (comes way : Bool) (s : Stage) → IsSided comes s → IsKept comes (asked way s) (asked way (reopened s))
kept_asked comes true (Asking true p) h = (refl, open_sided comes (Going false false))
kept_asked comes true (Asking false p) h = (refl, tt)
kept_asked comes false (Asking o true) h = (refl, open_sided comes (Going false false))
kept_asked comes false (Asking o false) h = (refl, tt)
kept_asked comes true (Going o p) h = (refl, h)
kept_asked comes false (Going o p) h = (refl, h)
kept_asked comes true (Over Dropped n) h = (refl, tt)
kept_asked comes false (Over Dropped n) h = (refl, tt)
kept_asked comes true (Over Stopped n) h = (refl, tt)
kept_asked comes false (Over Stopped n) h = (refl, tt)
kept_asked comes way (Over (Closed first) n) h = absurd h

kept_closed : (comes : Bool) (place : ℕ) (s : Stage) → IsSided comes s → IsKept comes (closed comes place s) (reopened s)
kept_closed true place (Asking o p) h = (refl, tt)
kept_closed false place (Asking o p) h = (refl, tt)
kept_closed true place (Going true p) h = absurd (false≢true (sym h))
kept_closed true place (Going false p) h = (refl, refl)
kept_closed false place (Going o true) h = absurd (false≢true (sym h))
kept_closed false place (Going o false) h = (refl, refl)
kept_closed true place (Over Dropped n) h = (refl, tt)
kept_closed false place (Over Dropped n) h = (refl, tt)
kept_closed true place (Over Stopped n) h = (refl, tt)
kept_closed false place (Over Stopped n) h = (refl, tt)
kept_closed comes place (Over (Closed first) n) h = absurd h

-- what drops its connections, or stops its host
abbrev Cuts : Cause → Type 0
Cuts Dropped = Unit {0}
Cuts Stopped = Unit {0}
Cuts (Closed first) = ⊥

kept_cut : (comes : Bool) (place : ℕ) (c : Cause) → Cuts c → (s : Stage) → IsSided comes s
    → IsKept comes (cut c place s) (cut c place (reopened s))
kept_cut comes place c is (Asking o p) h = (refl, tt)
kept_cut comes place Dropped is (Going o p) h = (refl, tt)
kept_cut comes place Stopped is (Going o p) h = (refl, tt)
kept_cut comes place (Closed first) is (Going o p) h = absurd is
kept_cut comes place c is (Over Dropped n) h = (refl, tt)
kept_cut comes place c is (Over Stopped n) h = (refl, tt)
kept_cut comes place c is (Over (Closed first) n) h = absurd h

module _ (comes : Bool) (x : Life) where
  -- the same change of both
  opened_by : (change : Stage → Stage) (s t : Course) (v w : Bool) → v ≡ w → IsOpened comes s t
      → IsKept comes (change s.stage) (change (reopened s.stage))
      → IsOpened comes (record (ended_by change s) { owes = w }) (record (ended_by change t) { owes = v })
  opened_by change s t v w e h kept = record { stage = ap change h.stage ∙ kept.0; owes = e; sided = kept.1 }

  opened_cut : (place : ℕ) (s t : Course) → IsOpened comes s t
      → IsOpened comes (ended_by (cut Dropped place) s) (ended_by (cut Dropped place) t)
  opened_cut place s t h =
      let kept = kept_cut comes place Dropped tt s.stage h.sided in
      record { stage = ap (cut Dropped place) h.stage ∙ kept.0; owes = h.owes; sided = kept.1 }

  opened_unowed : (place : ℕ) (s t : Course) → IsOpened comes s t
      → IsOpened comes (if s.owes then s else ended_by (cut Dropped place) s)
      (if t.owes then t else ended_by (cut Dropped place) t)
  opened_unowed place s t h = by s.owes t.owes h.owes where
    by : (v w : Bool) → w ≡ v
        → IsOpened comes (if v then s else ended_by (cut Dropped place) s)
        (if w then t else ended_by (cut Dropped place) t)
    by true true e = h
    by false false e = opened_cut place s t h
    by true false e = absurd (false≢true e)
    by false true e = absurd (false≢true (sym e))

  opened_acts : (place : ℕ) (a : Act) (s t : Course) → IsSide comes a → IsOpened comes s t
      → IsOpened comes (acts x place a s) (if is_open a then acts x place a t else t)
  opened_acts place (act.Asks way own foreign) s t is h = by (is_of x way own foreign && place == stamp x way) where
    by : (b : Bool) → IsOpened comes (if b then record s { stage = asked way s.stage } else s)
        (if b then record t { stage = asked way t.stage } else t)
    by true =
        let kept = kept_asked comes way s.stage h.sided in
        record { stage = ap (asked way) h.stage ∙ kept.0; owes = h.owes; sided = kept.1 }
    by false = h
  opened_acts place (act.Closes way own foreign) s t is h = by (is_of x way own foreign) where
    kept : IsKept comes (closed way place s.stage) (reopened s.stage)
    kept =
        subst (λ (w : Bool). IsKept comes (closed w place s.stage) (reopened s.stage)) (sym is)
        (kept_closed comes place s.stage h.sided)

    by : (b : Bool) → IsOpened comes (if b then ended_by (closed way place) s else s) t
    by true = record { stage = h.stage ∙ kept.0; owes = h.owes; sided = kept.1 }
    by false = h
  opened_acts place (act.Resets way) s t is h =
      opened_by (cut Dropped place) s t (way || t.owes) (way || s.owes) (ap (λ (o : Bool). way || o) h.owes) h
      (kept_cut comes place Dropped tt s.stage h.sided)
  opened_acts place act.Replies s t is h =
      let r = opened_unowed place s t h in record { stage = r.stage; owes = refl; sided = r.sided }
  opened_acts place act.Fails s t is h = opened_unowed place s t h
  opened_acts place act.Stops s t is h =
      opened_by (cut Stopped place) s t false false refl h (kept_cut comes place Stopped tt s.stage h.sided)
  opened_acts place act.Starts s t is h = record { stage = h.stage; owes = refl; sided = h.sided }

  opened_after : (place : ℕ) (deeds : List Deed) (s t : Course) → AreAt comes place deeds → IsOpened comes s t
      → IsOpened comes (after x deeds s) (after x (but_closes deeds) t)
  opened_after place [] s t at h = h
  opened_after place (d ∷ deeds) s t at h =
      by (is_open d.act) (opened_acts d.place d.act s t at.1 h) (λ p q o. opened_after place deeds p q at.2 o) where
        concerned : Bool
        concerned = concerns x d

        here : (b : Bool) (k : Course) → IsOpened comes (acts x d.place d.act s) k
            → IsOpened comes (if b then acts x d.place d.act s else s) (if b then k else t)
        here true k o = o
        here false k o = h

        by : (o : Bool) → IsOpened comes (acts x d.place d.act s) (if o then acts x d.place d.act t else t)
            → ((p q : Course) → IsOpened comes p q → IsOpened comes (after x deeds p) (after x (but_closes deeds) q))
            → IsOpened comes (after x deeds (step x d s)) (after x (if o then d ∷ but_closes deeds else but_closes deeds) t)
        by true one rest = rest (step x d s) (step x d t) (here concerned (acts x d.place d.act t) one)
        by false one rest = rest (step x d s) t (stay concerned) where
          stay : (b : Bool) → IsOpened comes (if b then acts x d.place d.act s else s) t
          stay true = one
          stay false = h

-- ---- all crossings

but_append : (deeds more : List Deed) → but_closes (deeds ++ more) ≡ but_closes deeds ++ but_closes more
but_append [] more = refl
but_append (d ∷ deeds) more = by (is_open d.act) (but_append deeds more) where
  by : (b : Bool) → but_closes (deeds ++ more) ≡ but_closes deeds ++ but_closes more
      → (if b then d ∷ but_closes (deeds ++ more) else but_closes (deeds ++ more))
      ≡ (if b then d ∷ but_closes deeds else but_closes deeds) ++ but_closes more
  by true e = ap (λ (ds : List Deed). d ∷ ds) e
  by false e = e

unclosed_open : (x : Life) (log : List Crossing) → reopened (unclosed x log) ≡ unclosed x log
unclosed_open x [] = refl
unclosed_open x (c ∷ log) = open_twice _

unclosed_sided : (comes : Bool) (x : Life) (log : List Crossing) → IsSided comes (unclosed x log)
unclosed_sided comes x [] = tt
unclosed_sided comes x (c ∷ log) = open_sided comes _

abbrev pub open_course : Life → List Crossing → Course
open_course x log = after x (but_closes (deeds_in log)) opening

record AreOpen (x : Life) (log : List Crossing) : Type 0 where
  stage : (open_course x log).stage ≡ unclosed x log
  owes : (open_course x log).owes ≡ (course [] x log).owes

open_next : (x : Life) (c : Crossing) (log : List Crossing) → AreOpen x log → AreOpen x (c ∷ log)
open_next x c log rest = record {
  stage = ap (λ (k : Course). k.stage) split ∙ now.stage
      ∙ ap (λ (k : Course). reopened k.stage) (one_crossing x (length log) c was);
  owes = ap (λ (k : Course). k.owes) split ∙ now.owes
      ∙ ap (λ (k : Course). k.owes) (one_crossing x (length log) c was)
      ∙ owes_crosses x (length log) c was (course [] x log) refl;
} where
  was : Course
  was = record (course [] x log) { stage = unclosed x log }

  deeds : List Deed
  deeds = deeds_at (length log) c

  split : open_course x (c ∷ log) ≡ after x (but_closes deeds) (open_course x log)
  split =
      ap (λ (ds : List Deed). after x ds opening) (but_append (deeds_in log) deeds)
      ∙ after_append x (but_closes (deeds_in log)) (but_closes deeds) opening

  now : IsOpened (side c) (after x deeds was) (after x (but_closes deeds) (open_course x log))
  now =
      opened_after (side c) x (length log) deeds was (open_course x log) (at_crossing c (length log))
      (record {
        stage = rest.stage ∙ sym (unclosed_open x log);
        owes = rest.owes;
        sided = unclosed_sided (side c) x log;
      })

all_open : (x : Life) (log : List Crossing) → AreOpen x log
all_open x [] = record { stage = refl; owes = refl }
all_open x (c ∷ log) = open_next x c log (all_open x log)

pub unclosed_is : (x : Life) (log : List Crossing) → (open_course x log).stage ≡ unclosed x log
unclosed_is x log = (all_open x log).stage

pub over_open : (x : Life) (log : List Crossing) (c : Cause) (n : ℕ) → unclosed x log ≡ Over c n
    → reopened (Over c n) ≡ Over c n
over_open x log c n e = ap reopened (sym e) ∙ unclosed_open x log ∙ e

-- where its connections are cut
end_begun : (all : ℕ) (early : Bool) (s : Stage) → end_by all (begun_by early s) ≡ over_at all s
end_begun all early (Asking o p) = refl
end_begun all early (Going o p) = refl
end_begun all early (Over c n) = refl

pub cut_is : (all : ℕ) (x : Life) (log : List Crossing)
    → end_by all (begun_by (open_course x log).early (open_course x log).stage) ≡ over_at all (unclosed x log)
cut_is all x log =
    end_begun all (open_course x log).early (open_course x log).stage ∙ ap (over_at all) (unclosed_is x log)

-- ---- beside the life itself

-- it begins where the life does; and as long as that continues, nothing has cut its connections
abbrev pub IsBesideOpen : Stage → Stage → Type 0
IsBesideOpen (Asking o p) u = u ≡ Asking o p
IsBesideOpen (Going o p) u = u ≡ Going false false
IsBesideOpen (Over c n) u = is_begun u ≡ true

open_asked : (comes : Bool) (s u : Stage) → IsBesideOpen s u → IsBesideOpen (asked comes s) (asked comes u)
open_asked true (Asking true p) u h = ap (asked true) h
open_asked true (Asking false p) u h = ap (asked true) h
open_asked false (Asking o true) u h = ap (asked false) h
open_asked false (Asking o false) u h = ap (asked false) h
open_asked true (Going o p) u h = ap (asked true) h
open_asked false (Going o p) u h = ap (asked false) h
open_asked true (Over c n) u h = begun_asked true u h
open_asked false (Over c n) u h = begun_asked false u h

open_closed : (comes : Bool) (place : ℕ) (s u : Stage) → IsBesideOpen s u → IsBesideOpen (closed comes place s) u
open_closed true place (Asking o p) u h = h
open_closed false place (Asking o p) u h = h
open_closed true place (Going true p) u h = ap is_begun h
open_closed true place (Going false p) u h = h
open_closed false place (Going o true) u h = ap is_begun h
open_closed false place (Going o false) u h = h
open_closed true place (Over c n) u h = h
open_closed false place (Over c n) u h = h

open_cut : (c : Cause) (place : ℕ) (s u : Stage) → IsBesideOpen s u → IsBesideOpen (cut c place s) (cut c place u)
open_cut c place (Asking o p) u h = ap (cut c place) h
open_cut c place (Going o p) u h = ap (λ (v : Stage). is_begun (cut c place v)) h
open_cut c place (Over d n) u h = begun_cut c place u h

record AreBeside (s t : Course) : Type 0 where
  stage : IsBesideOpen s.stage t.stage
  owes : t.owes ≡ s.owes

module _ (x : Life) where
  beside_unowed : (place : ℕ) (s t : Course) → AreBeside s t
      → AreBeside (if s.owes then s else ended_by (cut Dropped place) s)
      (if t.owes then t else ended_by (cut Dropped place) t)
  beside_unowed place s t h = by s.owes t.owes h.owes where
    by : (v w : Bool) → w ≡ v
        → AreBeside (if v then s else ended_by (cut Dropped place) s)
        (if w then t else ended_by (cut Dropped place) t)
    by true true e = h
    by false false e = record { stage = open_cut Dropped place s.stage t.stage h.stage; owes = h.owes }
    by true false e = absurd (false≢true e)
    by false true e = absurd (false≢true (sym e))

  beside_acts : (place : ℕ) (a : Act) (s t : Course) → AreBeside s t
      → AreBeside (acts x place a s) (if is_open a then acts x place a t else t)
  beside_acts place (act.Asks way own foreign) s t h = by (is_of x way own foreign && place == stamp x way) where
    by : (b : Bool) → AreBeside (if b then record s { stage = asked way s.stage } else s)
        (if b then record t { stage = asked way t.stage } else t)
    by true = record { stage = open_asked way s.stage t.stage h.stage; owes = h.owes }
    by false = h
  beside_acts place (act.Closes way own foreign) s t h = by (is_of x way own foreign) where
    by : (b : Bool) → AreBeside (if b then ended_by (closed way place) s else s) t
    by true = record { stage = open_closed way place s.stage t.stage h.stage; owes = h.owes }
    by false = h
  beside_acts place (act.Resets way) s t h = record {
    stage = open_cut Dropped place s.stage t.stage h.stage;
    owes = ap (λ (o : Bool). way || o) h.owes;
  }
  beside_acts place act.Replies s t h =
      let r = beside_unowed place s t h in record { stage = r.stage; owes = refl }
  beside_acts place act.Fails s t h = beside_unowed place s t h
  beside_acts place act.Stops s t h =
      record { stage = open_cut Stopped place s.stage t.stage h.stage; owes = refl }
  beside_acts place act.Starts s t h = record { stage = h.stage; owes = refl }

  beside_after : (deeds : List Deed) (s t : Course) → AreBeside s t
      → AreBeside (after x deeds s) (after x (but_closes deeds) t)
  beside_after [] s t h = h
  beside_after (d ∷ deeds) s t h =
      by (is_open d.act) (beside_acts d.place d.act s t h) (λ p q o. beside_after deeds p q o) where
        concerned : Bool
        concerned = concerns x d

        by : (o : Bool) → AreBeside (acts x d.place d.act s) (if o then acts x d.place d.act t else t)
            → ((p q : Course) → AreBeside p q → AreBeside (after x deeds p) (after x (but_closes deeds) q))
            → AreBeside (after x deeds (step x d s)) (after x (if o then d ∷ but_closes deeds else but_closes deeds) t)
        by true one rest = rest (step x d s) (step x d t) (here concerned) where
          here : (b : Bool) → AreBeside (if b then acts x d.place d.act s else s) (if b then acts x d.place d.act t else t)
          here true = one
          here false = h
        by false one rest = rest (step x d s) t (stay concerned) where
          stay : (b : Bool) → AreBeside (if b then acts x d.place d.act s else s) t
          stay true = one
          stay false = h

pub beside_open : (x : Life) (log : List Crossing) → IsBesideOpen (stage [] x log) (unclosed x log)
beside_open x log =
    subst (λ (k : Course). IsBesideOpen k.stage (unclosed x log)) (all_crossings x log)
    (subst (IsBesideOpen (after x (deeds_in log) opening).stage) (unclosed_is x log)
    (beside_after x (deeds_in log) opening opening (record { stage = refl; owes = refl })).stage)
