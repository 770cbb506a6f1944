-- Changes bring a life as far as all deeds do.
use Rattle.book_judge.proofs.Common.{drop_all, drop_more, Host, same_host, and_true, same_host-true, Life, Key, Act, Deed, Change, Owed, Turn, same_key}
use Rattle.std.proofs.Common.{◌≡◌, ℕ, ◌+◌, ◌<◌, ◌≤◌, ◌==◌, Bool, true, false, not, ◌&&◌, ◌||◌, List, [], ◌∷◌, ◌++◌, length, drop, get_or, Option, Some, None, append-nil, refl, ap, sym, subst, ◌∙◌, if◌then◌else◌, append_assoc}
use Rattle.promise.specs.Ends.{Course, Dropped, Stage, Stopped, cut, ended_by, is_half}
use Rattle.book_judge.specs.Inside.Begins.{ask_key, key}
use Rattle.book_judge.specs.Inside.Changes.{changes_in, nothing_owed, owed_once, owes, owes_after, owes_never, turn_of, with_turn}
use Rattle.book_judge.specs.Inside.Deeds.{Pace, acts, after, asked, closed, has_peer, is_of, owes_by, pace_of, stamp, step, concerns}
use Rattle.book_judge.specs.declared.fates.deeds.Act.TheVariants as act
use Rattle.book_judge.specs.declared.fates.changes.Turn.TheVariants as turn
use Rattle.book_judge.proofs.Ends.Owed.{AreBefore, before_first, owes_first, owes_next}

-- ---- changes of a life

-- the CLS of a life that its host takes, or sends
abbrev pub close_key : Life → Bool → Key
close_key x true = key 0 x.host x.peer true x.foreign x.socket
close_key x false = key 0 x.host x.peer false x.socket x.foreign

-- what ends a life comes
abbrev pub ended : (Stage → Stage) → Pace → Pace
ended change s = (change s.0, s.1 || is_half s.0)

abbrev pub turned_by : Life → Change → Turn → Pace → Pace
turned_by x c (turn.Asks comes own foreign) s =
    if same_key (ask_key x comes) (key c.place c.host c.peer comes own foreign) then (asked comes s.0, s.1) else s
turned_by x c (turn.Closes comes own foreign) s =
    if same_key (close_key x comes) (key 0 c.host c.peer comes own foreign) then ended (closed comes c.place) s else s
turned_by x c turn.Drops s =
    if same_host x.host c.host && same_host x.peer c.peer then ended (cut Dropped c.place) s else s
turned_by x c turn.Stops s = if same_host x.host c.host then ended (cut Stopped c.place) s else s

-- how far it is after changes, the oldest first
abbrev pub turned : Life → List Change → Pace → Pace
turned x [] s = s
turned x (c ∷ changes) s = turned x changes (turned_by x c c.turn s)

-- ---- one deed

pace_if : (b : Bool) (p k : Course) → pace_of (if b then p else k) ≡ (if b then pace_of p else pace_of k)
pace_if true p k = refl
pace_if false p k = refl

-- the tests of a request in one order and in another
ask_tests : (p a b s f : Bool) (u v : Course) → (if p && a && b && s && f then pace_of u else pace_of v)
    ≡ (if a && b then pace_of (if (s && f) && p then u else v) else pace_of v)
ask_tests true true true true true u v = refl
ask_tests true true true true false u v = refl
ask_tests true true true false f u v = refl
ask_tests true true false s f u v = refl
ask_tests true false b s f u v = refl
ask_tests false true true true true u v = refl
ask_tests false true true true false u v = refl
ask_tests false true true false f u v = refl
ask_tests false true false s f u v = refl
ask_tests false false b s f u v = refl

close_tests : (a b s f : Bool) (u v : Course) → (if a && b && s && f then pace_of u else pace_of v)
    ≡ (if a && b then pace_of (if s && f then u else v) else pace_of v)
close_tests true true s f u v = sym (pace_if (s && f) u v)
close_tests true false s f u v = refl
close_tests false b s f u v = refl

-- an RRP, or a message that fails
unowed_tests : (a b w : Bool) (x : Life) (d : Deed) (k : Course) (changes : List Change) → same_host x.host d.host
    ≡ a → same_host x.peer d.peer ≡ b
    → (a && b ≡ true → k.owes ≡ w)
    → turned x (with_turn d (if w then None else Some turn.Drops) changes) (pace_of k)
    ≡ turned x changes (if a && b then pace_of (if k.owes then k else ended_by (cut Dropped d.place) k) else pace_of k)
unowed_tests true true true x d k changes e f same =
    ap (λ (o : Bool). turned x changes (pace_of (if o then k else ended_by (cut Dropped d.place) k))) (sym (same refl))
unowed_tests true true false x d k changes e f same =
    ap (λ (t : Bool). turned x changes (if t then ended (cut Dropped d.place) (pace_of k) else pace_of k))
    (ap (λ (t : Bool). t && same_host x.peer d.peer) e ∙ f)
    ∙ ap (λ (o : Bool). turned x changes (pace_of (if o then k else ended_by (cut Dropped d.place) k)))
    (sym (same refl))
unowed_tests true false true x d k changes e f same = refl
unowed_tests true false false x d k changes e f same =
    ap (λ (t : Bool). turned x changes (if t then ended (cut Dropped d.place) (pace_of k) else pace_of k))
    (ap (λ (t : Bool). t && same_host x.peer d.peer) e ∙ f)
unowed_tests false b true x d k changes e f same = refl
unowed_tests false b false x d k changes e f same =
    ap (λ (t : Bool). turned x changes (if t then ended (cut Dropped d.place) (pace_of k) else pace_of k))
    (ap (λ (t : Bool). t && same_host x.peer d.peer) e)

-- what is owed by a life's host is what is owed by the host of a deed that concerns it
owed_here : (x : Life) (d : Deed) (owes : Host → Host → Bool) (k : Course) → owes x.host x.peer ≡ k.owes
    → same_host x.host d.host && same_host x.peer d.peer ≡ true → k.owes ≡ owes d.host d.peer
owed_here x d owes k e t =
    let both = and_true (same_host x.host d.host) (same_host x.peer d.peer) t in
    sym e ∙ ap (λ (h : Host). owes h x.peer) (same_host-true x.host d.host both.0)
    ∙ ap (λ (h : Host). owes d.host h) (same_host-true x.peer d.peer both.1)

and_yes : (b : Bool) (u v : Pace) → (if b then u else v) ≡ (if b && true then u else v)
and_yes true u v = refl
and_yes false u v = refl

idle : (b : Bool) (u : Pace) → u ≡ (if b then u else u)
idle true u = refl
idle false u = refl

one_act : (x : Life) (d : Deed) (a : Act) (owes : Host → Host → Bool) (k : Course) (changes : List Change)
    → owes x.host x.peer ≡ k.owes
    → turned x (with_turn d (turn_of a (owes d.host d.peer)) changes) (pace_of k)
    ≡ turned x changes
    (if same_host x.host d.host
    && (not (has_peer a) || same_host x.peer d.peer) then pace_of (acts x d.place a k) else pace_of k)
one_act x d (act.Asks true own foreign) owes k changes e =
    ap (turned x changes)
    (ask_tests (d.place == x.partner_stamp) (same_host x.host d.host) (same_host x.peer d.peer) (own == x.foreign)
    (foreign == x.socket) (record k { stage = asked true k.stage }) k)
one_act x d (act.Asks false own foreign) owes k changes e =
    ap (turned x changes)
    (ask_tests (d.place == x.own_stamp) (same_host x.host d.host) (same_host x.peer d.peer) (own == x.socket)
    (foreign == x.foreign) (record k { stage = asked false k.stage }) k)
one_act x d (act.Closes true own foreign) owes k changes e =
    ap (turned x changes)
    (close_tests (same_host x.host d.host) (same_host x.peer d.peer) (own == x.foreign) (foreign == x.socket)
    (ended_by (closed true d.place) k) k)
one_act x d (act.Closes false own foreign) owes k changes e =
    ap (turned x changes)
    (close_tests (same_host x.host d.host) (same_host x.peer d.peer) (own == x.socket) (foreign == x.foreign)
    (ended_by (closed false d.place) k) k)
one_act x d (act.Resets comes) owes k changes e = refl
one_act x d act.Replies owes k changes e =
    unowed_tests (same_host x.host d.host) (same_host x.peer d.peer) (owes d.host d.peer) x d k changes refl refl
    (owed_here x d owes k e)
one_act x d act.Fails owes k changes e =
    unowed_tests (same_host x.host d.host) (same_host x.peer d.peer) (owes d.host d.peer) x d k changes refl refl
    (owed_here x d owes k e)
one_act x d act.Stops owes k changes e =
    ap (turned x changes)
    (and_yes (same_host x.host d.host) (ended (cut Stopped d.place) (pace_of k)) (pace_of k))
one_act x d act.Starts owes k changes e = ap (turned x changes) (idle (same_host x.host d.host && true) (pace_of k))

-- ---- all deeds

pub owes_acts : (x : Life) (place : ℕ) (a : Act) (k : Course) → (acts x place a k).owes ≡ owes_by a k.owes
owes_acts x place (act.Asks comes own foreign) k = by (is_of x comes own foreign && place == stamp x comes) where
  by : (b : Bool) → (if b then record k { stage = asked comes k.stage } else k).owes ≡ k.owes
  by true = refl
  by false = refl
owes_acts x place (act.Closes comes own foreign) k = by (is_of x comes own foreign) where
  by : (b : Bool) → (if b then ended_by (closed comes place) k else k).owes ≡ k.owes
  by true = refl
  by false = refl
owes_acts x place (act.Resets comes) k = refl
owes_acts x place act.Replies k = refl
owes_acts x place act.Fails k = by k.owes where
  by : (b : Bool) → (if b then k else ended_by (cut Dropped place) k).owes ≡ k.owes
  by true = refl
  by false = refl
owes_acts x place act.Stops k = refl
owes_acts x place act.Starts k = refl

owes_step : (b : Bool) (p k : Course) (o : Bool) → p.owes ≡ o → (if b then o else k.owes) ≡ (if b then p else k).owes
owes_step true p k o e = sym e
owes_step false p k o e = refl

pub changes_same : (x : Life) (deeds : List Deed) (owes : Host → Host → Bool) (k : Course) → owes x.host x.peer
    ≡ k.owes
    → turned x (changes_in owes deeds) (pace_of k) ≡ pace_of (after x deeds k)
changes_same x [] owes k e = refl
changes_same x (d ∷ deeds) owes k e =
    one_act x d d.act owes k (changes_in (owes_after d owes) deeds) e
    ∙ ap (turned x (changes_in (owes_after d owes) deeds)) (sym (pace_if (concerns x d) (acts x d.place d.act k) k))
    ∙ changes_same x deeds (owes_after d owes) (step x d k)
    (ap (λ (o : Bool). if concerns x d then owes_by d.act o else o) e
    ∙ owes_step (concerns x d) (acts x d.place d.act k) k (owes_by d.act k.owes) (owes_acts x d.place d.act k))

-- ---- the search for changes

with_more : (d : Deed) (t : Option Turn) (changes : List Change) → with_turn d t [] ++ changes ≡ with_turn d t changes
with_more d None changes = refl
with_more d (Some t) changes = refl

pub changes_next : (deeds : List Deed) (place : ℕ) (d : Deed) (was is whole : List Change) (o next : Owed) (w : Bool)
    (t : Option Turn)
    → place < length deeds → d ≡ get_or deeds place d → w ≡ owes o d.host d.peer → t ≡ turn_of d.act w → is
    ≡ was ++ with_turn d t []
    → next ≡ owed_once (place + 1) d o → AreBefore place o → was ++ changes_in (owes o) (drop place deeds) ≡ whole
    → is ++ changes_in (owes next) (drop (place + 1) deeds) ≡ whole
changes_next deeds place d was is whole o next w t h at owed turns more noted before e =
    let rest : List Deed = drop (place + 1) deeds in
    let now : drop place deeds ≡ d ∷ rest = drop_more deeds place d h ∙ ap (λ (z : Deed). z ∷ rest) (sym at) in
    let turn : t ≡ turn_of d.act (owes o d.host d.peer) = turns ∙ ap (turn_of d.act) owed in
    let goes : owes next ≡ owes_after d (owes o) = ap owes noted ∙ owes_next place d o before in
    ap (λ (cs : List Change). cs ++ changes_in (owes next) rest) more
    ∙ append_assoc was (with_turn d t []) (changes_in (owes next) rest)
    ∙ ap (λ (cs : List Change). was ++ cs) (with_more d t (changes_in (owes next) rest))
    ∙ ap (λ (ws : Host → Host → Bool). was ++ with_turn d t (changes_in ws rest)) goes
    ∙ ap (λ (u : Option Turn). was ++ with_turn d u (changes_in (owes_after d (owes o)) rest)) turn
    ∙ sym (ap (λ (ds : List Deed). was ++ changes_in (owes o) ds) now) ∙ e

pub changes_first : (deeds : List Deed) (changes : List Change) (o : Owed) → changes ≡ [] → o ≡ nothing_owed
    → (changes ++ changes_in (owes o) (drop 0 deeds) ≡ changes_in owes_never deeds) × AreBefore 0 o
changes_first deeds changes o e f = (
  ap (λ (cs : List Change). cs ++ changes_in (owes o) deeds) e ∙ ap (λ (p : Owed). changes_in (owes p) deeds) f
      ∙ ap (λ (ws : Host → Host → Bool). changes_in ws deeds) owes_first,
  subst AreBefore0 (sym f) before_first,
) where
  AreBefore0 : Owed → Type 0
  AreBefore0 p = AreBefore 0 p

pub changes_last : (deeds : List Deed) (place : ℕ) (changes whole : List Change) (o : Owed) → length deeds ≤ place
    → changes ++ changes_in (owes o) (drop place deeds) ≡ whole → changes ≡ whole
changes_last deeds place changes whole o past e =
    sym (append-nil changes)
    ∙ ap (λ (ds : List Deed). changes ++ changes_in (owes o) ds) (sym (drop_all place deeds past)) ∙ e
