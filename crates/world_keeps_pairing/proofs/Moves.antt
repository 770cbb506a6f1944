-- What one of two hosts may say, and that what it hears fits.
use Rattle.world_keeps_pairing.proofs.Common.{◌≡◌, ℕ, ◌+◌, ◌≤◌, Bool, true, false, if◌then◌else◌, List, [], ◌∷◌, refl, ap, sym, subst, ◌∙◌, arith, End, fits, mark_taken, Mark, Ask, Close, all_said, all_heard, NameFree}
use Rattle.host_keeps_pairing.specs.Words.{AllFit, MayAllGo, all_gone, all_taken}
use Rattle.pairing_law.specs.Sides.{Side, says, hears, One, Two, Say, both, IsRun}
use Rattle.pairing_law.specs.Links.{Sockets, same, Word, Who, Receiver, Sender, Step, Says, Hears, receiver, sender, events_at, with_event, AreSteps}
use Rattle.pairing_law.proofs.lemmas.{joined_fits, joined_run, put, run_at, same_self, turned, at}
use Rattle.pairing_law.specs.Sides as sides
use Rattle.pairing_law.specs.Links as links
use Rattle.world_keeps_pairing.proofs.Sides.{all_says, all_hears, hears_if, left_if, met_if}
use Rattle.world_keeps_pairing.proofs.Marks.{AllAt, AllPairs, IsPair}

-- ---- one host

pub says_end : (ms : List Mark) (x : Side) → (all_says ms x).end ≡ all_gone ms x.end
says_end [] x = refl
says_end (m ∷ ms) x = says_end ms (says m x)

pub hears_end : (ms : List Mark) (x : Side) → AllFit ms x.end → (all_hears ms x).end ≡ all_taken ms x.end
hears_end [] x h = refl
hears_end (m ∷ ms) x h =
    let is : (hears m x).end ≡ mark_taken m x.end = ap (λ (b : Bool). if b then mark_taken m x.end else x.end) h.0 in
    hears_end ms (hears m x) (subst (λ (e : End). AllFit ms e) (sym is) h.1) ∙ ap (all_taken ms) is

pub says_next : (place : ℕ) (ms : List Mark) (x : Side) → AllAt place ms → x.next ≤ place + 1 → (all_says ms x).next ≤ place + 1
says_next place [] x h below = below
says_next place (Ask p ∷ ms) x h below = says_next place ms (says (Ask p) x) h.1 (omega (arith, h.0))
says_next place (Close ∷ ms) x h below = says_next place ms (says Close x) h below

hears_all_next : (ms : List Mark) (x : Side) → (all_hears ms x).next ≡ x.next
hears_all_next [] x = refl
hears_all_next (m ∷ ms) x = hears_all_next ms (hears m x)

pub hears_next : (b : Bool) (ms : List Mark) (x : Side) → (hears_if b ms x).next ≡ x.next
hears_next true ms x = hears_all_next ms x
hears_next false ms x = refl

pub left_next : (keep : Bool) (x : Side) → (left_if keep x).next ≡ x.next
left_next true x = refl
left_next false x = refl

pub met_next : (begin : Bool) (x : Side) → (met_if begin x).next ≡ x.next
met_next true x = refl
met_next false x = refl

-- ---- what may be said

may_first : (b : Bool) (m : Mark) (ms : List Mark) (e : End) (next : ℕ) → b ≡ true → MayAllGo (put b m ms) e next → MayAllGo (m ∷ ms) e next
may_first true m ms e next is h = h
may_first false m ms e next is h = absurd (let no : false ≡ true = is in cc)

one_next : (b : Bool) (m : Mark) (ms : List Mark) (es : List sides.Event) → MayAllGo (put b m ms) (both es).one.end (both es).one.next
    → MayAllGo ms (both (with_event (links.when b (One (Say m))) es)).one.end (both (with_event (links.when b (One (Say m))) es)).one.next
one_next true m ms es h = h.2
one_next false m ms es h = h

two_next : (b : Bool) (m : Mark) (ms : List Mark) (es : List sides.Event) → MayAllGo (put b m ms) (both es).two.end (both es).two.next
    → MayAllGo ms (both (with_event (links.when b (Two (Say m))) es)).two.end (both (with_event (links.when b (Two (Say m))) es)).two.next
two_next true m ms es h = h.2
two_next false m ms es h = h

pub receiver_speaks : (ws : List Word) (xs : List Step) → AllPairs ws → AreSteps xs → ((s : Sockets) → IsPair s → MayAllGo (at s ws) (receiver s xs).end (receiver s xs).next) → NameFree ws xs → AreSteps (all_said Receiver ws xs)
receiver_speaks [] xs p h may free = h
receiver_speaks (w ∷ ws) xs p h may free =
    let t : Sockets = w.sockets in
    let now : MayAllGo (w.mark ∷ at w.sockets ws) (receiver w.sockets xs).end (receiver w.sockets xs).next =
    may_first _ w.mark _ _ _ (same_self w.sockets) (may w.sockets p.0) in
    receiver_speaks ws (Says Receiver w ∷ xs) p.1 ((((now.0, now.1), free.0)), h) (λ s q. one_next (same s w.sockets) w.mark (at s ws) (events_at s xs) (may s q)) free.1

pub sender_speaks : (ws : List Word) (xs : List Step) → AllPairs ws → AreSteps xs → ((s : Sockets) → IsPair s → MayAllGo (at s ws) (sender s xs).end (sender s xs).next) → AreSteps (all_said Sender ws xs)
sender_speaks [] xs p h may = h
sender_speaks (w ∷ ws) xs p h may =
    let now : MayAllGo (w.mark ∷ at w.sockets ws) (sender w.sockets xs).end (sender w.sockets xs).next =
    may_first _ w.mark _ _ _ (same_self w.sockets) (may w.sockets p.0) in
    sender_speaks ws (Says Sender w ∷ xs) p.1 ((now.0, now.1), h) (λ s q. two_next (same s w.sockets) w.mark (at s ws) (events_at s xs) (may s q))

-- ---- what is heard fits

pub under_heard : (who : Who) (ws : List Word) (xs : List Step) → AreSteps (all_heard who ws xs) → AreSteps xs
under_heard who [] xs h = h
under_heard who (w ∷ ws) xs h = (under_heard who ws (Hears who w ∷ xs) h).1

one_fits : (b : Bool) (m : Mark) (ms : List Mark) (es : List sides.Event) → IsRun (with_event (links.when b (One (sides.Hear m))) es) → AllFit ms (both (with_event (links.when b (One (sides.Hear m))) es)).one.end
    → AllFit (put b m ms) (both es).one.end
one_fits true m ms es r h =
    let fit : fits m _ ≡ true = joined_fits m _ _ (joined_run es r.1) r.0 in
    (fit, subst (λ (e : End). AllFit ms e) (ap (λ (b : Bool). if b then mark_taken m (both es).one.end else (both es).one.end) fit) h)
one_fits false m ms es r h = h

two_fits : (b : Bool) (m : Mark) (ms : List Mark) (es : List sides.Event) → IsRun (with_event (links.when b (Two (sides.Hear m))) es) → AllFit ms (both (with_event (links.when b (Two (sides.Hear m))) es)).two.end
    → AllFit (put b m ms) (both es).two.end
two_fits true m ms es r h =
    let fit : fits m _ ≡ true = joined_fits m _ _ (turned _ _ (joined_run es r.1)) r.0 in
    (fit, subst (λ (e : End). AllFit ms e) (ap (λ (b : Bool). if b then mark_taken m (both es).two.end else (both es).two.end) fit) h)
two_fits false m ms es r h = h

pub receiver_fits : (s : Sockets) (ws : List Word) (xs : List Step) → AreSteps (all_heard Receiver ws xs) → AllFit (at s ws) (receiver s xs).end
receiver_fits s [] xs h = tt
receiver_fits s (w ∷ ws) xs h =
    one_fits _ w.mark _ _ (run_at s (Hears Receiver w ∷ xs) (under_heard Receiver ws _ h)) (receiver_fits s ws (Hears Receiver w ∷ xs) h)

pub sender_fits : (s : Sockets) (ws : List Word) (xs : List Step) → AreSteps (all_heard Sender ws xs) → AllFit (at s ws) (sender s xs).end
sender_fits s [] xs h = tt
sender_fits s (w ∷ ws) xs h =
    two_fits _ w.mark _ _ (run_at s (Hears Sender w ∷ xs) (under_heard Sender ws _ h)) (sender_fits s ws (Hears Sender w ∷ xs) h)
