-- A link that a request names is that of no other connection at its sender.
use Rattle.std.proofs.Common.{◌≡◌, ℕ, ◌+◌, ◌<◌, ◌≤◌, ◌==◌, Bool, true, false, List, [], ◌∷◌, ◌++◌, refl, ap, sym, subst, ◌∙◌, inl, inr, if◌then◌else◌, eq-eqb, eq-or-lt_of_le, arith}
use Rattle.std.proofs.lemmas.Bool.{eqb-true, and_parts}
use Rattle.pairing_law.specs.Marks.{Mark, Ask, Close, closes, Asks, IsOlder}
use Rattle.pairing_law.specs.Ends.{End}
use Rattle.pairing_law.specs.Sides.{Move, Say, May, Event, One, Two, both, IsRun}
use Rattle.pairing_law.specs.Links.{Sockets, same, Word, Receiver, Sender, Step, Says, Hears, Leaves, Meets, when, with_event, events_at, receiver, sender, stays, said_words, heard_words, IsAmong, IsUnused, NamesFree, AreSteps}
use Rattle.pairing_law.proofs.Words.{asks_said, closes_said, asks_once}
use Rattle.pairing_law.proofs.Balance.{Balanced, count}
use Rattle.pairing_law.proofs.Joint.{Joined}
use Rattle.pairing_law.proofs.Runs.{joined_run}
use Rattle.pairing_law.proofs.Seen.{put, at, at_older, BothSeen, seen}

pub same_is : (s t : Sockets) → same s t ≡ true → s ≡ t
same_is s t e =
    let h : ((s.receive == t.receive) ≡ true) × ((s.send == t.send) ≡ true) = and_parts (s.receive == t.receive) (s.send == t.send) e in
    ap (λ (r : ℕ). record { receive = r; send = s.send }) (eqb-true s.receive t.receive h.0) ∙ ap (λ (n : ℕ). record { receive = t.receive; send = n }) (eqb-true s.send t.send h.1)

pub same_self : (s : Sockets) → same s s ≡ true
same_self s = rw (eq-eqb s.receive s.receive refl, eq-eqb s.send s.send refl) refl

-- ---- a list of steps is a list of events for each pair of sockets

one_may : (here : Bool) (move : Move) (es : List Event) → (here ≡ true → May move (both es).one (both es).two) → IsRun es → IsRun (with_event (when here (One move)) es)
one_may true move es f r = (f refl, r)
one_may false move es f r = r

two_may : (here : Bool) (move : Move) (es : List Event) → (here ≡ true → May move (both es).two (both es).one) → IsRun es → IsRun (with_event (when here (Two move)) es)
two_may true move es f r = (f refl, r)
two_may false move es f r = r

hear_older : (m : Mark) (here : Bool) (h h' d d' : List Mark) → here ≡ true → h' ≡ h → d' ≡ d → IsOlder (put here m h) d → IsOlder (m ∷ h') d'
hear_older m true h h' d d' e f g o =
    let first : IsOlder (m ∷ h) d' = subst (λ (z : List Mark). IsOlder (m ∷ h) z) (sym g) o in
    subst (λ (z : List Mark). IsOlder (m ∷ z) d') (sym f) first
hear_older m false h h' d d' e f g o = absurd (cc)

pub run_at : (s : Sockets) (steps : List Step) → AreSteps steps → IsRun (events_at s steps)
run_at s [] r = tt
run_at s (Says Receiver w ∷ steps) r =
    one_may _ _ _ (λ e. subst (λ (t : Sockets). May (Say w.mark) (receiver t steps) (sender t steps)) (sym (same_is s _ e)) r.0.0) (run_at s steps r.1)
run_at s (Says Sender w ∷ steps) r =
    two_may _ _ _ (λ e. subst (λ (t : Sockets). May (Say w.mark) (sender t steps) (receiver t steps)) (sym (same_is s _ e)) r.0) (run_at s steps r.1)
run_at s (Hears Receiver w ∷ steps) r =
    let h : BothSeen s steps = seen s steps in
    one_may _ _ _ (λ e. (
      h.receiver.stays ∙ r.0.0,
      hear_older w.mark _ _ _ _ _ e h.receiver.heard h.sender.said (at_older s _ _ r.0.1),
    )) (run_at s steps r.1)
run_at s (Hears Sender w ∷ steps) r =
    let h : BothSeen s steps = seen s steps in
    two_may _ _ _ (λ e. (
      h.sender.stays ∙ r.0.0,
      hear_older w.mark _ _ _ _ _ e h.sender.heard h.receiver.said (at_older s _ _ r.0.1),
    )) (run_at s steps r.1)
run_at s (Leaves Receiver ∷ steps) r = (tt, run_at s steps r.1)
run_at s (Leaves Sender ∷ steps) r = (tt, run_at s steps r.1)
run_at s (Meets ∷ steps) r = (r.0 s, run_at s steps r.1)

pub joined_at : (s : Sockets) (steps : List Step) → AreSteps steps → Joined (receiver s steps) (sender s steps)
joined_at s steps r = joined_run _ (run_at s steps r)

-- ---- requests among all words

asks_put : (here : Bool) (m : Mark) (k q : ℕ) (word : List Mark) → Asks k q word → Asks k q (put here m word)
asks_put true (Ask p) k q word a = inr a
asks_put true Close k q word a = a
asks_put false m k q word a = a

pub among_asks : (t : Sockets) (link q : ℕ) (words : List Word) → IsAmong (record { sockets = t; link = link; mark = Ask q }) words → (k : ℕ) × Asks k q (at t words)
among_asks t link q [] i = absurd i
among_asks t link q (w ∷ words) (inl e) =
    subst (λ (v : Word). (k : ℕ) × Asks k q (put (same t v.sockets) v.mark (at t words))) e
    (closes (at t words), subst (λ (b : Bool). Asks (closes (at t words)) q (put b (Ask q) (at t words))) (sym (same_self t)) (inl (refl, refl)))
among_asks t link q (w ∷ words) (inr i) = let a : (k : ℕ) × Asks k q (at t words) = among_asks t link q words i in (a.0, asks_put (same t w.sockets) w.mark a.0 q (at t words) a.1)

-- ---- what had a link before is closed both ways

-- a request's connection was closed by the receiver, before, and by the sender
abbrev Over : Sockets → ℕ → List Word → List Word → Type 0
Over t q words replies = (k : ℕ) × Asks k q (at t words) × (k < closes (at t words)) × (k < closes (at t replies))

abbrev Settled : List Word → Mark → ℕ → List Word → Type 0
Settled replies (Ask p) link words = (t : Sockets) (q : ℕ) → IsAmong (record { sockets = t; link = link; mark = Ask q }) words → Over t q words replies
Settled replies Close link words = Unit {0}

abbrev AllSettled : List Word → List Word → Type 0
AllSettled replies [] = Unit {0}
AllSettled replies (w ∷ words) = Settled replies w.mark w.link words × AllSettled replies words

settled_more : (replies more : List Word) (m : Mark) (link : ℕ) (words : List Word) → ((t : Sockets) → closes (at t replies) ≤ closes (at t more)) → Settled replies m link words → Settled more m link words
settled_more replies more (Ask p) link words grows h = λ t q i.
    let o : Over t q words replies = h t q i in
    let less : o.0 < closes (at t replies) = o.3 in
    let on : closes (at t replies) ≤ closes (at t more) = grows t in
    (o.0, o.1, o.2, omega (arith, less, on))
settled_more replies more Close link words grows h = tt

all_more : (replies more words : List Word) → ((t : Sockets) → closes (at t replies) ≤ closes (at t more)) → AllSettled replies words → AllSettled more words
all_more replies more [] grows h = tt
all_more replies more (w ∷ words) grows h = (settled_more replies more w.mark w.link words grows h.0, all_more replies more words grows h.1)

all_older : (replies new words : List Word) → AllSettled replies (new ++ words) → AllSettled replies words
all_older replies [] words h = h
all_older replies (w ∷ new) words h = all_older replies new words h.1

-- a request that names a free link
settles : (steps : List Step) → AreSteps steps → stays Receiver steps ≡ true → (m : Mark) (link : ℕ) → NamesFree m link steps → Settled (said_words Sender steps) m link (said_words Receiver steps)
settles steps r stay (Ask p) link free = λ t q i.
    let a : (k : ℕ) × Asks k q (at t (said_words Receiver steps)) = among_asks t link q _ i in
    let h : BothSeen t steps = seen t steps in
    let j : Joined (receiver t steps) (sender t steps) = joined_at t steps r in
    let b : Balanced (receiver t steps).said (receiver t steps).heard (receiver t steps).end
    = subst (λ (e : End). Balanced (receiver t steps).said (receiver t steps).heard e) (j.here.same (h.receiver.stays ∙ stay)) j.here.balanced in
    let asks : Asks a.0 q (receiver t steps).said = subst (λ (z : List Mark). Asks a.0 q z) (sym h.receiver.said) a.1 in
    let less : a.0 < b.now = elim (eq-or-lt_of_le (b.within a.0 q asks)) [
      | inl now ↦ absurd (free t (q, b.asked_is q (subst (λ (k : ℕ). Asks k q (receiver t steps).said) now asks), i))
      | inr l ↦ l
    ] in
    let own : closes (receiver t steps).said ≡ b.now + count (receiver t steps).end.gone = b.said in
    let own_is : closes (receiver t steps).said ≡ closes (at t (said_words Receiver steps)) = ap closes h.receiver.said in
    let taken : closes (receiver t steps).heard ≡ b.now + count (receiver t steps).end.taken = b.heard in
    let before : closes (receiver t steps).heard ≤ closes (sender t steps).said = closes_said _ _ j.here.older in
    let reply_is : closes (sender t steps).said ≡ closes (at t (said_words Sender steps)) = ap closes h.sender.said in
    (a.0, a.1, omega (arith, less, own, own_is), omega (arith, less, taken, before, reply_is))
settles steps r stay Close link free = tt

closes_put : (here : Bool) (m : Mark) (word : List Mark) → closes word ≤ closes (put here m word)
closes_put true (Ask p) word = omega arith
closes_put true Close word = omega arith
closes_put false m word = omega arith

closes_if : (stay : Bool) (w : Word) (words : List Word) (t : Sockets) → closes (at t words) ≤ closes (at t (if stay then w ∷ words else words))
closes_if true w words t = closes_put (same t w.sockets) w.mark (at t words)
closes_if false w words t = omega arith

pub all_settled : (steps : List Step) → AreSteps steps → AllSettled (said_words Sender steps) (said_words Receiver steps)
all_settled [] r = tt
all_settled (Says Receiver w ∷ steps) r = by (stays Receiver steps) refl (all_settled steps r.1) where
  by : (stay : Bool) → stays Receiver steps ≡ stay → AllSettled (said_words Sender steps) (said_words Receiver steps) → AllSettled (said_words Sender steps) (if stay then w ∷ said_words Receiver steps else said_words Receiver steps)
  by true e h = (settles steps r.1 e w.mark w.link r.0.1, h)
  by false e h = h
all_settled (Says Sender w ∷ steps) r = all_more _ _ _ (closes_if (stays Sender steps) w (said_words Sender steps)) (all_settled steps r.1)
all_settled (Hears Receiver w ∷ steps) r = all_settled steps r.1
all_settled (Hears Sender w ∷ steps) r = all_settled steps r.1
all_settled (Leaves Receiver ∷ steps) r = all_settled steps r.1
all_settled (Leaves Sender ∷ steps) r = all_settled steps r.1
all_settled (Meets ∷ steps) r = tt

-- no end of the sender has the link of a request that it takes
pub unused : (steps : List Step) (w : Word) (p : ℕ) → AreSteps (Hears Sender w ∷ steps) → w.mark ≡ Ask p → IsUnused w.link steps
unused steps w p r request t named =
    let all : AllSettled (said_words Sender steps) (w ∷ heard_words Sender steps) = all_older (said_words Sender steps) r.0.1.0 (w ∷ heard_words Sender steps) (subst (λ (z : List Word). AllSettled (said_words Sender steps) z) r.0.1.1 (all_settled steps r.1)) in
    let settled : Settled (said_words Sender steps) (Ask p) w.link (heard_words Sender steps) = subst (λ (m : Mark). Settled (said_words Sender steps) m w.link (heard_words Sender steps)) request all.0 in
    let o : Over t named.0 (heard_words Sender steps) (said_words Sender steps) = settled t named.0 named.2 in
    let h : BothSeen t steps = seen t steps in
    let j : Joined (receiver t steps) (sender t steps) = joined_at t steps r.1 in
    let b : Balanced (sender t steps).said (sender t steps).heard (sender t steps).end
    = subst (λ (e : End). Balanced (sender t steps).said (sender t steps).heard e) (j.there.same (h.sender.stays ∙ r.0.0)) j.there.balanced in
    let asks : Asks o.0 named.0 (sender t steps).heard = subst (λ (z : List Mark). Asks o.0 named.0 z) (sym h.sender.heard) o.1 in
    let now : o.0 ≡ b.now = asks_once o.0 b.now named.0 (receiver t steps).said j.here.grows (asks_said o.0 named.0 (sender t steps).heard (receiver t steps).said j.there.older asks)
    (asks_said b.now named.0 (sender t steps).heard (receiver t steps).said j.there.older (b.partner_at named.0 named.1)) in
    let taken : closes (sender t steps).heard ≡ b.now + count (sender t steps).end.taken = b.heard in
    let taken_is : closes (sender t steps).heard ≡ closes (at t (heard_words Sender steps)) = ap closes h.sender.heard in
    let gone : closes (sender t steps).said ≡ b.now + count (sender t steps).end.gone = b.said in
    let gone_is : closes (sender t steps).said ≡ closes (at t (said_words Sender steps)) = ap closes h.sender.said in
    let half : count (sender t steps).end.gone + count (sender t steps).end.taken ≤ 1 = b.half in
    let first : o.0 < closes (at t (heard_words Sender steps)) = o.2 in
    let second : o.0 < closes (at t (said_words Sender steps)) = o.3 in
    omega (arith, now, taken, taken_is, gone, gone_is, half, first, second)
