-- All connections of two hosts, seen at one pair of sockets: a list of steps that may be is, for each pair, a list of events that may be.
use Rattle.std.proofs.Common.{◌≡◌, Bool, true, false, List, [], ◌∷◌, ◌++◌, refl, ap, sym, subst, ◌∙◌, if◌then◌else◌}
use Rattle.pairing_law.specs.Marks.{Mark, IsOlder}
use Rattle.pairing_law.specs.Sides.{Side, Say, Hear, Event, One, Two, both}
use Rattle.pairing_law.specs.Links.{Sockets, same, Word, Receiver, Sender, Step, Says, Hears, Leaves, Meets, when, with_event, events_at, receiver, sender, stays, said_words, heard_words, AreOlder}

-- ---- the words of one pair of sockets

abbrev pub put : Bool → Mark → List Mark → List Mark
put here m word = if here then m ∷ word else word

abbrev pub at : Sockets → List Word → List Mark
at s [] = []
at s (w ∷ words) = put (same s w.sockets) w.mark (at s words)

put_join : (here : Bool) (m : Mark) (xs ys : List Mark) → put here m (xs ++ ys) ≡ put here m xs ++ ys
put_join true m xs ys = refl
put_join false m xs ys = refl

pub at_join : (s : Sockets) (new words : List Word) → at s (new ++ words) ≡ at s new ++ at s words
at_join s [] words = refl
at_join s (w ∷ new) words = ap (λ (z : List Mark). put (same s w.sockets) w.mark z) (at_join s new words) ∙ put_join (same s w.sockets) w.mark (at s new) (at s words)

pub at_older : (s : Sockets) (xs ys : List Word) → AreOlder xs ys → IsOlder (at s xs) (at s ys)
at_older s xs ys o = (at s o.0, ap (λ (z : List Word). at s z) o.1 ∙ at_join s o.0 xs)

-- ---- the sides

pub record Seen (x : Side) (stay : Bool) (words others : List Mark) : Type 0 where
  pub stays : x.stays ≡ stay
  pub said : x.said ≡ words
  pub heard : x.heard ≡ others

pub record BothSeen (s : Sockets) (steps : List Step) : Type 0 where
  pub receiver : Seen (receiver s steps) (stays Receiver steps) (at s (said_words Receiver steps)) (at s (heard_words Receiver steps))
  pub sender : Seen (sender s steps) (stays Sender steps) (at s (said_words Sender steps)) (at s (heard_words Sender steps))

at_if : (s : Sockets) (stay : Bool) (w : Word) (words : List Word) → at s (if stay then w ∷ words else words) ≡ (if stay then put (same s w.sockets) w.mark (at s words) else at s words)
at_if s true w words = refl
at_if s false w words = refl

if_same : {A : Type 0} → (t : Bool) (x : A) → (if t then x else x) ≡ x
if_same true x = refl
if_same false x = refl

-- a host that says something at some sockets, and its peer
one_says : (here : Bool) (m : Mark) (es : List Event) (stay : Bool) (s h : List Mark) → Seen (both es).one stay s h → Seen (both (with_event (when here (One (Say m))) es)).one stay (if stay then put here m s else s) h
one_says true m es stay s h x = record { stays = x.stays; said = rw (x.stays, x.said) refl; heard = x.heard }
one_says false m es stay s h x = record { stays = x.stays; said = x.said ∙ sym (if_same stay s); heard = x.heard }

two_says : (here : Bool) (m : Mark) (es : List Event) (stay : Bool) (s h : List Mark) → Seen (both es).two stay s h → Seen (both (with_event (when here (Two (Say m))) es)).two stay (if stay then put here m s else s) h
two_says true m es stay s h x = record { stays = x.stays; said = rw (x.stays, x.said) refl; heard = x.heard }
two_says false m es stay s h x = record { stays = x.stays; said = x.said ∙ sym (if_same stay s); heard = x.heard }

one_hears : (here : Bool) (m : Mark) (es : List Event) (stay : Bool) (s h : List Mark) → Seen (both es).one stay s h → Seen (both (with_event (when here (One (Hear m))) es)).one stay s (put here m h)
one_hears true m es stay s h x = record { stays = x.stays; said = x.said; heard = ap (λ (z : List Mark). m ∷ z) x.heard }
one_hears false m es stay s h x = x

two_hears : (here : Bool) (m : Mark) (es : List Event) (stay : Bool) (s h : List Mark) → Seen (both es).two stay s h → Seen (both (with_event (when here (Two (Hear m))) es)).two stay s (put here m h)
two_hears true m es stay s h x = record { stays = x.stays; said = x.said; heard = ap (λ (z : List Mark). m ∷ z) x.heard }
two_hears false m es stay s h x = x

one_quiet : (here : Bool) (m : Mark) (es : List Event) → (both (with_event (when here (Two (Say m))) es)).one ≡ (both es).one
one_quiet true m es = refl
one_quiet false m es = refl

two_quiet : (here : Bool) (m : Mark) (es : List Event) → (both (with_event (when here (One (Say m))) es)).two ≡ (both es).two
two_quiet true m es = refl
two_quiet false m es = refl

one_deaf : (here : Bool) (m : Mark) (es : List Event) → (both (with_event (when here (Two (Hear m))) es)).one ≡ (both es).one
one_deaf true m es = refl
one_deaf false m es = refl

two_deaf : (here : Bool) (m : Mark) (es : List Event) → (both (with_event (when here (One (Hear m))) es)).two ≡ (both es).two
two_deaf true m es = refl
two_deaf false m es = refl

seen_as : (x y : Side) (stay : Bool) (s s' h : List Mark) → y ≡ x → s' ≡ s → Seen x stay s h → Seen y stay s' h
seen_as x y stay s s' h e f h' =
    let first : Seen x stay s' h = subst (λ (z : List Mark). Seen x stay z h) (sym f) h' in
    subst (λ (z : Side). Seen z stay s' h) (sym e) first

pub seen : (s : Sockets) (steps : List Step) → BothSeen s steps
seen s [] = record { receiver = record { stays = refl; said = refl; heard = refl }; sender = record { stays = refl; said = refl; heard = refl } }
seen s (Says Receiver w ∷ steps) =
    let h : BothSeen s steps = seen s steps in
    record {
      receiver = seen_as _ _ _ _
          _ _ refl (at_if s _ w _)
          (one_says _ w.mark _ _ _ _ h.receiver);
      sender = subst (λ (z : Side). Seen z (stays Sender steps) (at s (said_words Sender steps)) (at s (heard_words Sender steps))) (sym (two_quiet (same s w.sockets) w.mark (events_at s steps))) h.sender;
    }
seen s (Says Sender w ∷ steps) =
    let h : BothSeen s steps = seen s steps in
    record {
      receiver = subst (λ (z : Side). Seen z (stays Receiver steps) (at s (said_words Receiver steps)) (at s (heard_words Receiver steps))) (sym (one_quiet (same s w.sockets) w.mark (events_at s steps))) h.receiver;
      sender = seen_as _ _ _ _
          _ _ refl (at_if s _ w _)
          (two_says _ w.mark _ _ _ _ h.sender);
    }
seen s (Hears Receiver w ∷ steps) =
    let h : BothSeen s steps = seen s steps in
    record {
      receiver = one_hears _ w.mark _ _ _ _ h.receiver;
      sender = subst (λ (z : Side). Seen z (stays Sender steps) (at s (said_words Sender steps)) (at s (heard_words Sender steps))) (sym (two_deaf (same s w.sockets) w.mark (events_at s steps))) h.sender;
    }
seen s (Hears Sender w ∷ steps) =
    let h : BothSeen s steps = seen s steps in
    record {
      receiver = subst (λ (z : Side). Seen z (stays Receiver steps) (at s (said_words Receiver steps)) (at s (heard_words Receiver steps))) (sym (one_deaf (same s w.sockets) w.mark (events_at s steps))) h.receiver;
      sender = two_hears _ w.mark _ _ _ _ h.sender;
    }
seen s (Leaves Receiver ∷ steps) =
    let h : BothSeen s steps = seen s steps in
    record { receiver = record { stays = refl; said = h.receiver.said; heard = h.receiver.heard }; sender = h.sender }
seen s (Leaves Sender ∷ steps) =
    let h : BothSeen s steps = seen s steps in
    record { receiver = h.receiver; sender = record { stays = refl; said = h.sender.said; heard = h.sender.heard } }
seen s (Meets ∷ steps) = record { receiver = record { stays = refl; said = refl; heard = refl }; sender = record { stays = refl; said = refl; heard = refl } }
