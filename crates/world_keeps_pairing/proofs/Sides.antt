-- One of the two hosts at one pair of sockets, event by event.
use Rattle.world_keeps_pairing.proofs.Common.{◌≡◌, ℕ, Bool, true, false, not, ◌&&◌, ◌||◌, if◌then◌else◌, List, [], ◌∷◌, Option, None, refl, ap, sym, subst, ◌∙◌, Host, same_host, Answer, Phase, begins_either, End, nothing, fits, gone, mark_taken, Mark, Ask, Close, words_of, all_said, all_heard, heard_in, keeps, steps_left, met, spoken_by, taken_by, steps}
use Rattle.reset_law.specs.Events.{Event, Message, Reset, Reply, Other, Out, In, are, Contact, Told, Down, Up, Idle, Call, Send, Take, Hear, Begin, when}
use Rattle.reset_law.specs.Pairs.{Pair, pair, pair_moved}
use Rattle.ncp_control.specs.Phases.{is_ready, failed_phase}
use Rattle.pairing_law.specs.Sides.{Side, says, hears, One, Two, Say, opening_side, both, leaves, meets}
use Rattle.pairing_law.specs.Links.{Sockets, same, Word, Who, Receiver, Sender, Step, Says, Hears, Leaves, Meets, receiver, sender, events_at, with_event}
use Rattle.pairing_law.proofs.lemmas.{put, at}
use Rattle.interface.specs.declared.crossing.Answer.TheVariants as answer
use Rattle.ncp_control.specs.declared.phase.Phase.TheVariants.{Closed, Want, Gone, Heard, Ready}
use Rattle.reset_law.specs.Stays as stay
use Rattle.pairing_law.specs.Sides as sides
use Rattle.pairing_law.specs.Links as links

-- ---- marks one after the other

abbrev pub all_says : List Mark → Side → Side
all_says [] x = x
all_says (m ∷ ms) x = all_says ms (says m x)

abbrev pub all_hears : List Mark → Side → Side
all_hears [] x = x
all_hears (m ∷ ms) x = all_hears ms (hears m x)

abbrev pub hears_if : Bool → List Mark → Side → Side
hears_if b ms x = if b then all_hears ms x else x

abbrev pub left_if : Bool → Side → Side
left_if keep x = if keep then x else leaves x

abbrev pub met_if : Bool → Side → Side
met_if begin x = if begin then meets x else x

says_step : (b : Bool) (m : Mark) (ms : List Mark) (es : List sides.Event) → all_says ms (both (with_event (links.when b (One (Say m))) es)).one ≡ all_says (put b m ms) (both es).one
says_step true m ms es = refl
says_step false m ms es = refl

says_other : (b : Bool) (m : Mark) (ms : List Mark) (es : List sides.Event) → all_says ms (both (with_event (links.when b (Two (Say m))) es)).two ≡ all_says (put b m ms) (both es).two
says_other true m ms es = refl
says_other false m ms es = refl

hears_step : (b : Bool) (m : Mark) (ms : List Mark) (es : List sides.Event) → all_hears ms (both (with_event (links.when b (One (sides.Hear m))) es)).one ≡ all_hears (put b m ms) (both es).one
hears_step true m ms es = refl
hears_step false m ms es = refl

hears_other : (b : Bool) (m : Mark) (ms : List Mark) (es : List sides.Event) → all_hears ms (both (with_event (links.when b (Two (sides.Hear m))) es)).two ≡ all_hears (put b m ms) (both es).two
hears_other true m ms es = refl
hears_other false m ms es = refl

one_alone : (b : Bool) (move : sides.Move) (es : List sides.Event) → (both (with_event (links.when b (Two move)) es)).one ≡ (both es).one
one_alone true move es = refl
one_alone false move es = refl

two_alone : (b : Bool) (move : sides.Move) (es : List sides.Event) → (both (with_event (links.when b (One move)) es)).two ≡ (both es).two
two_alone true move es = refl
two_alone false move es = refl

module _ (s : Sockets) where
  -- ---- words

  pub receiver_says : (ws : List Word) (xs : List Step) → receiver s (all_said Receiver ws xs) ≡ all_says (at s ws) (receiver s xs)
  receiver_says [] xs = refl
  receiver_says (w ∷ ws) xs = receiver_says ws (Says Receiver w ∷ xs) ∙ says_step _ w.mark (at s ws) _

  pub sender_says : (ws : List Word) (xs : List Step) → sender s (all_said Sender ws xs) ≡ all_says (at s ws) (sender s xs)
  sender_says [] xs = refl
  sender_says (w ∷ ws) xs = sender_says ws (Says Sender w ∷ xs) ∙ says_other _ w.mark (at s ws) _

  pub receiver_hears : (ws : List Word) (xs : List Step) → receiver s (all_heard Receiver ws xs) ≡ all_hears (at s ws) (receiver s xs)
  receiver_hears [] xs = refl
  receiver_hears (w ∷ ws) xs = receiver_hears ws (Hears Receiver w ∷ xs) ∙ hears_step _ w.mark (at s ws) _

  pub sender_hears : (ws : List Word) (xs : List Step) → sender s (all_heard Sender ws xs) ≡ all_hears (at s ws) (sender s xs)
  sender_hears [] xs = refl
  sender_hears (w ∷ ws) xs = sender_hears ws (Hears Sender w ∷ xs) ∙ hears_other _ w.mark (at s ws) _

  -- the other is as before
  pub receiver_waits : (ws : List Word) (xs : List Step) → receiver s (all_said Sender ws xs) ≡ receiver s xs
  receiver_waits [] xs = refl
  receiver_waits (w ∷ ws) xs = receiver_waits ws (Says Sender w ∷ xs) ∙ one_alone (same s w.sockets) _ _

  sender_waits : (ws : List Word) (xs : List Step) → sender s (all_said Receiver ws xs) ≡ sender s xs
  sender_waits [] xs = refl
  sender_waits (w ∷ ws) xs = sender_waits ws (Says Receiver w ∷ xs) ∙ two_alone (same s w.sockets) _ _

  receiver_deaf : (ws : List Word) (xs : List Step) → receiver s (all_heard Sender ws xs) ≡ receiver s xs
  receiver_deaf [] xs = refl
  receiver_deaf (w ∷ ws) xs = receiver_deaf ws (Hears Sender w ∷ xs) ∙ one_alone (same s w.sockets) _ _

  sender_deaf : (ws : List Word) (xs : List Step) → sender s (all_heard Receiver ws xs) ≡ sender s xs
  sender_deaf [] xs = refl
  sender_deaf (w ∷ ws) xs = sender_deaf ws (Hears Receiver w ∷ xs) ∙ two_alone (same s w.sockets) _ _

  receiver_hears_if : (b : Bool) (ws : List Word) (xs : List Step) → receiver s (heard_in b Receiver ws xs) ≡ hears_if b (at s ws) (receiver s xs)
  receiver_hears_if true ws xs = receiver_hears ws xs
  receiver_hears_if false ws xs = refl

  pub sender_hears_if : (b : Bool) (ws : List Word) (xs : List Step) → sender s (heard_in b Sender ws xs) ≡ hears_if b (at s ws) (sender s xs)
  sender_hears_if true ws xs = sender_hears ws xs
  sender_hears_if false ws xs = refl

  pub receiver_deaf_if : (b : Bool) (ws : List Word) (xs : List Step) → receiver s (heard_in b Sender ws xs) ≡ receiver s xs
  receiver_deaf_if true ws xs = receiver_deaf ws xs
  receiver_deaf_if false ws xs = refl

  sender_deaf_if : (b : Bool) (ws : List Word) (xs : List Step) → sender s (heard_in b Receiver ws xs) ≡ sender s xs
  sender_deaf_if true ws xs = sender_deaf ws xs
  sender_deaf_if false ws xs = refl

  -- ---- leaving and meeting

  receiver_leaves : (k j : Bool) (xs : List Step) → receiver s (steps_left k Receiver (steps_left j Sender xs)) ≡ left_if k (receiver s xs)
  receiver_leaves true true xs = refl
  receiver_leaves true false xs = refl
  receiver_leaves false true xs = refl
  receiver_leaves false false xs = refl

  sender_leaves : (k j : Bool) (xs : List Step) → sender s (steps_left k Receiver (steps_left j Sender xs)) ≡ left_if j (sender s xs)
  sender_leaves true true xs = refl
  sender_leaves true false xs = refl
  sender_leaves false true xs = refl
  sender_leaves false false xs = refl

  receiver_meets : (g : Bool) (xs : List Step) → receiver s (met g xs) ≡ met_if g (receiver s xs)
  receiver_meets true xs = refl
  receiver_meets false xs = refl

  sender_meets : (g : Bool) (xs : List Step) → sender s (met g xs) ≡ met_if g (sender s xs)
  sender_meets true xs = refl
  sender_meets false xs = refl

  -- ---- one event

  pub receiver_said : (a b : Host) (e : Event) (xs : List Step) → receiver s (spoken_by a b e xs) ≡ all_says (at s (words_of Receiver (stay.said_by a b 0 e))) (receiver s xs)
  receiver_said a b e xs =
      let ss : List Word = words_of Sender (stay.said_by b a 0 e) in
      receiver_says (words_of Receiver (stay.said_by a b 0 e)) _ ∙ ap (all_says (at s (words_of Receiver (stay.said_by a b 0 e)))) (receiver_waits ss xs)

  pub sender_said : (a b : Host) (e : Event) (xs : List Step) → sender s (spoken_by a b e xs) ≡ all_says (at s (words_of Sender (stay.said_by b a 0 e))) (sender s xs)
  sender_said a b e xs =
      let ss : List Word = words_of Sender (stay.said_by b a 0 e) in
      sender_waits (words_of Receiver (stay.said_by a b 0 e)) _ ∙ sender_says ss xs

  receiver_took : (a b : Host) (e : Event) (events : List Event) (xs : List Step) → receiver s (taken_by a b e events xs) ≡ hears_if (stay.stays a b events) (at s (words_of Sender (stay.heard_by b a 0 e))) (receiver s xs)
  receiver_took a b e events xs =
      let ss : List Word = words_of Receiver (stay.heard_by a b 0 e) in
      receiver_hears_if (stay.stays a b events) (words_of Sender (stay.heard_by b a 0 e)) _
      ∙ ap (hears_if (stay.stays a b events) (at s (words_of Sender (stay.heard_by b a 0 e)))) (receiver_deaf_if _ ss xs)

  sender_took : (a b : Host) (e : Event) (events : List Event) (xs : List Step) → sender s (taken_by a b e events xs) ≡ hears_if (stay.stays b a events) (at s (words_of Receiver (stay.heard_by a b 0 e))) (sender s xs)
  sender_took a b e events xs =
      let ss : List Word = words_of Receiver (stay.heard_by a b 0 e) in
      sender_deaf_if (stay.stays a b events) (words_of Sender (stay.heard_by b a 0 e)) _ ∙ sender_hears_if _ ss xs

-- ---- a half: one host, by what it says and hears

-- before it meets, and all of it
abbrev pub before : Host → Host → (List (List Bool) → List Mark) → (List (List Bool) → List Mark) → Event → List Event → Side → Side
before h p spoken heard e events x = left_if (keeps h p e events) (hears_if (stay.stays h p events) (heard (stay.heard_by p h 0 e)) (all_says (spoken (stay.said_by h p 0 e)) x))

abbrev pub half : Host → Host → (List (List Bool) → List Mark) → (List (List Bool) → List Mark) → List Event → Side
half h p spoken heard [] = opening_side
half h p spoken heard (e ∷ events) = met_if (stay.begins h p e events) (before h p spoken heard e events (half h p spoken heard events))

-- what a text says at two sockets, of one sort of words
abbrev pub at_texts : Sockets → Who → List (List Bool) → List Mark
at_texts s who texts = at s (words_of who texts)

module _ (s : Sockets) (a b : Host) where
  pub receiver_before : (e : Event) (events : List Event) → receiver s (steps_left (keeps a b e events) Receiver (steps_left (keeps b a e events) Sender (taken_by a b e events (spoken_by a b e (steps a b events)))))
      ≡ before a b (at_texts s Receiver) (at_texts s Sender) e events (receiver s (steps a b events))
  receiver_before e events =
      let spoken : List Step = spoken_by a b e (steps a b events) in
      receiver_leaves s (keeps a b e events) (keeps b a e events) _
      ∙ ap (left_if (keeps a b e events)) (receiver_took s a b e events spoken ∙ ap (hears_if (stay.stays a b events) (at s (words_of Sender (stay.heard_by b a 0 e)))) (receiver_said s a b e _))

  pub sender_before : (e : Event) (events : List Event) → sender s (steps_left (keeps a b e events) Receiver (steps_left (keeps b a e events) Sender (taken_by a b e events (spoken_by a b e (steps a b events)))))
      ≡ before b a (at_texts s Sender) (at_texts s Receiver) e events (sender s (steps a b events))
  sender_before e events =
      let spoken : List Step = spoken_by a b e (steps a b events) in
      sender_leaves s (keeps a b e events) (keeps b a e events) _
      ∙ ap (left_if (keeps b a e events)) (sender_took s a b e events spoken ∙ ap (hears_if (stay.stays b a events) (at s (words_of Receiver (stay.heard_by a b 0 e)))) (sender_said s a b e _))

  pub receiver_half : (events : List Event) → receiver s (steps a b events) ≡ half a b (at_texts s Receiver) (at_texts s Sender) events
  receiver_half [] = refl
  receiver_half (e ∷ events) =
      let under : List Step = steps_left (keeps a b e events) Receiver (steps_left (keeps b a e events) Sender (taken_by a b e events _)) in
      receiver_meets s _ under
      ∙ ap (met_if (stay.begins a b e events)) (receiver_before e events ∙ ap (before a b (at_texts s Receiver) (at_texts s Sender) e events) (receiver_half events))

  pub sender_half : (events : List Event) → sender s (steps a b events) ≡ half b a (at_texts s Sender) (at_texts s Receiver) events
  sender_half [] = refl
  sender_half (e ∷ events) =
      let under : List Step = steps_left (keeps a b e events) Receiver (steps_left (keeps b a e events) Sender (taken_by a b e events _)) in
      sender_meets s _ under
      ∙ ap (met_if (stay.begins a b e events)) (sender_before e events ∙ ap (before b a (at_texts s Sender) (at_texts s Receiver) e events) (sender_half events))
      ∙ ap (λ (g : Bool). met_if g (before b a (at_texts s Sender) (at_texts s Receiver) e events (half b a (at_texts s Sender) (at_texts s Receiver) events))) (begins_either a b e events)

-- ---- an end of which nothing was said, or heard

abbrev pub Unsaid : End → Type 0
Unsaid x = (x.asked ≡ None) × (x.gone ≡ false)

abbrev pub Unheard : End → Type 0
Unheard x = (x.partner ≡ None) × (x.taken ≡ false)

says_unheard : (m : Mark) (x : Side) → Unheard x.end → Unheard (says m x).end
says_unheard (Ask p) x h = h
says_unheard Close x h = rw h.1 (h.0, refl)

all_unheard : (ms : List Mark) (x : Side) → Unheard x.end → Unheard (all_says ms x).end
all_unheard [] x h = h
all_unheard (m ∷ ms) x h = all_unheard ms (says m x) (says_unheard m x h)

takes_unsaid : (m : Mark) (x : End) (b : Bool) → Unsaid x → Unsaid (if b then mark_taken m x else x)
takes_unsaid (Ask p) x true h = h
takes_unsaid Close x true h = rw h.1 (h.0, refl)
takes_unsaid m x false h = h

all_unsaid : (ms : List Mark) (x : Side) → Unsaid x.end → Unsaid (all_hears ms x).end
all_unsaid [] x h = h
all_unsaid (m ∷ ms) x h = all_unsaid ms (hears m x) (takes_unsaid m x.end _ h)

unsaid_if : (b : Bool) (ms : List Mark) (x : Side) → Unsaid x.end → Unsaid (hears_if b ms x).end
unsaid_if true ms x h = all_unsaid ms x h
unsaid_if false ms x h = h

pub met_end : (g : Bool) (x : Side) → (met_if g x).end ≡ x.end
met_end true x = refl
met_end false x = refl

is_nothing : (x : End) → Unsaid x → Unheard x → x ≡ nothing
is_nothing x h k = made _ None _ None x.gone false _ false h.0 k.0 h.1 k.1 where
  end : Option ℕ → Option ℕ → Bool → Bool → End
  end asked partner gone taken = record { asked = asked; partner = partner; gone = gone; taken = taken }

  made : (a a' p p' : Option ℕ) (g g' t t' : Bool) → a ≡ a' → p ≡ p' → g ≡ g' → t ≡ t' → end a p g t ≡ end a' p' g' t'
  made a a' p p' g g' t t' e f i j = rw (e, f, i, j) refl

module _ (h p : Host) (spoken heard : List (List Bool) → List Mark) (mute : spoken [] ≡ []) where
  abbrev Half : List Event → Side
  Half events = half h p spoken heard events

  -- who doesn't stay has heard nothing since it left
  unheard_by : (keep stays : Bool) (ms ns : List Mark) (x : Side) → stays ≡ false → Unheard x.end → Unheard (left_if keep (hears_if stays ns (all_says ms x))).end
  unheard_by true true ms ns x e k = absurd (let no : true ≡ false = e in cc)
  unheard_by true false ms ns x e k = all_unheard ms x k
  unheard_by false stays ms ns x e k = (refl, refl)

  stays_before : (begin keep stays : Bool) → (begin || (keep && stays)) ≡ false → keep ≡ true → stays ≡ false
  stays_before true keep stays e f = absurd (let no : true ≡ false = e in cc)
  stays_before false true stays e f = e
  stays_before false false stays e f = absurd (let no : false ≡ true = f in cc)

  unheard_kept : (keep : Bool) (stays : Bool) (ms ns : List Mark) (x : Side) → (keep ≡ true → stays ≡ false) → (stays ≡ false → Unheard x.end) → Unheard (left_if keep (hears_if stays ns (all_says ms x))).end
  unheard_kept true stays ms ns x f k = unheard_by true stays ms ns x (f refl) (k (f refl))
  unheard_kept false stays ms ns x f k = (refl, refl)

  pub unheard : (events : List Event) → stay.stays h p events ≡ false → Unheard (Half events).end
  unheard [] e = (refl, refl)
  unheard (e ∷ events) out =
      let b : Side = before h p spoken heard e events (Half events) in
      subst (λ (x : End). Unheard x) (sym (met_end _ b))
      (unheard_kept _ _ (spoken _) (heard (stay.heard_by p h 0 e)) (Half events)
      (stays_before _ _ _ out) (unheard events))

  -- also where it begins to stay
  unheard_there : (e : Event) (events : List Event) → stay.stays h p events ≡ false → Unheard (Half (e ∷ events)).end
  unheard_there e events out =
      let b : Side = before h p spoken heard e events (Half events) in
      subst (λ (x : End). Unheard x) (sym (met_end _ b))
      (unheard_by _ _ (spoken _) (heard (stay.heard_by p h 0 e)) (Half events) out (unheard events out))

  -- who has said nothing since it dropped its connections has asked for nothing
  abbrev Mute : Event → List Event → Type 0
  Mute e events = (stay.said_by h p 0 e ≡ []) × ((pair h p events).begun ≡ false)

  abbrev Keeps : Event → List Event → Type 0
  Keeps e events = keeps h p e events ≡ true → (pair h p (e ∷ events)).begun ≡ false → Mute e events

  both_true : (s t : Bool) → (s && not t) ≡ true → (s ≡ true) × (t ≡ false)
  both_true true true e = absurd (let no : false ≡ true = e in cc)
  both_true true false e = (refl, refl)
  both_true false t e = absurd (let no : false ≡ true = e in cc)

  -- a part that isn't a text that goes out
  out_mute : (t : Bool) (l : ℕ) (m : Message) (q : Pair) → (pair_moved (when t (Send l m)) q).begun ≡ false → (q.begun ≡ false) × ((text : List Bool) → m ≡ Other text → t ≡ false)
  out_mute true l Reset q e = (e, λ text is. absurd (let no : Reset ≡ Other text = is in cc))
  out_mute true l Reply q e = (e, λ text is. absurd (let no : Reply ≡ Other text = is in cc))
  out_mute true l (Other text) q e = absurd (let no : true ≡ false = e in cc)
  out_mute false l m q e = (e, λ text is. refl)

  out_silent : (x y : Host) (l : ℕ) (m : Message) → ((text : List Bool) → m ≡ Other text → are h p x y ≡ false) → stay.said_by h p 0 (Out x y l m) ≡ []
  out_silent x y l Reset k = refl
  out_silent x y l Reply k = refl
  out_silent x y l (Other text) k = rw (k text refl) refl

  take_mute : (t : Bool) (m : Message) (q : Pair) → (m ≡ Reset → t ≡ false) → (pair_moved (when t (Take m)) q).begun ≡ false → q.begun ≡ false
  take_mute true Reset q k e = absurd (let no : true ≡ false = k refl in cc)
  take_mute true Reply q k e = e
  take_mute true (Other text) q k e = e
  take_mute false m q k e = e

  no_reset : (x y : Host) (l : ℕ) (m : Message) → stay.takes_reset h p (In x y l m) ≡ false → m ≡ Reset → are h p y x ≡ false
  no_reset x y l Reset e is = e
  no_reset x y l Reply e is = absurd (let no : Reply ≡ Reset = is in cc)
  no_reset x y l (Other text) e is = absurd (let no : Other text ≡ Reset = is in cc)

  failed_mute : (ph : Phase) (owed begun : Bool) → is_ready (failed_phase ph owed) ≡ true → (if owed then begun else false) ≡ false → begun ≡ false
  failed_mute ph true begun r e = e
  failed_mute Closed false begun r e = absurd (let no : false ≡ true = r in cc)
  failed_mute Want false begun r e = absurd (let no : false ≡ true = r in cc)
  failed_mute (Gone early) false begun r e = absurd (let no : false ≡ true = r in cc)
  failed_mute Heard false begun r e = absurd (let no : false ≡ true = r in cc)
  failed_mute Ready false begun r e = absurd (let no : false ≡ true = r in cc)

  told_mute : (t : Bool) (l : ℕ) (k : Answer) (q : Pair) → is_ready (pair_moved (when t (Hear l k)) q).phase ≡ true → (pair_moved (when t (Hear l k)) q).begun ≡ false → q.begun ≡ false
  told_mute true l answer.Rfnm q r e = e
  told_mute true l answer.Dead q r e = failed_mute _ q.owed _ r e
  told_mute true l answer.Incomplete q r e = failed_mute _ q.owed _ r e
  told_mute true l answer.NotTaken q r e = failed_mute _ q.owed _ r e
  told_mute false l k q r e = e

  call_mute : (t : Bool) (q : Pair) → is_ready (pair_moved (when t Call) q).phase ≡ true → (pair_moved (when t Call) q).begun ≡ false → q.begun ≡ false
  call_mute true q r e = absurd (let no : false ≡ true = r in cc)
  call_mute false q r e = e

  begin_mute : (t : Bool) (q : Pair) → is_ready (pair_moved (when t Begin) q).phase ≡ true → (pair_moved (when t Begin) q).begun ≡ false → q.begun ≡ false
  begin_mute true q r e = absurd (let no : false ≡ true = r in cc)
  begin_mute false q r e = e

  mute_by : (e : Event) (events : List Event) → Keeps e events
  mute_by (Contact x y) events k e = (refl, call_mute _ _ (both_true _ false k).0 e)
  mute_by (Out x y l m) events k e =
      let o : ((pair h p events).begun ≡ false) × ((text : List Bool) → m ≡ Other text → are h p x y ≡ false) = out_mute _ l m _ e in
      (out_silent x y l m o.1, o.0)
  mute_by (In x y l m) events k e =
      let none : stay.takes_reset h p (In x y l m) ≡ false = (both_true _ _ k).1 in
      (refl, take_mute _ m _ (no_reset x y l m none) e)
  mute_by (Told x y l a) events k e = (refl, told_mute _ l a _ (both_true _ false k).0 e)
  mute_by (Down x) events k e = (refl, begin_mute _ _ (both_true _ false k).0 e)
  mute_by (Up x) events k e = (refl, begin_mute _ _ (both_true _ false k).0 e)
  mute_by Idle events k e = (refl, e)

  unsaid_kept : (keep : Bool) (stays : Bool) (ms ns : List Mark) (x : Side) → (keep ≡ true → (ms ≡ []) × Unsaid x.end) → Unsaid (left_if keep (hears_if stays ns (all_says ms x))).end
  unsaid_kept true stays ms ns x f = subst (λ (l : List Mark). Unsaid (hears_if stays ns (all_says l x)).end) (sym (f refl).0) (unsaid_if stays ns x (f refl).1)
  unsaid_kept false stays ms ns x f = (refl, refl)

  pub unsaid : (events : List Event) → (pair h p events).begun ≡ false → Unsaid (Half events).end
  unsaid [] e = (refl, refl)
  unsaid (e ∷ events) none =
      let b : Side = before h p spoken heard e events (Half events) in
      subst (λ (x : End). Unsaid x) (sym (met_end _ b))
      (unsaid_kept _ (stay.stays h p events) _ (heard (stay.heard_by p h 0 e)) _
      (λ k. (ap spoken (mute_by e events k none).0 ∙ mute, unsaid events (mute_by e events k none).1)))

  -- so where it begins to stay it has no end
  pub nothing_there : (e : Event) (events : List Event) → (pair h p (e ∷ events)).begun ≡ false → stay.stays h p events ≡ false → (before h p spoken heard e events (Half events)).end ≡ nothing
  nothing_there e events none out =
      let b : Side = before h p spoken heard e events (Half events) in
      let all : (met_if (stay.begins h p e events) b).end ≡ nothing = is_nothing _ (unsaid (e ∷ events) none) (unheard_there e events out) in
      sym (met_end _ b) ∙ all
