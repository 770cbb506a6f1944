-- Stays and words: by the steps they are those of the law of resets.
use Rattle.world_keeps_pairing.proofs.Common.{◌≡◌, Bool, true, false, ◌&&◌, ◌||◌, if◌then◌else◌, List, [], ◌∷◌, ◌++◌, refl, ap, sym, ◌∙◌, append-nil, append_assoc, Host, Event, begins_either, Word, Who, Receiver, Sender, Step, Says, Hears, stays, said_words, heard_words, words_of, words_by, onto, all_said, all_heard, heard_in, keeps, steps_left, met, spoken_by, taken_by, steps, untagged, orders_of}
use Rattle.reset_law.specs.Stays as stay

-- ---- what is seen of a list of steps

pub record View : Type 0 where
  pub receiver_stays : Bool
  pub sender_stays : Bool
  pub receiver_said : List Word
  pub sender_said : List Word
  pub receiver_heard : List Word
  pub sender_heard : List Word

abbrev pub view : List Step → View
view xs = record {
  receiver_stays = stays Receiver xs;
  sender_stays = stays Sender xs;
  receiver_said = said_words Receiver xs;
  sender_said = said_words Sender xs;
  receiver_heard = heard_words Receiver xs;
  sender_heard = heard_words Sender xs;
}

-- where nobody has said anything since both met
abbrev pub fresh : View
fresh = record { receiver_stays = true; sender_stays = true; receiver_said = []; sender_said = []; receiver_heard = []; sender_heard = [] }

abbrev pub onto_if : Bool → List Word → List Word → List Word
onto_if b words base = if b then onto words base else base

more_if : (b : Bool) (w : Word) (ws base : List Word) → onto_if b ws (if b then w ∷ base else base) ≡ onto_if b (w ∷ ws) base
more_if true w ws base = refl
more_if false w ws base = refl

receiver_says : (ws : List Word) (xs : List Step) → view (all_said Receiver ws xs) ≡ record (view xs) { receiver_said = onto_if (stays Receiver xs) ws (said_words Receiver xs) }
receiver_says [] xs = by (stays Receiver xs) where
  by : (b : Bool) → view xs ≡ record (view xs) { receiver_said = onto_if b [] (said_words Receiver xs) }
  by true = refl
  by false = refl
receiver_says (w ∷ ws) xs =
    receiver_says ws (Says Receiver w ∷ xs) ∙ ap (λ (l : List Word). record (view xs) { receiver_said = l }) (more_if (stays Receiver xs) w ws _)

pub sender_says : (ws : List Word) (xs : List Step) → view (all_said Sender ws xs) ≡ record (view xs) { sender_said = onto_if (stays Sender xs) ws (said_words Sender xs) }
sender_says [] xs = by (stays Sender xs) where
  by : (b : Bool) → view xs ≡ record (view xs) { sender_said = onto_if b [] (said_words Sender xs) }
  by true = refl
  by false = refl
sender_says (w ∷ ws) xs =
    sender_says ws (Says Sender w ∷ xs) ∙ ap (λ (l : List Word). record (view xs) { sender_said = l }) (more_if (stays Sender xs) w ws _)

pub receiver_hears : (ws : List Word) (xs : List Step) → view (all_heard Receiver ws xs) ≡ record (view xs) { receiver_heard = onto ws (heard_words Receiver xs) }
receiver_hears [] xs = refl
receiver_hears (w ∷ ws) xs = receiver_hears ws (Hears Receiver w ∷ xs)

pub sender_hears : (ws : List Word) (xs : List Step) → view (all_heard Sender ws xs) ≡ record (view xs) { sender_heard = onto ws (heard_words Sender xs) }
sender_hears [] xs = refl
sender_hears (w ∷ ws) xs = sender_hears ws (Hears Sender w ∷ xs)

receiver_hears_if : (b : Bool) (ws : List Word) (xs : List Step) → view (heard_in b Receiver ws xs) ≡ record (view xs) { receiver_heard = onto_if b ws (heard_words Receiver xs) }
receiver_hears_if true ws xs = receiver_hears ws xs
receiver_hears_if false ws xs = refl

pub sender_hears_if : (b : Bool) (ws : List Word) (xs : List Step) → view (heard_in b Sender ws xs) ≡ record (view xs) { sender_heard = onto_if b ws (heard_words Sender xs) }
sender_hears_if true ws xs = sender_hears ws xs
sender_hears_if false ws xs = refl

receiver_leaves : (keep : Bool) (xs : List Step) → view (steps_left keep Receiver xs) ≡ record (view xs) { receiver_stays = keep && stays Receiver xs }
receiver_leaves true xs = refl
receiver_leaves false xs = refl

sender_leaves : (keep : Bool) (xs : List Step) → view (steps_left keep Sender xs) ≡ record (view xs) { sender_stays = keep && stays Sender xs }
sender_leaves true xs = refl
sender_leaves false xs = refl

meets : (begin : Bool) (xs : List Step) → view (met begin xs) ≡ (if begin then fresh else view xs)
meets true xs = refl
meets false xs = refl

-- ---- one event

-- what both say, then what they hear
pub after_said : (a b : Host) (e : Event) (xs : List Step) → view (spoken_by a b e xs) ≡ record (view xs) {
  receiver_said = onto_if (stays Receiver xs) (words_of Receiver (stay.said_by a b 0 e)) (said_words Receiver xs);
  sender_said = onto_if (stays Sender xs) (words_of Sender (stay.said_by b a 0 e)) (said_words Sender xs);
}
after_said a b e xs =
    let ss : List Word = words_of Sender (stay.said_by b a 0 e) in
    let rs : List Word = words_of Receiver (stay.said_by a b 0 e) in
    receiver_says rs _ ∙ ap (λ (v : View). record v { receiver_said = onto_if v.receiver_stays rs v.receiver_said }) (sender_says ss xs)

pub after_taken : (a b : Host) (e : Event) (events : List Event) (xs : List Step) → view (taken_by a b e events xs) ≡ record (view xs) {
  receiver_heard = onto_if (stay.stays a b events) (words_of Sender (stay.heard_by b a 0 e)) (heard_words Receiver xs);
  sender_heard = onto_if (stay.stays b a events) (words_of Receiver (stay.heard_by a b 0 e)) (heard_words Sender xs);
}
after_taken a b e events xs =
    let ss : List Word = words_of Receiver (stay.heard_by a b 0 e) in
    let rs : List Word = words_of Sender (stay.heard_by b a 0 e) in
    receiver_hears_if (stay.stays a b events) rs _
    ∙ ap (λ (v : View). record v { receiver_heard = onto_if (stay.stays a b events) rs v.receiver_heard }) (sender_hears_if _ ss xs)

-- all of it, by what it was before
abbrev pub next : Host → Host → Event → List Event → View → View
next a b e events v =
    if stay.begins a b e events then fresh
    else record {
      receiver_stays = keeps a b e events && v.receiver_stays;
      sender_stays = keeps b a e events && v.sender_stays;
      receiver_said = onto_if v.receiver_stays (words_of Receiver (stay.said_by a b 0 e)) v.receiver_said;
      sender_said = onto_if v.sender_stays (words_of Sender (stay.said_by b a 0 e)) v.sender_said;
      receiver_heard = onto_if (stay.stays a b events) (words_of Sender (stay.heard_by b a 0 e)) v.receiver_heard;
      sender_heard = onto_if (stay.stays b a events) (words_of Receiver (stay.heard_by a b 0 e)) v.sender_heard;
    }

step_view : (a b : Host) (e : Event) (events : List Event) → view (steps a b (e ∷ events)) ≡ next a b e events (view (steps a b events))
step_view a b e events =
    let xs : List Step = steps a b events in
    let spoken : List Step = spoken_by a b e xs in
    let taken : List Step = taken_by a b e events spoken in
    let away : List Step = steps_left (keeps b a e events) Sender taken in
    meets (stay.begins a b e events) _
    ∙ ap (λ (v : View). if stay.begins a b e events then fresh else v)
    (receiver_leaves _ away
    ∙ ap (λ (v : View). record v { receiver_stays = keeps a b e events && v.receiver_stays })
    (sender_leaves _ taken
    ∙ ap (λ (v : View). record v { sender_stays = keeps b a e events && v.sender_stays })
    (after_taken a b e events spoken
    ∙ ap (λ (v : View). record v {
      receiver_heard = onto_if (stay.stays a b events) (words_of Sender (stay.heard_by b a 0 e)) v.receiver_heard;
      sender_heard = onto_if (stay.stays b a events) (words_of Receiver (stay.heard_by a b 0 e)) v.sender_heard;
    }) (after_said a b e xs))))

-- ---- the law of resets

-- the same by the law of resets
abbrev pub lawful : Host → Host → List Event → View
lawful a b events = record {
  receiver_stays = stay.stays a b events;
  sender_stays = stay.stays b a events;
  receiver_said = onto (words_of Receiver (stay.said_in_stay a b 0 events)) [];
  sender_said = onto (words_of Sender (stay.said_in_stay b a 0 events)) [];
  receiver_heard = onto (words_of Sender (stay.heard_in_stay b a 0 events)) [];
  sender_heard = onto (words_of Receiver (stay.heard_in_stay a b 0 events)) [];
}

pub words_join : (who : Who) (xs ys : List (List Bool)) → words_of who (xs ++ ys) ≡ words_of who xs ++ words_of who ys
words_join who [] ys = refl
words_join who (x ∷ xs) ys =
    let ws : List Word = words_by who _ (orders_of (untagged x).1) in
    ap (λ (l : List Word). ws ++ l) (words_join who xs ys) ∙ sym (append_assoc ws (words_of who xs) (words_of who ys))

pub onto_join : (xs ys base : List Word) → onto (xs ++ ys) base ≡ onto ys (onto xs base)
onto_join [] ys base = refl
onto_join (x ∷ xs) ys base = onto_join xs ys (x ∷ base)

words_more : (who : Who) (begin stay : Bool) (xs ys : List (List Bool))
    → onto (words_of who (if begin then [] else xs ++ (if stay then ys else []))) [] ≡ (if begin then [] else onto_if stay (words_of who ys) (onto (words_of who xs) []))
words_more who true stay xs ys = refl
words_more who false true xs ys = ap (λ (l : List Word). onto l []) (words_join who xs ys) ∙ onto_join (words_of who xs) _ []
words_more who false false xs ys = ap (λ (l : List (List Bool)). onto (words_of who l) []) (append-nil xs)

-- the parts of a view that begins anew, or continues
parts : (begin : Bool) (rs ss : Bool) (r s h k : List Word) → (if begin then fresh else record { receiver_stays = rs; sender_stays = ss; receiver_said = r; sender_said = s; receiver_heard = h; sender_heard = k })
    ≡ record {
      receiver_stays = begin || rs;
      sender_stays = begin || ss;
      receiver_said = if begin then [] else r;
      sender_said = if begin then [] else s;
      receiver_heard = if begin then [] else h;
      sender_heard = if begin then [] else k;
    }
parts true rs ss r s h k = refl
parts false rs ss r s h k = refl

abbrev made : Bool → Bool → List Word → List Word → List Word → List Word → View
made rs ss r s h k = record { receiver_stays = rs; sender_stays = ss; receiver_said = r; sender_said = s; receiver_heard = h; sender_heard = k }

six : (rs rs' ss ss' : Bool) (r r' s s' h h' k k' : List Word) → rs ≡ rs' → ss ≡ ss' → r ≡ r' → s ≡ s' → h ≡ h' → k ≡ k' → made rs ss r s h k ≡ made rs' ss' r' s' h' k'
six rs rs' ss ss' r r' s s' h h' k k' e f g i j l = rw (e, f, g, i, j, l) refl

pub same_view : (a b : Host) (events : List Event) → view (steps a b events) ≡ lawful a b events
same_view a b [] = refl
same_view a b (e ∷ events) =
    let begin : Bool = stay.begins a b e events in
    let turned : stay.begins b a e events ≡ stay.begins a b e events = sym (begins_either a b e events) in
    step_view a b e events ∙ ap (next a b e events) (same_view a b events)
    ∙ parts (stay.begins a b e events) _ _
    _
    _
    _
    _
    ∙ six _ _ _ _ _ _ _ _
    _ _ _ _
    refl
    (ap (λ (t : Bool). t || (keeps b a e events && stay.stays b a events)) (sym turned))
    (sym (words_more Receiver begin _ _ _))
    (ap (λ (t : Bool). if t then [] else onto_if (stay.stays b a events) (words_of Sender (stay.said_by b a 0 e)) (onto (words_of Sender (stay.said_in_stay b a 0 events)) [])) (sym turned)
    ∙ sym (words_more Sender (stay.begins b a e events) _ _ _))
    (ap (λ (t : Bool). if t then [] else onto_if (stay.stays a b events) (words_of Sender (stay.heard_by b a 0 e)) (onto (words_of Sender (stay.heard_in_stay b a 0 events)) [])) (sym turned)
    ∙ sym (words_more Sender (stay.begins b a e events) _ _ _))
    (sym (words_more Receiver begin _ _ _))
