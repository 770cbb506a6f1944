-- What two hosts hear may be heard, and they meet as they may.
use Rattle.world_keeps_pairing.proofs.Common.{◌≡◌, Bool, true, false, if◌then◌else◌, List, [], ◌∷◌, ◌++◌, refl, ap, sym, subst, ◌∙◌, append_assoc, Host, Event, nothing, Side, words_of, onto, all_heard, heard_in, keeps, steps_left, met, spoken_by, taken_by, steps, AreOurs, Network}
use Rattle.pairing_law.specs.Links.{Sockets, Word, Who, Receiver, Sender, Step, Hears, receiver, sender, stays, said_words, heard_words, AreSteps, AreOlder}
use Rattle.reset_law.specs.Runs.{IsRun}
use Rattle.reset_law.specs.Stays as stay
use Rattle.reset_law.proofs.lemmas.{heard_front}
use Rattle.pairing_law.proofs.lemmas.{Fresh, begins_fresh}
use Rattle.world_keeps_pairing.proofs.Views.{View, view, lawful, same_view, after_said, sender_hears_if, words_join, onto_join, onto_if}
use Rattle.world_keeps_pairing.proofs.Sides.{at_texts, before, receiver_before, sender_before, receiver_half, sender_half, nothing_there}

-- ---- prefixes

onto_above : (ws base : List Word) → AreOlder base (onto ws base)
onto_above [] base = ([], refl)
onto_above (w ∷ ws) base =
    let h : AreOlder (w ∷ base) (onto ws (w ∷ base)) = onto_above ws (w ∷ base) in
    (h.0 ++ w ∷ [], h.1 ∙ sym (append_assoc h.0 (w ∷ []) base))

older_older : (xs ys zs : List Word) → AreOlder xs ys → AreOlder ys zs → AreOlder xs zs
older_older xs ys zs h k = (k.0 ++ h.0, k.1 ∙ ap (λ (l : List Word). k.0 ++ l) h.1 ∙ sym (append_assoc k.0 h.0 xs))

front_words : (who : Who) (xs ys : List (List Bool)) → stay.IsPrefix xs ys → AreOlder (onto (words_of who xs) []) (onto (words_of who ys) [])
front_words who xs ys f =
    let above : AreOlder (onto (words_of who xs) []) (onto (words_of who f.0) (onto (words_of who xs) [])) = onto_above (words_of who f.0) _ in
    let is : onto (words_of who ys) [] ≡ onto (words_of who f.0) (onto (words_of who xs) []) =
    ap (λ (l : List (List Bool)). onto (words_of who l) []) (sym f.1) ∙ ap (λ (l : List Word). onto l []) (words_join who xs f.0) ∙ onto_join (words_of who xs) _ [] in
    (above.0, is ∙ above.1)

-- ---- hearing

receiver_may : (ws : List Word) (xs : List Step) → AreSteps xs → stays Receiver xs ≡ true → AreOlder (onto ws (heard_words Receiver xs)) (said_words Sender xs) → AreSteps (all_heard Receiver ws xs)
receiver_may [] xs h stay older = h
receiver_may (w ∷ ws) xs h stay older =
    receiver_may ws (Hears Receiver w ∷ xs)
    ((stay, older_older _ _ _ (onto_above ws _) older), h) stay older

sender_may : (ws : List Word) (xs : List Step) → AreSteps xs → stays Sender xs ≡ true → AreOlder (onto ws (heard_words Sender xs)) (said_words Receiver xs) → AreSteps (all_heard Sender ws xs)
sender_may [] xs h stay older = h
sender_may (w ∷ ws) xs h stay older =
    sender_may ws (Hears Sender w ∷ xs)
    ((stay, older_older _ _ _ (onto_above ws _) older), h) stay older

receiver_may_if : (b : Bool) (ws : List Word) (xs : List Step) → AreSteps xs → (b ≡ true → (stays Receiver xs ≡ true) × AreOlder (onto ws (heard_words Receiver xs)) (said_words Sender xs)) → AreSteps (heard_in b Receiver ws xs)
receiver_may_if true ws xs h k = receiver_may ws xs h (k refl).0 (k refl).1
receiver_may_if false ws xs h k = h

sender_may_if : (b : Bool) (ws : List Word) (xs : List Step) → AreSteps xs → (b ≡ true → (stays Sender xs ≡ true) × AreOlder (onto ws (heard_words Sender xs)) (said_words Receiver xs)) → AreSteps (heard_in b Sender ws xs)
sender_may_if true ws xs h k = sender_may ws xs h (k refl).0 (k refl).1
sender_may_if false ws xs h k = h

-- ---- one event

-- all that one has heard by an event is what the other said first
heard_now : (who : Who) (hosts : Network) (e : Event) (events : List Event) → IsRun hosts (e ∷ events) → (a b : Host) → AreOurs hosts a b → stay.stays b a events ≡ true → (begin : Bool) → stay.begins a b e events ≡ begin
    → AreOlder (onto (words_of who (stay.heard_by a b 0 e)) (onto (words_of who (stay.heard_in_stay a b 0 events)) []))
    (onto_if (stay.stays a b events) (words_of who (stay.said_by a b 0 e)) (onto (words_of who (stay.said_in_stay a b 0 events)) []))
heard_now who hosts e events r a b ours stays true f =
    absurd (let f : Fresh a b e events = begins_fresh hosts e events r a b ours f in let no : true ≡ false = sym stays ∙ f.peer_left in cc)
heard_now who hosts e events r a b ours stays false f =
    let front : stay.IsPrefix (stay.heard_in_stay a b 0 (e ∷ events)) (stay.said_in_stay a b 0 (e ∷ events)) = heard_front hosts (e ∷ events) r a b ours 0 in
    let here : stay.heard_in_stay a b 0 (e ∷ events) ≡ stay.heard_in_stay a b 0 events ++ stay.heard_by a b 0 e = rw (f, stays) refl in
    let there : stay.said_in_stay a b 0 (e ∷ events) ≡ stay.said_in_stay a b 0 events ++ (if stay.stays a b events then stay.said_by a b 0 e else []) = rw f refl in
    subst (λ (l : List Word). AreOlder l (onto_if (stay.stays a b events) (words_of who (stay.said_by a b 0 e)) (onto (words_of who (stay.said_in_stay a b 0 events)) [])))
    (ap (λ (l : List (List Bool)). onto (words_of who l) []) here ∙ ap (λ (l : List Word). onto l []) (words_join who _ _)
    ∙ onto_join (words_of who (stay.heard_in_stay a b 0 events)) _ [])
    (subst (λ (l : List Word). AreOlder (onto (words_of who (stay.heard_in_stay a b 0 (e ∷ events))) []) l) (ap (λ (l : List (List Bool)). onto (words_of who l) []) there ∙ more (stay.stays a b events))
    (front_words who _ _ front)) where
      more : (t : Bool) → onto (words_of who (stay.said_in_stay a b 0 events ++ (if t then stay.said_by a b 0 e else []))) [] ≡ onto_if t (words_of who (stay.said_by a b 0 e)) (onto (words_of who (stay.said_in_stay a b 0 events)) [])
      more true = ap (λ (l : List Word). onto l []) (words_join who _ _) ∙ onto_join (words_of who (stay.said_in_stay a b 0 events)) (words_of who (stay.said_by a b 0 e)) []
      more false = ap (λ (l : List Word). onto l []) (words_join who _ []) ∙ onto_join (words_of who (stay.said_in_stay a b 0 events)) (words_of who []) []

left_may : (keep : Bool) (who : Who) (xs : List Step) → AreSteps xs → AreSteps (steps_left keep who xs)
left_may true who xs h = h
left_may false who xs h = (tt, h)

met_may : (begin : Bool) (xs : List Step) → AreSteps xs → (begin ≡ true → (s : Sockets) → ((receiver s xs).end ≡ nothing) × ((sender s xs).end ≡ nothing)) → AreSteps (met begin xs)
met_may true xs h k = (k refl, h)
met_may false xs h k = h

-- what is seen once both have said what they say
abbrev spoken_view : Host → Host → Event → View → View
spoken_view a b e v = record v {
  receiver_said = onto_if v.receiver_stays (words_of Receiver (stay.said_by a b 0 e)) v.receiver_said;
  sender_said = onto_if v.sender_stays (words_of Sender (stay.said_by b a 0 e)) v.sender_said;
}

spoken_is : (a b : Host) (e : Event) (events : List Event) → view (spoken_by a b e (steps a b events)) ≡ spoken_view a b e (lawful a b events)
spoken_is a b e events = after_said a b e _ ∙ ap (spoken_view a b e) (same_view a b events)

older_as : (ws xs ys zs vs : List Word) → xs ≡ ys → zs ≡ vs → AreOlder (onto ws ys) vs → AreOlder (onto ws xs) zs
older_as ws xs ys zs vs e f h = rw (e, f) h

-- where what both say is what they may say, so is all that they do
pub legal : (hosts : Network) (e : Event) (events : List Event) → IsRun hosts (e ∷ events) → (a b : Host) → AreOurs hosts a b → AreSteps (spoken_by a b e (steps a b events)) → AreSteps (steps a b (e ∷ events))
legal hosts e events r a b ours h =
    let spoken : List Step = spoken_by a b e (steps a b events) in
    let to_sender : List Word = words_of Receiver (stay.heard_by a b 0 e) in
    let to_receiver : List Word = words_of Sender (stay.heard_by b a 0 e) in
    let is : view spoken ≡ spoken_view a b e (lawful a b events) = spoken_is a b e events in
    let half_heard : List Step = heard_in (stay.stays b a events) Sender to_sender spoken in
    let next : view half_heard ≡ record (view spoken) { sender_heard = onto_if (stay.stays b a events) to_sender (heard_words Sender spoken) } = sender_hears_if _ to_sender spoken in
    let first : AreSteps half_heard = sender_may_if _ to_sender spoken h (λ t. (
      ap (λ (v : View). v.sender_stays) is ∙ t,
      older_as to_sender _ _ _
          _
          (ap (λ (v : View). v.sender_heard) is) (ap (λ (v : View). v.receiver_said) is) (heard_now Receiver hosts e events r a b ours t _ refl),
    )) in
    let second : AreSteps (taken_by a b e events spoken) = receiver_may_if _ to_receiver half_heard first (λ t. (
      ap (λ (v : View). v.receiver_stays) next ∙ ap (λ (v : View). v.receiver_stays) is ∙ t,
      older_as to_receiver _ _ _
          _
          (ap (λ (v : View). v.receiver_heard) next ∙ ap (λ (v : View). v.receiver_heard) is) (ap (λ (v : View). v.sender_said) next ∙ ap (λ (v : View). v.sender_said) is)
          (heard_now Sender hosts e events r b a (ours.1, ours.0) t _ refl),
    )) in
    let under : List Step = steps_left (keeps a b e events) Receiver (steps_left (keeps b a e events) Sender (taken_by a b e events spoken)) in
    met_may _ under (left_may (keeps a b e events) Receiver _ (left_may (keeps b a e events) Sender _ second))
    (λ g s. (let f : Fresh a b e events = begins_fresh hosts e events r a b ours g in (
      ap (λ (x : Side). x.end) (receiver_before s a b e events ∙ ap (before a b (at_texts s Receiver) (at_texts s Sender) e events) (receiver_half s a b events))
          ∙ nothing_there a b (at_texts s Receiver) (at_texts s Sender) refl e events f.silent f.left,
      ap (λ (x : Side). x.end) (sender_before s a b e events ∙ ap (before b a (at_texts s Sender) (at_texts s Receiver) e events) (sender_half s a b events))
          ∙ nothing_there b a (at_texts s Sender) (at_texts s Receiver) refl e events f.silent_peer f.peer_left,
    )))
