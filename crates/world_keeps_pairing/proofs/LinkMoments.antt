-- Links are free, moment by moment.
use Rattle.world_keeps_pairing.proofs.Common.{◌≡◌, Bool, true, false, List, [], ◌∷◌, refl, ap, ◌∙◌, Host, Event, Word, Who, Receiver, Sender, Step, Says, Hears, all_heard, all_said, heard_in, keeps, steps_left, met, spoken_by, steps, taken_by, words_of}
use Rattle.reset_law.specs.Stays as stay
use Rattle.world_keeps_pairing.proofs.Claims.{claimed, heard_claims, said_claims}

-- ---- what was said and heard, after an event

pub said_upon : (ws : List Word) (xs ys : List Step) → said_claims xs ≡ said_claims ys → said_claims (all_said Receiver ws xs) ≡ said_claims (all_said Receiver ws ys)
said_upon [] xs ys e = e
said_upon (w ∷ ws) xs ys e = said_upon ws (Says Receiver w ∷ xs) (Says Receiver w ∷ ys) (ap (claimed w.mark w.sockets w.link) e)

heard_upon : (ws : List Word) (xs ys : List Step) → heard_claims xs ≡ heard_claims ys → heard_claims (all_heard Sender ws xs) ≡ heard_claims (all_heard Sender ws ys)
heard_upon [] xs ys e = e
heard_upon (w ∷ ws) xs ys e = heard_upon ws (Hears Sender w ∷ xs) (Hears Sender w ∷ ys) (ap (claimed w.mark w.sockets w.link) e)

pub sender_said : (ws : List Word) (xs : List Step) → said_claims (all_said Sender ws xs) ≡ said_claims xs
sender_said [] xs = refl
sender_said (w ∷ ws) xs = sender_said ws (Says Sender w ∷ xs)

heard_said : (who : Who) (ws : List Word) (xs : List Step) → said_claims (all_heard who ws xs) ≡ said_claims xs
heard_said who [] xs = refl
heard_said who (w ∷ ws) xs = heard_said who ws (Hears who w ∷ xs)

heard_in_said : (b : Bool) (who : Who) (ws : List Word) (xs : List Step) → said_claims (heard_in b who ws xs) ≡ said_claims xs
heard_in_said true who ws xs = heard_said who ws xs
heard_in_said false who ws xs = refl

left_said : (k : Bool) (who : Who) (xs : List Step) → said_claims (steps_left k who xs) ≡ said_claims xs
left_said true who xs = refl
left_said false who xs = refl

met_said : (g : Bool) (xs : List Step) → said_claims (met g xs) ≡ said_claims xs
met_said true xs = refl
met_said false xs = refl

-- by what the receiver says
pub said_next : (a b : Host) (e : Event) (older : List Event) → said_claims (steps a b (e ∷ older)) ≡ said_claims (all_said Receiver (words_of Receiver (stay.said_by a b 0 e)) (steps a b older))
said_next a b e older =
    let spoken : List Step = spoken_by a b e (steps a b older) in
    let ws : List Word = words_of Sender (stay.said_by b a 0 e) in
    met_said (stay.begins a b e older) (steps_left (keeps a b e older) Receiver (steps_left (keeps b a e older) Sender (taken_by a b e older spoken)))
    ∙ left_said (keeps a b e older) Receiver (steps_left (keeps b a e older) Sender (taken_by a b e older spoken))
    ∙ left_said (keeps b a e older) Sender (taken_by a b e older spoken)
    ∙ heard_in_said (stay.stays a b older) Receiver (words_of Sender (stay.heard_by b a 0 e)) (heard_in (stay.stays b a older) Sender (words_of Receiver (stay.heard_by a b 0 e)) spoken)
    ∙ heard_in_said (stay.stays b a older) Sender (words_of Receiver (stay.heard_by a b 0 e)) spoken
    ∙ said_upon (words_of Receiver (stay.said_by a b 0 e)) (all_said Sender ws (steps a b older)) (steps a b older) (sender_said ws (steps a b older))

said_heard : (who : Who) (ws : List Word) (xs : List Step) → heard_claims (all_said who ws xs) ≡ heard_claims xs
said_heard who [] xs = refl
said_heard who (w ∷ ws) xs = said_heard who ws (Says who w ∷ xs)

receiver_heard : (ws : List Word) (xs : List Step) → heard_claims (all_heard Receiver ws xs) ≡ heard_claims xs
receiver_heard [] xs = refl
receiver_heard (w ∷ ws) xs = receiver_heard ws (Hears Receiver w ∷ xs)

receiver_in_heard : (b : Bool) (ws : List Word) (xs : List Step) → heard_claims (heard_in b Receiver ws xs) ≡ heard_claims xs
receiver_in_heard true ws xs = receiver_heard ws xs
receiver_in_heard false ws xs = refl

left_heard : (k : Bool) (who : Who) (xs : List Step) → heard_claims (steps_left k who xs) ≡ heard_claims xs
left_heard true who xs = refl
left_heard false who xs = refl

met_heard : (g : Bool) (xs : List Step) → heard_claims (met g xs) ≡ heard_claims xs
met_heard true xs = refl
met_heard false xs = refl

heard_in_upon : (b : Bool) (ws : List Word) (xs ys : List Step) → heard_claims xs ≡ heard_claims ys → heard_claims (heard_in b Sender ws xs) ≡ heard_claims (heard_in b Sender ws ys)
heard_in_upon true ws xs ys e = heard_upon ws xs ys e
heard_in_upon false ws xs ys e = e

-- by what the sender hears
pub heard_next : (a b : Host) (e : Event) (older : List Event) → heard_claims (steps a b (e ∷ older)) ≡ heard_claims (heard_in (stay.stays b a older) Sender (words_of Receiver (stay.heard_by a b 0 e)) (steps a b older))
heard_next a b e older =
    let spoken : List Step = spoken_by a b e (steps a b older) in
    let to_sender : List Step = heard_in (stay.stays b a older) Sender (words_of Receiver (stay.heard_by a b 0 e)) spoken in
    met_heard (stay.begins a b e older) (steps_left (keeps a b e older) Receiver (steps_left (keeps b a e older) Sender (taken_by a b e older spoken)))
    ∙ left_heard (keeps a b e older) Receiver (steps_left (keeps b a e older) Sender (taken_by a b e older spoken))
    ∙ left_heard (keeps b a e older) Sender (taken_by a b e older spoken)
    ∙ receiver_in_heard (stay.stays a b older) (words_of Sender (stay.heard_by b a 0 e)) to_sender
    ∙ heard_in_upon (stay.stays b a older) (words_of Receiver (stay.heard_by a b 0 e)) spoken (steps a b older)
    (said_heard Receiver (words_of Receiver (stay.said_by a b 0 e)) (all_said Sender (words_of Sender (stay.said_by b a 0 e)) (steps a b older)) ∙ said_heard Sender (words_of Sender (stay.said_by b a 0 e)) (steps a b older))
