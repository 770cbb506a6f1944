-- Requests of two hosts beside the law of pairing: each is where this many connections of its sockets were closed before it.
use Rattle.world_keeps_streams.proofs.Common.{◌≡◌, inr, ℕ, ◌&&◌, not, Bool, true, false, List, [], ◌∷◌, if◌then◌else◌, refl, sym, subst, ◌∙◌, Host, Mark, Ask, Close, Asks, Side, hears, says, Event, begins_either, HaveAddresses, IsLawful, Moment, event_in, events_of, crossings_of, Coupled, coupled, law_events, origin_in, keeps, steps, Seen, WorldState, AreOurs, Network, all_ours, Happened, happened}
use Rattle.pairing_law.specs.Links.{Sockets, events_at, receiver, sender, Receiver, Sender}
use Rattle.pairing_law.specs.Places.{placed_event, placed}
use Rattle.pairing_law.proofs.lemmas.{Joined, asks_said, run_at, joined_run, ready_same}
use Rattle.world_keeps_pairing.proofs.lemmas.{all_hears, all_says, all_tied, are_origins, at_texts, half, hears_if, left_if, met_if, receiver_half, sender_half, served_in, mail_below, book_run, before}
use Rattle.interface.specs.Mailboxes as mail
use Rattle.reset_law.specs.Stays as stay
use Rattle.net_sim.specs.Told.{kept_in}
use Rattle.promise.specs.declared.life.Life as book

-- ---- moments that may be in a network, whatever its strangers do

abbrev pub Lawful : Network → List Moment → Type 0
Lawful hosts ms = HaveAddresses hosts.all × mail.IsRun hosts.all (crossings_of ms) × Happened hosts ms

pub below : (hosts : Network) (x : Moment) (ms : List Moment) → Lawful hosts (x ∷ ms) → Lawful hosts ms
below hosts x ms l = (l.0, mail_below hosts.all x ms l.1, l.2.1)

pub coupled_in : (hosts : Network) (ms : List Moment) → Lawful hosts ms → Coupled hosts ms
coupled_in hosts ms l = coupled hosts l.0 ms l.1 l.2

pub book_lawful : {C : Type 0} (seen : C → Seen) (hosts : List Host) (w : WorldState C) (lawful : IsLawful seen hosts w)
    → Lawful (all_ours hosts) lawful.whole.moments
book_lawful seen hosts w lawful = (lawful.addresses, book_run seen hosts w lawful, happened hosts lawful.whole.moments lawful.whole.timeline)

abbrev pub lives_in : List Moment → List book.Life
lives_in ms = (kept_in ms).book.lives

-- the request of connection `g` of these sockets, which the receiver said by this place
abbrev pub Own : Host → Host → List Moment → ℕ → ℕ → ℕ → ℕ → Type 0
Own a b ms receive send stamp g = Asks g stamp (receiver (record { receive = receive; send = send }) (steps a b (law_events ms))).said

-- and which the sender heard: it took it by this stamp
abbrev pub Heard : Host → Host → List Moment → ℕ → ℕ → ℕ → ℕ → Type 0
Heard a b ms receive send stamp g = Asks g (origin_in (crossings_of ms) b a stamp) (sender (record { receive = receive; send = send }) (steps a b (law_events ms))).heard

-- ---- what was said and heard is kept until both meet

says_keep : (k p : ℕ) (m : Mark) (x : Side) → Asks k p x.said → Asks k p (says m x).said
says_keep k p m x h = by x.stays m where
  by : (v : Bool) (m : Mark) → Asks k p (if v then m ∷ x.said else x.said)
  by true (Ask q) = inr h
  by true Close = h
  by false m = h

all_says_keep : (k p : ℕ) (ms : List Mark) (x : Side) → Asks k p x.said → Asks k p (all_says ms x).said
all_says_keep k p [] x h = h
all_says_keep k p (m ∷ ms) x h = all_says_keep k p ms (says m x) (says_keep k p m x h)

all_hears_said : (k p : ℕ) (ms : List Mark) (x : Side) → Asks k p x.said → Asks k p (all_hears ms x).said
all_hears_said k p [] x h = h
all_hears_said k p (m ∷ ms) x h = all_hears_said k p ms (hears m x) h

all_says_heard : (k p : ℕ) (ms : List Mark) (x : Side) → Asks k p x.heard → Asks k p (all_says ms x).heard
all_says_heard k p [] x h = h
all_says_heard k p (m ∷ ms) x h = all_says_heard k p ms (says m x) h

hears_keep : (k p : ℕ) (m : Mark) (x : Side) → Asks k p x.heard → Asks k p (hears m x).heard
hears_keep k p (Ask q) x h = inr h
hears_keep k p Close x h = h

all_hears_keep : (k p : ℕ) (ms : List Mark) (x : Side) → Asks k p x.heard → Asks k p (all_hears ms x).heard
all_hears_keep k p [] x h = h
all_hears_keep k p (m ∷ ms) x h = all_hears_keep k p ms (hears m x) (hears_keep k p m x h)

module _ (h p : Host) (spoken heard : List (List Bool) → List Mark) (k n : ℕ) where
  step_said : (e : Event) (events : List Event) (x : Side) → stay.begins h p e events ≡ false → Asks k n x.said → Asks k n (met_if (stay.begins h p e events) (before h p spoken heard e events x)).said
  step_said e events x none a =
      subst (λ (v : Bool). Asks k n (met_if v (before h p spoken heard e events x)).said) (sym none)
      (left (keeps h p e events) (hears_if (stay.stays h p events) (heard (stay.heard_by p h 0 e)) (all_says (spoken (stay.said_by h p 0 e)) x))
      (took (stay.stays h p events) (heard (stay.heard_by p h 0 e)) (all_says (spoken (stay.said_by h p 0 e)) x) (all_says_keep k n (spoken (stay.said_by h p 0 e)) x a))) where
        left : (v : Bool) (y : Side) → Asks k n y.said → Asks k n (left_if v y).said
        left true y b = b
        left false y b = b

        took : (v : Bool) (ms : List Mark) (y : Side) → Asks k n y.said → Asks k n (hears_if v ms y).said
        took true ms y b = all_hears_said k n ms y b
        took false ms y b = b

  step_heard : (e : Event) (events : List Event) (x : Side) → stay.begins h p e events ≡ false → Asks k n x.heard → Asks k n (met_if (stay.begins h p e events) (before h p spoken heard e events x)).heard
  step_heard e events x none a =
      subst (λ (v : Bool). Asks k n (met_if v (before h p spoken heard e events x)).heard) (sym none)
      (left (keeps h p e events) (hears_if (stay.stays h p events) (heard (stay.heard_by p h 0 e)) (all_says (spoken (stay.said_by h p 0 e)) x))
      (took (stay.stays h p events) (heard (stay.heard_by p h 0 e)) (all_says (spoken (stay.said_by h p 0 e)) x) (all_says_heard k n (spoken (stay.said_by h p 0 e)) x a))) where
        left : (v : Bool) (y : Side) → Asks k n y.heard → Asks k n (left_if v y).heard
        left true y b = b
        left false y b = b

        took : (v : Bool) (ms : List Mark) (y : Side) → Asks k n y.heard → Asks k n (hears_if v ms y).heard
        took true ms y b = all_hears_keep k n ms y b
        took false ms y b = b

-- ---- the law of resets sees the same where texts carry places

pub begins_same : (a b : Host) (e : Event) (events : List Event) → stay.begins a b (placed_event e events) (placed events) ≡ stay.begins a b e events
begins_same a b e events =
    four _ _ _ _ _ _ _ _ (ready_same a b (e ∷ events)) (ready_same b a (e ∷ events)) (ready_same a b events) (ready_same b a events) where
      four : (r r' s s' t t' u u' : Bool) → r ≡ r' → s ≡ s' → t ≡ t' → u ≡ u' → ((r && s) && not (t && u)) ≡ ((r' && s') && not (t' && u'))
      four r r' s s' t t' u u' e f g h = rw (e, f, g, h) refl

module _ (a b : Host) (y : Moment) (ms : List Moment) (none : stay.begins a b (event_in y) (events_of ms) ≡ false) (receive send g : ℕ) where
  pub own_on : (stamp : ℕ) → Own a b ms receive send stamp g → Own a b (y ∷ ms) receive send stamp g
  own_on stamp o =
      let s : Sockets = record { receive = receive; send = send } in
      subst (λ (x : Side). Asks g stamp x.said) (sym (receiver_half (record { receive = receive; send = send }) a b (law_events (y ∷ ms))))
      (step_said a b (at_texts s Receiver) (at_texts s Sender) g stamp (placed_event (event_in y) (events_of ms)) (law_events ms) (half a b (at_texts s Receiver) (at_texts s Sender) (law_events ms))
      (begins_same a b (event_in y) (events_of ms) ∙ none)
      (subst (λ (x : Side). Asks g stamp x.said) (receiver_half (record { receive = receive; send = send }) a b (law_events ms)) o))

  pub heard_on : (stamp : ℕ) → origin_in (crossings_of (y ∷ ms)) b a stamp ≡ origin_in (crossings_of ms) b a stamp → Heard a b ms receive send stamp g → Heard a b (y ∷ ms) receive send stamp g
  heard_on stamp same o =
      let s : Sockets = record { receive = receive; send = send } in
      let n : ℕ = origin_in (crossings_of ms) b a stamp in
      subst (λ (m : ℕ). Asks g m (sender (record { receive = receive; send = send }) (steps a b (law_events (y ∷ ms)))).heard) (sym same)
      (subst (λ (x : Side). Asks g (origin_in (crossings_of ms) b a stamp) x.heard) (sym (sender_half (record { receive = receive; send = send }) a b (law_events (y ∷ ms))))
      (step_heard b a (at_texts s Sender) (at_texts s Receiver) g n (placed_event (event_in y) (events_of ms)) (law_events ms) (half b a (at_texts s Sender) (at_texts s Receiver) (law_events ms))
      (sym (begins_either a b (placed_event (event_in y) (events_of ms)) (law_events ms)) ∙ begins_same a b (event_in y) (events_of ms) ∙ none)
      (subst (λ (x : Side). Asks g (origin_in (crossings_of ms) b a stamp) x.heard) (sender_half (record { receive = receive; send = send }) a b (law_events ms)) o)))

-- ---- the law of pairing

pub law_joined : (hosts : Network) (ms : List Moment) → Lawful hosts ms → (a b : Host) → AreOurs hosts a b
    → (s : Sockets) → Joined (receiver s (steps a b (law_events ms))) (sender s (steps a b (law_events ms)))
law_joined hosts ms l a b ours s =
    let c : Coupled hosts ms = coupled_in hosts ms l in
    joined_run (events_at s (steps a b (law_events ms)))
    (run_at s (steps a b (law_events ms)) ((all_tied hosts (origin_in (crossings_of ms)) ms (are_origins 0 (crossings_of ms) [] ms refl) c.story c.run (served_in hosts ms l.2)).tied a b ours).steps)

-- what the receiver asked for and the sender heard of one connection is one request
pub same_request : (hosts : Network) (ms : List Moment) → Lawful hosts ms → (a b : Host) → AreOurs hosts a b
    → (receive send stamp taken g : ℕ) → Own a b ms receive send stamp g → Heard a b ms receive send taken g
    → origin_in (crossings_of ms) b a taken ≡ stamp
same_request hosts ms l a b ours receive send stamp taken g o h =
    let s : Sockets = record { receive = receive; send = send } in
    let j : Joined (receiver s (steps a b (law_events ms))) (sender s (steps a b (law_events ms))) = law_joined hosts ms l a b ours _ in
    j.here.balanced.single g (origin_in (crossings_of ms) b a taken) stamp
    (asks_said g _ _ _ j.there.older h) o
