-- One host of a world beside one peer of it, upon two streams of a link; and what one moment more makes of it.
use Rattle.world_keeps_streams.proofs.Common.{◌≡◌, ℕ, Bool, true, false, List, [], ◌∷◌, ◌++◌, refl, sym, subst, Host, Command, Stream, AreAllowed, IsTelling, gone_now, receiver_now, sender_now, pair_with, Moment, event_in, events_of, program, Joint, Party, Post, Steps, keeps, calls_by, own_calls}
use Rattle.std.proofs.lemmas.List.{append-nil}
use Rattle.stream_law.specs.Within.{IsPrefix}
use Rattle.host_keeps_streams.specs.Histories as calls
use Rattle.reset_law.specs.Stays as stay
use Rattle.world_keeps_streams.proofs.Steps.Going.{Goes, Here, standing}
use Rattle.world_keeps_streams.proofs.Steps.Joined.{IsSettled}
use Rattle.world_keeps_streams.proofs.Stays.Resets.{stays_on}
use Rattle.world_keeps_streams.proofs.Facts.{own_if}

abbrev pub side : Host → Host → List Moment → List Command → Post → Party
side h p moments pending post = record {
  stays = stay.stays h p (events_of moments);
  gone = gone_now p (own_calls h p moments);
  entries = (pair_with p (program h moments).peers).entries;
  pending = pending;
  post = post;
}

module _ (number other : ℕ → ℕ → ℕ → ℕ) (tells : IsTelling number) (others : IsTelling other) (link : ℕ) where
  -- what waits to be taken comes first; after it, while the host stays, what waits in its program
  pub record Held (h p : Host) (moments : List Moment) (front rest : List Command) (post : Post) (b : Party) (x y : Stream) : Type 0 where
    pub joint : Joint number other tells others link x y (side h p moments (front ++ rest) post) b
    pub queue : stay.stays h p (events_of moments) ≡ true → rest ≡ (pair_with p (program h moments).peers).queue
    pub received : stay.stays h p (events_of moments) ≡ true → x.receiver ≡ receiver_now number p link (own_calls h p moments)
    pub sent : stay.stays h p (events_of moments) ≡ true → y.sender ≡ sender_now number p link (own_calls h p moments)
    pub allowed : stay.stays h p (events_of moments) ≡ true → AreAllowed number p link (own_calls h p moments)

  -- after older streams
  pub record Acted (h p : Host) (moments : List Moment) (front : List Command) (post : Post) (b : Party) (x y : Stream) : Type 0 where
    pub first : Stream
    pub second : Stream
    pub rest : List Command
    pub held : Held h p moments front rest post b first second
    pub sender : first.sender ≡ x.sender
    pub receiver : second.receiver ≡ y.receiver
    pub granted : stay.stays h p (events_of moments) ≡ false → (c : ℕ) → first.receiver.granted c ≡ x.receiver.granted c
    pub returned : stay.stays h p (events_of moments) ≡ false → (c : ℕ) → first.receiver.returned c ≡ x.receiver.returned c
    pub taken : stay.stays h p (events_of moments) ≡ false → (c : ℕ) → IsPrefix (x.receiver.taken c) (first.receiver.taken c)
    pub settled : stay.stays h p (events_of moments) ≡ false → (c : ℕ) → IsSettled x.receiver first.receiver c
    pub said : stay.stays h p (events_of moments) ≡ false → (c : ℕ) → second.sender.sent c ≡ y.sender.sent c

  abbrev pub HereIn : Host → Host → List Moment → List Command → Post → Party → Stream → Stream → Type 0
  HereIn h p moments front post b x y = Here number other tells others link p (own_calls h p moments) (pair_with p (program h moments).peers) front post b x y

  -- what a moment makes of a host that stays
  abbrev pub GoesBy : Host → Host → Moment → List Moment → List Command → Post → Party → Stream → Stream → Type 0
  GoesBy h p m moments front post b x y =
      Goes number other tells others link p (calls_by h p m moments ++ own_calls h p moments) (pair_with p (program h (m ∷ moments)).peers) front post b x y

  held_here : (h p : Host) (moments : List Moment) (front rest : List Command) (post : Post) (b : Party) (x y : Stream) → Held h p moments front rest post b x y → stay.stays h p (events_of moments) ≡ true → HereIn h p moments front post b x y
  held_here h p moments front rest post b x y held s = record {
    joint = subst (λ (cs : List Command). Joint number other tells others link x y (standing_with cs) b) (held.queue s)
        (subst (λ (t : Bool). Joint number other tells others link x y (record (side h p moments (front ++ rest) post) { stays = t }) b) s held.joint);
    received = held.received s;
    sent = held.sent s;
    allowed = held.allowed s;
  } where
    standing_with : List Command → Party
    standing_with cs = record (side h p moments (front ++ cs) post) { stays = true }

  no_case : (A : Type 0) (t : Bool) → t ≡ true → t ≡ false → A
  no_case A true e f = absurd (let no : true ≡ false = f in cc)
  no_case A false e f = absurd (let no : false ≡ true = e in cc)

  acted_on : (h p : Host) (m : Moment) (moments : List Moment) (front : List Command) (post : Post) (b : Party) (x y : Stream) → stay.stays h p (events_of (m ∷ moments)) ≡ true → keeps h p (event_in m) (events_of moments) ≡ true
      → GoesBy h p m moments front post b x y → Acted h p (m ∷ moments) front post b x y
  acted_on h p m moments front post b x y s k g =
      let own : own_calls h p (m ∷ moments) ≡ calls_by h p m moments ++ own_calls h p moments = own_if (keeps h p (event_in m) (events_of moments)) (calls_by h p m moments ++ own_calls h p moments) [] k in
      let here : Here number other tells others link p (own_calls h p (m ∷ moments)) (pair_with p (program h (m ∷ moments)).peers) front post b g.first g.second =
      subst (λ (cs : List calls.Moment). Here number other tells others link p cs (pair_with p (program h (m ∷ moments)).peers) front post b g.first g.second) (sym own) g.here in
      record {
        first = g.first;
        second = g.second;
        rest = (pair_with p (program h (m ∷ moments)).peers).queue;
        held = record {
          joint = subst (λ (t : Bool). Joint number other tells others link g.first g.second (record (standing p (own_calls h p (m ∷ moments)) (pair_with p (program h (m ∷ moments)).peers) front post) { stays = t }) b) (sym s) here.joint;
          queue = λ e. refl;
          received = λ e. here.received;
          sent = λ e. here.sent;
          allowed = λ e. here.allowed;
        };
        sender = g.sender;
        receiver = g.receiver;
        granted = λ e. no_case ((c : ℕ) → g.first.receiver.granted c ≡ x.receiver.granted c) (stay.stays h p (events_of (m ∷ moments))) s e;
        returned = λ e. no_case ((c : ℕ) → g.first.receiver.returned c ≡ x.receiver.returned c) (stay.stays h p (events_of (m ∷ moments))) s e;
        taken = λ e. no_case ((c : ℕ) → IsPrefix (x.receiver.taken c) (g.first.receiver.taken c)) (stay.stays h p (events_of (m ∷ moments))) s e;
        settled = λ e. no_case ((c : ℕ) → IsSettled x.receiver g.first.receiver c) (stay.stays h p (events_of (m ∷ moments))) s e;
        said = λ e. no_case ((c : ℕ) → g.second.sender.sent c ≡ y.sender.sent c) (stay.stays h p (events_of (m ∷ moments))) s e;
      }

  pub left_held : (h p : Host) (moments : List Moment) (front rest : List Command) (post : Post) (b : Party) (x y : Stream) → stay.stays h p (events_of moments) ≡ false
      → Joint number other tells others link x y (side h p moments (front ++ rest) post) b → Held h p moments front rest post b x y
  left_held h p moments front rest post b x y left j = record {
    joint = j;
    queue = λ e. no_case (rest ≡ (pair_with p (program h moments).peers).queue) (stay.stays h p (events_of moments)) e left;
    received = λ e. no_case (x.receiver ≡ receiver_now number p link (own_calls h p moments)) (stay.stays h p (events_of moments)) e left;
    sent = λ e. no_case (y.sender ≡ sender_now number p link (own_calls h p moments)) (stay.stays h p (events_of moments)) e left;
    allowed = λ e. no_case (AreAllowed number p link (own_calls h p moments)) (stay.stays h p (events_of moments)) e left;
  }

  -- what a host that doesn't stay leaves to be taken
  pub acted_out : (h p : Host) (moments : List Moment) (front rest : List Command) (post : Post) (b : Party) (x y : Stream) → stay.stays h p (events_of moments) ≡ false
      → Joint number other tells others link x y (side h p moments (front ++ rest) post) b → Acted h p moments front post b x y
  acted_out h p moments front rest post b x y left j = record {
    first = x;
    second = y;
    rest = rest;
    held = left_held h p moments front rest post b x y left j;
    sender = refl;
    receiver = refl;
    granted = λ e c. refl;
    returned = λ e c. refl;
    taken = λ e c. ([], append-nil (x.receiver.taken c));
    settled = λ e c. record { over = refl; first = refl; taken = λ o. refl };
    said = λ e c. refl;
  }

  module _ (steps : Steps number other tells others link) where
    -- a host that doesn't stay after a moment
    left_joint : (h p : Host) (m : Moment) (moments : List Moment) (pending : List Command) (post : Post) (b : Party) (x y : Stream) → stay.stays h p (events_of (m ∷ moments)) ≡ false
        → Joint number other tells others link x y (side h p moments pending post) b → Joint number other tells others link x y (side h p (m ∷ moments) pending post) b
    left_joint h p m moments pending post b x y left j = steps.leaves x y (side h p moments pending post) b j (side h p (m ∷ moments) pending post) left refl refl

    -- a moment that leaves the boxes
    pub act : (h p : Host) (m : Moment) (moments : List Moment) (front rest : List Command) (post : Post) (b : Party) (x y : Stream) → stay.begins h p (event_in m) (events_of moments) ≡ false → Held h p moments front rest post b x y
        → (keeps h p (event_in m) (events_of moments) ≡ true → stay.stays h p (events_of moments) ≡ true → HereIn h p moments front post b x y → GoesBy h p m moments front post b x y)
        → Acted h p (m ∷ moments) front post b x y
    act h p m moments front rest post b x y old held goes = by (stay.stays h p (events_of (m ∷ moments))) refl where
      by : (t : Bool) → stay.stays h p (events_of (m ∷ moments)) ≡ t → Acted h p (m ∷ moments) front post b x y
      by true s =
          let k : (keeps h p (event_in m) (events_of moments) ≡ true) × (stay.stays h p (events_of moments) ≡ true) = stays_on h p (event_in m) (events_of moments) s old in
          acted_on h p m moments front post b x y s k.0 (goes k.0 k.1 (held_here h p moments front rest post b x y held k.1))
      by false s = acted_out h p (m ∷ moments) front rest post b x y s (left_joint h p m moments (front ++ rest) post b x y s held.joint)

    -- a moment that may change them: each case by itself
    pub act_by : (h p : Host) (m : Moment) (moments : List Moment) (front rest : List Command) (post : Post) (b : Party) (x y : Stream) (fronts : List Command) (post' : Post) (b' : Party)
        → stay.begins h p (event_in m) (events_of moments) ≡ false → Held h p moments front rest post b x y
        → (keeps h p (event_in m) (events_of moments) ≡ true → stay.stays h p (events_of moments) ≡ true → stay.stays h p (events_of (m ∷ moments)) ≡ true → HereIn h p moments front post b x y → GoesBy h p m moments fronts post' b' x y)
        → (stay.stays h p (events_of (m ∷ moments)) ≡ false → Joint number other tells others link x y (side h p (m ∷ moments) (front ++ rest) post) b → Acted h p (m ∷ moments) fronts post' b' x y)
        → Acted h p (m ∷ moments) fronts post' b' x y
    act_by h p m moments front rest post b x y fronts post' b' old held goes out = by (stay.stays h p (events_of (m ∷ moments))) refl where
      by : (t : Bool) → stay.stays h p (events_of (m ∷ moments)) ≡ t → Acted h p (m ∷ moments) fronts post' b' x y
      by true s =
          let k : (keeps h p (event_in m) (events_of moments) ≡ true) × (stay.stays h p (events_of moments) ≡ true) = stays_on h p (event_in m) (events_of moments) s old in
          acted_on h p m moments fronts post' b' x y s k.0 (goes k.0 k.1 s (held_here h p moments front rest post b x y held k.1))
      by false s = out s (left_joint h p m moments (front ++ rest) post b x y s held.joint)
