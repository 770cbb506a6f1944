-- The two halves of a moment, one after the other: what each of two hosts does by it.
use Rattle.world_keeps_streams.proofs.Common.{◌≡◌, ℕ, true, List, ◌∷◌, ◌++◌, ap, sym, subst, ◌∙◌, Host, Command, Stream, AreAllowed, numbered, numbered_tells, Joint, Party, Moment, events_of, own_calls}
use Rattle.reset_law.specs.Boxes.{boxes, Box}
use Rattle.stream_law.specs.Receivers.{Receiver}
use Rattle.stream_law.specs.Senders.{Sender}
use Rattle.stream_law.specs.Within.{IsPrefix}
use Rattle.reset_law.specs.Stays as stay
use Rattle.world_keeps_streams.proofs.Steps.Held.{Acted, Held, side}
use Rattle.world_keeps_streams.proofs.Steps.Joined.{IsSettled, Joined, Keeps, commands_in, party, post_in, numbered_by_peer, turned_tells}

-- a moment more, and what is kept of the first of the two streams; what is kept of the other is this of the two the other way round
pub record Goes (a b : Host) (link : ℕ) (x : Moment) (moments : List Moment) (old : Joined a b link moments) : Type 0 where
  pub joined : Joined a b link (x ∷ moments)
  pub keeps_x : Keeps (stay.stays a b (events_of (x ∷ moments))) (stay.stays b a (events_of (x ∷ moments))) old.x joined.x

-- the two seen the other way
pub record Mirrors (link : ℕ) : Type 0 where
  pub there : (x y : Stream) (a b : Party) → Joint numbered numbered_by_peer numbered_tells turned_tells link x y a b → Joint numbered_by_peer numbered turned_tells numbered_tells link y x b a
  pub back : (x y : Stream) (a b : Party) → Joint numbered_by_peer numbered turned_tells numbered_tells link x y a b → Joint numbered numbered_by_peer numbered_tells turned_tells link y x b a

module _ (link : ℕ) (mirrors : Mirrors link) (a b : Host) (x : Moment) (moments : List Moment) (old : Joined a b link moments) (za zb : ℕ → Box) where
  abbrev pub first_held : Type 0
  first_held = Held numbered numbered_by_peer numbered_tells turned_tells link a b moments (commands_in (boxes a b (events_of moments) 0)) old.rest_a (post_in (boxes a b (events_of moments) link)) (party b a link old.rest_b moments) old.x old.y

  abbrev pub FirstActs : Type 0
  FirstActs =
      Acted numbered numbered_by_peer numbered_tells turned_tells link a b (x ∷ moments) (commands_in (za 0)) (post_in (za link)) (side b a moments (commands_in (zb 0) ++ old.rest_b) (post_in (zb link))) old.x old.y

  abbrev pub SecondActs : Type 0
  SecondActs =
      (rest : List Command) (first second : Stream) → Held numbered_by_peer numbered turned_tells numbered_tells link b a moments (commands_in (zb 0)) old.rest_b (post_in (zb link)) (side a b (x ∷ moments) (commands_in (za 0) ++ rest) (post_in (za link))) second first
      → (stay.stays a b (events_of (x ∷ moments)) ≡ true → AreAllowed numbered b link (own_calls a b (x ∷ moments)))
      → Acted numbered_by_peer numbered turned_tells numbered_tells link b a (x ∷ moments) (commands_in (boxes b a (events_of (x ∷ moments)) 0)) (post_in (boxes b a (events_of (x ∷ moments)) link))
      (side a b (x ∷ moments) (commands_in (boxes a b (events_of (x ∷ moments)) 0) ++ rest) (post_in (boxes a b (events_of (x ∷ moments)) link))) second first

  pub old_held : first_held
  old_held = record { joint = old.joint; queue = old.queue_a; received = old.received_a; sent = old.sent_a; allowed = old.allowed_a }

  pub both_act : FirstActs → SecondActs → Goes a b link x moments old
  both_act one act =
      let two : Acted numbered_by_peer numbered turned_tells numbered_tells link b a (x ∷ moments) (commands_in (boxes b a (events_of (x ∷ moments)) 0)) (post_in (boxes b a (events_of (x ∷ moments)) link))
      (side a b (x ∷ moments) (commands_in (boxes a b (events_of (x ∷ moments)) 0) ++ one.rest) (post_in (boxes a b (events_of (x ∷ moments)) link))) one.second one.first =
      act one.rest one.first one.second (record {
        joint = mirrors.there one.first one.second (side a b (x ∷ moments) (commands_in (za 0) ++ one.rest) (post_in (za link))) (side b a moments (commands_in (zb 0) ++ old.rest_b) (post_in (zb link))) one.held.joint;
        queue = old.queue_b;
        received = λ s. one.receiver ∙ old.received_b s;
        sent = λ s. one.sender ∙ old.sent_b s;
        allowed = old.allowed_b;
      }) one.held.allowed in
      record {
        joined = record {
          x = two.second;
          y = two.first;
          rest_a = one.rest;
          rest_b = two.rest;
          joint = mirrors.back two.first two.second (party b a link two.rest (x ∷ moments)) (party a b link one.rest (x ∷ moments)) two.held.joint;
          queue_a = one.held.queue;
          queue_b = two.held.queue;
          received_a = λ s. two.receiver ∙ one.held.received s;
          sent_a = λ s. two.sender ∙ one.held.sent s;
          received_b = two.held.received;
          sent_b = two.held.sent;
          allowed_a = one.held.allowed;
          allowed_b = two.held.allowed;
        };
        keeps_x = record {
          granted = λ e c. ap (λ (r : Receiver). r.granted c) two.receiver ∙ one.granted e c;
          returned = λ e c. ap (λ (r : Receiver). r.returned c) two.receiver ∙ one.returned e c;
          taken = λ e c. subst (λ (r : Receiver). IsPrefix (old.x.receiver.taken c) (r.taken c)) (sym two.receiver) (one.taken e c);
          settled = λ e c. subst (λ (r : Receiver). IsSettled old.x.receiver r c) (sym two.receiver) (one.settled e c);
          sent = λ e c. two.said e c ∙ ap (λ (u : Sender). u.sent c) one.sender;
        };
      }
